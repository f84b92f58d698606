-- A call that leaves what is seen of a tape: where these rows are as before, so is all of it. Assumes nothing.
use Rattle.std.specs.Prelude.{◌≡◌, List, ℕ, ◌<◌, Some}
use Rattle.std.proofs.Common.{sym, ap, ◌∙◌, arith}
use Rattle.session.specs.declared.tape_rows.Staged.{Staged}
use Rattle.session.specs.Rows.{head_of, view_of, transaction_of, handle_of, ring_of, ring_bytes, staged_of}
use Rattle.staging.specs.Seeing.{touched_as}
use Rattle.lives.specs.Life.{Store}
use Rattle.seen.specs.Seen.{place_of, view_in, writer_in, touched_in, files_for, Seen, Handled}
use Rattle.seen.specs.Rows.{size-row, touched-as, staged-in, touched-in, view-rows, live-rows, count-rows, handled-rows}

-- the rows of tape p
pub record SameTape (s u : List ℕ) (p : ℕ) : Type 0 where
  pub view : (w : ℕ) → w < 18 → view_of u w p ≡ view_of s w p
  pub handle : handle_of u p ≡ handle_of s p
  pub ring : ring_of u p ≡ ring_of s p
  pub cache : ring_bytes u p ≡ ring_bytes s p
  pub staged : staged_of u p ≡ staged_of s p

pub record Same (d s e u n : List ℕ) : Type 0 where
  pub epoch : (head_of u).epoch ≡ (head_of s).epoch
  pub cut : (head_of u).cut ≡ (head_of s).cut
  pub last : (head_of u).last_transaction ≡ (head_of s).last_transaction
  pub place : place_of u n ≡ place_of s n
  pub transactions : (t : ℕ) → t < 17 → transaction_of u t ≡ transaction_of s t
  pub tape : (p : ℕ) → place_of s n ≡ Some p → SameTape s u p
  pub files : files_for e u n ≡ files_for d s n

-- what is seen of it, from its rows
module _ (s u : List ℕ) (p : ℕ) (rows : SameTape s u p) where
  pub touched-rows : touched_as u p ≡ touched_as s p
  touched-rows = touched-as s u p rows.staged (rows.view 16 (omega arith))

pub seen_same : (d s e u n : List ℕ) (st : Store) → Same d s e u n → Seen d s n st → Seen e u n st
seen_same d s e u n st same seen =
    let tape = place_of s n in
    let rows = same.tape in
    let view : (w : ℕ) → w < 18 → view_in u w (place_of u n) ≡ view_in s w (place_of s n) = λ w l. view-rows s u n same.place w (λ p at. (rows p at).view w l) in
    record {
      epoch = same.epoch ∙ seen.epoch;
      cut = same.cut ∙ seen.cut;
      last = same.last ∙ seen.last;
      list = view 17 (omega arith) ∙ seen.list;
      readers = λ has. count-rows s u tape (place_of u n) (λ t l. same.transactions t (omega arith)) (λ t l. view t (omega arith)) has ∙ seen.readers has;
      writer = ap (writer_in u) same.place ∙ rw (same.transactions 16 (omega arith), staged-in s u tape (λ p e. (rows p e).staged) (λ p e. (rows p e).view 16 (omega arith))) seen.writer;
      touched = ap (touched_in u) same.place ∙ touched-in s u tape (λ p e. (rows p e).staged) ∙ seen.touched;
      live = live-rows s u n same.place (λ p at. (rows p at).handle) ∙ seen.live;
      files = same.files ∙ seen.files;
      opened = λ p found live.
          let q : place_of s n ≡ Some p = sym same.place ∙ found in
          let r = rows p q in
          let o = seen.opened p q live in
          record {
            ring = r.ring ∙ o.ring;
            cache = r.cache ∙ o.cache;
            size = size-row s u p r.handle ∙ o.size;
            unwritten = ap (λ (x : Staged). x.unwritten) (touched-rows s u p r) ∙ o.unwritten;
            base = λ t l. rw r.staged (o.base (rw r.staged at t) l);
          };
    }

pub handled-same : (d s e u n : List ℕ) (handle entry : ℕ) → Same d s e u n → Handled s n handle entry → Handled u n handle entry
handled-same d s e u n handle entry same = handled-rows s u n same.place (λ p at. (same.tape p at).handle) handle entry
