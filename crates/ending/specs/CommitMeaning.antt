-- What a served commit leaves, field by field: the next head, the list that it published, a closed writer's place with nothing staged, and the record in
-- the file whose turn it was; names, readers, their views and the other file are as before. Assumes nothing.
use Rattle.std.specs.Prelude.{◌≡◌, refl, Bool, ◌&&◌}
use Rattle.std.proofs.Common.{ap, ◌∙◌, arith}
use Rattle.std.proofs.Math.Bool.{true, false}
use Rattle.std.proofs.lemmas.Bool.{false≢true}
use mathlib.Core.List.{List}
use Prim.Native.Nat.{ℕ, ◌+◌, ◌≤◌, ◌<◌, ◌^◌}
use Rattle.std.proofs.Math.ListN.{length}
use Rattle.octets.specs.Cases.{picked}
use Rattle.octets.specs.Number.{Bytes, num_at-lt}
use Rattle.octets.specs.Only.{OnlyIn, only_none, only_then, only_wider, num_at-only}
use Rattle.octets.specs.Sweep.{sweep, Rowwise, sweep-row}
use Rattle.answers.specs.Answers.{code_of}
use Rattle.answers.specs.Outcome.{Outcome}
use Rattle.components.specs.Bounds.{cut_start}
use Rattle.components.specs.FileBytes.{written}
use Rattle.metadata.specs.declared.choice.Side.{Side}
use Rattle.metadata.specs.declared.choice.Side.TheVariants.{Left, Right}
use Rattle.metadata.specs.declared.list.TapeList.{TapeList}
use Rattle.metadata.specs.Record.{encode_record}
use Rattle.metadata.specs.RecordLaws.{record-most}
use Rattle.metadata.specs.Struct.{tapes_of, storable}
use Rattle.metadata.specs.Tapes.{encode_list}
use Rattle.layout.specs.Disk.{directories, Sound}
use Rattle.layout.specs.Names.{names}
use Rattle.layout.specs.NamesLaws.{names-only}
use Rattle.layout.specs.Session.{session_bytes, names_at, view_at, tape_at}
use Rattle.disk.specs.MeaningLaws.{side-only, side-written, names-write_side, left-kept, right_kept}
use Rattle.disk.specs.Steps.{side_bytes, write_side}
use Rattle.session.specs.Meaning.{closed, untouched}
use Rattle.session.specs.Rows.{head_of, view_of, transaction_of, staged_of}
use Rattle.session.specs.RowLaws.{ViewFits, head-only, only-put_view, view-same, view-only, transaction-only, only-put_transaction, only-put_staged, staged-same, staged-only}
use Rattle.session.specs.declared.head.Head.{Head}
use Rattle.session.specs.declared.transactions.Kind.{Kind}
use Rattle.session.specs.declared.transactions.Kind.TheVariants.{Closed, Reader, Append, Truncate}
use Rattle.session.specs.declared.views.View.{View}
use Rattle.rolling_tape.specs.Removal.{Areas, areas}
use Rattle.beginning.specs.Laws.{refusal-some}
use Rattle.staging.specs.Seeing.{is_append, is_truncate, writes, cuts}
use Rattle.ending.specs.Listing.{is_touched, published}
use Rattle.ending.specs.Oldest.{oldest_of}
use Rattle.ending.specs.Steps.{flush_all, publish_tape, publish_all, recorded, other_side, ripen_all, cut_all, unstage, close_writer}
use Rattle.ending.specs.StepLaws.{next_head, Whole, whole-kept, kept-flush_all, kept-ripen_all, only-publish_tape, bytes-publish_tape, only-publish_all, begun-publish_all, head-publish_all, only-advanced}
use Rattle.ending.specs.CutLaws.{untouched-fits, only-unstage, only-cut_all, only-close_writer, shut-close_writer}
use Rattle.ending.specs.Committing.{stored, stored_append, ripened_append, appended, truncated_by, commit_call}
use Rattle.ending.specs.CommitWays.{epoch-fits}
use Rattle.ending.specs.CommitLaws.{the_list, whole-stored, head-stored, commit-cases, at-start}

-- ---- what a tape publishes is read from its row and from the writer's view

module _ (low high : ℕ) (s t : List ℕ) (only : OnlyIn low high s t) (p : ℕ) (row : low < tape_at p + 96 → high ≤ tape_at p) where
  pub touched-only : is_touched t p ≡ is_touched s p
  unfolding is_touched
  touched-only =
      rw (num_at-only low high s t only 8 (tape_at p) (λ q. row (omega arith)), staged-only low high s t only p (λ q. omega (arith, row (omega arith))))

  pub published-only : (low < view_at 16 p + 24 → high ≤ view_at 16 p) → (cut : Bool) → published t cut p ≡ published s cut p
  unfolding published
  published-only view cut =
      rw (touched-only, staged-only low high s t only p (λ q. omega (arith, row (omega arith))), view-only low high s t only 16 p view)

module _ (s : List ℕ) (bytes : Bytes s) (p : ℕ) where
  len-fits : (staged_of s p).len < 256 ^ 8
  unfolding staged_of
  len-fits = num_at-lt 8 s _ bytes

  start_fits : (staged_of s p).start < 256 ^ 8
  unfolding staged_of
  start_fits = num_at-lt 8 s _ bytes

  view-fits : ViewFits (view_of s 16 p)
  unfolding view_of
  view-fits = record { len = num_at-lt 8 s _ bytes; start = num_at-lt 8 s _ bytes }

  pub published-fits : (cut : Bool) → ViewFits (published s cut p)
  unfolding published
  published-fits cut =
      picked ViewFits (is_touched s p) _ _
      (λ e.
      record {
        len = len-fits;
        start = picked (λ (n : ℕ). n < 256 ^ 8) cut (cut_start (staged_of s p).start (staged_of s p).len) (staged_of s p).start (λ c. omega (arith, start_fits)) (λ c. start_fits);
      })
      (λ e. view-fits)

-- ---- the list after it is published

module _ (cut : Bool) (s : List ℕ) (long : session_bytes ≤ length s) (bytes : Bytes s) where
  own_row : (i : ℕ) (t : List ℕ) → i < 8 → Bytes t → OnlyIn 3568 3760 s t → view_of (publish_tape cut i t) 17 i ≡ published s cut i
  unfolding publish_tape
  own_row i t l b only =
      let same = only.long in
      view-same t 17 i (published t cut i) (omega arith) (published-fits t b i cut)
      ∙ published-only 3568 3760 s t only i (λ q. omega arith) (λ q. omega arith) cut

  other_row : (i j : ℕ) (t : List ℕ) → (j ≡ i → ⊥) → view_of (publish_tape cut i t) 17 j ≡ view_of t 17 j
  unfolding publish_tape
  other_row i j t apart = view-only _ _ t _ (only-put_view t 17 i (published t cut i)) 17 j (λ q. omega arith)

  pub view-publish_all : (p : ℕ) → p < 8 → view_of (publish_all cut s) 17 p ≡ published s cut p
  view-publish_all p low =
      let P : List ℕ → Type 0 = λ t. Bytes t × OnlyIn 3568 3760 s t in
      let row : List ℕ → ℕ → View = λ t i. view_of t 17 i in
      let each : Rowwise P row (publish_tape cut) (λ i v. published s cut i) 8
      = record {
        keeps = λ i t l k.
            let same = k.1.long in
            (bytes-publish_tape cut i t l (omega arith) k.0, only_then 3568 3760 s t _ k.1 (only-publish_tape cut i t l));
        own = λ i t l k. own_row i t l k.0 k.1;
        other = λ i j t l m e k. other_row i j t e;
      } in
      sweep-row P row (publish_tape cut) (λ i v. published s cut i) 8 each 8 0 s p (omega arith) (bytes, only_none 3568 3760 s) (omega arith) (omega arith)

-- ---- nothing is staged in a closed writer's place

module _ (s : List ℕ) (long : session_bytes ≤ length s) where
  own-staged : (i : ℕ) (t : List ℕ) → i < 8 → session_bytes ≤ length t → staged_of (unstage i t) i ≡ untouched
  unfolding unstage
  own-staged i t l wide = staged-same t i untouched (omega arith) untouched-fits

  other-staged : (i j : ℕ) (t : List ℕ) → (j ≡ i → ⊥) → staged_of (unstage i t) j ≡ staged_of t j
  unfolding unstage
  other-staged i j t apart = staged-only _ _ t _ (only-put_staged t i untouched) j (λ q. omega arith)

  pub staged-close_writer : (p : ℕ) → p < 8 → staged_of (close_writer s) p ≡ untouched
  unfolding close_writer
  staged-close_writer p low =
      let P : List ℕ → Type 0 = λ t. session_bytes ≤ length t in
      let each : Rowwise P staged_of unstage (λ i v. untouched) 8
      = record {
        keeps = λ i t l wide. let same = (only-unstage i t l).long in omega arith;
        own = λ i t l wide. own-staged i t l wide;
        other = λ i j t l m e wide. other-staged i j t e;
      } in
      let u = sweep unstage 8 0 s in
      staged-only _ _ u _ (only-put_transaction u 16 closed) p (λ q. omega arith)
      ∙ sweep-row P staged_of unstage (λ i v. untouched) 8 each 8 0 s p (omega arith) long (omega arith) (omega arith)

-- ---- left and right

-- a step behind them
side-behind : (end : ℕ) (d e : List ℕ) → OnlyIn 1312 end d e → Sound d → (side : Side) → side_bytes e side ≡ side_bytes d side
side-behind end d e only sound Left = side-only 1312 end d e only Left (λ q. absurd (omega arith)) (λ q. absurd (omega arith)) sound.head.left
side-behind end d e only sound Right = side-only 1312 end d e only Right (λ q. absurd (omega arith)) (λ q. absurd (omega arith)) sound.head.right

module _ (d : List ℕ) (sound : Sound d) (bs : List ℕ) (fit : length bs ≤ 512) where
  side-other : (side : Side) → side_bytes (write_side d side bs) (other_side side) ≡ side_bytes d (other_side side)
  side-other Left = right_kept d sound bs fit
  side-other Right = left-kept d sound bs fit

-- ---- both kinds: steps in the rows of tracking, list and record, steps in the tapes' rows, the writer's place

-- the record of a list
abbrev pub record_for : Head → TapeList → List ℕ
record_for h list = encode_record (h.epoch + 1) (encode_list (tapes_of list))

pub record Published (d s : List ℕ) (cut : Bool) (o : Outcome) : Type 0 where
  pub good : storable (the_list s cut) ≡ true
  pub fits : (head_of s).epoch + 1 < 2 ^ 64
  pub head : head_of o.session ≡ next_head cut (head_of s)
  pub list : (p : ℕ) → p < 8 → view_of o.session 17 p ≡ published s cut p
  pub views : (w p : ℕ) → w < 17 → p < 8 → view_of o.session w p ≡ view_of s w p
  pub tapes : names o.session names_at ≡ names s names_at
  pub readers : (t : ℕ) → t < 16 → transaction_of o.session t ≡ transaction_of s t
  pub shut : transaction_of o.session 16 ≡ closed
  pub unstaged : (p : ℕ) → p < 8 → staged_of o.session p ≡ untouched
  pub stands : side_bytes o.disk (head_of s).side ≡ written (side_bytes d (head_of s).side) 0 (record_for (head_of s) (the_list s cut))
  pub other : side_bytes o.disk (other_side (head_of s).side) ≡ side_bytes d (other_side (head_of s).side)
  pub known : names o.disk directories ≡ names d directories

module _ (d s : List ℕ) (w : Whole (areas d s)) (a : Areas) (x : Whole a) (before : OnlyIn 4936 5960 s a.session) (more : (head_of s).epoch + 1 < 2 ^ 64)
    (cut : Bool) (list : TapeList) (ok : storable list ≡ true) where
  abbrev listed : List ℕ
  listed = publish_all cut a.session

  abbrev then : Areas
  then = stored a.disk a.session cut list

  same_head : head_of a.session ≡ head_of s
  same_head = head-only 4936 5960 s a.session before (λ q. omega arith)

  -- the session
  module _ (c : List ℕ) (after : OnlyIn 4168 5960 then.session c) where
    last : OnlyIn 4144 5960 then.session (close_writer c)
    last =
        only_then 4144 5960 then.session c _ (only_wider 4168 5960 4144 5960 _ c (omega arith) (omega arith) after)
        (only_wider 4144 4936 4144 5960 c _ (omega arith) (omega arith) (only-close_writer c))

    head-left : head_of (close_writer c) ≡ next_head cut (head_of s)
    head-left =
        head-only 4144 5960 then.session _ last (λ q. omega arith)
        ∙ head-stored a cut list ok x (rw same_head more)
        ∙ ap (next_head cut) same_head

    list_left : (p : ℕ) → p < 8 → view_of (close_writer c) 17 p ≡ published s cut p
    unfolding stored
    list_left p low =
        view-only 4144 5960 then.session _ last 17 p (λ q. omega arith)
        ∙ view-only 8 48 listed _ (only-advanced cut listed) 17 p (λ q. omega arith)
        ∙ view-publish_all cut a.session x.begun.long x.bytes p low
        ∙ published-only 4936 5960 s a.session before p (λ q. omega arith) (λ q. omega arith) cut

    views-left : (u p : ℕ) → u < 17 → p < 8 → view_of (close_writer c) u p ≡ view_of s u p
    unfolding stored
    views-left u p l m =
        view-only 4144 5960 then.session _ last u p (λ q. omega arith)
        ∙ view-only 8 48 listed _ (only-advanced cut listed) u p (λ q. omega arith)
        ∙ view-only 3568 3760 a.session listed (only-publish_all cut a.session) u p (λ q. omega arith)
        ∙ view-only 4936 5960 s a.session before u p (λ q. omega arith)

    tapes-left : names (close_writer c) names_at ≡ names s names_at
    unfolding stored
    tapes-left =
        names-only 4144 5960 then.session _ names_at last (λ q. omega arith) (whole-stored a cut list ok x).begun.names
        ∙ names-only 8 48 listed _ names_at (only-advanced cut listed) (λ q. omega arith) (begun-publish_all cut a.session x.begun).names
        ∙ names-only 3568 3760 a.session listed names_at (only-publish_all cut a.session) (λ q. omega arith) x.begun.names
        ∙ names-only 4936 5960 s a.session names_at before (λ q. omega arith) w.begun.names

    readers-left : (t : ℕ) → t < 16 → transaction_of (close_writer c) t ≡ transaction_of s t
    unfolding stored
    readers-left t l =
        transaction-only 4144 5960 then.session _ last t (λ q. omega arith)
        ∙ transaction-only 8 48 listed _ (only-advanced cut listed) t (λ q. omega arith)
        ∙ transaction-only 3568 3760 a.session listed (only-publish_all cut a.session) t (λ q. omega arith)
        ∙ transaction-only 4936 5960 s a.session before t (λ q. omega arith)

  -- the disk
  module _ (first : ℕ) (files : OnlyIn 1312 first d a.disk) where
    fits : length (record_for (head_of s) list) ≤ 512
    fits = omega (arith, record-most ((head_of s).epoch + 1) list ok)

    head-listed : head_of listed ≡ head_of s
    head-listed = head-publish_all cut a.session ∙ same_head

    then-disk : then.disk ≡ write_side a.disk (head_of s).side (record_for (head_of s) list)
    unfolding stored recorded
    then-disk = rw head-listed

    module _ (end : ℕ) (t : List ℕ) (after : OnlyIn 1312 end then.disk t) where
      sound-then : Sound then.disk
      sound-then = (whole-stored a cut list ok x).sound

      stands-left : side_bytes t (head_of s).side ≡ written (side_bytes d (head_of s).side) 0 (record_for (head_of s) list)
      stands-left =
          let side = (head_of s).side in
          side-behind end then.disk t after sound-then side
          ∙ ap (λ (e : List ℕ). side_bytes e side) then-disk
          ∙ side-written a.disk x.sound side (record_for (head_of s) list) fits
          ∙ ap (λ (old : List ℕ). written old 0 (record_for (head_of s) list)) (side-behind first d a.disk files w.sound side)

      other-left : side_bytes t (other_side (head_of s).side) ≡ side_bytes d (other_side (head_of s).side)
      other-left =
          let side = (head_of s).side in
          side-behind end then.disk t after sound-then (other_side side)
          ∙ ap (λ (e : List ℕ). side_bytes e (other_side side)) then-disk
          ∙ side-other a.disk x.sound (record_for (head_of s) list) fits side
          ∙ side-behind first d a.disk files w.sound (other_side side)

      known-left : names t directories ≡ names d directories
      known-left =
          names-only 1312 end then.disk t directories after (λ q. absurd (omega arith)) sound-then.names
          ∙ ap (λ (e : List ℕ). names e directories) then-disk
          ∙ names-write_side a.disk x.sound (head_of s).side (record_for (head_of s) list) fits
          ∙ names-only 1312 first d a.disk directories files (λ q. absurd (omega arith)) w.sound.names

-- ---- each kind

module _ (d s : List ℕ) (w : Whole (areas d s)) (more : (head_of s).epoch + 1 < 2 ^ 64) where
  pub published-append : storable (the_list s false) ≡ true → Published d s false (appended d s (the_list s false))
  unfolding appended ripened_append stored_append
  published-append ok =
      let start = areas d s in
      let list = the_list s false in
      let a = flush_all start in
      let k = kept-flush_all start w in
      let x = whole-kept start w a k in
      let b = stored a.disk a.session false list in
      let y = whole-stored a false list ok x in
      let began = (transaction_of s 16).epoch in
      let r = ripen_all began (oldest_of s) b in
      let l = kept-ripen_all b y began (oldest_of s) in
      let c = r.session in
      let long = (whole-kept b y r l).begun.long in
      let after = only_wider 4936 5960 4168 5960 b.session c (omega arith) (omega arith) l.only in
      record {
        good = ok;
        fits = more;
        head = head-left d s w a x k.only more false list ok c after;
        list = list_left d s w a x k.only more false list ok c after;
        views = views-left d s w a x k.only more false list ok c after;
        tapes = tapes-left d s w a x k.only more false list ok c after;
        readers = readers-left d s w a x k.only more false list ok c after;
        shut = shut-close_writer c long;
        unstaged = staged-close_writer c long;
        stands = stands-left d s w a x k.only more false list ok _ k.only-disk _ r.disk l.only-disk;
        other = other-left d s w a x k.only more false list ok _ k.only-disk _ r.disk l.only-disk;
        known = known-left d s w a x k.only more false list ok _ k.only-disk _ r.disk l.only-disk;
      }

  pub published-truncate : storable (the_list s true) ≡ true → Published d s true (truncated_by d s (the_list s true))
  unfolding truncated_by
  published-truncate ok =
      let a = areas d s in
      let list = the_list s true in
      let b = stored d s true list in
      let y = whole-stored a true list ok w in
      let c = cut_all b.disk b.session in
      let after = only-cut_all b.disk y.sound.head.few b.session in
      let same = after.long in
      let long : session_bytes ≤ length c = omega (arith, y.begun.long) in
      let before = only_none 4936 5960 s in
      let files = only_none 1312 1312 d in
      let rest = only_none 1312 1312 b.disk in
      record {
        good = ok;
        fits = more;
        head = head-left d s w a w before more true list ok c after;
        list = list_left d s w a w before more true list ok c after;
        views = views-left d s w a w before more true list ok c after;
        tapes = tapes-left d s w a w before more true list ok c after;
        readers = readers-left d s w a w before more true list ok c after;
        shut = shut-close_writer c long;
        unstaged = staged-close_writer c long;
        stands = stands-left d s w a w before more true list ok 1312 files 1312 b.disk rest;
        other = other-left d s w a w before more true list ok 1312 files 1312 b.disk rest;
        known = known-left d s w a w before more true list ok 1312 files 1312 b.disk rest;
      }

-- the writer is of one kind
one-kind : (k : Kind) (b : Bool) → (is_append k && b) ≡ true → (is_truncate k && b) ≡ false
one-kind Closed b e = refl
one-kind Reader b e = refl
one-kind Append b e = refl
one-kind Truncate b e = absurd (false≢true e)

pub writes-cuts : (s : List ℕ) (t : ℕ) → writes s t ≡ true → cuts s t ≡ false
unfolding writes cuts
writes-cuts s t e = one-kind (transaction_of s 16).kind _ e

-- a served commit: of an append or of a truncate, as the call's number says
pub commit-published : (d s : List ℕ) → Bytes s → (t : ℕ) → code_of (commit_call d s t).answer ≡ 0 → Published d s (cuts s t) (commit_call d s t)
commit-published d s bytes t =
    commit-cases (λ (o : Outcome). code_of o.answer ≡ 0 → Published d s (cuts s t) o) d s (λ why e. absurd (refusal-some why e)) t
    (λ ok w v g room e. rw (writes-cuts s t w) (published-append d s (at-start d s bytes t ok) (epoch-fits s bytes g.more) g.good))
    (λ ok c v g e. rw c (published-truncate d s (at-start d s bytes t ok) (epoch-fits s bytes g.more) g.good))
