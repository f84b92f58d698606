-- A call that leaves the session's head, names, views, transactions and handles, and the disk's directories, left and right: the areas are in order behind it
-- where they keep their layout rules and the staged records are in order. Assumes nothing.
use Rattle.std.specs.Prelude.{◌≡◌, ◌≢◌, Bool, true, false, List, ℕ, ◌<◌, length}
use Rattle.std.proofs.Common.{sym, ap, ◌∙◌, true≢false, arith}
use Rattle.octets.specs.Cases.{equal}
use Rattle.octets.specs.Number.{Bytes}
use Rattle.metadata.specs.declared.choice.Side.{Side}
use Rattle.metadata.specs.declared.choice.Side.TheVariants.{Left, Right}
use Rattle.layout.specs.Names.{name}
use Rattle.layout.specs.NamesLaws.{name-low}
use Rattle.layout.specs.Disk.{directories}
use Rattle.layout.specs.Disk as D
use Rattle.layout.specs.Session.{names_at, handle_number, Begun}
use Rattle.disk.specs.Steps.{side_bytes}
use Rattle.session.specs.declared.head.Head.{Head}
use Rattle.session.specs.Rows.{head_of, view_of, transaction_of, handle_of, staged_of}
use Rattle.beginning.specs.Transactions.{is_open_at}
use Rattle.staging.specs.Seeing.{directory_of}
use Rattle.restarts.specs.Level.{level-same}
use Rattle.touches.specs.Parts.{Stays, below_tapes, handles, below_files}
use Rattle.touches.specs.Rows.{row_stays, num_at-stays, head-stays, view-stays, transaction-stays, handle-stays, name-stays, side-stays}
use Rattle.joins.specs.FilesAt.{Once}
use Rattle.lives.specs.Life.{Reader}
use Rattle.seen.specs.Seen.{place_of, view_in, is_open_tape, count_open, Handled}
use Rattle.seen.specs.Orderly.{Orderly}
use Rattle.seen.specs.Places.{find-same}
use Rattle.seen.specs.Lists.{recorded-same}
use Rattle.seen.specs.Rows.{view-rows, live-rows, count-rows, handled-rows, number-row, open_row}

-- what is left as it was
pub record Frame (d s e u : List ℕ) : Type 0 where
  pub head : head_of u ≡ head_of s
  pub names : (p : ℕ) → p < 8 → name u names_at p ≡ name s names_at p
  pub views : (w p : ℕ) → w < 18 → p < 8 → view_of u w p ≡ view_of s w p
  pub transactions : (t : ℕ) → t < 17 → transaction_of u t ≡ transaction_of s t
  pub handles : (p : ℕ) → p < 8 → handle_of u p ≡ handle_of s p
  pub folders : (i : ℕ) → i < 8 → name e directories i ≡ name d directories i
  pub sides : (side : Side) → side_bytes e side ≡ side_bytes d side

-- what the new areas have of their own
pub record Rules (e u : List ℕ) : Type 0 where
  pub disk : D.Sound e
  pub session : Begun u
  pub disk-bytes : Bytes e
  pub session-bytes : Bytes u
  pub once : Once e

-- the staged records of u, by the handles, the writer and the list of s
pub record StagedInOrder (s u : List ℕ) : Type 0 where
  pub shut : (p : ℕ) → p < 8 → handle_number s p ≡ 0 → (staged_of u p).touched ≡ false
  pub idle : is_open_at s 16 ≡ false → (p : ℕ) → p < 8 → (staged_of u p).touched ≡ false
  pub made : (p : ℕ) → p < 8 → handle_number s p ≢ 0 → (view_of s 17 p).listed ≡ false → (staged_of u p).touched ≡ true

-- ---- what follows of rows that are as they were

module _ (d s e u : List ℕ) (f : Frame d s e u) where
  pub frame-place : (n : List ℕ) → place_of u n ≡ place_of s n
  frame-place n = find-same s u names_at names_at n f.names

  pub frame-folder : (p : ℕ) → p < 8 → directory_of e u p ≡ directory_of d s p
  frame-folder p low = rw (f.names p low) (find-same d e directories directories (name s names_at p) f.folders)

  pub frame-number : (p : ℕ) → p < 8 → handle_number u p ≡ handle_number s p
  frame-number p low = number-row s u p (f.handles p low)

  pub frame-open : (t : ℕ) → t < 17 → is_open_at u t ≡ is_open_at s t
  frame-open t low = open_row s u t (f.transactions t low)

  pub frame-view : (w : ℕ) → w < 18 → (n : List ℕ) → view_in u w (place_of u n) ≡ view_in s w (place_of s n)
  frame-view w low n = view-rows s u n (frame-place n) w (λ p at. f.views w p low (name-low s names_at n p at))

  pub frame-live : (n : List ℕ) → is_open_tape u (place_of u n) ≡ is_open_tape s (place_of s n)
  frame-live n = live-rows s u n (frame-place n) (λ p at. f.handles p (name-low s names_at n p at))

  pub frame-readers : (has : Reader → Bool) (n : List ℕ) → count_open has u (place_of u n) ≡ count_open has s (place_of s n)
  frame-readers has n =
      count-rows s u (place_of s n) (place_of u n) (λ t l. f.transactions t (omega arith)) (λ t l. frame-view t (omega arith) n) has

  pub frame-handled : (n : List ℕ) (h entry : ℕ) → Handled s n h entry → Handled u n h entry
  frame-handled n = handled-rows s u n (frame-place n) (λ p at. f.handles p (name-low s names_at n p at))

  pub orderly-frame : Rules e u → StagedInOrder s u → Orderly d s → Orderly e u
  orderly-frame rules staged o =
      let number = frame-number in
      let is_open = frame-open in
      let name_of_lem = f.names in
      let folder-of = f.folders in
      record {
        disk = rules.disk;
        session = rules.session;
        disk-bytes = rules.disk-bytes;
        session-bytes = rules.session-bytes;
        once = rules.once;
        names = λ p q lp lq some same. o.names p q lp lq (rw (name_of_lem p lp) at some) (sym (name_of_lem p lp) ∙ same ∙ name_of_lem q lq);
        folders = λ i j li lj some same. o.folders i j li lj (rw (folder-of i li) at some) (sym (folder-of i li) ∙ same ∙ folder-of j lj);
        handles = λ p q lp lq some same. o.handles p q lp lq (λ z. some (number p lp ∙ z)) (sym (number p lp) ∙ same ∙ number q lq);
        handle-given = λ p lp. rw (number p lp, f.head) (o.handle-given p lp);
        numbers = λ t v lt lv ot ov same.
            o.numbers t v lt lv (sym (is_open t lt) ∙ ot) (sym (is_open v lv) ∙ ov) (rw (f.transactions t lt, f.transactions v lv) at same);
        number-given = λ t lt ot. rw (f.transactions t lt, f.head) (o.number-given t lt (sym (is_open t lt) ∙ ot));
        free-shut = λ p lp free. number p lp ∙ o.free-shut p lp (rw (name_of_lem p lp) at free);
        free-unlisted = λ p lp free. rw (f.views 17 p (omega arith) lp) (o.free-unlisted p lp (rw (name_of_lem p lp) at free));
        shut-untouched = λ p lp shut. staged.shut p lp (sym (number p lp) ∙ shut);
        idle-untouched = λ idle p lp. staged.idle (sym (is_open 16 (omega arith)) ∙ idle) p lp;
        views = λ t lt ot p lp listed.
            rw (f.views 17 p (omega arith) lp) (o.views t lt (sym (is_open t (omega arith)) ∙ ot) p lp (rw (f.views t p (omega arith) lp) at listed));
        writer-view = λ ot p lp. f.views 16 p (omega arith) lp ∙ o.writer-view (sym (is_open 16 (omega arith)) ∙ ot) p lp ∙ sym (f.views 17 p (omega arith) lp);
        writer-epoch = λ ot. rw (f.transactions 16 (omega arith), f.head) (o.writer-epoch (sym (is_open 16 (omega arith)) ∙ ot));
        made-append = λ p lp some made.
            rw (f.transactions 16 (omega arith)) (o.made-append p lp (λ z. some (number p lp ∙ z)) (rw (f.views 17 p (omega arith) lp) at made));
        made-touched = λ p lp some made. staged.made p lp (λ z. some (number p lp ∙ z)) (rw (f.views 17 p (omega arith) lp) at made);
        folder = λ p lp some. rw (frame-folder p lp) (o.folder p lp (λ z. some (number p lp ∙ z)));
        recorded = recorded-same d s e u f.sides (ap (λ (h : Head). h.epoch) f.head) (λ n some. frame-view 17 (omega arith) n) o.recorded;
        level = level-same d s e u (ap (λ (h : Head). h.epoch) f.head) (ap (λ (h : Head). h.side) f.head) f.sides o.level;
      }

-- one staged record changed, of an open tape that the writer touches
pub one-staged : (d s u : List ℕ) (p : ℕ) → Orderly d s → handle_number s p ≢ 0 → is_open_at s 16 ≡ true → (staged_of u p).touched ≡ true
    → ((q : ℕ) → q < 8 → q ≢ p → staged_of u q ≡ staged_of s q) → StagedInOrder s u
one-staged d s u p o held writer touched others =
    record {
      shut = λ q low shut.
          equal q p (λ (e : q ≡ p). absurd (held (ap (handle_number s) (sym e) ∙ shut))) (λ (n : q ≢ p). rw (others q low n) (o.shut-untouched q low shut));
      idle = λ idle q low. absurd (true≢false (sym writer ∙ idle));
      made = λ q low some new. equal q p (λ (e : q ≡ p). rw e touched) (λ (n : q ≢ p). rw (others q low n) (o.made-touched q low some new));
    }

-- ---- by the bytes that stay (`touches`)

pub frame-stays : (d s e u : List ℕ) → D.Sound d → Begun s → length u ≡ length s → Stays below_tapes s u → Stays handles s u → length e ≡ length d → Stays below_files d e
    → Frame d s e u
frame-stays d s e u disk begun long tables rows wide below =
    record {
      head = head-stays 0 4168 s u tables (omega arith) (omega arith);
      names = λ p l. name-stays 0 4168 s u tables long names_at p (begun.names.short p l) (omega arith) (omega arith);
      views = λ w p l m. view-stays 0 4168 s u tables w p (omega arith) (omega arith);
      transactions = λ t l. transaction-stays 0 4168 s u tables t (omega arith) (omega arith);
      handles = λ p l. handle-stays _ _ s u (row_stays 4168 24 96 8 s u rows p l) p (omega arith) (omega arith);
      folders = λ i l. name-stays 0 1312 d e below wide directories i (disk.names.short i l) (omega arith) (omega arith);
      sides = side;
    }
  where
    side : (x : Side) → side_bytes e x ≡ side_bytes d x
    side Left = side-stays 0 1312 d e below wide Left (num_at-stays 0 1312 d e below 8 16 (omega arith) (omega arith)) disk.head.left (omega arith) (omega arith)
    side Right = side-stays 0 1312 d e below wide Right (num_at-stays 0 1312 d e below 8 24 (omega arith) (omega arith)) disk.head.right (omega arith) (omega arith)
