-- A call that leaves the list, the names and the directories keeps `Proper`: a transaction begun, a tape staged. (An open: `opened/specs/OpenProper.antt`; a commit
-- and a drop: `ended/specs/EndProper.antt`.) Assumes nothing.
use Rattle.std.specs.Prelude.{◌≡◌, refl, true, List, ℕ, ◌≤◌, ◌<◌, length}
use Rattle.std.proofs.Common.{sym, ◌∙◌, true≢false, arith}
use Rattle.octets.specs.Cases.{order}
use Rattle.layout.specs.Disk.{directories}
use Rattle.layout.specs.Names.{name, find_name}
use Rattle.layout.specs.Session.{names_at}
use Rattle.session.specs.Rows.{view_of, free_reader}
use Rattle.beginning.specs.Calls.{append_call, truncate_call, reader_call}
use Rattle.beginning.specs.Ways.{free-low}
use Rattle.staging.specs.Cutting.{cut_call, drop_call}
use Rattle.staging.specs.Shifting.{shift_call}
use Rattle.entries.specs.Popping.{pop_call}
use Rattle.appending.specs.Calls.{put_call}
use Rattle.touches.specs.Begins.{begun_parts, append-touches, truncate-touches, reader-touches, append-leaves, truncate-leaves}
use Rattle.touches.specs.Parts.{Stays, below_tapes, stays-found, stays_within}
use Rattle.touches.specs.Parts as P
use Rattle.touches.specs.Puts.{put-touches-session, put-touches-disk, put-leaves-session, put-leaves-disk}
use Rattle.touches.specs.Rows.{name-stays, view-stays}
use Rattle.touches.specs.Stages.{shift-touches, cut-touches, drop-touches, pop-touches, shift-leaves, cut-leaves, drop-leaves, pop-leaves}
use Rattle.seen.specs.Orderly.{Orderly}
use Rattle.seen.specs.Proper.{Proper}
use Rattle.seen.specs.Places.{find-same}

-- a listed tape has a name
pub listed-named : (d s : List ℕ) → Orderly d s → (p : ℕ) → p < 8 → (view_of s 17 p).listed ≡ true → 0 < length (name s names_at p)
listed-named d s o p low listed =
    order 0 (length (name s names_at p)) (λ l. l)
    (λ (l : length (name s names_at p) ≤ 0). absurd (true≢false (sym listed ∙ o.free-unlisted p low (omega arith))))

-- ---- a call that leaves the list and the directories

-- a listed tape keeps its name, and no tape gets another one
pub record NamesLeft (s u : List ℕ) : Type 0 where
  pub kept : (p : ℕ) → p < 8 → (view_of s 17 p).listed ≡ true → name u names_at p ≡ name s names_at p
  pub left : (p : ℕ) → p < 8 → 0 < length (name u names_at p) → name u names_at p ≡ name s names_at p

pub names_same : (s u : List ℕ) → ((p : ℕ) → p < 8 → name u names_at p ≡ name s names_at p) → NamesLeft s u
names_same s u same = record { kept = λ p low listed. same p low; left = λ p low some. same p low }

pub proper-left : (d s e u : List ℕ) → ((n : List ℕ) → find_name e directories n ≡ find_name d directories n) → ((p : ℕ) → p < 8 → view_of u 17 p ≡ view_of s 17 p)
    → NamesLeft s u → Proper d s → Proper e u
proper-left d s e u folders list names proper =
    record {
      rule = λ p low some. let same = names.left p low some in rw same (proper.rule p low (rw same at some));
      unreserved = λ p low some. let same = names.left p low some in rw same (proper.unreserved p low (rw same at some));
      housed = λ p low listed.
          let was = rw (list p low) at listed in
          rw (names.kept p low was, folders (name s names_at p)) (proper.housed p low was);
    }

-- by the bytes that stay (`touches`)
module _ (d s e u : List ℕ) (o : Orderly d s) where
  pub folders-stay : length e ≡ length d → Stays P.directories d e → (n : List ℕ) → find_name e directories n ≡ find_name d directories n
  folders-stay long stay n =
      find-same d e directories directories n (λ i l. name-stays 32 288 d e stay long directories i (o.disk.names.short i l) (omega arith) (omega arith))

  pub tapes-stay : length u ≡ length s → Stays P.names s u → (p : ℕ) → p < 8 → name u names_at p ≡ name s names_at p
  tapes-stay long stay p low = name-stays 48 304 s u stay long names_at p (o.session.names.short p low) (omega arith) (omega arith)

  pub list-stays : Stays (P.view_of 17) s u → (p : ℕ) → p < 8 → view_of u 17 p ≡ view_of s 17 p
  list-stays stay p low = view-stays _ _ s u stay 17 p (omega arith) (omega arith)

-- the disk is not written
proper-session : (d s u : List ℕ) → Orderly d s → length u ≡ length s → Stays P.names s u → Stays (P.view_of 17) s u → Proper d s → Proper d u
proper-session d s u o long names view =
    proper-left d s d u (λ n. refl) (list-stays d s d u o view) (names_same s u (tapes-stay d s d u o long names))

-- nor anything below the rows of the tapes
proper-below : (d s u : List ℕ) → Orderly d s → length u ≡ length s → Stays below_tapes s u → Proper d s → Proper d u
proper-below d s u o long below =
    proper-session d s u o long (stays_within 0 4168 48 304 s u below (omega arith) (omega arith)) (stays_within 0 4168 _ _ s u below (omega arith) (omega arith))

-- ---- a transaction begun

module _ (d s : List ℕ) (o : Orderly d s) where
  pub append-proper : Proper d s → Proper d (append_call d s).session
  append-proper =
      let leaves = append-leaves d s in
      proper-session d s _ o (append-touches d s).long leaves.names-stay (leaves.views-stay 17 (omega arith) (λ e. omega arith))

  pub truncate-proper : Proper d s → Proper d (truncate_call d s).session
  truncate-proper =
      let leaves = truncate-leaves d s in
      proper-session d s _ o (truncate-touches d s).long leaves.names-stay (leaves.views-stay 17 (omega arith) (λ e. omega arith))

  pub reader-proper : Proper d s → Proper d (reader_call d s).session
  reader-proper =
      let touches = reader-touches d s in
      proper-session d s _ o touches.long
      (stays-found begun_parts (free_reader s) P.names s _ touches (λ t e i h. let low = free-low s t e in search arith))
      (stays-found begun_parts (free_reader s) (P.view_of 17) s _ touches (λ t e i h. let low = free-low s t e in search arith))

  -- ---- a tape staged

  module _ (t h : ℕ) where
    pub shift-proper : (i : ℕ) → Proper d s → Proper d (shift_call d s t h i).session
    shift-proper i = proper-below d s _ o (shift-touches d s t h i).long (shift-leaves d s t h i).tables-stay

    pub cut-proper : (i : ℕ) → Proper d s → Proper d (cut_call d s t h i).session
    cut-proper i = proper-below d s _ o (cut-touches d s t h i).long (cut-leaves d s t h i).tables-stay

    pub drop-entries-proper : (i : ℕ) → Proper d s → Proper d (drop_call d s t h i).session
    drop-entries-proper i = proper-below d s _ o (drop-touches d s t h i).long (drop-leaves d s t h i).tables-stay

    pub pop-proper : (out : List ℕ) → Proper d s → Proper d (pop_call d s t h out).session
    pop-proper out = proper-below d s _ o (pop-touches d s t h out).long (pop-leaves d s t h out).tables-stay

    pub put-proper : (bs : List ℕ) → Proper d s → Proper (put_call d s t h bs).disk (put_call d s t h bs).session
    put-proper bs =
        let e = (put_call d s t h bs).disk in
        let u = (put_call d s t h bs).session in
        let below = (put-leaves-session d s t h bs).tables-stay in
        proper-left d s e u
        (folders-stay d s e u o (put-touches-disk d s t h bs).long (stays_within 0 1312 32 288 d e (put-leaves-disk d s t h bs) (omega arith) (omega arith)))
        (list-stays d s e u o (stays_within 0 4168 _ _ s u below (omega arith) (omega arith)))
        (names_same s u (tapes-stay d s e u o (put-touches-session d s t h bs).long (stays_within 0 4168 48 304 s u below (omega arith) (omega arith))))
