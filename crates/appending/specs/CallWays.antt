-- The ways out of the call's functions, in the code's order: a law for each. Assumes nothing.
use Rattle.std.specs.Prelude.{◌≡◌, ◌≢◌, true, false, List, ℕ, ◌+◌, ◌/◌, ◌%◌, ◌≤◌, ◌<◌, eqb, Some, None, Ok}
use borrow.Author.Tests.{eq-eqb, ne_eqb, lt-ltb, le-ltb}
use Rattle.std.proofs.Math.ListN.{length}
use Rattle.octets.specs.Cases.{decide}
use Rattle.answers.specs.Outcome.{outcome, refused_at}
use Rattle.answers.specs.declared.Refusal.TheVariants.{Unusable, Unknown, Absent, NotWhole, TooLarge, NoSlot, Missing}
use Rattle.layout.specs.Session.{entry_size_of}
use Rattle.session.specs.Rows.{handle_of, staged_of, find_handle}
use Rattle.session.specs.declared.tape_rows.Handle.{Handle}
use Rattle.session.specs.declared.tape_rows.Staged.{Staged}
use Rattle.session.specs.declared.views.View.{View}
use Rattle.session.specs.RowLaws.{handle-entry}
use Rattle.rolling_tape.specs.Removal.{areas}
use Rattle.cached_tape.specs.Putting.{put_in}
use Rattle.beginning.specs.Transactions.{usable}
use Rattle.staging.specs.Seeing.{directory_of, writes, seen_by, touched_as}
use Rattle.appending.specs.Room.{no_room}
use Rattle.appending.specs.Calls.{done_in, put_on, append_on, put_call}

-- ---- what is known of a tape

-- the length that the writer sees is the one that it appends behind
pub seen-touched : (s : List ℕ) (p : ℕ) → (seen_by s 16 p).len ≡ (touched_as s p).len
unfolding seen_by touched_as
seen-touched s p = decide (staged_of s p).touched (λ e. rw e) (λ e. rw e)

-- ---- the bytes put

module _ (d s : List ℕ) (p place : ℕ) (bs : List ℕ) where
  pub put_full : no_room d s p (length bs) ≡ true → put_on d s p place bs ≡ refused_at NoSlot d s
  unfolding put_on
  put_full e = rw e

  pub put-room : no_room d s p (length bs) ≡ false
      → put_on d s p place bs ≡ done_in ((touched_as s p).len / entry_size_of s p) (put_in (areas d s) place p (touched_as s p) bs)
  unfolding put_on
  put-room e = rw e

  pub put-goes : no_room d s p (length bs) ≡ false → (r : Staged) → r ≡ touched_as s p → (h : Handle) → h ≡ handle_of s p → (t u : List ℕ)
      → put_in (areas d s) place p r bs ≡ areas t u → put_on d s p place bs ≡ outcome (Ok (r.len / h.entry)) t u
  unfolding put_on
  put-goes e r row h handle t u goes = rw (e, handle-entry s p h handle, ← row, goes)

-- ---- on a tape, by what the code sees and the handle's row

module _ (d s : List ℕ) (p : ℕ) (bs : List ℕ) (v : View) (seen : v ≡ seen_by s 16 p) where
  pub append-absent : v.listed ≡ false → append_on d s p bs ≡ refused_at Absent d s
  unfolding append_on
  append-absent e = rw (← seen, e)

  module _ (h : Handle) (row : h ≡ handle_of s p) (listed : v.listed ≡ true) where
    pub append-not-whole : length bs % h.entry ≢ 0 → append_on d s p bs ≡ refused_at NotWhole d s
    unfolding append_on
    append-not-whole n = rw (← seen, listed, ← handle-entry s p h row, ne_eqb (length bs % h.entry) 0 n)

    module _ (whole : length bs % h.entry ≡ 0) where
      whole-test : eqb (length bs % entry_size_of s p) 0 ≡ true
      whole-test = rw (← handle-entry s p h row) (eq-eqb (length bs % h.entry) 0 whole)

      pub append-large : 0xffff_ffff_ffff_ffff < v.len + length bs → append_on d s p bs ≡ refused_at TooLarge d s
      unfolding append_on
      append-large l = rw (← seen, listed, whole-test, lt-ltb 0xffff_ffff_ffff_ffff (v.len + length bs) l)

      module _ (fits : v.len + length bs ≤ 0xffff_ffff_ffff_ffff) where
        pub append-missing : directory_of d s p ≡ None → append_on d s p bs ≡ refused_at Missing d s
        unfolding append_on
        append-missing e = rw (← seen, listed, whole-test, le-ltb 0xffff_ffff_ffff_ffff (v.len + length bs) fits, e)

        pub append-goes : (place : ℕ) → directory_of d s p ≡ Some place → append_on d s p bs ≡ put_on d s p place bs
        unfolding append_on
        append-goes place e = rw (← seen, listed, whole-test, le-ltb 0xffff_ffff_ffff_ffff (v.len + length bs) fits, e)

-- ---- the call

module _ (d s : List ℕ) (t h : ℕ) (bs : List ℕ) where
  pub call-unusable : usable d s ≡ false → put_call d s t h bs ≡ refused_at Unusable d s
  unfolding put_call
  call-unusable e = rw e

  module _ (ok : usable d s ≡ true) where
    pub call-no-append : writes s t ≡ false → put_call d s t h bs ≡ refused_at Unknown d s
    unfolding put_call
    call-no-append e = rw (ok, e)

    module _ (writer : writes s t ≡ true) where
      pub call-no-handle : find_handle s h ≡ None → put_call d s t h bs ≡ refused_at Unknown d s
      unfolding put_call
      call-no-handle e = rw (ok, writer, e)

      pub call-goes : (p : ℕ) → find_handle s h ≡ Some p → put_call d s t h bs ≡ append_on d s p bs
      unfolding put_call
      call-goes p e = rw (ok, writer, e)
