-- `truncate_tape`, `drop_entries` and `pop_entry` are the model's `cut`, each to its length. Assumes nothing.
use Rattle.std.specs.Prelude.{◌≡◌, ◌≢◌, Bool, true, List, ℕ, ◌*◌, ◌-◌, ◌/◌, ◌≤◌, ◌<◌, Some, Ok}
use Rattle.std.proofs.Math.Path.{refl, sym, ap}
use Rattle.std.proofs.Common.{◌∙◌, subst, div-le_self, eq-eqb, le-leb}
use native.Mathlib.Omega.{arith}
use Rattle.answers.specs.Answers.{code_of}
use Rattle.answers.specs.Outcome.{Popping}
use Rattle.components.specs.BoundsLaws.{up_to-true}
use Rattle.layout.specs.Session.{handle_number, entry_size_of}
use Rattle.session.specs.declared.tape_rows.Staged.{Staged}
use Rattle.session.specs.Rows.{handle_of, ring_of, ring_bytes, put_staged, find_handle}
use Rattle.session.specs.RowLaws.{handle-entry}
use Rattle.beginning.specs.Laws.{refusal-some}
use Rattle.beginning.specs.Transactions as Real
use Rattle.staging.specs.Seeing.{seen_by, touched_as, cuts}
use Rattle.staging.specs.Cutting.{cut_to, cut_call, drop_call}
use Rattle.staging.specs.Ways.{handle-found}
use Rattle.staging.specs.Laws.{Goes, left, cut-cases, drop-cases, cut-done, drop-done, left-within, begun-cut_to, touched-fits, seen-fits}
use Rattle.appending.specs.CallWays.{seen-touched}
use Rattle.entries.specs.Popping.{pop_call}
use Rattle.entries.specs.Laws.{last, Poppable, pop-cases, pop-done}
use Rattle.lives.specs.Told.{Told}
use Rattle.lives.specs.Invariant.{Phys, Good, build}
use Rattle.lives.specs.Life.{Writer, cutting, Store, After, Done, cut, step, then}
use Rattle.joins.specs.Caches.{Becomes}
use Rattle.seen.specs.Seen.{place_of, Seen, Handled}
use Rattle.seen.specs.Orderly.{Orderly}
use Rattle.seen.specs.Handles.{handle-own}
use Rattle.seen.specs.GoodTapes.{all-written}
use Rattle.seen.specs.Touching.{OnHandle, Leads, staged_len, cut-writer, cut-listed, its-live, its-base, staged, writer_with}
use Rattle.seen.specs.Stages.{PutRow, row_put, on-handle, put-row-own, Finds}
use Rattle.seen.specs.Kinds.{cuts-kind, cuts-as, cuts-open}

-- ---- a cut

model-cut : (st : Store) (k len to : ℕ) → st.writer ≡ cutting k len → st.live ≡ true → st.listed ≡ true → to ≤ len
    → step (cut k to) st ≡ then (Done 0) st.last st st.readers (cutting k to) true st.live st.held
unfolding step
model-cut st k len to writer live listed within = rw (writer, eq-eqb k k refl, live, listed, le-leb to len within)

-- the row of a tape that is cut
abbrev pub cut_staged : List ℕ → ℕ → ℕ → Staged
cut_staged s p to = record { touched = true; base = (touched_as s p).base; len = to; start = (touched_as s p).start; unwritten = 0 }

-- what all three do: transaction k cuts the tape of handle h, to so many bytes
pub record CutsTo (s : List ℕ) (k h : ℕ) (u : List ℕ) : Type 0 where
  pub tape : ℕ
  pub to : ℕ
  pub is : u ≡ cut_to s tape to
  pub found : find_handle s h ≡ Some tape
  pub writer : cuts s k ≡ true
  pub listed : (seen_by s 16 tape).listed ≡ true
  pub within : to ≤ (touched_as s tape).len

module _ (d s : List ℕ) (o : Orderly d s) (k h : ℕ) (u : List ℕ) (c : CutsTo s k h u) where
  abbrev p : ℕ
  p = c.tape

  abbrev row : Staged
  row = cut_staged s c.tape c.to

  held : handle_number s p ≢ 0
  held = (handle-found s h p c.found).held

  cut-put : PutRow s h p row
  unfolding cut_to
  cut-put =
      let fits = touched-fits s o.session-bytes p in
      record {
        found = c.found;
        writer = cuts-open s k c.writer;
        fits = record { base = fits.base; len = omega (arith, fits.len, c.within); start = fits.start; unwritten = omega arith };
        touched = refl;
        begun = begun-cut_to s o.session p (handle-found s h p c.found).low c.to;
      }

  cut-is : u ≡ put_staged s p row
  unfolding cut_to
  cut-is = c.is

  pub cuts-becomes : Becomes s u c.tape (ring_of s c.tape) (ring_bytes s c.tape) (cut_staged s c.tape c.to)
  cuts-becomes = rw cut-is (row_put d s o h p row cut-put)

  pub cuts-on : OnHandle d s d u h
  cuts-on = rw cut-is (on-handle d s o h p row cut-put)

  pub cuts-own : (n : List ℕ) → place_of s n ≡ Some c.tape → (t : Told) (x : Phys) → Good t x → Seen d s n (build t x) → Leads d u n (step (cut k c.to) (build t x)) 0
  cuts-own n at t x good seen =
      let st = build t x in
      let live = its-live d s n o p at held st seen in
      let is-writer = cut-writer d s n o p at held st seen k c.writer c.listed in
      let goes = model-cut st k (touched_as s p).len c.to is-writer live (cut-listed d s n o p at held st seen k c.writer) c.within in
      let is : writer_with s row ≡ cutting k c.to = rw (cuts-kind s k c.writer, cuts-as s k c.writer) in
      let none : x.held.unwritten ≡ 0 = all-written t x good k (touched_as s p).len is-writer live in
      subst (λ (a : After). Leads d u n a 0) (sym goes)
      (record {
        answer = refl;
        seen = rw cut-is (subst (λ (w : Writer). Seen d (put_staged s p row) n (staged st w st.held)) is
            (put-row-own d s o h p row cut-put n at st (sym none) (its-base d s n o p at held st seen (cuts-open s k c.writer)) seen));
      })

  -- the same, by the name's handle
  cuts-named : (n : List ℕ) (entry : ℕ) → Handled s n h entry → (to : ℕ) → (entry_size_of s c.tape ≡ entry → c.to ≡ to) → (t : Told) (x : Phys) → Good t x
      → Seen d s n (build t x) → Leads d u n (step (cut k to) (build t x)) 0
  cuts-named n entry its to same t x good seen =
      let own = handle-own d s o n h p entry its c.found in
      subst (λ (b : ℕ). Leads d u n (step (cut k b) (build t x)) 0) (same own.1) (cuts-own n own.0 t x good seen)

-- ---- a tape cut to an index

module _ (d s : List ℕ) (k h i : ℕ) (served : code_of (cut_call d s k h i).answer ≡ 0) where
  cut-found : Finds d s (cuts s k) h i
  cut-found =
      cut-cases (λ (a : Real.After). code_of a.answer ≡ 0 → Finds d s (cuts s k) h i) d s k h i (λ why e. absurd (refusal-some why e))
      (λ p g e. record { place = p; goes = g }) served

  pub cut-to : CutsTo s k h (cut_call d s k h i).session
  cut-to =
      let p = cut-found.place in
      let g = cut-found.goes in
      record {
        tape = p;
        to = i * (handle_of s p).entry;
        is = ap (λ (a : Real.After). a.session) (cut-done d s k h p i g);
        found = g.found;
        writer = g.writer;
        listed = g.listed;
        within = rw (← seen-touched s p) (up_to-true (handle_of s p).entry i (seen_by s 16 p).len g.within);
      }

  module _ (o : Orderly d s) where
    pub cut_on_lem : OnHandle d s d (cut_call d s k h i).session h
    cut_on_lem = cuts-on d s o k h _ cut-to

    pub cut-own : (n : List ℕ) (entry : ℕ) → Handled s n h entry → (t : Told) (x : Phys) → Good t x → Seen d s n (build t x)
        → Leads d (cut_call d s k h i).session n (step (cut k (i * entry)) (build t x)) 0
    unfolding cut-to
    cut-own n entry its = cuts-named d s o k h (cut_call d s k h i).session cut-to n entry its (i * entry) (λ e. ap (λ (b : ℕ). i * b) (handle-entry s cut-to.tape (handle_of s cut-to.tape) refl ∙ e))

-- ---- entries dropped

-- what a call that was served has found
record Drops (d s : List ℕ) (w : Bool) (h count : ℕ) : Type 0 where
  place : ℕ
  goes : Goes d s w h place (left s place count)

module _ (d s : List ℕ) (k h count : ℕ) (served : code_of (drop_call d s k h count).answer ≡ 0) where
  drop-found : Drops d s (cuts s k) h count
  drop-found =
      drop-cases (λ (a : Real.After). code_of a.answer ≡ 0 → Drops d s (cuts s k) h count) d s k h count (λ why e. absurd (refusal-some why e))
      (λ p g e. record { place = p; goes = g }) served

  pub drop-to : CutsTo s k h (drop_call d s k h count).session
  drop-to =
      let p = drop-found.place in
      let g = drop-found.goes in
      record {
        tape = p;
        to = left s p count * (handle_of s p).entry;
        is = ap (λ (a : Real.After). a.session) (drop-done d s k h p count g.sound g.writer g.found g.listed);
        found = g.found;
        writer = g.writer;
        listed = g.listed;
        within = rw (← seen-touched s p) (up_to-true (handle_of s p).entry (left s p count) (seen_by s 16 p).len g.within);
      }

  module _ (o : Orderly d s) where
    pub drop-on : OnHandle d s d (drop_call d s k h count).session h
    drop-on = cuts-on d s o k h _ drop-to

    pub drop_own : (n : List ℕ) (entry : ℕ) → Handled s n h entry → (t : Told) (x : Phys) → Good t x → Seen d s n (build t x)
        → Leads d (drop_call d s k h count).session n (step (cut k ((staged_len (build t x).writer / entry - count) * entry)) (build t x)) 0
    unfolding drop-to
    drop_own n entry its t x good seen =
        let p = drop-to.tape in
        let at = (handle-own d s o n h p entry its drop-to.found).0 in
        let len : staged_len (build t x).writer ≡ (seen_by s 16 p).len
        = ap staged_len (cut-writer d s n o p at (handle-found s h p drop-to.found).held (build t x) seen k drop-to.writer drop-to.listed) ∙ sym (seen-touched s p) in
        cuts-named d s o k h (drop_call d s k h count).session drop-to n entry its ((staged_len (build t x).writer / entry - count) * entry)
        (λ e. rw (handle-entry s p (handle_of s p) refl, len, e))
        t x good seen

-- ---- an entry popped

-- what a pop that had an entry has found
record Pops (d s : List ℕ) (k h : ℕ) (out : List ℕ) (i : ℕ) : Type 0 where
  place : ℕ
  goes : Poppable d s k h out place
  index : last s place ≡ i

-- a pop that has none changes nothing (`entries/specs/Laws.antt`, `pop-none`)
module _ (d s : List ℕ) (k h : ℕ) (out : List ℕ) (i : ℕ) (served : (pop_call d s k h out).answer ≡ Ok (Some i)) where
  pop-found : Pops d s k h out i
  pop-found =
      pop-cases (λ (a : Popping). a.answer ≡ Ok (Some i) → Pops d s k h out i) d s k h out (λ a not e. absurd (not i e))
      (λ p g e. record { place = p; goes = g; index = cc }) served

  pub pop-to : CutsTo s k h (pop_call d s k h out).session
  pop-to =
      let p = pop-found.place in
      let g = pop-found.goes in
      let same : left s p 1 * (handle_of s p).entry ≡ i * entry_size_of s p = rw (handle-entry s p (handle_of s p) refl, pop-found.index) in
      record {
        tape = p;
        to = i * entry_size_of s p;
        is = ap (λ (a : Popping). a.session) (pop-done d s k h out p g) ∙ ap (λ (j : ℕ). cut_to s p (j * entry_size_of s p)) pop-found.index;
        found = g.found;
        writer = g.writer;
        listed = g.inside.listed;
        within = omega (arith, same, seen-touched s p, up_to-true (handle_of s p).entry (left s p 1) (seen_by s 16 p).len (left-within s p 1));
      }

  module _ (o : Orderly d s) where
    pub pop-on : OnHandle d s d (pop_call d s k h out).session h
    pop-on = cuts-on d s o k h _ pop-to

    pub pop-own : (n : List ℕ) (entry : ℕ) → Handled s n h entry → (t : Told) (x : Phys) → Good t x → Seen d s n (build t x)
        → Leads d (pop_call d s k h out).session n (step (cut k (i * entry)) (build t x)) 0
    unfolding pop-to
    pop-own n entry its = cuts-named d s o k h (pop_call d s k h out).session pop-to n entry its (i * entry) (λ e. ap (λ (b : ℕ). i * b) e)

    -- the entry that is popped is the last one
    pub pop-index : (n : List ℕ) (entry : ℕ) → Handled s n h entry → (st : Store) → Seen d s n st → i ≡ staged_len st.writer / entry - 1
    pop-index n entry its st seen =
        let p = pop-found.place in
        let g = pop-found.goes in
        let own = handle-own d s o n h p entry its g.found in
        let len : staged_len st.writer ≡ (seen_by s 16 p).len
        = ap staged_len (cut-writer d s n o p own.0 (handle-found s h p g.found).held st seen k g.writer g.inside.listed) ∙ sym (seen-touched s p) in
        sym pop-found.index ∙ rw (len, own.1)

    -- so its index is below 2^64-1, which stands for none
    pub pop-small : i < 0xffff_ffff_ffff_ffff
    pop-small =
        let p = pop-found.place in
        let fits = seen-fits s o.session-bytes p 16 in
        omega (arith, pop-found.index, div-le_self (seen_by s 16 p).len (entry_size_of s p))
