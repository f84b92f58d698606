-- What is answered where there is no entry, of a read of one and of a pop; and the length and the start of a tape, in entries. Assumes nothing.
use Rattle.std.specs.Prelude.{◌≡◌, refl, ◌≢◌, ◌⊎◌, true, List, [], ℕ, ◌*◌, ◌/◌, ◌-◌, ◌<◌, length, Some, None, Ok}
use Rattle.std.proofs.Common.{sym, ◌∙◌, inl, inr, arith, eq-eqb}
use Rattle.std.proofs.Math.Path.{ap}
use Rattle.octets.specs.Cases.{equal}
use Rattle.answers.specs.Outcome.{popping}
use Rattle.layout.specs.Session.{entry_size_of}
use Rattle.session.specs.Rows.{find_transaction}
use Rattle.session.specs.declared.views.View.{View}
use Rattle.rolling_tape.specs.Removal.{areas}
use Rattle.staging.specs.Seeing.{cuts, seen_by}
use Rattle.entries.specs.Laws.{none-outside, pop-of-empty, pop-of-below}
use Rattle.entries.specs.Popping.{pop_call}
use Rattle.lives.specs.Told.{cutting, Page, page}
use Rattle.lives.specs.Invariant.{is_append}
use Rattle.seen.specs.Kinds.{cuts-as, cuts-open}
use Rattle.seen.specs.Reads.{view_p, one_place, sight, len-served, start-served}
use Rattle.promises.specs.Calls.{pop_entry, read_entry, tape_len, tape_start, result, of_answer, of_entering, of_popping, step}
use Rattle.promises.specs.Standing.{Lore, Running, its-place, its-life}
use Rattle.promises.specs.Promise.{ends, known, PopsNone, ReadsOneElse, Lengths}
use Rattle.promises.proofs.Runs.{stands-last}
use Rattle.promises.proofs.Reading.{with-handle}
use Rattle.promises.specs.Outside.{Beyond, beyond-read}
use Rattle.promises.proofs.CommitsServed.{told_cuts}
use Rattle.seen.specs.Orderly.{orderly-usable}
use Rattle.seen.specs.Transactions.{find-transaction}

module _ (d s : List ℕ) (K : Lore) (r : Running (areas d s) K) (n : List ℕ) (long : 0 < length n) (given : (K n).handle ≢ 0) (t : ℕ) where
  abbrev h : ℕ
  h = (K n).handle

  abbrev e : ℕ
  e = (K n).entry

  open r.holds n long use {phys, good, seen, handled}

  one-else : (i : ℕ) (buffer : List ℕ) (q : Page) → page t (K n).tape ≡ Some q → q.here ≡ true → Beyond e i 1 q
      → step (read_entry t h i buffer) (areas d s) ≡ result 0 0xffff_ffff_ffff_ffff (areas d s) buffer
  unfolding step
  one-else i buffer q is here far = ap (of_entering (areas d s)) (none-outside d s t h i buffer (beyond-read d s K r n long given t i 1 buffer q is here far))

  lengths-running : (q : Page) → page t (K n).tape ≡ Some q → q.here ≡ true
      → (step (tape_len t h) (areas d s) ≡ result 0 (length q.content / e) (areas d s) []) × (step (tape_start t h) (areas d s) ≡ result 0 (q.start / e) (areas d s) [])
  unfolding step
  lengths-running q is here = (
    ap (of_answer (areas d s)) (len-served d s n long r.orderly (K n).tape phys good seen h e handled given r.starts t q is here),
    ap (of_answer (areas d s)) (start-served d s n long r.orderly (K n).tape phys good seen h e handled given r.starts t q is here),
  )

  -- in a truncate
  module _ (c : List ℕ) (writer : (K n).tape.writer ≡ cutting t c) where
    open its-place (areas d s) K r n long given use {place, at, found, entry-size}

    -- every open tape is listed
    listed : (K n).tape.listed ≡ true
    listed = (its-life (areas d s) K r n long given).shown (ap is_append writer)

    cutter : cuts s t ≡ true
    cutter = told_cuts d s n (K n).tape phys seen t c writer

    abbrev cut_page : Page
    cut_page = record { here = true; start = (K n).tape.start; content = c }

    view : seen_by s 16 place ≡ view_p cut_page
    view =
        let is : page t (K n).tape ≡ Some cut_page = rw (writer, eq-eqb t t refl, listed) in
        let x = sight d s n r.orderly r.starts (K n).tape phys seen place at t cut_page is refl in
        let there : find_transaction s t ≡ Some 16 = find-transaction d s r.orderly t 16 (record { low = omega arith; opened = cuts-open s t cutter; number = cuts-as s t cutter }) in
        ap (λ (y : ℕ). seen_by s y place) (one_place (find_transaction s t) 16 x.place there x.found) ∙ x.view

    many : (seen_by s 16 place).len / entry_size_of s place ≡ length c / e
    many = rw (view, entry-size)

    low : (length c / e ≡ 0) ⊎ ((length c / e - 1) * e < (K n).tape.start) → length c / e ≢ 0 → (length c / e - 1) * e < (K n).tape.start
    low (inl z) one = absurd (one z)
    low (inr l) one = l

    none-popped : (buffer : List ℕ) → (length c / e ≡ 0) ⊎ ((length c / e - 1) * e < (K n).tape.start) → pop_call d s t h buffer ≡ popping (Ok None) s buffer
    none-popped buffer why =
        let ok = orderly-usable d s r.orderly in
        let here : (seen_by s 16 place).listed ≡ true = ap (λ (v : View). v.listed) view in
        let first : (seen_by s 16 place).start ≡ (K n).tape.start = ap (λ (v : View). v.start) view in
        let last : ((seen_by s 16 place).len / entry_size_of s place - 1) * entry_size_of s place ≡ (length c / e - 1) * e = rw (many, entry-size) in
        equal (length c / e) 0
        (λ (z : length c / e ≡ 0). pop-of-empty d s t h buffer ok cutter place found here (many ∙ z))
        (λ one. pop-of-below d s t h buffer ok cutter place found here (λ z. one (sym many ∙ z)) (rw (last, first) (low why one)))

    pops-running : (buffer : List ℕ) → (length c / e ≡ 0) ⊎ ((length c / e - 1) * e < (K n).tape.start)
        → step (pop_entry t h buffer) (areas d s) ≡ result 0 0xffff_ffff_ffff_ffff (areas d s) buffer
    unfolding step
    pops-running buffer why = ap (of_popping d) (none-popped buffer why)

pub reads-one-else : ReadsOneElse
reads-one-else r n long t i buffer q given =
    let a = ends r in
    one-else a.disk a.session (known r) (with-handle a (known r) n long given (stands-last r)) n long given t i buffer q

pub pops-none : PopsNone
pops-none r n long t c buffer given writer =
    let a = ends r in
    pops-running a.disk a.session (known r) (with-handle a (known r) n long given (stands-last r)) n long given t c writer buffer

pub lengths : Lengths
lengths r n long t q given =
    let a = ends r in
    lengths-running a.disk a.session (known r) (with-handle a (known r) n long given (stands-last r)) n long given t q
