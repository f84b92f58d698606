-- What is served as told, whatever was called before: a put finds its directory, an open transaction is dropped, and a listed tape that has no handle is opened.
-- Assumes nothing.
use Rattle.std.proofs.lemmas.Option.{none-some}
use Rattle.std.specs.Prelude.{◌≡◌, refl, ◌≢◌, true, false, List, ℕ, eqb, Option, Some, None, Ok, Err}
use Rattle.std.proofs.Common.{sym, ap, ◌∙◌, true≢false, arith, eq-eqb, eqb-true}
use Rattle.octets.specs.Cases.{picked}
use Rattle.answers.specs.Answers.{code_of, refusal_number}
use Rattle.answers.specs.Answers.{Answer}
use Rattle.answers.specs.declared.Refusal.{Refusal}
use Rattle.answers.specs.declared.Refusal.TheVariants.{Unusable, Unknown, WriterOpen, Wait, Full, BadName, ReservedName, BadSize, AlreadyOpen, NotWhole, Absent, OutOfBounds, StartPastLength, LongerCut, NoSlot, Missing, BadList, TooLarge}
use Rattle.layout.specs.Session.{handle_number}
use Rattle.session.specs.Rows.{transaction_of}
use Rattle.beginning.specs.Transactions.{After}
use Rattle.appending.specs.Calls.{put_call}
use Rattle.ending.specs.Dropping.{drop_at}
use Rattle.ending.specs.DropLaws.{drop-served}
use Rattle.lives.specs.Told.{Staging, idle, appending, cutting, Told, Page, page_in, page_of, page, nothing}
use Rattle.lives.specs.Invariant.{Phys, build}
use Rattle.seen.specs.Seen.{Seen, place_of, is_open_tape, handle_in}
use Rattle.seen.specs.Orderly.{Orderly, orderly-usable}
use Rattle.seen.specs.Counts.{is_number, page-counted, open-some}
use Rattle.seen.specs.PutRooms.{put-there}
use Rattle.opened.specs.Reopens.{open-fits}
use Rattle.promises.specs.Calls.{open_tape, append_entries, drop_transaction, step}
use Rattle.promises.specs.Told.{Known, unknown}
use Rattle.promises.specs.Standing.{Standing, running, formatted}
use Rattle.promises.specs.Always.{no-session}
use Rattle.promises.proofs.Furnished.{furnished}
use Rattle.promises.proofs.CommitsServed.{told_writes, told-open}
use Rattle.promises.proofs.Runs.{stands-last}
use Rattle.promises.specs.Promise.{ends, is_writer, PutsFind, Closes, Reopens}
use Rattle.promises.specs.Promise as P
use Rattle.seen.specs.Transactions.{HasPlace, find-transaction}

-- ---- a put

missing-refusal : (why : Refusal) → refusal_number why ≡ 16 → why ≡ Missing
missing-refusal Unusable e = absurd (omega arith)
missing-refusal Unknown e = absurd (omega arith)
missing-refusal WriterOpen e = absurd (omega arith)
missing-refusal (Wait n) e = absurd (omega arith)
missing-refusal Full e = absurd (omega arith)
missing-refusal BadName e = absurd (omega arith)
missing-refusal ReservedName e = absurd (omega arith)
missing-refusal BadSize e = absurd (omega arith)
missing-refusal AlreadyOpen e = absurd (omega arith)
missing-refusal NotWhole e = absurd (omega arith)
missing-refusal Absent e = absurd (omega arith)
missing-refusal OutOfBounds e = absurd (omega arith)
missing-refusal StartPastLength e = absurd (omega arith)
missing-refusal LongerCut e = absurd (omega arith)
missing-refusal NoSlot e = absurd (omega arith)
missing-refusal Missing e = refl
missing-refusal BadList e = absurd (omega arith)
missing-refusal TooLarge e = absurd (omega arith)

missing-answer : (a : Answer) → code_of a ≡ 16 → a ≡ Err Missing
missing-answer (Ok v) e = absurd (omega arith)
missing-answer (Err why) e = ap Err (missing-refusal why e)

pub puts-find : PutsFind
unfolding step
puts-find r t h bs = by (stands-last r)
  where
    by : Standing (ends r) (P.known r) → (step (append_entries t h bs) (ends r)).code ≢ 16
    by (running q) = λ e. put-there (ends r).disk (ends r).session q.orderly t h bs (missing-answer (put_call (ends r).disk (ends r).session t h bs).answer e)
    by (formatted f) = λ e. let z : ◌≡◌ {A = ℕ} 1 16 = sym (no-session (ends r).disk (ends r).session f.unbegun (append_entries t h bs) refl) ∙ e in omega arith

-- ---- a drop

module _ (d s n : List ℕ) (t : Told) (p : Phys) (seen : Seen d s n (build t p)) (o : Orderly d s) where
  -- who has a page is open
  page-found : (k : ℕ) (q : Page) → page k t ≡ Some q → HasPlace s k
  page-found k q is = by t.writer refl is
    where
      window : page_in k t.windows ≡ Some q → HasPlace s k
      window e =
          let a = open-some (is_number k) s (place_of s n) (omega (arith, seen.readers (is_number k), page-counted (is_number k) k q (λ w m shows. m) t.windows e)) in
          record {
            place = a.place;
            found = find-transaction d s o k a.place
                (record { low = omega (arith, a.low); opened = a.opened; number = sym (eqb-true k (transaction_of s a.place).number a.holds) });
          }

      last : is_writer k t.writer ≡ true → HasPlace s k
      last own =
          let w = told-open d s n t p seen k t.writer refl own in
          record { place = 16; found = find-transaction d s o k 16 (record { low = omega arith; opened = w.0; number = w.1 }) }

      by : (w : Staging) → t.writer ≡ w → page_of k t w ≡ Some q → HasPlace s k
      by idle e = window
      by (appending m h c b) e =
          picked (λ (x : Option Page). x ≡ Some q → HasPlace s k) (eqb k m) (Some (record { here = h; start = b; content = c })) (page_in k t.windows)
          (λ same f. last (ap (is_writer k) e ∙ same)) (λ other f. window f)
      by (cutting m c) e =
          picked (λ (x : Option Page). x ≡ Some q → HasPlace s k) (eqb k m) (Some (record { here = t.listed; start = t.start; content = c })) (page_in k t.windows)
          (λ same f. last (ap (is_writer k) e ∙ same)) (λ other f. window f)

-- of a disk that was just formatted nobody has a page, and no tape is listed
no-page : (t : ℕ) (k : Known) → k ≡ unknown → page t k.tape ≡ None
unfolding unknown nothing page_in
no-page t k is = ap (λ (x : Known). page t x.tape) is

unlisted : (k : Known) → k ≡ unknown → k.tape.listed ≡ false
unfolding unknown nothing
unlisted k is = ap (λ (x : Known). x.tape.listed) is

pub closes : Closes
unfolding step
closes r n long t q is = by (stands-last r)
  where
    by : Standing (ends r) (P.known r) → (step (drop_transaction t) (ends r)).code ≡ 0
    by (running w) =
        let d = (ends r).disk in
        let s = (ends r).session in
        let h = w.holds n long in
        let x = page-found d s n (P.known r n).tape h.phys h.seen w.orderly t q is in
        ap (λ (a : After). code_of a.answer) (drop-served d s t (orderly-usable d s w.orderly) x.place {u = drop_at d s x.place} x.found refl)
    by (formatted f) = absurd (none-some q (sym (no-page t (P.known r n) (f.untold n long)) ∙ is))

-- ---- an open

-- a tape without a handle is not open
asleep : (s : List ℕ) (f : Option ℕ) → handle_in s f ≡ 0 → is_open_tape s f ≡ false
asleep s (Some p) e = rw (eq-eqb (handle_number s p) 0 e)
asleep s None e = refl

pub reopens : Reopens
unfolding step
reopens r n long t entry cache start here c b writer listed shut entry-some entry-small len_whole start-whole cache-some cache-small remain = by (stands-last r)
  where
    by : Standing (ends r) (P.known r) → (step (open_tape t n entry (P.known r n).tape.size cache start) (ends r)).code ≡ 0
    by (running w) =
        let d = (ends r).disk in
        let s = (ends r).session in
        let h = w.holds n long in
        let k = (P.known r n).tape in
        let f = furnished r w in
        open-fits d s n long w.orderly f.proper k h.phys h.good h.seen
        (sym h.seen.live ∙ asleep s (place_of s n) (h.handled.number ∙ shut)) listed ((f.sized n long).0 listed) t entry cache start
        (told_writes d s n k h.phys h.seen t here c b writer)
        entry-some entry-small len_whole start-whole cache-some cache-small remain
    by (formatted f) = absurd (true≢false (sym listed ∙ unlisted (P.known r n) (f.untold n long)))
