-- A page never changes: while a window is open, whatever is called, it is told the same of every tape, and reads the same bytes. By the induction of
-- `StaysOpen.antt`. Assumes nothing.
use Rattle.octets.specs.Cases.{some-injective}
use Rattle.std.proofs.lemmas.Option.{none-some}
use Rattle.std.specs.Prelude.{◌≡◌, refl, ◌≢◌, Bool, true, false, List, [], ◌∷◌, ◌++◌, ℕ, ◌+◌, ◌*◌, ◌≤◌, ◌<◌, eqb, length, take, drop, Option, Some, None}
use Rattle.std.proofs.Common.{sym, ◌∙◌, inl, add-mul, arith, ne_eqb, eqb-true, length-take, length-drop}
use Rattle.std.proofs.Math.Path.{ap, subst}
use Rattle.std.proofs.lemmas.Bool.{false≢true}
use Rattle.std.proofs.Math.Seq.{take-append_seam}
use Rattle.octets.specs.Cases.{picked, decide}
use Rattle.layout.specs.NamesLaws.{name-low}
use Rattle.layout.specs.Session.{names_at}
use Rattle.session.specs.declared.views.View.{View}
use Rattle.session.specs.Rows.{view_of, transaction_of}
use Rattle.rolling_tape.specs.Removal.{Areas}
use Rattle.beginning.specs.Transactions.{is_open_at}
use Rattle.lives.specs.Life.{Reader}
use Rattle.lives.specs.Life as L
use Rattle.lives.specs.Told.{Window, Staging, idle, appending, cutting, Told, closed, told_commit, told_drop, Page, page_w, page_in, page_of, page}
use Rattle.lives.specs.Told as T
use Rattle.lives.specs.Invariant.{erase}
use Rattle.seen.specs.Seen.{place_of, view_in, Handled}
use Rattle.seen.specs.Counts.{is_number, page-counted, AtPlace, open-some}
use Rattle.seen.specs.Shown.{shown-keeps}
use Rattle.seen.specs.Reads.{read-served}
use Rattle.promises.specs.Calls.{read_entries, Result, result, of_reading, step}
use Rattle.promises.specs.Told.{Known, unknown, Concern, apart, anew, opens, calls, tell_as}
use Rattle.promises.specs.Standing.{Lore, Running, Standing, running, formatted, running-last}
use Rattle.promises.specs.Promise.{ends, known, ends_then, known_then, is_open, is_writer, PageStands, ReadsAgain}
use Rattle.promises.proofs.Runs.{stands-last, stands-then}
use Rattle.promises.proofs.Reading.{front, with-handle, reads}
use Rattle.promises.proofs.CommitsServed.{told-open}
use Rattle.promises.specs.StaysOpen.{KeepsCall, KeepsTape, KeptOpen, handle-kept}
use Rattle.promises.proofs.StaysOpen.{lasts}

-- ---- a window in a running session

record Shows (t : ℕ) (ws : List Window) : Type 0 where
  shows : Page
  is : page_in t ws ≡ Some shows

open-shows : (t : ℕ) (ws : List Window) → is_open t ws ≡ true → Shows t ws
unfolding is_open page_in
open-shows t [] e = absurd (false≢true e)
open-shows t (w ∷ ws) e =
    decide (eqb t w.number)
    (λ (h : eqb t w.number ≡ true). record { shows = page_w w; is = rw h })
    (λ (h : eqb t w.number ≡ false). let x = open-shows t ws (rw h at e) in record { shows = x.shows; is = rw h x.is })

none-shown : (t : ℕ) (q : Page) → page_in t unknown.tape.windows ≡ Some q → ⊥
unfolding unknown T.nothing page_in
none-shown t q e = none-some q e

writer-page : (t : ℕ) (tape : Told) (x : Staging) → is_writer t x ≡ false → page_of t tape x ≡ page_in t tape.windows
writer-page t tape idle e = refl
writer-page t tape (appending m h c s) e = rw e
writer-page t tape (cutting m c) e = rw e

module _ (a : Areas) (K : Lore) (r : Running a K) (n : List ℕ) (long : 0 < length n) (t : ℕ) (q : Page) (is : page_in t (K n).tape.windows ≡ Some q) where
  abbrev s : List ℕ
  s = a.session

  -- its place in the table
  at_place : (has : Reader → Bool) → ((w : Window) → eqb t w.number ≡ true → page_w w ≡ q → has (erase w) ≡ true) → AtPlace has s (place_of s n)
  at_place has hits =
      let h = r.holds n long in
      open-some has s (place_of s n) (omega (arith, h.seen.readers has, page-counted has t q hits (K n).tape.windows is))

  numbers : AtPlace (is_number t) s (place_of s n)
  numbers = at_place (is_number t) (λ w e shows. e)

  -- its number was given
  window-old : t ≤ (K n).last
  window-old =
      let p = numbers in
      let number : t ≡ (transaction_of s p.place).number = eqb-true t _ p.holds in
      omega (arith, number, r.orderly.number-given p.place (omega (arith, p.low)) p.opened, running-last a K r n long)

  -- and no writer has it
  window-apart : is_writer t (K n).tape.writer ≡ false
  window-apart =
      decide (is_writer t (K n).tape.writer)
      (λ (e : is_writer t (K n).tape.writer ≡ true).
      let h = r.holds n long in
      let p = numbers in
      let w = told-open a.disk s n (K n).tape h.phys h.seen t (K n).tape.writer refl e in
      let same = r.orderly.numbers p.place 16 (omega (arith, p.low)) (omega arith) p.opened w.0 (sym (eqb-true t _ p.holds) ∙ sym w.1) in
      absurd (omega (arith, p.low, same)))
      (λ e. e)

  window-page : page t (K n).tape ≡ Some q
  window-page = writer-page t (K n).tape (K n).tape.writer window-apart ∙ is

  -- what it sees is listed
  window-listed : q.here ≡ true → (K n).tape.listed ≡ true
  window-listed here =
      let p = at_place (λ x. x.here) (λ w e shows. ap (λ (x : Page). x.here) shows ∙ here) in
      let h = r.holds n long in
      sym (ap (λ (v : View). v.listed) h.seen.list) ∙ by p.place p.low p.opened (place_of s n) refl p.holds
    where
      by : (x : ℕ) → x < 16 → is_open_at s x ≡ true → (found : Option ℕ) → place_of s n ≡ found → (view_in s x found).listed ≡ true → (view_in s 17 found).listed ≡ true
      by x low opened (Some p) e h = shown-keeps (view_of s 17 p) ∙ r.orderly.views x low opened p (name-low s names_at n p e) (sym (shown-keeps (view_of s x p)) ∙ h)
      by x low opened None e h = absurd (false≢true h)

-- ---- a window stays

closed-page : (t u : ℕ) → eqb t u ≡ false → (ws : List Window) → page_in t (closed u ws) ≡ page_in t ws
unfolding closed page_in
closed-page t u other [] = refl
closed-page t u other (w ∷ ws) =
    decide (eqb u w.number)
    (λ (e : eqb u w.number ≡ true).
    let differs : eqb t w.number ≡ false = subst (λ (x : ℕ). eqb t x ≡ false) (eqb-true u w.number e) other in
    rw (e, differs) (closed-page t u other ws))
    (λ (e : eqb u w.number ≡ false). rw e (rw (closed-page t u other ws)))

drop-page : (t u : ℕ) → eqb t u ≡ false → (tape : Told) (x : Staging) → page_in t (told_drop u tape x).windows ≡ page_in t tape.windows
drop-page t u other tape idle = closed-page t u other tape.windows
drop-page t u other tape (appending m h c s) =
    picked (λ (y : Told). page_in t y.windows ≡ page_in t tape.windows) (eqb u m) _ _ (λ e. refl) (λ e. closed-page t u other tape.windows)
drop-page t u other tape (cutting m c) =
    picked (λ (y : Told). page_in t y.windows ≡ page_in t tape.windows) (eqb u m) _ _ (λ e. refl) (λ e. closed-page t u other tape.windows)

commit-page : (t u : ℕ) (tape : Told) (x : Staging) → page_in t (told_commit u tape x).windows ≡ page_in t tape.windows
commit-page t u tape idle = refl
commit-page t u tape (appending m h c s) = picked (λ (y : Told). page_in t y.windows ≡ page_in t tape.windows) (eqb u m) _ _ (λ e. refl) (λ e. refl)
commit-page t u tape (cutting m c) = picked (λ (y : Told). page_in t y.windows ≡ page_in t tape.windows) (eqb u m) _ _ (λ e. refl) (λ e. refl)

-- a new window has another number
call-page : (t : ℕ) (k : Known) (v : ℕ) (c : L.TapeCall) → KeepsCall t k v c → t ≤ k.last → page_in t (T.told k.tape c (L.Done v)).windows ≡ page_in t k.tape.windows
unfolding page_in
call-page t k v L.restart l old = absurd l
call-page t k v L.reader l old = rw (ne_eqb t v (λ e. omega (arith, l)))
call-page t k v L.append l old = refl
call-page t k v L.truncate l old = refl
call-page t k v (L.open' u size cache start memory) l old = absurd l
call-page t k v (L.put u bs) l old = refl
call-page t k v (L.shift u o) l old = refl
call-page t k v (L.cut u o) l old = refl
call-page t k v (L.read u o i) l old = refl
call-page t k v (L.commit u) l old = commit-page t u k.tape k.tape.writer
call-page t k v (L.drop' u) l old = drop-page t u l k.tape k.tape.writer

concern-page : (t : ℕ) (k : Known) (v : ℕ) (x : Concern) → KeepsTape t k v x → t ≤ k.last → page_in t (tell_as k v x).tape.windows ≡ page_in t k.tape.windows
concern-page t k v apart l old = refl
concern-page t k v anew l old = absurd l
concern-page t k v (opens u entry size cache start) l old = refl
concern-page t k v (calls c) l old = call-page t k v c l old

module _ (t : ℕ) (n : List ℕ) (long : 0 < length n) (q : Page) where
  abbrev Watches : Known → Type 0
  Watches k = page_in t k.tape.windows ≡ Some q

  watches : KeptOpen t n Watches
  watches =
      record {
        begun = none-shown t q;
        keeps = λ a K r is v x l. concern-page t (K n) v x l (window-old a K r n long t q is) ∙ is;
      }

  told-page : (a : Areas) (K : Lore) → Standing a K → Watches (K n) → page t (K n).tape ≡ Some q
  told-page a K (running r) is = window-page a K r n long t q is
  told-page a K (formatted f) is = absurd (none-shown t q (subst Watches (f.untold n long) is))

pub page-stands : PageStands
page-stands r f n long t opened stays =
    let x = open-shows t (known r n).tape.windows opened in
    let q = x.shows in
    let later = lasts t n long (Watches t n long q) (watches t n long q) f.calls (ends r) (known r) f.fit f.sizes (stands-last r) stays x.is in
    told-page t n long q (ends_then r f) (known_then r f) (stands-then r f) later ∙ sym (told-page t n long q (ends r) (known r) (stands-last r) x.is)

-- ---- and reads the same

-- its page is here, and the tape keeps its handle and its entry size
record Holding (t h e : ℕ) (q : Page) (k : Known) : Type 0 where
  page-is : page_in t k.tape.windows ≡ Some q
  handle-is : k.handle ≡ h
  entry-is : k.entry ≡ e

module _ (t : ℕ) (n : List ℕ) (long : 0 < length n) (q : Page) (h e : ℕ) (more : h ≢ 0) (here : q.here ≡ true) where
  holding : KeptOpen t n (Holding t h e q)
  holding =
      record {
        begun = λ p. none-shown t q p.page-is;
        keeps = λ a K r p v x l.
            let kept = handle-kept a K r n long (λ z. more (sym p.handle-is ∙ z)) t v x l (inl (window-listed a K r n long t q p.page-is here)) in
            record {
              page-is = (watches t n long q).keeps a K r p.page-is v x l;
              handle-is = kept.0 ∙ p.handle-is;
              entry-is = kept.1 ∙ p.entry-is;
            };
      }

  -- what is read then
  read-holding : (a : Areas) (K : Lore) → Standing a K → Holding t h e q (K n) → (i count : ℕ) (buffer : List ℕ)
      → q.start ≤ i * e → i * e + count * e ≤ length q.content → count * e ≤ length buffer
      → step (read_entries t h i count buffer) a ≡ result 0 count a (take (count * e) (drop (i * e) q.content) ++ drop (count * e) buffer)
  unfolding step
  read-holding a K st p i count buffer low inside room =
      let r = with-handle a K n long (λ z. more (sym p.handle-is ∙ z)) st in
      let o = r.holds n long in
      let its : Handled a.session n h e = subst (λ (x : ℕ). Handled a.session n x e) p.handle-is (subst (λ (x : ℕ). Handled a.session n (K n).handle x) p.entry-is o.handled) in
      ap (of_reading a)
      (read-served a.disk a.session n long r.orderly (K n).tape o.phys o.good o.seen h e its more r.starts t i count q
      (window-page a K r n long t q p.page-is) here low inside buffer room)
      ∙ ap (result 0 count a) (front q.content buffer (i * e) (count * e) inside room)

pub reads-again : ReadsAgain
reads-again r f n long t i count buffer later q opened stays handle at here low high room more-room =
    let h = (known r n).handle in
    let e = (known r n).entry in
    let content = q.content in
    let x = open-shows t (known r n).tape.windows opened in
    let same : x.shows ≡ q = some-injective _ _ (sym (told-page t n long x.shows (ends r) (known r) (stands-last r) x.is) ∙ at) in
    let first : Holding t h e q (known r n) = record { page-is = x.is ∙ ap Some same; handle-is = refl; entry-is = refl } in
    let then = lasts t n long (Holding t h e q) (holding t n long q h e handle here) f.calls (ends r) (known r) f.fit f.sizes (stands-last r) stays first in
    let inside : i * e + count * e ≤ length content = rw (add-mul i count e) at high in
    let part = take (count * e) (drop (i * e) content) in
    let whole : length part ≡ count * e = length-take (count * e) (drop (i * e) content) ∙ omega (arith, length-drop (i * e) content) in
    let was : (step (read_entries t h i count buffer) (ends r)).buffer ≡ part ++ drop (count * e) buffer
    = ap (λ (y : Result). y.buffer) (reads r n long t i count buffer q handle at here low high room) in
    let again : part ≡ take (count * e) (step (read_entries t h i count buffer) (ends r)).buffer
    = sym (take-append_seam part (drop (count * e) buffer)) ∙ ap (λ (m : ℕ). take m (part ++ drop (count * e) buffer)) whole ∙ ap (take (count * e)) (sym was) in
    read-holding t n long q h e handle here (ends_then r f) (known_then r f) (stands-then r f) then i count later low inside more-room
    ∙ ap (λ (y : List ℕ). result 0 count (ends_then r f) (y ++ drop (count * e) later)) again
