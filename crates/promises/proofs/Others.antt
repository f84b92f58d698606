-- The other answers that are told: of a read of one entry, of a pop and of a put. Assumes nothing.
use Rattle.std.specs.Prelude.{◌≡◌, refl, ◌≢◌, Bool, true, List, ◌++◌, ℕ, ◌+◌, ◌*◌, ◌/◌, ◌-◌, ◌≤◌, ◌<◌, take, drop, Some, Ok, Err}
use Rattle.std.proofs.Math.Path.{ap}
use Rattle.std.proofs.Common.{◌∙◌, arith}
use Rattle.std.proofs.Math.Nat.{one-mul, add-mul, div-mul-le_self}
use Rattle.std.proofs.Math.ListN.{length}
use Rattle.answers.specs.Answers.{Answer}
use Rattle.answers.specs.Answers.{code_of, value_of}
use Rattle.beginning.specs.Laws.{refusal-some}
use Rattle.appending.specs.Calls.{put_call}
use Rattle.rolling_tape.specs.Removal.{areas}
use Rattle.lives.specs.Told.{appending, cutting, Page, page}
use Rattle.seen.specs.Reads.{entry-served, pop-served, put-answer}
use Rattle.promises.specs.Calls.{append_entries, pop_entry, read_entry, Result, result, of_entering, of_popping, step}
use Rattle.promises.specs.Standing.{Lore, Running, its-place}
use Rattle.promises.specs.Promise.{ends, known, ReadsOne, Pops}
use Rattle.promises.proofs.Runs.{stands-last}
use Rattle.promises.proofs.Reading.{front, with-handle}

-- a served answer is its value
done-value : (a : Answer) → code_of a ≡ 0 → a ≡ Ok (value_of a)
done-value (Ok v) ok = refl
done-value (Err why) ok = absurd (refusal-some why ok)

module _ (d s : List ℕ) (K : Lore) (r : Running (areas d s) K) (n : List ℕ) (long : 0 < length n) (handle : (K n).handle ≢ 0) (t : ℕ) where
  one-running : (i : ℕ) (buffer : List ℕ) (q : Page) → page t (K n).tape ≡ Some q → q.here ≡ true
      → q.start ≤ i * (K n).entry → (i + 1) * (K n).entry ≤ length q.content → (K n).entry ≤ length buffer
      → step (read_entry t (K n).handle i buffer) (areas d s)
      ≡ result 0 i (areas d s) (take (K n).entry (drop (i * (K n).entry) q.content) ++ drop (K n).entry buffer)
  unfolding step
  one-running i buffer q at here low high room =
      let h = r.holds n long in
      let e = (K n).entry in
      let inside : i * e + e ≤ length q.content = omega (arith, add-mul i 1 e, one-mul e) in
      ap (of_entering (areas d s))
      (entry-served d s n long r.orderly (K n).tape h.phys h.good h.seen (K n).handle e h.handled handle r.starts t i q at here low inside buffer room)
      ∙ ap (result 0 i (areas d s)) (front q.content buffer (i * e) e inside room)

  pop-running : (c buffer : List ℕ) → (K n).tape.writer ≡ cutting t c → 0 < length c / (K n).entry → (K n).tape.start ≤ (length c / (K n).entry - 1) * (K n).entry
      → (K n).entry ≤ length buffer
      → ((step (pop_entry t (K n).handle buffer) (areas d s)).code ≡ 0)
      × (((step (pop_entry t (K n).handle buffer) (areas d s)).value ≡ length c / (K n).entry - 1)
      × ((step (pop_entry t (K n).handle buffer) (areas d s)).buffer
      ≡ take (K n).entry (drop ((length c / (K n).entry - 1) * (K n).entry) c) ++ drop (K n).entry buffer))
  unfolding step
  pop-running c buffer writer there low room =
      let h = r.holds n long in
      let e = (K n).entry in
      let last = length c / e - 1 in
      let its = its-place (areas d s) K r n long handle in
      let up : (last + 1) * e ≡ length c / e * e = ap (λ (m : ℕ). m * e) (omega arith) in
      let inside : last * e + e ≤ length c = omega (arith, up, add-mul last 1 e, one-mul e, div-mul-le_self (length c) e) in
      let is = ap (of_popping d)
      (pop-served d s n long r.orderly (K n).tape h.phys h.good h.seen (K n).handle e h.handled handle r.starts t c writer there low buffer room its.place its.at) in (
        ap (λ (x : Result). x.code) is,
        (ap (λ (x : Result). x.value) is, ap (λ (x : Result). x.buffer) is ∙ front c buffer (last * e) e inside room),
      )

  pub put-running : (bs c : List ℕ) (here : Bool) (start : ℕ) → (K n).tape.writer ≡ appending t here c start
      → (step (append_entries t (K n).handle bs) (areas d s)).code ≡ 0 → (step (append_entries t (K n).handle bs) (areas d s)).value ≡ length c / (K n).entry
  unfolding step
  put-running bs c here start writer ok =
      let h = r.holds n long in
      put-answer d s n long r.orderly (K n).tape h.phys h.good h.seen (K n).handle (K n).entry h.handled handle t here c start writer bs _
      (done-value (put_call d s t (K n).handle bs).answer ok)

pub reads-one : ReadsOne
reads-one r n long t i buffer q handle =
    let a = ends r in
    one-running a.disk a.session (known r) (with-handle a (known r) n long handle (stands-last r)) n long handle t i buffer q

pub pops : Pops
pops r n long t c buffer handle =
    let a = ends r in
    pop-running a.disk a.session (known r) (with-handle a (known r) n long handle (stands-last r)) n long handle t c buffer
