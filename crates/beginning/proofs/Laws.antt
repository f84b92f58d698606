-- Laws of `append`: what holds of each way out holds of the call; a refused one changes nothing, and a served one keeps the session's rule and its bytes, and
-- means a transaction more. Assumes nothing.
use Rattle.std.specs.Prelude.{◌≡◌, refl, ◌≢◌, true, false, List, ℕ}
use Rattle.std.proofs.Common.{sym, subst, ◌∙◌, true≢false, arith}
use Rattle.octets.specs.Cases.{decide, order}
use Rattle.octets.specs.Number.{Bytes}
use Rattle.answers.specs.Answers.{code_of}
use Rattle.answers.specs.declared.Refusal.{Refusal}
use Rattle.answers.specs.declared.Refusal.TheVariants.{Unusable, WriterOpen, Wait}
use Rattle.layout.specs.Session.{begun}
use Rattle.layout.specs.SessionLaws.{begun→, →begun}
use Rattle.session.specs.declared.transactions.Kind.TheVariants.{Append}
use Rattle.session.specs.Rows.{head_of}
use Rattle.session.specs.Meaning.{session_of}
use Rattle.beginning.specs.Transactions.{After, refused, usable, is_open_at, begin_at}
use Rattle.beginning.specs.Calls.{waits, append_call}
use Rattle.beginning.specs.Ways.{append-unusable, append-open, append-uncut, append-waits, append-alone}
use Rattle.beginning.specs.Laws.{refusal-some, begun_in, begun-begun_at, bytes-begun_at, MayBegin, begun_after, begin-cases, may-long, means}

-- ---- what holds of each way out holds of the call

module _ (P : After → Type 0) (d s : List ℕ) (stays : (why : Refusal) → P (refused why s)) where
  -- an append begins where nobody is waited for
  pub append_cases : (MayBegin d s 16 → ((head_of s).cut ≡ true → waits s ≡ 0) → P (begun_after s 16 Append)) → P (append_call d s)
  append_cases goes =
      let go : usable d s ≡ true → is_open_at s 16 ≡ false → ((head_of s).cut ≡ true → waits s ≡ 0) → P (begin_at s 16 Append)
      = λ ok f alone. begin-cases P s 16 Append stays (λ h. goes (record { areas = ok; place = omega arith; free = f; number = h }) alone) in
      decide (usable d s)
      (λ ok.
      decide (is_open_at s 16)
      (λ o. subst P (sym (append-open d s ok o)) (stays WriterOpen))
      (λ f.
      decide (head_of s).cut
      (λ cut.
      order 0 (waits s)
      (λ some. subst P (sym (append-waits d s ok f cut some)) (stays (Wait (waits s))))
      (λ none. subst P (sym (append-alone d s ok f cut none)) (go ok f (λ q. omega arith))))
      (λ uncut. subst P (sym (append-uncut d s ok f uncut)) (go ok f (λ q. absurd (true≢false (sym q ∙ uncut)))))))
      (λ bad. subst P (sym (append-unusable d s bad)) (stays Unusable))

-- ---- a refused call changes nothing

module _ (d s : List ℕ) where
  pub append-refused : code_of (append_call d s).answer ≢ 0 → (append_call d s).session ≡ s
  append-refused = append_cases (λ o. code_of o.answer ≢ 0 → o.session ≡ s) d s (λ why r. refl) (λ may alone r. absurd (r refl))

-- ---- a session that keeps the rule keeps it, served or refused; and its bytes stay bytes

module _ (d s : List ℕ) where
  pub append-begun : begun s ≡ true → begun (append_call d s).session ≡ true
  append-begun b =
      append_cases (λ o. begun o.session ≡ true) d s (λ why. b)
      (λ may alone. →begun _ (begun-begun_at s 16 Append (omega arith) (begun→ s b) (λ l. omega arith) (λ e q. omega arith)))

  pub append-bytes : Bytes s → Bytes (append_call d s).session
  append-bytes b = append_cases (λ o. Bytes o.session) d s (λ why. b) (λ may alone. bytes-begun_at s 16 Append (omega arith) (may-long d s may) b)

-- ---- what a served call means

module _ (d s : List ℕ) (bytes : Bytes s) where
  pub append-means : code_of (append_call d s).answer ≡ 0 → session_of (append_call d s).session ≡ begun_in (session_of s) 16 Append
  append-means =
      append_cases (λ o. code_of o.answer ≡ 0 → session_of o.session ≡ begun_in (session_of s) 16 Append) d s
      (λ why e. absurd (refusal-some why e)) (λ may alone e. means d s bytes 16 Append may)
