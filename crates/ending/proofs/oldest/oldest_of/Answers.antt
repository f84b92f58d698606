use Rattle.std.specs.Prelude.{Option, Some, None, unwrap_or}
use Rattle.std.proofs.Common.{◌≡◌, refl, sym, ap, rules, ◌∙◌, true, false, List, [], ◌∷◌, ℕ, suc, ◌+◌, ◌-◌, ◌<◌, arith}
use Rattle.components.specs.Epochs.{least, oldest_other}
use Rattle.session.specs.Rows.{head_of, transaction_of}
use Rattle.session.specs.declared.head.Head.{Head}
use Rattle.beginning.specs.Transactions.{is_open_at}
use Rattle.ending.specs.Oldest.{epochs_from, oldest_of}
use Rattle.ending.proofs.oldest.oldest_of.Invariants.{older_of, oldest_with}
use Rattle.session.specs.declared.transactions.Transaction.{Transaction}
use Rattle.ending.proofs.oldest.oldest_of.Goals as goal
use Rattle.ending.proofs.oldest.oldest_of.Goals.{then-is_open, else-is_open}

-- one more epoch in front
with-one : (own e : ℕ) (oldest : Option ℕ) (es : List ℕ) → oldest_with own (Some (older_of oldest e)) es ≡ oldest_with own oldest (e ∷ es)
unfolding least oldest_other
with-one own e None es = refl
with-one own e (Some d) [] = refl
with-one own e (Some d) (f ∷ es) = omega arith

module _ (s : List ℕ) (place : ℕ) (more : place < 16) where
  epochs-here : is_open_at s place ≡ true → epochs_from s (16 - place) place ≡ (transaction_of s place).epoch ∷ epochs_from s (16 - (place + 1)) (place + 1)
  unfolding epochs_from
  epochs-here e =
      let k : 16 - place ≡ suc (16 - (place + 1)) = omega arith in
      rw (k, e)

  epochs-not : is_open_at s place ≡ false → epochs_from s (16 - place) place ≡ epochs_from s (16 - (place + 1)) (place + 1)
  unfolding epochs_from
  epochs-not e =
      let k : 16 - place ≡ suc (16 - (place + 1)) = omega arith in
      rw (k, e)

-- none is left
at-end : (own : ℕ) (oldest : Option ℕ) → unwrap_or oldest (own + 1) ≡ oldest_with own oldest []
unfolding oldest_other least
at-end own None = refl
at-end own (Some d) = refl

pub loop-place-preserved : goal.loop-place-preserved
loop-place-preserved c =
    let s = c.args.session.now in
    let i = c.loop-place.place in
    let v = c.loop-place.invariant in
    elim c.if-is_open.branch [
      | then-is_open w ↦
          let here = epochs-here s i c.loop-place-test.true (sym c.is_open.ensures ∙ w.if-is_open.true) in
          let e : w.get_transaction-epoch.result.epoch ≡ (transaction_of s i).epoch = ap (λ (t : Transaction). t.epoch) w.get_transaction-epoch.ensures in
          let least : w.map_or.result ≡ older_of c.loop-place.oldest w.get_transaction-epoch.result.epoch = search rules in
          record {
            within = omega arith;
            rest = rw (w.oldest-is, least, e) (with-one (head_of s).epoch (transaction_of s i).epoch c.loop-place.oldest _ ∙ rw here at v.rest);
          }
      | else-is_open w ↦
          let here = epochs-not s i c.loop-place-test.true (sym c.is_open.ensures ∙ w.if-is_open.false) in
          record { within = omega arith; rest = rw w.oldest-is (rw here at v.rest) }
    ]

pub returns : goal.returns
unfolding oldest_of epochs_from
returns c =
    let s = c.args.session.now in
    let none : c.loop-place.place ≡ 16 = omega arith in
    let own : c.get_head.result.epoch ≡ (head_of s).epoch = ap (λ (h : Head). h.epoch) c.get_head.ensures in
    c.unwrap_or.ensures ∙ ap (λ (n : ℕ). unwrap_or c.loop-place.oldest (n + 1)) own ∙ at-end (head_of s).epoch c.loop-place.oldest ∙ rw none at c.loop-place.invariant.rest
