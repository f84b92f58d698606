-- An open keeps `Proper`: it alone gives a tape a name, which keeps the rule, and it makes the directory. Assumes nothing.
use Rattle.std.specs.Prelude.{◌≡◌, ◌≢◌, true, false, List, ℕ, ◌<◌, ◌^◌}
use Rattle.std.proofs.Common.{sym, ap, ◌∙◌, true≢false, arith}
use Rattle.octets.specs.Cases.{decide, equal}
use Rattle.octets.specs.Compare.{same_bytes, same_true, same_refl}
use Rattle.octets.specs.Number.{Bytes}
use Rattle.answers.specs.Answers.{code_of}
use Rattle.layout.specs.Names.{name}
use Rattle.layout.specs.Session.{names_at}
use Rattle.session.specs.Rows.{view_of}
use Rattle.opening.specs.Calls.{open_call}
use Rattle.opening.specs.Laws.{open-refused}
use Rattle.seen.specs.Orderly.{Orderly}
use Rattle.seen.specs.Proper.{Proper}
use Rattle.opened.specs.OpensServed.{ServedOpen, open-served}
use Rattle.seen.specs.ProperLaws.{listed-named}

module _ (d s : List ℕ) (o : Orderly d s) where
  module _ (t : ℕ) (wanted : List ℕ) (entry fs cache start : ℕ) (new : Bytes wanted) (small : start < 2 ^ 64) where
    abbrev e : List ℕ
    e = (open_call d s t wanted entry fs cache start).disk

    abbrev u : List ℕ
    u = (open_call d s t wanted entry fs cache start).session

    opened-proper : ServedOpen d s t wanted entry fs cache start e u → Proper d s → Proper e u
    opened-proper sv proper =
        let rows = sv.rows in
        let place = sv.place in
        record {
          rule = λ p low some.
              equal p place
              (λ (at : p ≡ place). rw (at, rows.own_name) sv.shaped.named)
              (λ (apart : p ≢ place). let same = rows.names p low apart in rw same (proper.rule p low (rw same at some)));
          unreserved = λ p low some.
              equal p place
              (λ (at : p ≡ place). rw (at, rows.own_name) sv.shaped.other)
              (λ (apart : p ≢ place). let same = rows.names p low apart in rw same (proper.unreserved p low (rw same at some)));
          housed = λ p low listed.
              equal p place
              (λ (at : p ≡ place). rw (at, rows.own_name, sv.readied.found))
              (λ (apart : p ≢ place).
              let was : (view_of s 17 p).listed ≡ true = rw (rows.views 17 p (omega arith) low) at listed in
              let n = name s names_at p in
              rw (rows.names p low apart)
              (decide (same_bytes n wanted)
              (λ (same : same_bytes n wanted ≡ true). rw (same_true n wanted same, sv.readied.found))
              (λ (other : same_bytes n wanted ≡ false).
              rw (sv.readied.names n (λ same. true≢false (sym (ap (λ (x : List ℕ). same_bytes x wanted) same ∙ same_refl wanted) ∙ other)) (listed-named d s o p low was))
              (proper.housed p low was))));
        }

    pub open-proper : Proper d s → Proper e u
    open-proper proper =
        equal (code_of (open_call d s t wanted entry fs cache start).answer) 0
        (λ (served : code_of (open_call d s t wanted entry fs cache start).answer ≡ 0).
        opened-proper (open-served d s t wanted entry fs cache start o new small served) proper)
        (λ (no : code_of (open_call d s t wanted entry fs cache start).answer ≢ 0).
        let same = open-refused d s t wanted entry fs cache start no in
        rw (same.0, same.1) proper)
