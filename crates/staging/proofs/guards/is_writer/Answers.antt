-- Kinds are compared by cases. Assumes nothing.
use Rattle.std.proofs.Common.{◌≡◌, refl}
use denote.Enum.Bare.{sameb}
use Rattle.session.specs.contracts.transactions.Kind.{the_type}
use Rattle.session.specs.declared.transactions.Kind.{Kind}
use Rattle.session.specs.declared.transactions.Kind.TheVariants.{Closed, Reader, Append, Truncate}
use Rattle.staging.specs.Guards.{is_kind, writer_is}
use Rattle.staging.proofs.guards.is_writer.Goals as goal

by_cases : (a b : Kind) → sameb the_type a b ≡ is_kind b a
by_cases Closed Closed = refl
by_cases Closed Reader = refl
by_cases Closed Append = refl
by_cases Closed Truncate = refl
by_cases Reader Closed = refl
by_cases Reader Reader = refl
by_cases Reader Append = refl
by_cases Reader Truncate = refl
by_cases Append Closed = refl
by_cases Append Reader = refl
by_cases Append Append = refl
by_cases Append Truncate = refl
by_cases Truncate Closed = refl
by_cases Truncate Reader = refl
by_cases Truncate Append = refl
by_cases Truncate Truncate = refl

pub returns-then-eq : goal.returns-then-eq
unfolding writer_is
returns-then-eq c =
    let same = by_cases c.get_transaction-row.result.kind c.args.kind in
    rw (← c.get_transaction-row.ensures, ← same, ← c.eq.ensures, c.if-eq.true) refl

pub returns-else-eq : goal.returns-else-eq
unfolding writer_is
returns-else-eq c =
    let same = by_cases c.get_transaction-row.result.kind c.args.kind in
    rw (← c.get_transaction-row.ensures, ← same, ← c.eq.ensures, c.if-eq.false) refl
