-- A commit of areas that are in order is served: what it publishes makes a list that may be stored, which has every published tape just once, and the tapes
-- that it touched have their directories. What is left to refuse is the last epoch, and for an append that no slot is free. Assumes nothing.
use Rattle.std.specs.Prelude.{◌≡◌, ◌≢◌, Bool, Ok}
use Rattle.std.proofs.Math.Path.{refl, sym, ap}
use Rattle.std.proofs.Common.{◌∙◌, true≢false}
use Rattle.std.proofs.Math.Bool.{true, false}
use mathlib.Core.List.{List, []}
use Prim.Native.Nat.{ℕ, ◌+◌}
use native.Mathlib.Omega.{arith}
use borrow.Author.Tests.{eq-eqb, ne_eqb}
use Rattle.std.proofs.Math.ListN.{length}
use Rattle.octets.specs.Cases.{decide}
use Rattle.octets.specs.First.{count, count-le, count_same}
use Rattle.answers.specs.Outcome.{Outcome}
use Rattle.metadata.specs.Struct.{list_of, storable}
use Rattle.layout.specs.Names.{name}
use Rattle.layout.specs.Session.{names_at}
use Rattle.session.specs.Rows.{head_of}
use Rattle.beginning.specs.Transactions.{is_open_at}
use Rattle.staging.specs.Seeing.{writes, cuts}
use Rattle.appending.specs.Room.{no_room}
use Rattle.ending.specs.Checking.{is_published, is_whole, may_commit}
use Rattle.ending.specs.CommitLaws.{the_list}
use Rattle.ending.specs.CommitMeaning.{writes-cuts}
use Rattle.ending.specs.CommitWays.{append-served, truncate-served, commit-appends, commit-truncates}
use Rattle.ending.specs.Committing.{appended, truncated_by, commit_call}
use Rattle.ending.specs.Listing.{published, next_list}
use Rattle.ending.specs.ListingLaws.{next-storable}
use Rattle.seen.specs.Orderly.{Orderly, orderly-usable}
use Rattle.seen.specs.Proper.{Proper}
use Rattle.seen.specs.Kinds.{writes-open, cuts-open}
use Rattle.seen.specs.Rooms.{all_there_lem}
use Rattle.seen.specs.Lists.{behind-none, published-apart, published-named}
use Rattle.ended.specs.Commitable.{is_behind, as_many, Bounded}

-- ---- what is checked before a commit

module _ (d s : List ℕ) (o : Orderly d s) (running : is_open_at s 16 ≡ true) (cut : Bool) where
  list-whole : is_whole s cut (the_list s cut) ≡ true
  unfolding is_whole list_of
  list-whole =
      eq-eqb (length (next_list s cut)) (count (is_published s cut) 8 0)
      (as_many s cut (published-apart d s o running cut) 8 [] (count-le (is_behind s cut []) 8 0)
      ∙ count_same (is_behind s cut []) (is_published s cut) 8 0
      (λ p a b.
      decide (published s cut p).listed
      (λ (listed : (published s cut p).listed ≡ true). rw (listed, behind-none (name s names_at p) (published-named d s o running cut p (omega arith) listed)))
      (λ (unlisted : (published s cut p).listed ≡ false). rw unlisted)))

  module _ (proper : Proper d s) (more : (head_of s).epoch ≢ 0xffff_ffff_ffff_ffff)
      (bounded : Bounded s cut) where
    list-storable : storable (the_list s cut) ≡ true
    list-storable =
        next-storable s cut (λ p low listed. record { rule = proper.rule p low (published-named d s o running cut p low listed); inside = bounded p low listed })

    may-commit : may_commit d s cut (the_list s cut) ≡ Ok ((head_of s).epoch + 1)
    unfolding may_commit
    may-commit = rw (list-whole, list-storable, ne_eqb (head_of s).epoch 0xffff_ffff_ffff_ffff more, all_there_lem d s o)

-- ---- the calls

module _ (d s : List ℕ) (k : ℕ) (o : Orderly d s) (proper : Proper d s) (more : (head_of s).epoch ≢ 0xffff_ffff_ffff_ffff) where
  pub commit-append-serves : writes s k ≡ true → no_room d s 8 0 ≡ false → Bounded s false → (commit_call d s k).answer ≡ Ok ((head_of s).epoch + 1)
  unfolding appended
  commit-append-serves w room bounded =
      ap (λ (r : Outcome). r.answer)
      (commit-appends d s k (orderly-usable d s o) w
      ∙ append-served d s (the_list s false) refl _ (may-commit d s o (writes-open s k w) false proper more bounded) room)

  pub commit-truncate-serves : cuts s k ≡ true → Bounded s true → (commit_call d s k).answer ≡ Ok ((head_of s).epoch + 1)
  unfolding truncated_by
  commit-truncate-serves c bounded =
      let other : writes s k ≡ false
      = decide (writes s k) (λ (w : writes s k ≡ true). absurd (true≢false (sym c ∙ writes-cuts s k w))) (λ f. f) in
      ap (λ (r : Outcome). r.answer)
      (commit-truncates d s k (orderly-usable d s o) other c
      ∙ truncate-served d s (the_list s true) refl _ (may-commit d s o (cuts-open s k c) true proper more bounded))
