-- A commit and a drop keep `Proper`: no directory is taken away, what a commit lists was listed, or is open and has its directory, and what a dropped append had
-- named was not listed. Assumes nothing.
use Rattle.std.specs.Prelude.{◌≡◌, ◌≢◌, Bool, true, false, cond, eqb, Option, Some, None}
use Rattle.std.proofs.Math.Path.{refl, ap}
use Rattle.std.proofs.Common.{sym, ◌∙◌, true≢false, arith, eqb-true}
use mathlib.Core.List.{List, []}
use Prim.Native.Nat.{ℕ, ◌≤◌, ◌<◌}
use Rattle.std.proofs.Math.ListN.{length}
use Rattle.octets.specs.Cases.{decide, equal, picked}
use Rattle.octets.specs.Only.{OnlyIn, only_none, only_then, only_wider}
use Rattle.octets.specs.Sweep.{sweep, sweep-keeps}
use Rattle.answers.specs.Answers.{code_of}
use Rattle.layout.specs.Disk as D
use Rattle.layout.specs.Names.{letters, name, put_name}
use Rattle.layout.specs.NamesLaws.{letters-only, name-only, name-put_name, only-put_name}
use Rattle.layout.specs.Session.{names_at, Begun}
use Rattle.session.specs.Meaning.{closed, no_handle, no_ring, untouched}
use Rattle.session.specs.Rows.{view_of, transaction_of, put_transaction, put_handle, put_ring}
use Rattle.session.specs.RowLaws.{view-only, only-put_transaction, only-put_handle, only-put_ring, only-put_staged}
use Rattle.session.specs.declared.views.View.{View}
use Rattle.rolling_tape.specs.Room.{is_found}
use Rattle.rolling_tape.specs.TrackingLaws.{only-retracked}
use Rattle.rolling_tape.specs.declared.tracking.Change.TheVariants.{UntrackAll}
use Rattle.beginning.specs.Transactions.{After, is_open_at}
use Rattle.staging.specs.Seeing.{directory_of, is_append, cuts}
use Rattle.ending.specs.CommitLaws.{commit-refused}
use Rattle.ending.specs.CommitMeaning.{commit-published}
use Rattle.ending.specs.Committing.{commit_call}
use Rattle.ending.specs.DropLaws.{drop-cases, begun-take_back}
use Rattle.ending.specs.Dropping.{reverted, untrack_in, forgotten, take_back, drop_append, drop_at, drop_transaction_call}
use Rattle.ending.specs.Listing.{is_touched, published}
use Rattle.ending.specs.StepLaws.{touched-held}
use Rattle.ending.specs.Steps.{unstage, close_writer}
use Rattle.ending.specs.CutLaws.{only-close_writer}
use Rattle.touches.specs.Commits.{commit-touches-session, commit-touches-disk, commit-leaves-session, commit-leaves-disk}
use Rattle.touches.specs.Drops.{drop-transaction-leaves}
use Rattle.touches.specs.Parts.{stays_within}
use Rattle.seen.specs.Orderly.{Orderly}
use Rattle.seen.specs.Proper.{Proper}
use Rattle.seen.specs.Lists.{commit-open}
use Rattle.seen.specs.Transactions.{found-transaction}
use Rattle.seen.specs.ProperLaws.{NamesLeft, names_same, proper-left, folders-stay, tapes-stay, list-stays}

-- ---- a commit: what it lists was listed, or is open

module _ (d s : List ℕ) (o : Orderly d s) where
  module _ (k : ℕ) where
    abbrev f : List ℕ
    f = (commit_call d s k).disk

    abbrev v : List ℕ
    v = (commit_call d s k).session

    published-housed : is_open_at s 16 ≡ true → (cut : Bool) (p : ℕ) → p < 8 → Proper d s → (published s cut p).listed ≡ true → is_found (directory_of d s p) ≡ true
    unfolding published
    published-housed running cut p low proper listed =
        decide (is_touched s p)
        (λ (t : is_touched s p ≡ true). o.folder p low (touched-held s p t))
        (λ (t : is_touched s p ≡ false). proper.housed p low (rw (t, o.writer-view running p low) at listed))

    committed-proper : code_of (commit_call d s k).answer ≡ 0 → Proper d s → Proper f v
    committed-proper served proper =
        let long : length v ≡ length s = (commit-touches-session d s k).long in
        let same : (p : ℕ) → p < 8 → name v names_at p ≡ name s names_at p = tapes-stay d s f v o long (commit-leaves-session d s k).names-stay in
        let folder = folders-stay d s f v o (commit-touches-disk d s k).long (commit-leaves-disk d s k).directories-stay in
        record {
          rule = λ p low some. rw (same p low) (proper.rule p low (rw (same p low) at some));
          unreserved = λ p low some. rw (same p low) (proper.unreserved p low (rw (same p low) at some));
          housed = λ p low listed.
              let list = (commit-published d s o.session-bytes k served).list p low in
              rw (same p low, folder (name s names_at p)) (published-housed (commit-open d s k served) (cuts s k) p low proper (rw list at listed));
        }

    pub commit-proper : Proper d s → Proper f v
    commit-proper proper =
        equal (code_of (commit_call d s k).answer) 0 (λ (served : code_of (commit_call d s k).answer ≡ 0). committed-proper served proper)
        (λ (no : code_of (commit_call d s k).answer ≢ 0).
        let same = commit-refused d s k no in
        rw (same.0, same.1) proper)

-- ---- a transaction dropped: an append's new tapes lose their names, and those are not listed

-- so far: names and the writer's view
record Dropped (s u : List ℕ) : Type 0 where
  begun : Begun u
  view : (p : ℕ) → p < 8 → view_of u 16 p ≡ view_of s 16 p
  kept : (p : ℕ) → p < 8 → (view_of s 16 p).listed ≡ true → name u names_at p ≡ name s names_at p
  left : (p : ℕ) → p < 8 → 0 < length (name u names_at p) → name u names_at p ≡ name s names_at p

module _ (d s : List ℕ) (sound : D.Sound d) (j : ℕ) (low : j < 8) (u : List ℕ) (at : Dropped s u) where
  -- a step in the rows of the tapes, or behind them
  above : (x : List ℕ) → OnlyIn 4168 5960 u x → (p : ℕ) → p < 8 → name x names_at p ≡ name u names_at p
  above x only p l = name-only 4168 5960 u x names_at only p (λ q. omega arith) (at.begun.names.short p l)

  dropped-above : (x : List ℕ) → OnlyIn 4168 5960 u x → Begun x → Dropped s x
  dropped-above x only begun =
      record {
        begun = begun;
        view = λ p l. view-only 4168 5960 u x only 16 p (λ q. omega arith) ∙ at.view p l;
        kept = λ p l listed. above x only p l ∙ at.kept p l listed;
        left = λ p l some. above x only p l ∙ at.left p l (rw (above x only p l) at some);
      }

  only-unstage : OnlyIn 4168 5960 u (unstage j u)
  unfolding unstage
  only-unstage = only_wider _ _ 4168 5960 u _ (omega arith) (omega arith) (only-put_staged u j untouched)

  only-reverted : OnlyIn 4168 5960 u (reverted j u)
  unfolding reverted
  only-reverted = only_then 4168 5960 u (unstage j u) _ only-unstage (only_wider _ _ 4168 5960 (unstage j u) _ (omega arith) (omega arith) (only-put_ring (unstage j u) j _))

  only-untrack : (x : List ℕ) (f : Option ℕ) → OnlyIn 4168 5960 x (untrack_in d x f)
  only-untrack x (Some place) = only_wider _ _ 4168 5960 x _ (omega arith) (omega arith) (only-retracked d x place UntrackAll sound.head.few)
  only-untrack x None = only_none 4168 5960 x

  -- all but the name
  abbrev unnamed : List ℕ
  unnamed = put_ring (put_handle (untrack_in d (unstage j u) (directory_of d u j)) j no_handle) j no_ring

  only-unnamed : OnlyIn 4168 5960 u unnamed
  only-unnamed =
      let a = unstage j u in
      let b = untrack_in d a (directory_of d u j) in
      let c = put_handle b j no_handle in
      only_then 4168 5960 u a unnamed only-unstage
      (only_then 4168 5960 a b unnamed (only-untrack a (directory_of d u j))
      (only_then 4168 5960 b c unnamed (only_wider _ _ 4168 5960 b c (omega arith) (omega arith) (only-put_handle b j no_handle))
      (only_wider _ _ 4168 5960 c unnamed (omega arith) (omega arith) (only-put_ring c j no_ring))))

  dropped-forgotten : (view_of u 16 j).listed ≡ false → Begun (forgotten d j u) → Dropped s (forgotten d j u)
  unfolding forgotten
  dropped-forgotten unlisted begun =
      let x = put_name unnamed names_at j [] in
      let only = only-put_name unnamed names_at j [] (omega arith) in
      let short : (p : ℕ) → p < 8 → letters unnamed names_at p ≤ 24
      = λ p l. rw (letters-only 4168 5960 u unnamed names_at only-unnamed p (λ q. omega arith)) (at.begun.names.short p l) in
      let beside : (p : ℕ) → p < 8 → p ≢ j → name x names_at p ≡ name u names_at p
      = λ p l apart. name-only _ _ unnamed x names_at only p (λ q. omega arith) (short p l) ∙ above unnamed only-unnamed p l in
      record {
        begun = begun;
        view = λ p l. view-only _ _ unnamed x only 16 p (λ q. omega arith) ∙ view-only 4168 5960 u unnamed only-unnamed 16 p (λ q. omega arith) ∙ at.view p l;
        kept = λ p l listed.
            equal p j
            (λ (e : p ≡ j). absurd (true≢false (sym listed ∙ ap (λ (w : View). w.listed) (sym (at.view p l)) ∙ ap (λ (q : ℕ). (view_of u 16 q).listed) e ∙ unlisted)))
            (λ (apart : p ≢ j). beside p l apart ∙ at.kept p l listed);
        left = λ p l some.
            equal p j
            (λ (e : p ≡ j).
            let none : name x names_at j ≡ [] = name-put_name unnamed names_at j [] (omega (arith, only-unnamed.long, at.begun.long)) low (omega arith) in
            absurd (omega (arith, ap (λ (q : ℕ). length (name x names_at q)) e ∙ ap length none)))
            (λ (apart : p ≢ j). beside p l apart ∙ at.left p l (rw (beside p l apart) at some));
      }

  dropped-back : Begun (take_back d j u) → Dropped s (take_back d j u)
  unfolding take_back
  dropped-back =
      let P : List ℕ → Type 0 = λ x. Begun x → Dropped s x in
      picked P (is_touched u j) (cond (view_of u 16 j).listed (reverted j u) (forgotten d j u)) u
      (λ t. picked P (view_of u 16 j).listed (reverted j u) (forgotten d j u) (λ l. dropped-above (reverted j u) only-reverted) (λ l. dropped-forgotten l))
      (λ t begun. at)

  dropped-one : Dropped s (take_back d j u)
  dropped-one = dropped-back (begun-take_back d u sound at.begun j low)

module _ (d s : List ℕ) (o : Orderly d s) where
  names-append : is_open_at s 16 ≡ true → NamesLeft s (drop_append d s)
  unfolding drop_append
  names-append running =
      let first : Dropped s s = record { begun = o.session; view = λ p l. refl; kept = λ p l listed. refl; left = λ p l some. refl } in
      let u = sweep (take_back d) 8 0 s in
      let then = sweep-keeps (λ (x : List ℕ). Dropped s x) (take_back d) 8 0 s (λ j x l m at. dropped-one d s o.disk j (omega arith) x at) first in
      let end : (p : ℕ) → p < 8 → name (close_writer u) names_at p ≡ name u names_at p
      = λ p l. name-only _ _ u (close_writer u) names_at (only-close_writer u) p (λ q. omega arith) (then.begun.names.short p l) in
      record {
        kept = λ p l listed. end p l ∙ then.kept p l (rw (o.writer-view running p l) listed);
        left = λ p l some. end p l ∙ then.left p l (rw (end p l) at some);
      }

  names-low : (low high : ℕ) (u : List ℕ) → OnlyIn low high s u → 304 ≤ low → NamesLeft s u
  names-low low high u only l = names_same s u (λ p m. name-only low high s u names_at only p (λ q. omega arith) (o.session.names.short p m))

  names-drop_at : (t : ℕ) → (t ≡ 16 → is_open_at s 16 ≡ true) → NamesLeft s (drop_at d s t)
  unfolding drop_at
  names-drop_at t running =
      picked (NamesLeft s) (eqb t 16) (cond (is_append (transaction_of s 16).kind) (drop_append d s) (close_writer s)) (put_transaction s t closed)
      (λ e.
      picked (NamesLeft s) (is_append (transaction_of s 16).kind) (drop_append d s) (close_writer s) (λ a. names-append (running (eqb-true t 16 e)))
      (λ a. names-low _ _ (close_writer s) (only-close_writer s) (omega arith)))
      (λ e. names-low _ _ (put_transaction s t closed) (only-put_transaction s t closed) (omega arith))

  names-drop : (n : ℕ) → NamesLeft s (drop_transaction_call d s n).session
  names-drop n =
      drop-cases (λ (a : After). NamesLeft s a.session) d s n (λ why. names_same s s (λ p l. refl))
      (λ t ok found. names-drop_at t (λ e. ap (is_open_at s) (sym e) ∙ (found-transaction s n t found).opened))

  pub drop-transaction-proper : (n : ℕ) → Proper d s → Proper d (drop_transaction_call d s n).session
  drop-transaction-proper n =
      let u = (drop_transaction_call d s n).session in
      proper-left d s d u (λ m. refl) (list-stays d s d u o (stays_within 304 3760 _ _ s u (drop-transaction-leaves d s n).views-stay (omega arith) (omega arith))) (names-drop n)
