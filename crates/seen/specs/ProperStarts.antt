-- A `store` that is served keeps `Proper`: its names are those of the list that it read, and the session before had listed each of them. On an empty disk
-- there is no name at all. Assumes nothing.
use Rattle.std.specs.Prelude.{◌≡◌, refl, true, false, ◌&&◌, List, [], ◌∷◌, ℕ, zero, suc, ◌<◌, leb, length, Option, Some, None, slice_get}
use Rattle.std.proofs.Common.{sym, ◌∙◌, true≢false, arith}
use Rattle.std.proofs.Math.Path.{ap}
use Rattle.std.proofs.lemmas.Bool.{false≢true}
use Rattle.octets.specs.Cases.{decide, and_l, and_r}
use Rattle.octets.specs.Compare.{same_bytes, same_refl, comes_before}
use Rattle.octets.specs.Number.{Bytes}
use Rattle.answers.specs.Answers.{code_of}
use Rattle.metadata.specs.Choice.{chosen_list}
use Rattle.metadata.specs.Name.{name_rule}
use Rattle.metadata.specs.Decoding.{tapes}
use Rattle.metadata.specs.Rules.{good-first, good_others, good-tapes}
use Rattle.metadata.specs.Tapes.{Tape, fits, good_after}
use Rattle.layout.specs.Names.{name}
use Rattle.layout.specs.NamesLaws.{name-low}
use Rattle.layout.specs.Session.{names_at}
use Rattle.disk.specs.Meaning.{blank, disk_of}
use Rattle.session.specs.BeginLaws.{name_of, view_for}
use Rattle.session.specs.Rows.{view_of}
use Rattle.session.specs.declared.views.View.{View}
use Rattle.opening.specs.ShapeLaws.{name-some}
use Rattle.beginning.specs.Sessions.{the_record, store_call}
use Rattle.beginning.specs.StoreLaws.{list-good}
use Rattle.restarts.specs.Level.{store-reads}
use Rattle.lives.specs.Life as Life
use Rattle.seen.specs.Seen.{place_of, view_in}
use Rattle.seen.specs.Orderly.{listed_as, Orderly}
use Rattle.seen.specs.Proper.{Proper}
use Rattle.seen.specs.Places.{found_name}
use Rattle.seen.specs.Shown.{shown-keeps}
use Rattle.seen.specs.Restarts.{same-list, name-stored, list-stored, named-tape, list-says}
use Rattle.seen.specs.Formats.{blank-seen}

-- ---- the tapes of a list that may be stored: each keeps the rule, and the list has its name

fits-rule : (before : List ℕ) (t : Tape) → fits before t ≡ true → name_rule t.name ≡ true
unfolding fits
fits-rule before t e = and_l (name_rule t.name) (leb t.start t.len) (and_r (comes_before before t.name) (name_rule t.name && leb t.start t.len) e)

rule-in : (before : List ℕ) (ts : List Tape) → good_after before ts ≡ true → (i : ℕ) (t : Tape) → slice_get ts i ≡ Some t → name_rule t.name ≡ true
rule-in before [] good i t e = let z : ◌≡◌ {A = ℕ} 0 1 = cc in absurd (omega arith)
rule-in before (x ∷ xs) good zero t e = let same : x ≡ t = cc in rw (← same) (fits-rule before x (good-first before x xs good))
rule-in before (x ∷ xs) good (suc i) t e = rule-in x.name xs (good_others before x xs good) i t e

listed_in : (ts : List Tape) (i : ℕ) (t : Tape) → slice_get ts i ≡ Some t → (listed_as t.name ts).listed ≡ true
unfolding listed_as
listed_in [] i t e = let z : ◌≡◌ {A = ℕ} 0 1 = cc in absurd (omega arith)
listed_in (x ∷ xs) zero t e = let same : x ≡ t = cc in rw (same, same_refl t.name)
listed_in (x ∷ xs) (suc i) t e =
    decide (same_bytes x.name t.name)
    (λ (hit : same_bytes x.name t.name ≡ true). rw hit)
    (λ (miss : same_bytes x.name t.name ≡ false). rw miss (listed_in xs i t e))

-- ---- the names after a store

module _ (d area : List ℕ) (bytes : Bytes d) (served : code_of (store_call d area).answer ≡ 0) where
  abbrev u : List ℕ
  u = (store_call d area).session

  abbrev ts : List Tape
  ts = (store-reads d area served).list

  read : chosen_list (the_record d) ≡ tapes ts
  read = (store-reads d area served).is

  -- the list has the name in place p
  record Listed (p : ℕ) : Type 0 where
    named : 0 < length (name u names_at p)
    listed : (listed_as (name u names_at p) ts).listed ≡ true

  tape-listed : (p : ℕ) → p < 8 → (t : Tape) → slice_get ts p ≡ Some t → Listed p
  tape-listed p low t e =
      let has : name u names_at p ≡ t.name = name-stored d area bytes served p low ∙ ap name_of e in
      record {
        named = rw has (name-some t.name (rule-in [] ts (good-tapes ts (list-good (the_record d) ts read)) p t e));
        listed = rw has (listed_in ts p t e);
      }

  named-listed : (p : ℕ) → p < 8 → 0 < length (name u names_at p) → Listed p
  named-listed p low long = let it = named-tape d area bytes served p low long in tape-listed p low it.tape it.at

  seen-listed : (p : ℕ) → p < 8 → (view_of u 17 p).listed ≡ true → Listed p
  seen-listed p low listed = by (slice_get ts p) refl
    where
      by : (o : Option Tape) → slice_get ts p ≡ o → Listed p
      by None e = absurd (true≢false (sym listed ∙ ap (λ (v : View). v.listed) (list-stored d area bytes served p low ∙ ap view_for e)))
      by (Some t) e = tape-listed p low t e

  -- ---- a session ran before, in s; area is whatever is then lent as the session: the same, or another

  module _ (s : List ℕ) (o : Orderly d s) where
    -- where the session before had it
    record Was (n : List ℕ) : Type 0 where
      place : ℕ
      low : place < 8
      same : name s names_at place ≡ n
      listed : (view_of s 17 place).listed ≡ true

    was : (p : ℕ) → Listed p → Was (name u names_at p)
    was p st = by (place_of s n) refl
      where
        n : List ℕ
        n = name u names_at p

        lists : ts ≡ o.recorded.list
        lists = same-list (chosen_list (the_record d)) ts o.recorded.list read o.recorded.read

        word : (view_in s 17 (place_of s n)).listed ≡ true
        word =
            ap (λ (v : View). v.listed) (sym (o.recorded.says n st.named))
            ∙ ap (λ (l : List Tape). (listed_as n l).listed) (sym lists)
            ∙ st.listed

        by : (f : Option ℕ) → place_of s n ≡ f → Was n
        by (Some q) e =
            record {
              place = q;
              low = name-low s names_at n q e;
              same = found_name s names_at n q e;
              listed = sym (shown-keeps (view_of s 17 q)) ∙ (sym (ap (λ (f : Option ℕ). (view_in s 17 f).listed) e) ∙ word);
            }
        by None e = absurd (false≢true (sym (ap (λ (f : Option ℕ). (view_in s 17 f).listed) e) ∙ word))

    names-proper : Proper d s → Proper d (store_call d area).session
    names-proper proper =
        record {
          rule = λ p low Some.
              let w = was p (named-listed p low Some) in
              rw w.same at (proper.rule w.place w.low (rw w.same Some));
          unreserved = λ p low Some.
              let w = was p (named-listed p low Some) in
              rw w.same at (proper.unreserved w.place w.low (rw w.same Some));
          housed = λ p low listed.
              let w = was p (seen-listed p low listed) in
              rw w.same at (proper.housed w.place w.low w.listed);
        }

  -- ---- an empty disk

  module _ (k : ℕ) (empty : disk_of d ≡ blank k) where
    none-listed : {A : Type 0} → (p : ℕ) → Listed p → A
    unfolding Life.blank
    none-listed p st =
        absurd
        (true≢false
        (sym st.listed
        ∙ ap (λ (v : View). v.listed) (list-says d area bytes served (name u names_at p) st.named ∙ (blank-seen d k empty area bytes served (name u names_at p) st.named).list)))

    none-proper : Proper d (store_call d area).session
    none-proper =
        record {
          rule = λ p low Some. none-listed p (named-listed p low Some);
          unreserved = λ p low Some. none-listed p (named-listed p low Some);
          housed = λ p low listed. none-listed p (seen-listed p low listed);
        }

-- ---- the calls

pub store-proper : (d s : List ℕ) → Orderly d s → Proper d s → (area : List ℕ) → code_of (store_call d area).answer ≡ 0 → Proper d (store_call d area).session
store-proper d s o proper area served = names-proper d area o.disk-bytes served s o proper

pub blank-proper : (d : List ℕ) (k : ℕ) → disk_of d ≡ blank k → Bytes d → (area : List ℕ) → code_of (store_call d area).answer ≡ 0 → Proper d (store_call d area).session
blank-proper d k empty bytes area served = none-proper d area bytes served k empty
