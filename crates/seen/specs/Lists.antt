-- The list that a commit writes says of every name what the session then says; and what leaves the record, the epoch and the list leaves that so. Assumes
-- nothing.
use Rattle.std.specs.Prelude.{◌≡◌, Bool, true, false, ℕ, ◌≤◌, ◌<◌, length, Option, Some, None}
use Rattle.std.proofs.Math.Path.{refl}
use Rattle.std.proofs.Common.{sym, ap, ◌∙◌, ⊎_elim, true≢false, arith}
use mathlib.Core.List.Memᴰ
use mathlib.Core.List.{List, [], ◌∷◌, Memᴰ}
use Rattle.octets.specs.Cases.{decide, order}
use Rattle.octets.specs.Compare.{same_bytes, same_true, same_refl, comes_before}
use Rattle.octets.specs.First.{first}
use Rattle.answers.specs.Answers.{code_of}
use Rattle.answers.specs.Outcome.{Outcome}
use Rattle.metadata.specs.Choice.{chosen_epoch, chosen_list}
use Rattle.metadata.specs.Tapes.{Tape}
use Rattle.metadata.specs.declared.choice.Side.{Side}
use Rattle.metadata.specs.declared.choice.Side.TheVariants.{Left, Right}
use Rattle.layout.specs.Names.{name, names, find_name}
use Rattle.layout.specs.NamesLaws.{name-low, find-names}
use Rattle.layout.specs.Session.{names_at}
use Rattle.disk.specs.Steps.{side_bytes}
use Rattle.session.specs.Meaning.{no_view}
use Rattle.session.specs.Rows.{head_of}
use Rattle.session.specs.declared.views.View.{View}
use Rattle.beginning.specs.Laws.{refusal-some}
use Rattle.beginning.specs.Sessions.{the_record}
use Rattle.beginning.specs.Transactions.{is_open_at}
use Rattle.staging.specs.Seeing.{cuts}
use Rattle.ending.specs.CommitDurable.{commit-durable}
use Rattle.ending.specs.CommitLaws.{commit-cases, commit-served}
use Rattle.ending.specs.CommitMeaning.{commit-published}
use Rattle.ending.specs.Committing.{commit_call}
use Rattle.ending.specs.Listing.{is_touched, published, tape_in, next_list}
use Rattle.ending.specs.ListingAll.{next-only, next-all}
use Rattle.seen.specs.Seen.{place_of, shown, view_in}
use Rattle.seen.specs.Orderly.{listed_as, Recorded, Orderly}
use Rattle.seen.specs.Places.{found_name, not_found}
use Rattle.seen.specs.Shown.{shown-none}
use Rattle.seen.specs.Kinds.{writes-open, cuts-open}

-- ---- a list's word on a name

-- what a tape of the list says
abbrev pub word_of : Tape → View
word_of t = record { listed = true; len = t.len; start = t.start }

module _ (n : List ℕ) where
  pub listed-hit : (t : Tape) (ts : List Tape) → t.name ≡ n → listed_as n (t ∷ ts) ≡ word_of t
  unfolding listed_as
  listed-hit t ts e = rw (ap (λ (x : List ℕ). same_bytes x n) e ∙ same_refl n)

  pub listed-miss : (t : Tape) (ts : List Tape) → (t.name ≡ n → ⊥) → listed_as n (t ∷ ts) ≡ listed_as n ts
  unfolding listed_as
  listed-miss t ts d =
      decide (same_bytes t.name n)
      (λ (e : same_bytes t.name n ≡ true). absurd (d (same_true t.name n e)))
      (λ (e : same_bytes t.name n ≡ false). rw e)

  -- no tape of the list has it
  pub listed-none : (ts : List Tape) → ((t : Tape) → Memᴰ t ts → t.name ≡ n → ⊥) → listed_as n ts ≡ no_view
  unfolding listed_as
  listed-none [] h = refl
  listed-none (t ∷ ts) h = listed-miss t ts (h t (Memᴰ.head refl)) ∙ listed-none ts (λ u m. h u (Memᴰ.tail m))

  -- one tape of the list has it
  pub listed-one : (t : Tape) (ts : List Tape) → Memᴰ t ts → t.name ≡ n → ((u : Tape) → Memᴰ u ts → u.name ≡ n → u ≡ t) → listed_as n ts ≡ word_of t
  listed-one t [] m e alone = absurd (Memᴰ.not-nil m)
  listed-one t (u ∷ us) m e alone =
      decide (same_bytes u.name n)
      (λ (q : same_bytes u.name n ≡ true).
      let has = same_true u.name n q in
      listed-hit u us has ∙ ap word_of (alone u (Memᴰ.head refl) has))
      (λ (q : same_bytes u.name n ≡ false).
      let not-it : u.name ≡ n → ⊥ = λ same. true≢false (sym (ap (λ (x : List ℕ). same_bytes x n) same ∙ same_refl n) ∙ q) in
      listed-miss u us not-it
      ∙ listed-one t us
      (⊎_elim (λ (same : t ≡ u). absurd (not-it (ap (λ (x : Tape). x.name) (sym same) ∙ e))) (λ (k : Memᴰ t us). k) (Memᴰ.cases_cons m))
      e (λ v k. alone v (Memᴰ.tail k)))

-- ---- what is published has a name

-- a name that is not the empty one comes behind it
pub behind-none : (n : List ℕ) → 0 < length n → comes_before [] n ≡ true
unfolding comes_before
behind-none [] some = absurd (omega arith)
behind-none (x ∷ n) some = refl

module _ (d s : List ℕ) (o : Orderly d s) (running : is_open_at s 16 ≡ true) (cut : Bool) where
  -- a free place publishes nothing
  pub free-unpublished : (p : ℕ) → p < 8 → length (name s names_at p) ≡ 0 → (published s cut p).listed ≡ false
  unfolding published is_touched
  free-unpublished p low free = rw (o.free-shut p low free, o.writer-view running p low) (o.free-unlisted p low free)

  pub published-named : (p : ℕ) → p < 8 → (published s cut p).listed ≡ true → 0 < length (name s names_at p)
  published-named p low listed =
      order 0 (length (name s names_at p)) (λ l. l)
      (λ (l : length (name s names_at p) ≤ 0). absurd (true≢false (sym listed ∙ free-unpublished p low (omega arith))))

  pub published-apart : (p q : ℕ) → p < 8 → q < 8 → (published s cut p).listed ≡ true → (published s cut q).listed ≡ true → name s names_at p ≡ name s names_at q → p ≡ q
  published-apart p q low high listed also same = o.names p q low high (published-named p low listed) same

  tape-name : (p : ℕ) → (tape_in s cut p).name ≡ name s names_at p
  unfolding tape_in
  tape-name p = refl

  tape-word : (p : ℕ) → (published s cut p).listed ≡ true → word_of (tape_in s cut p) ≡ shown (published s cut p)
  unfolding tape_in
  tape-word p listed = rw listed

  -- ---- the list's word on a name is what is published of its tape

  -- what is published of the tape in a place
  abbrev pub published_in : Option ℕ → View
  published_in (Some p) = shown (published s cut p)
  published_in None = no_view

  module _ (n : List ℕ) (some : 0 < length n) where
    -- a tape of the list that has the name is published from a place of that name
    from_named : (t : Tape) → (m : Memᴰ t (next_list s cut)) → t.name ≡ n → name s names_at (next-only s cut m).place ≡ n
    from_named t m e =
        let from = next-only s cut m in
        sym (ap (λ (x : Tape). x.name) from.same ∙ tape-name from.place) ∙ e

    from_place : (p : ℕ) → p < 8 → name s names_at p ≡ n → (t : Tape) (m : Memᴰ t (next_list s cut)) → t.name ≡ n → (next-only s cut m).place ≡ p
    from_place p low has t m e =
        let from = next-only s cut m in
        o.names from.place p from.low low (published-named from.place from.low from.listed) (from_named t m e ∙ sym has)

    pub next-says : listed_as n (next_list s cut) ≡ published_in (place_of s n)
    next-says = by (place_of s n) refl
      where
        by : (found : Option ℕ) → place_of s n ≡ found → listed_as n (next_list s cut) ≡ published_in found
        by (Some p) e =
            let low = name-low s names_at n p e in
            let has = found_name s names_at n p e in
            decide (published s cut p).listed
            (λ (listed : (published s cut p).listed ≡ true).
            listed-one n (tape_in s cut p) (next_list s cut)
            (next-all s cut published-apart p low listed (behind-none (name s names_at p) (rw has some)))
            (tape-name p ∙ has)
            (λ t m q. (next-only s cut m).same ∙ ap (tape_in s cut) (from_place p low has t m q))
            ∙ tape-word p listed)
            (λ (unlisted : (published s cut p).listed ≡ false).
            listed-none n (next_list s cut)
            (λ t m q.
            true≢false
            (sym (next-only s cut m).listed ∙ ap (λ (k : ℕ). (published s cut k).listed) (from_place p low has t m q) ∙ unlisted))
            ∙ sym (shown-none (published s cut p) unlisted))
        by None e =
            listed-none n (next_list s cut)
            (λ t m q. not_found s names_at n e (next-only s cut m).place (next-only s cut m).low (from_named t m q))

-- ---- a commit

-- a writer is open that a commit is served for
pub commit-open : (d s : List ℕ) (t : ℕ) → code_of (commit_call d s t).answer ≡ 0 → is_open_at s 16 ≡ true
commit-open d s t =
    commit-cases (λ (x : Outcome). code_of x.answer ≡ 0 → is_open_at s 16 ≡ true) d s (λ why e. absurd (refusal-some why e)) t
    (λ ok w v g room e. writes-open s t w)
    (λ ok c v g e. cuts-open s t c)

-- a table of the same names finds the same
pub place-names : (s u : List ℕ) (base : ℕ) (n : List ℕ) → names u base ≡ names s base → find_name u base n ≡ find_name s base n
place-names s u base n e =
    find-names u base n ∙ ap (λ (f : ℕ → List ℕ). first (λ i. same_bytes (f i) n) 8 0) e ∙ sym (find-names s base n)

pub commit-recorded : (d s : List ℕ) → Orderly d s → (t : ℕ) → code_of (commit_call d s t).answer ≡ 0 → Recorded (commit_call d s t).disk (commit_call d s t).session
commit-recorded d s o t served =
    let u = (commit_call d s t).session in
    let cut = cuts s t in
    let left = commit-published d s o.session-bytes t served in
    let says = (commit-durable d s o.session-bytes t served o.level).says in
    let running = commit-open d s t served in
    record {
      epoch = says.0 ∙ sym (commit-served d s o.session-bytes t served).epoch;
      list = next_list s cut;
      read = says.1;
      says = λ n some.
          next-says d s o running cut n some
          ∙ same n (place_of s n) refl
          ∙ sym (ap (view_in u 17) (place-names s u names_at n left.tapes));
    }
  where
    same : (n : List ℕ) (found : Option ℕ) → place_of s n ≡ found
        → published_in d s o (commit-open d s t served) (cuts s t) found ≡ view_in (commit_call d s t).session 17 found
    same n (Some p) e = ap shown (sym ((commit-published d s o.session-bytes t served).list p (name-low s names_at n p e)))
    same n None e = refl

-- ---- what leaves it so

pub record_same : (d e : List ℕ) → ((side : Side) → side_bytes e side ≡ side_bytes d side) → the_record e ≡ the_record d
record_same d e same = rw (same Left, same Right)

pub recorded-as : (d s e u : List ℕ) → the_record e ≡ the_record d → (head_of u).epoch ≡ (head_of s).epoch
    → ((n : List ℕ) → 0 < length n → view_in u 17 (place_of u n) ≡ view_in s 17 (place_of s n)) → Recorded d s → Recorded e u
recorded-as d s e u same epoch views r =
    record {
      epoch = ap chosen_epoch same ∙ r.epoch ∙ sym epoch;
      list = r.list;
      read = ap chosen_list same ∙ r.read;
      says = λ n some. r.says n some ∙ sym (views n some);
    }

pub recorded-same : (d s e u : List ℕ) → ((side : Side) → side_bytes e side ≡ side_bytes d side) → (head_of u).epoch ≡ (head_of s).epoch
    → ((n : List ℕ) → 0 < length n → view_in u 17 (place_of u n) ≡ view_in s 17 (place_of s n)) → Recorded d s → Recorded e u
recorded-same d s e u sides = recorded-as d s e u (record_same d e sides)
