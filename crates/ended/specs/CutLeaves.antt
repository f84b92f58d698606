-- What the commit of a truncate leaves, row by row, of areas in order: names, handles, caches and readers stay, the list has what was staged, rings are cut,
-- and nothing is staged any more. Assumes nothing.
use Rattle.std.specs.Prelude.{◌≡◌, ◌≢◌, true, false, List, ℕ, ◌<◌, min}
use Rattle.std.proofs.Common.{sym, ap, ◌∙◌, true≢false, arith}
use Rattle.octets.specs.Cases.{decide}
use Rattle.octets.specs.Words.{table-in}
use Rattle.answers.specs.Answers.{code_of}
use Rattle.answers.specs.Outcome.{Outcome}
use Rattle.layout.specs.Disk.{directories}
use Rattle.layout.specs.Names.{name, names}
use Rattle.layout.specs.Session.{names_at, handle_number}
use Rattle.session.specs.declared.head.Head.{Head}
use Rattle.session.specs.declared.tape_rows.Staged.{Staged}
use Rattle.session.specs.declared.views.View.{View}
use Rattle.session.specs.Meaning.{closed, untouched}
use Rattle.session.specs.Rows.{head_of, view_of, transaction_of, handle_of, ring_bytes, staged_of}
use Rattle.beginning.specs.Laws.{refusal-some}
use Rattle.beginning.specs.Transactions.{is_open_at}
use Rattle.staging.specs.Seeing.{is_append, writes, cuts}
use Rattle.ending.specs.CommitDurable.{commit-level}
use Rattle.ending.specs.CommitLaws.{Committed, commit-cases, commit-served}
use Rattle.ending.specs.CommitMeaning.{Published, commit-published}
use Rattle.ending.specs.Committing.{commit_call}
use Rattle.ending.specs.Listing.{is_touched, published}
use Rattle.ending.specs.StepLaws.{next_head, touched-held}
use Rattle.touches.specs.Commits.{commit-leaves-session}
use Rattle.touches.specs.Rows.{row_stays, handle-stays, cache-stays}
use Rattle.seen.specs.Orderly.{Orderly}
use Rattle.seen.specs.Rows.{number-row, shut_row, was-open, readers-once, readers-given}
use Rattle.seen.specs.Lists.{commit-recorded}
use Rattle.ended.specs.CutRows.{CutEnd, commit-cut-end}
use Rattle.seen.specs.Kinds.{cuts-kind, cuts-open}

pub served-cuts : (d s : List ℕ) (k : ℕ) → code_of (commit_call d s k).answer ≡ 0 → writes s k ≡ false → cuts s k ≡ true
served-cuts d s k =
    commit-cases (λ (a : Outcome). code_of a.answer ≡ 0 → writes s k ≡ false → cuts s k ≡ true) d s (λ why e no. absurd (refusal-some why e)) k
    (λ ok yes v g room e no. absurd (true≢false (sym yes ∙ no)))
    (λ ok c v g e no. c)

-- names of a table, by place
name_of_lem : (s u : List ℕ) (base : ℕ) → names u base ≡ names s base → (p : ℕ) → p < 8 → name u base p ≡ name s base p
name_of_lem s u base e p low = sym (table-in 8 _ (name u base) p low) ∙ ap (λ (f : ℕ → List ℕ). f p) e ∙ table-in 8 _ (name s base) p low

-- ---- what it leaves

-- from d and s, where k is the truncate's number, to e and u; the list has of a touched tape what was staged
pub record CutLeft (d s : List ℕ) (k : ℕ) (e u : List ℕ) : Type 0 where
  pub is : cuts s k ≡ true
  pub head : head_of u ≡ next_head true (head_of s)
  pub names : (p : ℕ) → p < 8 → name u names_at p ≡ name s names_at p
  pub handles : (p : ℕ) → p < 8 → handle_of u p ≡ handle_of s p
  pub caches : (p : ℕ) → p < 8 → ring_bytes u p ≡ ring_bytes s p
  pub views : (w p : ℕ) → w < 17 → p < 8 → view_of u w p ≡ view_of s w p
  pub readers : (t : ℕ) → t < 16 → transaction_of u t ≡ transaction_of s t
  pub shut : transaction_of u 16 ≡ closed
  pub unstaged : (p : ℕ) → p < 8 → staged_of u p ≡ untouched
  pub open-listed : (p : ℕ) → p < 8 → handle_number s p ≢ 0 → (view_of s 17 p).listed ≡ true
  pub list-touched : (p : ℕ) → p < 8 → is_touched s p ≡ true
      → view_of u 17 p ≡ record { listed = true; len = (staged_of s p).len; start = min (staged_of s p).start (staged_of s p).len }
  pub list-other : (p : ℕ) → p < 8 → is_touched s p ≡ false → view_of u 17 p ≡ view_of s 17 p
  pub ends : CutEnd d s e u

module _ (d s : List ℕ) (o : Orderly d s) (k : ℕ) (served : code_of (commit_call d s k).answer ≡ 0) (other : writes s k ≡ false) where
  abbrev e : List ℕ
  e = (commit_call d s k).disk

  abbrev u : List ℕ
  u = (commit_call d s k).session

  is : cuts s k ≡ true
  is = served-cuts d s k served other

  done : Committed d s (commit_call d s k)
  done = commit-served d s o.session-bytes k served

  left : Published d s true (commit_call d s k)
  left = rw is at (commit-published d s o.session-bytes k served)

  ends : CutEnd d s e u
  ends = commit-cut-end d s o k served other

  name-same : (p : ℕ) → p < 8 → name u names_at p ≡ name s names_at p
  name-same = name_of_lem s u names_at left.tapes

  folder-same : (p : ℕ) → p < 8 → name e directories p ≡ name d directories p
  folder-same = name_of_lem d e directories left.known

  handle-same : (p : ℕ) → p < 8 → handle_of u p ≡ handle_of s p
  handle-same p low =
      let stay = row_stays _ 24 96 8 s u (commit-leaves-session d s k).handles-stay p low in
      handle-stays _ _ s u stay p (omega arith) (omega arith)

  number_same : (p : ℕ) → p < 8 → handle_number u p ≡ handle_number s p
  number_same p low = number-row s u p (handle-same p low)

  cache-same : (p : ℕ) → p < 8 → ring_bytes u p ≡ ring_bytes s p
  cache-same p low =
      cache-stays _ _ s u (commit-leaves-session d s k).rings-stay done.long-session p (omega arith) (omega arith)

  -- transactions: the readers stay
  writer-shut : is_open_at u 16 ≡ false
  writer-shut = shut_row u 16 left.shut

  -- the list
  open-listed : (p : ℕ) → p < 8 → handle_number s p ≢ 0 → (view_of s 17 p).listed ≡ true
  open-listed p low held =
      decide (view_of s 17 p).listed (λ yes. yes)
      (λ no. absurd (true≢false (sym (o.made-append p low held no) ∙ ap is_append (cuts-kind s k is))))

  list-touched : (p : ℕ) → p < 8 → is_touched s p ≡ true
      → view_of u 17 p ≡ record { listed = true; len = (staged_of s p).len; start = min (staged_of s p).start (staged_of s p).len }
  unfolding published
  list-touched p low touched = left.list p low ∙ rw touched

  list-other : (p : ℕ) → p < 8 → is_touched s p ≡ false → view_of u 17 p ≡ view_of s 17 p
  unfolding published
  list-other p low touched = left.list p low ∙ rw touched (o.writer-view (cuts-open s k is) p low)

  listed_same : (p : ℕ) → p < 8 → (view_of u 17 p).listed ≡ (view_of s 17 p).listed
  listed_same p low =
      decide (is_touched s p)
      (λ (t : is_touched s p ≡ true). ap (λ (v : View). v.listed) (list-touched p low t) ∙ sym (open-listed p low (touched-held s p t)))
      (λ (t : is_touched s p ≡ false). ap (λ (v : View). v.listed) (list-other p low t))

  pub cut_left : CutLeft d s k e u
  cut_left =
      record {
        is = is;
        head = left.head;
        names = name-same;
        handles = handle-same;
        caches = cache-same;
        views = left.views;
        readers = left.readers;
        shut = left.shut;
        unstaged = left.unstaged;
        open-listed = open-listed;
        list-touched = list-touched;
        list-other = list-other;
        ends = ends;
      }

  pub commit-cut-orderly : Orderly e u
  commit-cut-orderly =
      record {
        disk = done.sound;
        session = done.begun;
        disk-bytes = done.bytes-disk o.disk-bytes;
        session-bytes = done.bytes-session;
        once = ends.once;
        names = λ p q l m some same. o.names p q l m (rw (name-same p l) at some) (sym (name-same p l) ∙ same ∙ name-same q m);
        folders = λ i j l m some same. o.folders i j l m (rw (folder-same i l) at some) (sym (folder-same i l) ∙ same ∙ folder-same j m);
        handles = λ p q l m some same. o.handles p q l m (rw (number_same p l) at some) (sym (number_same p l) ∙ same ∙ number_same q m);
        handle-given = λ p l. rw (number_same p l, left.head) (o.handle-given p l);
        numbers = readers-once d s u o writer-shut left.readers;
        number-given = readers-given d s u o writer-shut left.readers (ap (λ (h : Head). h.last_transaction) left.head);
        free-shut = λ p l none. number_same p l ∙ o.free-shut p l (rw (name-same p l) at none);
        free-unlisted = λ p l none. listed_same p l ∙ o.free-unlisted p l (rw (name-same p l) at none);
        shut-untouched = λ p l none. ap (λ (r : Staged). r.touched) (left.unstaged p l);
        idle-untouched = λ none p l. ap (λ (r : Staged). r.touched) (left.unstaged p l);
        views = λ t l open-t p m listed.
            listed_same p m ∙ o.views t l (was-open d s u o writer-shut left.readers t l open-t) p m (ap (λ (v : View). v.listed) (sym (left.views t p (omega arith) m)) ∙ listed);
        writer-view = λ is_open. absurd (true≢false (sym is_open ∙ writer-shut));
        writer-epoch = λ is_open. absurd (true≢false (sym is_open ∙ writer-shut));
        made-append = λ p l held no. absurd (true≢false (sym (open-listed p l (rw (number_same p l) at held)) ∙ sym (listed_same p l) ∙ no));
        made-touched = λ p l held no. absurd (true≢false (sym (open-listed p l (rw (number_same p l) at held)) ∙ sym (listed_same p l) ∙ no));
        folder = λ p l held. rw (name-same p l, ends.known (name s names_at p)) (o.folder p l (rw (number_same p l) at held));
        recorded = commit-recorded d s o k served;
        level = commit-level d s o.session-bytes k served;
      }
