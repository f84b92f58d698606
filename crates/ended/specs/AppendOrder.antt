-- An append's commit that is served leaves the areas in order, and handles as they were. Assumes nothing.
use Rattle.std.specs.Prelude.{◌≡◌, refl, ◌≢◌, true, false, List, ℕ, ◌+◌, ◌<◌, ◌^◌}
use Rattle.std.proofs.Common.{sym, ap, subst, ◌∙◌, true≢false, arith}
use Rattle.octets.specs.Cases.{decide}
use Rattle.octets.specs.Number.{Bytes}
use Rattle.answers.specs.Answers.{code_of}
use Rattle.answers.specs.Outcome.{Outcome}
use Rattle.metadata.specs.Struct.{storable}
use Rattle.layout.specs.Disk.{directories}
use Rattle.layout.specs.Names.{name, find_name}
use Rattle.layout.specs.NamesLaws.{name-low}
use Rattle.layout.specs.Session.{names_at, handle_number}
use Rattle.session.specs.declared.head.Head.{Head}
use Rattle.session.specs.declared.views.View.{View}
use Rattle.session.specs.Rows.{head_of, view_of, handle_of, ring_of, ring_bytes}
use Rattle.beginning.specs.Laws.{refusal-some}
use Rattle.beginning.specs.Transactions.{is_open_at}
use Rattle.staging.specs.Seeing.{writes}
use Rattle.appending.specs.Room.{no_room}
use Rattle.ending.specs.CommitDurable.{commit-level}
use Rattle.ending.specs.CommitLaws.{the_list, Committed, commit-cases, commit-served}
use Rattle.ending.specs.CommitMeaning.{Published, writes-cuts, commit-published}
use Rattle.ending.specs.CommitWays.{epoch-fits}
use Rattle.ending.specs.Committing.{appended, commit_call}
use Rattle.ending.specs.Listing.{is_touched, published}
use Rattle.touches.specs.CommitSteps.{append_parts}
use Rattle.touches.specs.Commits.{CommitLeaves, commit-touches-session, commit-leaves-session, commit-leaves-disk}
use Rattle.touches.specs.Parts.{Stays, Touches, bookkeepings, stays}
use Rattle.touches.specs.Rows.{row_stays, handle-stays, ring-stays, cache-stays, name-stays}
use Rattle.joins.specs.FilesAt.{Once}
use Rattle.seen.specs.Seen.{place_of, Handled}
use Rattle.seen.specs.Orderly.{Orderly}
use Rattle.seen.specs.Places.{find-same}
use Rattle.seen.specs.Rows.{number-row, shut_row, was-open, readers-once, readers-given, handled-rows, touched-staged}
use Rattle.seen.specs.Lists.{free-unpublished, commit-open, commit-recorded}
use Rattle.ended.specs.Flushes.{Inside}
use Rattle.ended.specs.AppendFiles.{settled-once}

-- ---- what held when it was served

pub record Appends (d s : List ℕ) (o : Outcome) : Type 0 where
  pub good : storable (the_list s false) ≡ true
  pub more : (head_of s).epoch + 1 < 2 ^ 64
  pub room : no_room d s 8 0 ≡ false
  pub is : o ≡ appended d s (the_list s false)

pub commit-appends : (d s : List ℕ) → Bytes s → (k : ℕ) → writes s k ≡ true → code_of (commit_call d s k).answer ≡ 0 → Appends d s (commit_call d s k)
commit-appends d s bytes k w =
    commit-cases (λ (o : Outcome). code_of o.answer ≡ 0 → Appends d s o) d s (λ why e. absurd (refusal-some why e)) k
    (λ ok _ v g room e. record { good = g.good; more = epoch-fits s bytes g.more; room = room; is = refl })
    (λ ok c v g e. absurd (true≢false (sym c ∙ writes-cuts s k w)))

module _ (d s : List ℕ) (o : Orderly d s) (k : ℕ) (w : writes s k ≡ true) (served : code_of (commit_call d s k).answer ≡ 0) where
  abbrev e : List ℕ
  e = (commit_call d s k).disk

  abbrev u : List ℕ
  u = (commit_call d s k).session

  running : is_open_at s 16 ≡ true
  running = commit-open d s k served

  kept : Committed d s (commit_call d s k)
  kept = commit-served d s o.session-bytes k served

  pub left : Published d s false (commit_call d s k)
  left = rw (writes-cuts s k w) at (commit-published d s o.session-bytes k served)

  leaves : CommitLeaves s u
  leaves = commit-leaves-session d s k

  touches : Touches append_parts s u
  touches = rw w at (commit-touches-session d s k)

  -- ---- what is as before

  pub same-folder : (i : ℕ) → i < 8 → name e directories i ≡ name d directories i
  same-folder i l = name-stays 32 288 d e (commit-leaves-disk d s k).directories-stay kept.long-disk directories i (o.disk.names.short i l) (omega arith) (omega arith)

  module _ (p : ℕ) (low : p < 8) where
    pub same_name : name u names_at p ≡ name s names_at p
    same_name = name-stays 48 304 s u leaves.names-stay kept.long-session names_at p (o.session.names.short p low) (omega arith) (omega arith)

    pub same-handle : handle_of u p ≡ handle_of s p
    same-handle = handle-stays _ _ s u (row_stays 4168 24 96 8 s u leaves.handles-stay p low) p (omega arith) (omega arith)

    pub same_number : handle_number u p ≡ handle_number s p
    same_number = number-row s u p same-handle

    pub same-ring : ring_of u p ≡ ring_of s p
    same-ring =
        let books : Stays bookkeepings s u = stays append_parts bookkeepings s u touches (λ i h. search arith) in
        ring-stays _ _ s u (row_stays 4192 32 96 8 s u books p low) p (omega arith) (omega arith)

    pub same-cache : ring_bytes u p ≡ ring_bytes s p
    same-cache = cache-stays 5960 38728 s u leaves.rings-stay kept.long-session p (omega arith) (omega arith)

  pub same_place : (n : List ℕ) → place_of u n ≡ place_of s n
  same_place n = find-same s u names_at names_at n same_name

  pub same-directory : (n : List ℕ) → find_name e directories n ≡ find_name d directories n
  same-directory n = find-same d e directories directories n same-folder

  pub shut : is_open_at u 16 ≡ false
  shut = shut_row u 16 left.shut

  -- ---- what is published

  published-touched : (p : ℕ) → is_touched s p ≡ true → (published s false p).listed ≡ true
  unfolding published
  published-touched p t = rw t

  published-untouched : (p : ℕ) → p < 8 → is_touched s p ≡ false → published s false p ≡ view_of s 17 p
  unfolding published
  published-untouched p low t = rw t (o.writer-view running p low)

  still-listed : (p : ℕ) → p < 8 → (view_of s 17 p).listed ≡ true → (published s false p).listed ≡ true
  still-listed p low listed =
      decide (is_touched s p) (published-touched p) (λ t. ap (λ (v : View). v.listed) (published-untouched p low t) ∙ listed)

  -- every open tape is
  open-listed : (p : ℕ) → p < 8 → handle_number s p ≢ 0 → (published s false p).listed ≡ true
  open-listed p low held =
      decide (view_of s 17 p).listed (still-listed p low)
      (λ made. published-touched p (touched-staged d s o p low ∙ o.made-touched p low held made))

  -- ---- the areas are in order

  pub commit-append-orderly : Inside s → Orderly e u
  commit-append-orderly inside =
      let a = commit-appends d s o.session-bytes k w served in
      let last : (head_of u).last_handle ≡ (head_of s).last_handle = ap (λ (h : Head). h.last_handle) left.head in
      let newest : (head_of u).last_transaction ≡ (head_of s).last_transaction = ap (λ (h : Head). h.last_transaction) left.head in
      let listed : (p : ℕ) → p < 8 → (view_of u 17 p).listed ≡ (published s false p).listed = λ p low. ap (λ (v : View). v.listed) (left.list p low) in
      record {
        disk = kept.sound;
        session = kept.begun;
        disk-bytes = kept.bytes-disk o.disk-bytes;
        session-bytes = kept.bytes-session;
        once = subst (λ (x : Outcome). Once x.disk) (sym a.is) (settled-once d s o a.more a.good inside a.room);
        names = λ p q lp lq some same. o.names p q lp lq (rw (same_name p lp) at some) (sym (same_name p lp) ∙ same ∙ same_name q lq);
        folders = λ i j li lj some same. o.folders i j li lj (rw (same-folder i li) at some) (sym (same-folder i li) ∙ same ∙ same-folder j lj);
        handles = λ p q lp lq some same. o.handles p q lp lq (λ z. some (same_number p lp ∙ z)) (sym (same_number p lp) ∙ same ∙ same_number q lq);
        handle-given = λ p lp. rw (same_number p lp, last) (o.handle-given p lp);
        numbers = readers-once d s u o shut left.readers;
        number-given = readers-given d s u o shut left.readers newest;
        free-shut = λ p lp free. same_number p lp ∙ o.free-shut p lp (rw (same_name p lp) at free);
        free-unlisted = λ p lp free. listed p lp ∙ free-unpublished d s o running false p lp (rw (same_name p lp) at free);
        shut-untouched = λ p lp _. rw (left.unstaged p lp);
        idle-untouched = λ _ p lp. rw (left.unstaged p lp);
        views = λ t lt ot p lp shown.
            listed p lp ∙ still-listed p lp (o.views t lt (was-open d s u o shut left.readers t lt ot) p lp (rw (left.views t p (omega arith) lp) at shown));
        writer-view = λ ot p lp. absurd (true≢false (sym ot ∙ shut));
        writer-epoch = λ ot. absurd (true≢false (sym ot ∙ shut));
        made-append = λ p lp held made. absurd (true≢false (sym (open-listed p lp (λ z. held (same_number p lp ∙ z))) ∙ sym (listed p lp) ∙ made));
        made-touched = λ p lp held made. absurd (true≢false (sym (open-listed p lp (λ z. held (same_number p lp ∙ z))) ∙ sym (listed p lp) ∙ made));
        folder = λ p lp held. rw (same_name p lp, same-directory (name s names_at p)) (o.folder p lp (λ z. held (same_number p lp ∙ z)));
        recorded = commit-recorded d s o k served;
        level = commit-level d s o.session-bytes k served;
      }

  -- ---- handles are as before

  pub commit-append-handled : (n : List ℕ) (handle entry : ℕ) → Handled s n handle entry → Handled u n handle entry
  commit-append-handled n = handled-rows s u n (same_place n) (λ p at. same-handle p (name-low s names_at n p at))
