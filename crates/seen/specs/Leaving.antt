-- A call that opens or closes a transaction leaves the tapes: names, list, handles, caches and files are as before. What is left to show of it then are the
-- transactions and what is staged. Assumes nothing.
use Rattle.std.specs.Prelude.{◌≡◌, refl, ◌≢◌, Bool, true, false, List, ℕ, ◌≤◌, ◌<◌, Option, Some, None}
use Rattle.std.proofs.Common.{sym, ap, ◌∙◌, arith}
use Rattle.octets.specs.Number.{Bytes}
use Rattle.layout.specs.Names.{name, find_name}
use Rattle.layout.specs.NamesLaws.{name-low}
use Rattle.layout.specs.Disk.{directories}
use Rattle.layout.specs.Session.{names_at, handle_number, Begun}
use Rattle.session.specs.declared.head.Head.{Head}
use Rattle.session.specs.declared.tape_rows.Staged.{Staged}
use Rattle.session.specs.declared.tracking.Tracking.{Tracking}
use Rattle.session.specs.declared.transactions.Transaction.{Transaction}
use Rattle.session.specs.declared.views.View.{View}
use Rattle.session.specs.Meaning.{Session, session_of}
use Rattle.session.specs.MeaningLaws.{head_at_lem, name-at, view-at, transaction-at, handle-at, ring-at, cache-at, staged-at}
use Rattle.session.specs.Rows.{head_of, view_of, transaction_of, handle_of, ring_of, ring_bytes, staged_of}
use Rattle.disk.specs.Meaning.{disk_of}
use Rattle.rolling_tape.specs.Files.{files_of}
use Rattle.beginning.specs.Transactions.{is_open_at}
use Rattle.staging.specs.Seeing.{touched_as, is_append}
use Rattle.lives.specs.Life.{Answer, Reader, Writer, Store, then}
use Rattle.seen.specs.Seen.{place_of, view_in, writer_in, touched_in, files_in, count_in, count_open, Seen, Handled}
use Rattle.seen.specs.Orderly.{Orderly}
use Rattle.seen.specs.Places.{find-same}
use Rattle.seen.specs.Lists.{recorded-as}
use Rattle.seen.specs.Rows.{size-row, view-rows, live-rows, handled-rows, number-row}

pub record Leaves (s u : List ℕ) : Type 0 where
  pub epoch : (head_of u).epoch ≡ (head_of s).epoch
  pub cut : (head_of u).cut ≡ (head_of s).cut
  pub side : (head_of u).side ≡ (head_of s).side
  pub handed : (head_of u).last_handle ≡ (head_of s).last_handle
  pub names : (p : ℕ) → p < 8 → name u names_at p ≡ name s names_at p
  pub list : (p : ℕ) → p < 8 → view_of u 17 p ≡ view_of s 17 p
  pub handles : (p : ℕ) → p < 8 → handle_of u p ≡ handle_of s p
  pub rings : (p : ℕ) → p < 8 → ring_of u p ≡ ring_of s p
  pub caches : (p : ℕ) → p < 8 → ring_bytes u p ≡ ring_bytes s p
  pub tracking : (session_of u).tracking ≡ (session_of s).tracking

-- ---- from the meaning: a session with another head, other views, transactions and staged records

abbrev pub changed : Session → Head → (ℕ → ℕ → View) → (ℕ → Transaction) → (ℕ → Staged) → Session
changed m h views places rows =
    record { head = h; name = m.name; view = views; transaction = places; handle = m.handle; ring = m.ring; cache = m.cache; staged = rows; tracking = m.tracking }

module _ (s u : List ℕ) (h : Head) (views : ℕ → ℕ → View) (places : ℕ → Transaction) (rows : ℕ → Staged)
    (means : session_of u ≡ changed (session_of s) h views places rows) where
  pub head-is : head_of u ≡ h
  head-is = sym (head_at_lem u) ∙ ap (λ (m : Session). m.head) means

  pub view-is : (w p : ℕ) → w < 18 → p < 8 → view_of u w p ≡ views w p
  view-is w p wide low = sym (view-at u w p wide low) ∙ ap (λ (m : Session). m.view w p) means

  pub transaction-is : (t : ℕ) → t < 17 → transaction_of u t ≡ places t
  transaction-is t low = sym (transaction-at u t low) ∙ ap (λ (m : Session). m.transaction t) means

  pub staged-is : (p : ℕ) → p < 8 → staged_of u p ≡ rows p
  staged-is p low = sym (staged-at u p low) ∙ ap (λ (m : Session). m.staged p) means

  pub leaves-is : h.epoch ≡ (head_of s).epoch → h.cut ≡ (head_of s).cut → h.side ≡ (head_of s).side → h.last_handle ≡ (head_of s).last_handle
      → ((p : ℕ) → p < 8 → views 17 p ≡ view_of s 17 p) → Leaves s u
  leaves-is epoch cut side handed list =
      record {
        epoch = ap (λ (x : Head). x.epoch) head-is ∙ epoch;
        cut = ap (λ (x : Head). x.cut) head-is ∙ cut;
        side = ap (λ (x : Head). x.side) head-is ∙ side;
        handed = ap (λ (x : Head). x.last_handle) head-is ∙ handed;
        names = λ p l. sym (name-at u p l) ∙ ap (λ (m : Session). m.name p) means ∙ name-at s p l;
        list = λ p l. view-is 17 p (omega arith) l ∙ list p l;
        handles = λ p l. sym (handle-at u p l) ∙ ap (λ (m : Session). m.handle p) means ∙ handle-at s p l;
        rings = λ p l. sym (ring-at u p l) ∙ ap (λ (m : Session). m.ring p) means ∙ ring-at s p l;
        caches = λ p l. sym (cache-at u p l) ∙ ap (λ (m : Session). m.cache p) means ∙ cache-at s p l;
        tracking = ap (λ (m : Session). m.tracking) means;
      }

-- what is staged of an open tape, in place p
pub record StagedFor (u : List ℕ) (st : Store) (p : ℕ) : Type 0 where
  pub unwritten : (touched_as u p).unwritten ≡ st.held.unwritten
  pub base : (staged_of u p).touched ≡ true → st.listed ≡ true → (staged_of u p).base ≡ st.len

-- ---- what stays of a name's tape

module _ (s u : List ℕ) (left : Leaves s u) (n : List ℕ) where
  pub left-place : place_of u n ≡ place_of s n
  left-place = find-same s u names_at names_at n left.names

  pub left-list : view_in u 17 (place_of u n) ≡ view_in s 17 (place_of s n)
  left-list = view-rows s u n left-place 17 (λ p at. left.list p (name-low s names_at n p at))

  pub left-files : (d : List ℕ) (found : Option ℕ) → files_in d u found ≡ files_in d s found
  left-files d (Some place) = ap (λ (rows : ℕ → Tracking). files_of (disk_of d) rows place) left.tracking
  left-files d None = refl

  pub left-handled : (handle entry : ℕ) → Handled s n handle entry → Handled u n handle entry
  left-handled = handled-rows s u n left-place (λ p at. left.handles p (name-low s names_at n p at))

  pub seen-then : (d : List ℕ) (st : Store) (a : Answer) (last : ℕ) (rs : List Reader) (w : Writer) (touched : Bool) → Seen d s n st
      → (head_of u).last_transaction ≡ last
      → ((has : Reader → Bool) → count_open has u (place_of s n) ≡ count_in has rs)
      → writer_in u (place_of s n) ≡ w
      → touched_in u (place_of s n) ≡ touched
      → ((p : ℕ) → p < 8 → place_of s n ≡ Some p → st.live ≡ true → StagedFor u st p)
      → Seen d u n (then a last st rs w touched st.live st.held).store
  seen-then d st a last rs w touched seen number readers writer touches staged =
      record {
        epoch = left.epoch ∙ seen.epoch;
        cut = left.cut ∙ seen.cut;
        last = number;
        list = left-list ∙ seen.list;
        readers = λ has. ap (count_open has u) left-place ∙ readers has;
        writer = ap (writer_in u) left-place ∙ writer;
        touched = ap (touched_in u) left-place ∙ touches;
        live = live-rows s u n left-place (λ p at. left.handles p (name-low s names_at n p at)) ∙ seen.live;
        files = left-files d (find_name d directories n) ∙ seen.files;
        opened = λ p found live.
            let there : place_of s n ≡ Some p = sym left-place ∙ found in
            let low = name-low s names_at n p there in
            let o = seen.opened p there live in
            let now = staged p low there live in
            record {
              ring = left.rings p low ∙ o.ring;
              cache = left.caches p low ∙ o.cache;
              size = size-row s u p (left.handles p low) ∙ o.size;
              unwritten = now.unwritten;
              base = now.base;
            };
      }

-- ---- what stays in order

-- of what is staged: it is staged of open tapes and by the writer, and the writer has staged what it made
pub record Staying (u : List ℕ) : Type 0 where
  pub shut-untouched : (p : ℕ) → p < 8 → handle_number u p ≡ 0 → (staged_of u p).touched ≡ false
  pub idle-untouched : is_open_at u 16 ≡ false → (p : ℕ) → p < 8 → (staged_of u p).touched ≡ false
  pub made-append : (p : ℕ) → p < 8 → handle_number u p ≢ 0 → (view_of u 17 p).listed ≡ false → is_append (transaction_of u 16).kind ≡ true
  pub made-touched : (p : ℕ) → p < 8 → handle_number u p ≢ 0 → (view_of u 17 p).listed ≡ false → (staged_of u p).touched ≡ true

-- what is left to show: transactions, and what is staged
pub record Ordered (u : List ℕ) : Type 0 where
  pub numbers : (t x : ℕ) → t < 17 → x < 17 → is_open_at u t ≡ true → is_open_at u x ≡ true → (transaction_of u t).number ≡ (transaction_of u x).number → t ≡ x
  pub number-given : (t : ℕ) → t < 17 → is_open_at u t ≡ true → (transaction_of u t).number ≤ (head_of u).last_transaction
  pub views : (t : ℕ) → t < 16 → is_open_at u t ≡ true → (p : ℕ) → p < 8 → (view_of u t p).listed ≡ true → (view_of u 17 p).listed ≡ true
  pub writer-view : is_open_at u 16 ≡ true → (p : ℕ) → p < 8 → view_of u 16 p ≡ view_of u 17 p
  pub writer-epoch : is_open_at u 16 ≡ true → (transaction_of u 16).epoch ≡ (head_of u).epoch
  pub staying : Staying u

pub orderly-left : (d s u : List ℕ) → Leaves s u → Orderly d s → Begun u → Bytes u → Ordered u → Orderly d u
orderly-left d s u left o begun bytes t =
    let number : (p : ℕ) → p < 8 → handle_number u p ≡ handle_number s p = λ p l. number-row s u p (left.handles p l) in
    record {
      disk = o.disk;
      session = begun;
      disk-bytes = o.disk-bytes;
      session-bytes = bytes;
      once = o.once;
      names = λ p q l m. rw (left.names p l, left.names q m) (o.names p q l m);
      folders = o.folders;
      handles = λ p q l m. rw (number p l, number q m) (o.handles p q l m);
      handle-given = λ p l. rw (number p l, left.handed) (o.handle-given p l);
      numbers = t.numbers;
      number-given = t.number-given;
      free-shut = λ p l. rw (left.names p l, number p l) (o.free-shut p l);
      free-unlisted = λ p l. rw (left.names p l, left.list p l) (o.free-unlisted p l);
      shut-untouched = t.staying.shut-untouched;
      idle-untouched = t.staying.idle-untouched;
      views = t.views;
      writer-view = t.writer-view;
      writer-epoch = t.writer-epoch;
      made-append = t.staying.made-append;
      made-touched = t.staying.made-touched;
      folder = λ p l. rw (number p l, left.names p l) (o.folder p l);
      recorded = recorded-as d s d u refl left.epoch (λ n some. left-list s u left n) o.recorded;
      level = rw (left.side, left.epoch) o.level;
    }
