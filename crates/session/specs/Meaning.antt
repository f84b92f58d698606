-- What the bytes of a session mean: its own fields, its tapes by place, with names, handles, rings and staged records, its transactions with their views,
-- the list of the last commit, and the tracking of files by slot. Assumes nothing.
use Rattle.std.specs.Prelude.{false, cond, List, [], ◌∷◌, ℕ, zero, suc, ◌+◌, eqb, Option, Some, None}
use Rattle.octets.specs.Number.{num_at}
use Rattle.octets.specs.Words.{table}
use Rattle.layout.specs.Names.{names}
use Rattle.layout.specs.Session.{mark, names_at}
use Rattle.metadata.specs.Tapes.{Tape}
use Rattle.ring_buffer.specs.declared.bookkeeping.RingBuffer.{RingBuffer}
use Rattle.session.specs.declared.head.Head.{Head}
use Rattle.session.specs.declared.views.View.{View}
use Rattle.session.specs.declared.transactions.Kind.TheVariants.{Closed}
use Rattle.session.specs.declared.transactions.Transaction.{Transaction}
use Rattle.session.specs.declared.tape_rows.Handle.{Handle}
use Rattle.session.specs.declared.tape_rows.Staged.{Staged}
use Rattle.session.specs.declared.tracking.Tracking.{Tracking}
use Rattle.session.specs.declared.tracking.Tracking.TheVariants.{Untracked}
use Rattle.session.specs.Rows.{head_of, view_of, transaction_of, handle_of, ring_of, staged_of, tracking_of, ring_bytes}

pub record Session : Type 0 where
  pub head : Head
  -- by tape place; empty where it is free
  pub name : ℕ → List ℕ
  -- by transaction place and tape place; 17 is the list of the last commit
  pub view : ℕ → ℕ → View
  -- by transaction place: readers from 0, the writer's is 16
  pub transaction : ℕ → Transaction
  -- by tape place
  pub handle : ℕ → Handle
  pub ring : ℕ → RingBuffer
  pub cache : ℕ → List ℕ
  pub staged : ℕ → Staged
  -- by slot of the disk
  pub tracking : ℕ → Tracking

-- ---- the rows where there is nothing

abbrev pub no_view : View
no_view = record { listed = false; len = 0; start = 0 }

abbrev pub closed : Transaction
closed = record { kind = Closed; number = 0; epoch = 0 }

abbrev pub no_handle : Handle
no_handle = record { number = 0; entry = 0; file_size = 0 }

abbrev pub no_ring : RingBuffer
no_ring = record { capacity = 0; start = 0; len = 0; first = 0 }

abbrev pub untouched : Staged
untouched = record { touched = false; base = 0; len = 0; start = 0; unwritten = 0 }

abbrev pub no_views : ℕ → View
no_views p = no_view

-- ---- from the bytes

unfoldable pub session_of : List ℕ → Session
session_of s =
    record {
      head = head_of s;
      name = names s names_at;
      view = table 18 no_views (λ w. table 8 no_view (view_of s w));
      transaction = table 17 closed (transaction_of s);
      handle = table 8 no_handle (handle_of s);
      ring = table 8 no_ring (ring_of s);
      cache = table 8 [] (ring_bytes s);
      staged = table 8 untouched (staged_of s);
      tracking = table 64 Untracked (tracking_of s);
    }

-- the session that an area holds; none where none was begun
unfoldable pub running : List ℕ → Option Session
running s = cond (eqb (num_at 8 s 0) mark) (Some (session_of s)) None

-- the list of the last commit, by tape place
unfoldable pub list_from : Session → ℕ → ℕ → List Tape
list_from m zero p = []
list_from m (suc k) p =
    cond (m.view 17 p).listed (record { name = m.name p; len = (m.view 17 p).len; start = (m.view 17 p).start } ∷ list_from m k (p + 1)) (list_from m k (p + 1))

abbrev pub list_in : Session → List Tape
list_in m = list_from m 8 0

-- ---- a session with something changed

module _ (m : Session) where
  abbrev pub with_head : Head → Session
  with_head h =
      record { head = h; name = m.name; view = m.view; transaction = m.transaction; handle = m.handle; ring = m.ring; cache = m.cache; staged = m.staged; tracking = m.tracking }

  abbrev pub with_name : ℕ → List ℕ → Session
  with_name p n =
      record { head = m.head; name = λ q. cond (eqb q p) n (m.name q); view = m.view; transaction = m.transaction; handle = m.handle; ring = m.ring; cache = m.cache; staged = m.staged; tracking = m.tracking }

  abbrev pub with_views : ℕ → (ℕ → View) → Session
  with_views w v =
      record { head = m.head; name = m.name; view = λ u. cond (eqb u w) v (m.view u); transaction = m.transaction; handle = m.handle; ring = m.ring; cache = m.cache; staged = m.staged; tracking = m.tracking }

  abbrev pub with_view : ℕ → ℕ → View → Session
  with_view w p v = with_views w (λ q. cond (eqb q p) v (m.view w q))

  abbrev pub with_transaction : ℕ → Transaction → Session
  with_transaction t r =
      record { head = m.head; name = m.name; view = m.view; transaction = λ u. cond (eqb u t) r (m.transaction u); handle = m.handle; ring = m.ring; cache = m.cache; staged = m.staged; tracking = m.tracking }

  abbrev pub with_handle : ℕ → Handle → Session
  with_handle p r =
      record { head = m.head; name = m.name; view = m.view; transaction = m.transaction; handle = λ q. cond (eqb q p) r (m.handle q); ring = m.ring; cache = m.cache; staged = m.staged; tracking = m.tracking }

  abbrev pub with_ring : ℕ → RingBuffer → Session
  with_ring p r =
      record { head = m.head; name = m.name; view = m.view; transaction = m.transaction; handle = m.handle; ring = λ q. cond (eqb q p) r (m.ring q); cache = m.cache; staged = m.staged; tracking = m.tracking }

  abbrev pub with_cache : ℕ → List ℕ → Session
  with_cache p bs =
      record { head = m.head; name = m.name; view = m.view; transaction = m.transaction; handle = m.handle; ring = m.ring; cache = λ q. cond (eqb q p) bs (m.cache q); staged = m.staged; tracking = m.tracking }

  abbrev pub with_staged : ℕ → Staged → Session
  with_staged p r =
      record { head = m.head; name = m.name; view = m.view; transaction = m.transaction; handle = m.handle; ring = m.ring; cache = m.cache; staged = λ q. cond (eqb q p) r (m.staged q); tracking = m.tracking }

  abbrev pub with_tracking : ℕ → Tracking → Session
  with_tracking i r =
      record { head = m.head; name = m.name; view = m.view; transaction = m.transaction; handle = m.handle; ring = m.ring; cache = m.cache; staged = m.staged; tracking = λ j. cond (eqb j i) r (m.tracking j) }
