-- The store as one tape sees it: the epoch, the open transactions with their views of this tape, what the writer has staged of it, and its cache and files.
-- And what each call does to that, in document 01's words. Many tapes are many of these that share epoch and transactions. Refusals that one tape can't see
-- (1, 5, 6, 7, 10, 15, 17) are not decided here. Assumes nothing.
use Rattle.std.specs.Prelude.{Bool, true, false, cond, ◌&&◌, List, [], ◌∷◌, map, ℕ, ◌+◌, ◌-◌, min, max, length, eqb, ltb, leb, Option, Some, None}
use Rattle.components.specs.Files.{no_files}
use Rattle.components.specs.Epochs.{older, oldest_other}
use Rattle.ring_buffer.specs.Ring.{fresh}
use Rattle.held.specs.Held.{Held, put_held, settled, taken_back, trimmed, fetch, forget, taken, load, filled}

-- a reader and its view of the tape; here: the tape is in the view
pub record Reader : Type 0 where
  pub number : ℕ
  pub epoch : ℕ
  pub here : Bool
  pub len : ℕ
  pub start : ℕ

-- at most one: its number, for an append the epoch at which it began, and the tape as it has staged it
pub data Writer : Type 0 where
  idle : Writer
  appending : (number began : ℕ) (here : Bool) (len start : ℕ) → Writer
  cutting : (number len : ℕ) → Writer

-- listed, len, start: what the last commit left; live: the tape is open in this session
pub record Store : Type 0 where
  -- the file size that it was made with
  pub size : ℕ
  -- the last transaction's number
  pub last : ℕ
  pub epoch : ℕ
  -- the last commit was a truncate's
  pub cut : Bool
  pub listed : Bool
  pub len : ℕ
  pub start : ℕ
  pub readers : List Reader
  pub writer : Writer
  pub touched : Bool
  pub live : Bool
  pub held : Held

-- a call as one tape gets it; offsets, lengths and starts are in bytes; the transaction's number goes first
pub data TapeCall : Type 0 where
  restart reader append truncate : TapeCall
  open' : (k size capacity start : ℕ) → (memory : List ℕ) → TapeCall
  put : ℕ → List ℕ → TapeCall
  shift cut : ℕ → ℕ → TapeCall
  read : ℕ → ℕ → ℕ → TapeCall
  commit drop' : ℕ → TapeCall

pub data Answer : Type 0 where
  Done : ℕ → Answer
  Bytes : List ℕ → Answer
  Refused : ℕ → ℕ → Answer

pub record After : Type 0 where
  pub answer : Answer
  pub store : Store

-- ---- transactions

unfoldable pub find : ℕ → List Reader → Option Reader
find k [] = None
find k (r ∷ rs) = cond (eqb k r.number) (Some r) (find k rs)

unfoldable pub without : ℕ → List Reader → List Reader
without k [] = []
without k (r ∷ rs) = cond (eqb k r.number) (without k rs) (r ∷ without k rs)

abbrev pub epoch_in : Reader → ℕ
epoch_in r = r.epoch

abbrev pub epochs : List Reader → List ℕ
epochs rs = map epoch_in rs

-- a transaction's bounds; none for no such transaction
pub record View : Type 0 where
  pub here : Bool
  pub start : ℕ
  pub len : ℕ

abbrev pub view_r : Option Reader → Option View
view_r None = None
view_r (Some r) = Some (record { here = r.here; start = r.start; len = r.len })

unfoldable pub view : ℕ → Bool → ℕ → Writer → List Reader → Option View
view k li st idle rs = view_r (find k rs)
view k li st (appending m b h l s) rs = cond (eqb k m) (Some (record { here = h; start = s; len = l })) (view_r (find k rs))
view k li st (cutting m l) rs = cond (eqb k m) (Some (record { here = li; start = st; len = l })) (view_r (find k rs))

abbrev pub fetched : Option (List ℕ) → Answer
fetched None = Refused 16 0
fetched (Some l) = Bytes l

abbrev pub read_in : ℕ → Held → ℕ → ℕ → Option View → Answer
read_in fs h o n None = Refused 2 0
read_in fs h o n (Some b) = cond b.here (cond (leb b.start o && leb (o + n) b.len) (fetched (fetch fs h o n)) (Refused 12 0)) (Refused 11 0)

-- ---- the calls

-- "A refused call .. changes no lent byte"
abbrev pub refuse : ℕ → ℕ → Store → After
refuse c v s = record { answer = Refused c v; store = s }

-- with another last number, readers, writer, touched, live and held
abbrev pub then : Answer → ℕ → Store → List Reader → Writer → Bool → Bool → Held → After
then a n s rs w t li h =
    record {
      answer = a;
      store = record { size = s.size; last = n; epoch = s.epoch; cut = s.cut; listed = s.listed; len = s.len; start = s.start; readers = rs; writer = w; touched = t; live = li; held = h };
    }

-- "Every commit raises the epoch by 1"
abbrev pub committed : Store → Bool → Bool → ℕ → ℕ → Held → After
committed s c li l st h =
    record {
      answer = Done (s.epoch + 1);
      store = record { size = s.size; last = s.last; epoch = s.epoch + 1; cut = c; listed = li; len = l; start = st; readers = s.readers; writer = idle; touched = false; live = s.live; held = h };
    }

-- "`store` begins a session: no transactions, no handles, serials from 1"
abbrev pub asleep : Held → Held
asleep h = record { ring = h.ring; cache = h.cache; files = forget h.files; unwritten = 0 }

abbrev pub step_restart : Store → After
step_restart s =
    record {
      answer = Done s.epoch;
      store =
          record {
            size = s.size;
            last = 0;
            epoch = s.epoch;
            cut = false;
            listed = s.listed;
            len = s.len;
            start = s.start;
            readers = [];
            writer = idle;
            touched = false;
            live = false;
            held = asleep s.held;
          };
    }

abbrev pub step_reader : Store → After
step_reader s =
    then (Done (s.last + 1)) (s.last + 1) s (record { number = s.last + 1; epoch = s.epoch; here = s.listed; len = s.len; start = s.start } ∷ s.readers) s.writer s.touched s.live s.held

-- 3; 4 with how many
abbrev pub step_append : Store → Writer → After
step_append s idle =
    cond (s.cut && ltb 0 (older s.epoch (epochs s.readers))) (refuse 4 (older s.epoch (epochs s.readers)) s)
    (then (Done (s.last + 1)) (s.last + 1) s s.readers (appending (s.last + 1) s.epoch s.listed s.len s.start) false s.live s.held)
step_append s (appending m b h l st) = refuse 3 0 s
step_append s (cutting m l) = refuse 3 0 s

abbrev pub step_truncate : Store → Writer → After
step_truncate s idle = then (Done (s.last + 1)) (s.last + 1) s s.readers (cutting (s.last + 1) s.len) false s.live s.held
step_truncate s (appending m b h l st) = refuse 3 0 s
step_truncate s (cutting m l) = refuse 3 0 s

-- "Opening a name absent from the view empties its directory; start and len are the given start index". Nobody looks at the value of an open here: the handle's
-- number is not one tape's
abbrev pub open_new : Store → (m b size capacity start : ℕ) → List ℕ → After
open_new s m b size capacity start memory =
    record {
      answer = Done 1;
      store =
          record {
            size = size;
            last = s.last;
            epoch = s.epoch;
            cut = s.cut;
            listed = s.listed;
            len = s.len;
            start = s.start;
            readers = s.readers;
            writer = appending m b true start start;
            touched = true;
            live = true;
            held = filled capacity start memory [] no_files;
          };
    }

-- "Opening a known name tracks its files numbered up to that of len, then marks and removes those below start's file"; its cache is filled
abbrev pub open_known : Store → (began len start capacity first : ℕ) → List ℕ → Writer → Option (List ℕ) → After
open_known s began len start capacity first memory w None = refuse 16 0 s
open_known s began len start capacity first memory w (Some bs) =
    then (Done 1) s.last s s.readers w true true (filled capacity first memory bs (taken s.size began len start s.held.files))

-- what a cache may be: 1 to 4,096 bytes, and memory for it
abbrev pub capacity_fits : ℕ → List ℕ → Bool
capacity_fits c memory = leb 1 c && (leb c 4096 && leb c (length memory))

-- 8; 9. Of a known tape demand 3 speaks where it is reopened with the file size that it was made with: the 8 for another size stands for "not spoken of" and is
-- no rule of document 01
abbrev pub step_open : Store → (k size capacity start : ℕ) → List ℕ → Writer → After
step_open s k size c st memory idle = refuse 2 0 s
step_open s k size c st memory (appending m b h l start) =
    cond (eqb k m)
    (cond (capacity_fits c memory && ltb 0 size)
    (cond s.live (refuse 9 0 s)
    (cond h
    (cond (eqb size s.size)
    (open_known s b l start c (max (l - c) start) memory (appending m b h l start) (load size s.held.files (max (l - c) start) (l - max (l - c) start)))
    (refuse 8 0 s))
    (open_new s m b size c st memory)))
    (refuse 8 0 s))
    (refuse 2 0 s)
step_open s k size c st memory (cutting m l) = refuse 2 0 s

-- 18; "Append returns the staged length before it"
abbrev pub step_put : Store → ℕ → List ℕ → Writer → After
step_put s k d idle = refuse 2 0 s
step_put s k d (appending m b h l st) =
    cond (eqb k m && s.live)
    (cond (ltb 0xffff_ffff_ffff_ffff (l + length d)) (refuse 18 0 s)
    (then (Done l) s.last s s.readers (appending m b h (l + length d) st) true s.live (put_held s.size l s.held d)))
    (refuse 2 0 s)
step_put s k d (cutting m l) = refuse 2 0 s

-- 13; "Shift takes the larger of old and new start"
abbrev pub step_shift : Store → ℕ → ℕ → Writer → After
step_shift s k n idle = refuse 2 0 s
step_shift s k n (appending m b h l st) =
    cond (eqb k m && s.live)
    (cond (leb n l) (then (Done 0) s.last s s.readers (appending m b h l (max st n)) true s.live s.held) (refuse 13 0 s))
    (refuse 2 0 s)
step_shift s k n (cutting m l) = refuse 2 0 s

-- 11; 14
abbrev pub step_cut : Store → ℕ → ℕ → Writer → After
step_cut s k n idle = refuse 2 0 s
step_cut s k n (appending m b h l st) = refuse 2 0 s
step_cut s k n (cutting m l) =
    cond (eqb k m && s.live)
    (cond s.listed (cond (leb n l) (then (Done 0) s.last s s.readers (cutting m n) true s.live s.held) (refuse 14 0 s)) (refuse 11 0 s))
    (refuse 2 0 s)

-- "After an append commit, for each tape it touched ..": the others keep what they hold
abbrev pub step_commit : Store → ℕ → Writer → After
step_commit s k idle = refuse 2 0 s
step_commit s k (appending m b h l st) =
    cond (eqb k m)
    (committed s false h l st (cond s.touched (settled s.size b (oldest_other s.epoch (epochs s.readers)) l st s.held) s.held))
    (refuse 2 0 s)
step_commit s k (cutting m l) =
    cond (eqb k m) (committed s true s.listed l (min s.start l) (cond s.touched (trimmed s.size l s.held) s.held)) (refuse 2 0 s)

abbrev pub is_some : Option Reader → Bool
is_some None = false
is_some (Some r) = true

abbrev pub step_drop_reader : Store → ℕ → After
step_drop_reader s k =
    cond (is_some (find k s.readers)) (then (Done 0) s.last s (without k s.readers) s.writer s.touched s.live s.held) (refuse 2 0 s)

-- "Dropping an append restores lengths; a tape created in it loses its handle. Dropping a truncate changes nothing"
abbrev pub step_drop : Store → ℕ → Writer → After
step_drop s k idle = step_drop_reader s k
step_drop s k (appending m b h l st) =
    cond (eqb k m)
    (then (Done 0) s.last s s.readers idle false (s.live && s.listed) (cond s.touched (cond s.listed (taken_back (l - s.len) s.held) (asleep s.held)) s.held))
    (step_drop_reader s k)
step_drop s k (cutting m l) = cond (eqb k m) (then (Done 0) s.last s s.readers idle false s.live s.held) (step_drop_reader s k)

abbrev pub step_read : Store → ℕ → ℕ → ℕ → After
step_read s k o n = record { answer = cond s.live (read_in s.size s.held o n (view k s.listed s.start s.writer s.readers)) (Refused 2 0); store = s }

unfoldable pub step : TapeCall → Store → After
step restart s = step_restart s
step reader s = step_reader s
step append s = step_append s s.writer
step truncate s = step_truncate s s.writer
step (open' k size c st memory) s = step_open s k size c st memory s.writer
step (put k d) s = step_put s k d s.writer
step (shift k n) s = step_shift s k n s.writer
step (cut k n) s = step_cut s k n s.writer
step (read k o n) s = step_read s k o n
step (commit k) s = step_commit s k s.writer
step (drop' k) s = step_drop s k s.writer

-- a formatted disk with a session begun
abbrev pub nothing_held : Held
nothing_held = record { ring = fresh 0 0; cache = []; files = no_files; unwritten = 0 }

unfoldable pub blank : Store
blank =
    record {
      size = 0;
      last = 0;
      epoch = 0;
      cut = false;
      listed = false;
      len = 0;
      start = 0;
      readers = [];
      writer = idle;
      touched = false;
      live = false;
      held = nothing_held;
    }
