-- What ties the store to what is told: of a tape that is open, and of one that sleeps on the disk. Assumes nothing.
use Rattle.std.specs.Prelude.{◌≡◌, refl, Bool, true, false, ℕ, ◌-◌, ◌≤◌, ◌<◌, length, get_or, Some}
use Rattle.std.proofs.Common.{true≢false}
use mathlib.Core.List.{List, map, Memᴰ}
use Rattle.octets.specs.Cases.{order}
use Rattle.held.specs.Page.{Kept, Ringed, Sound}
use Rattle.held.specs.Held.{Held}
use Rattle.components.specs.Pieces.{file_of}
use Rattle.components.specs.Files.{track}
use Rattle.lives.specs.Life.{Reader, Writer, Store, TapeCall, After, refuse}
use Rattle.lives.specs.Told.{Window, Staging, idle, appending, cutting, Told, told, with_writer, with_windows}

-- what is not told; base: the tape's length when the open append got it
pub record Phys : Type 0 where
  pub last : ℕ
  pub touched : Bool
  pub base : ℕ
  pub held : Held

-- .. once a writer has ended
abbrev pub settled_as : Phys → ℕ → Held → Phys
settled_as p base h = record { last = p.last; touched = false; base = base; held = h }

abbrev pub erase : Window → Reader
erase w = record { number = w.number; epoch = w.epoch; here = w.here; len = length w.content; start = w.start }

abbrev pub erase_w : ℕ → Staging → Writer
erase_w e idle = Writer.idle
erase_w e (appending m h c s) = Writer.appending m e h (length c) s
erase_w e (cutting m c) = Writer.cutting m (length c)

abbrev pub build : Told → Phys → Store
build t p =
    record {
      size = t.size;
      last = p.last;
      epoch = t.epoch;
      cut = t.cut;
      listed = t.listed;
      len = length t.content;
      start = t.start;
      readers = map erase t.windows;
      writer = erase_w t.epoch t.writer;
      touched = p.touched;
      live = t.live;
      held = p.held;
    }

abbrev pub now : Told → Window
now t = record { number = 0; epoch = t.epoch; here = t.listed; start = t.start; content = t.content }

abbrev pub is_append : Staging → Bool
is_append idle = false
is_append (appending m h c s) = true
is_append (cutting m c) = false

abbrev pub top : List ℕ → Staging → List ℕ
top c idle = c
top c (appending m h d s) = d
top c (cutting m d) = c

pub record PageHeld (fs : ℕ) (h : Held) (E : ℕ) (cut : Bool) (C : List ℕ) (a : Bool) (w : Window) : Type 0 where
  pub kept : Kept fs h.files w.start (length w.content) w.content
  pub ringed : Ringed h w.start (length w.content) w.content
  pub marks : (k e : ℕ) → (h.files k).mark ≡ Some e → e < w.epoch → k < file_of fs w.start
  pub age : w.epoch ≤ E
  pub tall : length C < length w.content → (cut ≡ true) × (w.epoch < E) × (a ≡ false)

pub record StagedAppend (fs : ℕ) (touched : Bool) (h : Held) (C : List ℕ) (S : ℕ) (here : Bool) (c : List ℕ) (s : ℕ) : Type 0 where
  pub present : here ≡ true
  pub whole : touched ≡ false → (h.unwritten ≡ 0) × (length c ≡ length C)
  pub longer : length C ≤ length c
  pub later : S ≤ s
  pub within : s ≤ length c
  pub kept : Kept fs h.files s (length c - h.unwritten) c
  pub ringed : Ringed h s (length c) c

pub record StagedCut (touched : Bool) (C c : List ℕ) : Type 0 where
  pub whole : touched ≡ false → length c ≡ length C
  pub shorter : length c ≤ length C
  pub same : (o : ℕ) → o < length c → get_or c o 0 ≡ get_or C o 0

abbrev pub Staged : ℕ → Bool → Held → List ℕ → ℕ → Staging → Type 0
Staged fs b h C S idle = Unit {0}
Staged fs b h C S (appending m i c s) = StagedAppend fs b h C S i c s
Staged fs b h C S (cutting m c) = StagedCut b C c

-- the tape is open
pub record Live (t : Told) (p : Phys) : Type 0 where
  pub pos : 0 < t.size
  pub sound : Sound p.held p.base (length (top t.content t.writer))
  pub low : length t.content ≤ p.base
  pub even : is_append t.writer ≡ false → p.base ≡ length t.content
  pub shown : is_append t.writer ≡ false → t.listed ≡ true
  pub known : t.listed ≡ true → p.base ≡ length t.content
  pub bare : t.listed ≡ false → length t.content ≡ 0
  pub bounded : t.start ≤ length t.content
  pub below : (k e : ℕ) → (p.held.files k).mark ≡ Some e → k < file_of t.size t.start
  pub committed : PageHeld t.size p.held t.epoch t.cut t.content (is_append t.writer) (now t)
  pub pages : (w : Window) → Memᴰ w t.windows → PageHeld t.size p.held t.epoch t.cut t.content (is_append t.writer) w
  pub staged : Staged t.size p.touched p.held t.content t.start t.writer

-- a page of a sleeping tape is part of what is committed
pub record Asleep (E : ℕ) (C : List ℕ) (S : ℕ) (w : Window) : Type 0 where
  pub age : w.epoch ≤ E
  pub short : length w.content ≤ length C
  pub part : (o : ℕ) → w.start ≤ o → o < length w.content → (S ≤ o) × (get_or w.content o 0 ≡ get_or C o 0)

abbrev pub Resting : Bool → List ℕ → ℕ → Staging → Type 0
Resting li C S idle = Unit {0}
Resting li C S (appending m h c s) = (h ≡ li) × (c ≡ C) × (s ≡ S)
Resting li C S (cutting m c) = c ≡ C

-- the tape is on the disk and not open: what opening it would track holds its bytes
pub record Dormant (t : Told) (p : Phys) : Type 0 where
  pub pos : t.listed ≡ true → 0 < t.size
  pub bare : t.listed ≡ false → length t.content ≡ 0
  pub bounded : t.start ≤ length t.content
  pub untouched : p.touched ≡ false
  pub kept : Kept t.size (track (file_of t.size (length t.content)) p.held.files) t.start (length t.content) t.content
  pub pages : (w : Window) → Memᴰ w t.windows → Asleep t.epoch t.content t.start w
  pub staged : Resting t.listed t.content t.start t.writer

abbrev pub GoodIf : Bool → Told → Phys → Type 0
GoodIf true t p = Live t p
GoodIf false t p = Dormant t p

abbrev pub Good : Told → Phys → Type 0
Good t p = GoodIf t.live t p

pub record Goes (t : Told) (c : TapeCall) (a : After) : Type 0 where
  pub phys : Phys
  pub same : a.store ≡ build (told t c a.answer) phys
  pub good : Good (told t c a.answer) phys

pub refused : (t : Told) (p : Phys) (c : TapeCall) (x v : ℕ) → Good t p → Goes t c (refuse x v (build t p))
refused t p c x v g = record { phys = p; same = refl; good = g }

pub goes : (t : Told) (c : TapeCall) (a : After) (t' : Told) (p : Phys) → told t c a.answer ≡ t' → a.store ≡ build t' p → Good t' p → Goes t c a
goes t c a t' p e s g = record { phys = p; same = rw e s; good = rw e g }

pub no-taller : {fs : ℕ} {h : Held} {E : ℕ} {ct : Bool} {C : List ℕ} {w : Window} → PageHeld fs h E ct C true w → length w.content ≤ length C
no-taller {C} {w} f = order (length C) (length w.content) (λ l. absurd (true≢false (f.tall l).2)) (λ l. l)

-- where only the writer's record changes, and neither whether it appends nor the length that is held, the rest stays
module _ (t : Told) (p : Phys) (last : ℕ) (touched : Bool) where
  pub restaged : (x y : Staging) → is_append y ≡ is_append x → length (top t.content y) ≡ length (top t.content x) → Live (with_writer t x true) p
      → Staged t.size touched p.held t.content t.start y → Live (with_writer t y true) (record { last = last; touched = touched; base = p.base; held = p.held })
  restaged x y kind long g staged =
      record {
        pos = g.pos;
        sound = rw long g.sound;
        low = g.low;
        even = rw kind g.even;
        known = g.known;
        shown = rw kind g.shown;
        bare = g.bare;
        bounded = g.bounded;
        below = g.below;
        committed = rw kind g.committed;
        pages = rw kind g.pages;
        staged = staged;
      }

  pub rested : (x y : Staging) → Dormant (with_writer t x false) p → touched ≡ false → Resting t.listed t.content t.start y
      → Dormant (with_writer t y false) (record { last = last; touched = touched; base = p.base; held = p.held })
  rested x y g none resting = record { pos = g.pos; bare = g.bare; bounded = g.bounded; untouched = none; kept = g.kept; pages = g.pages; staged = resting }

-- and where only the windows change
module _ (t : Told) (p : Phys) (last : ℕ) (ws : List Window) (x : Staging) where
  pub rewindowed : Live (with_writer t x true) p → ((w : Window) → Memᴰ w ws → PageHeld t.size p.held t.epoch t.cut t.content (is_append x) w)
      → Live (with_windows (with_writer t x true) ws) (record { last = last; touched = p.touched; base = p.base; held = p.held })
  rewindowed g pages =
      record {
        pos = g.pos;
        sound = g.sound;
        low = g.low;
        even = g.even;
        known = g.known;
        shown = g.shown;
        bare = g.bare;
        bounded = g.bounded;
        below = g.below;
        committed = g.committed;
        pages = pages;
        staged = g.staged;
      }

  pub reslept : Dormant (with_writer t x false) p → ((w : Window) → Memᴰ w ws → Asleep t.epoch t.content t.start w)
      → Dormant (with_windows (with_writer t x false) ws) (record { last = last; touched = p.touched; base = p.base; held = p.held })
  reslept g pages = record { pos = g.pos; bare = g.bare; bounded = g.bounded; untouched = g.untouched; kept = g.kept; pages = pages; staged = g.staged }
