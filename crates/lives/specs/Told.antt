-- What the calls' arguments and answers say that everybody must see of one tape: what is committed, the open windows with what they saw when they began, and
-- what the writer has staged. Not one field is read off a store. Assumes nothing.
use Rattle.std.specs.Prelude.{Bool, true, false, cond, ◌&&◌, List, [], ◌∷◌, ◌++◌, ℕ, ◌+◌, min, max, length, take, replicate, eqb, ltb, Option, Some, None}
use Rattle.lives.specs.Life.{Answer, Done, Bytes, Refused, TapeCall, restart, reader, append, truncate, open', put, shift, cut, read, commit, drop'}

-- a page: here or absent (then empty); its bytes from offset 0 to its length, of which those from start on may be read. Below the start of a tape that was
-- made at one stand zeros, which nobody can read: a start only falls to the length
pub record Window : Type 0 where
  pub number : ℕ
  pub epoch : ℕ
  pub here : Bool
  pub start : ℕ
  pub content : List ℕ

pub data Staging : Type 0 where
  idle : Staging
  appending : (number : ℕ) → (here : Bool) → (content : List ℕ) → (start : ℕ) → Staging
  cutting : (number : ℕ) → (content : List ℕ) → Staging

pub record Told : Type 0 where
  pub epoch : ℕ
  pub cut : Bool
  pub listed : Bool
  pub content : List ℕ
  pub start : ℕ
  pub windows : List Window
  pub writer : Staging
  -- the tape is open in this session
  pub live : Bool
  -- the file size that it was made with
  pub size : ℕ

unfoldable pub closed : ℕ → List Window → List Window
closed k [] = []
closed k (w ∷ ws) = cond (eqb k w.number) (closed k ws) (w ∷ closed k ws)

abbrev pub with_writer : Told → Staging → Bool → Told
with_writer t w b =
    record { epoch = t.epoch; cut = t.cut; listed = t.listed; content = t.content; start = t.start; windows = t.windows; writer = w; live = b; size = t.size }

abbrev pub with_windows : Told → List Window → Told
with_windows t ws =
    record { epoch = t.epoch; cut = t.cut; listed = t.listed; content = t.content; start = t.start; windows = ws; writer = t.writer; live = t.live; size = t.size }

-- open, of a file size
abbrev pub with_open : Told → Staging → ℕ → Told
with_open t w size =
    record { epoch = t.epoch; cut = t.cut; listed = t.listed; content = t.content; start = t.start; windows = t.windows; writer = w; live = true; size = size }

abbrev pub published : Told → Bool → Bool → List ℕ → ℕ → Told
published t b li c s =
    record { epoch = t.epoch + 1; cut = b; listed = li; content = c; start = s; windows = t.windows; writer = idle; live = t.live; size = t.size }

-- a tape absent from the view is made, of zeros up to the given start
abbrev pub told_open : ℕ → ℕ → Staging → Staging
told_open k st idle = idle
told_open k st (appending m h c s) = cond (eqb k m) (cond h (appending m h c s) (appending m true (replicate st 0) st)) (appending m h c s)
told_open k st (cutting m c) = cutting m c

-- the append k sees it
abbrev pub is_here : ℕ → Staging → Bool
is_here k idle = false
is_here k (appending m h c s) = eqb k m && h
is_here k (cutting m c) = false

abbrev pub told_put : ℕ → List ℕ → Staging → Staging
told_put k d idle = idle
told_put k d (appending m h c s) = cond (eqb k m) (appending m h (c ++ d) s) (appending m h c s)
told_put k d (cutting m c) = cutting m c

abbrev pub told_shift : ℕ → ℕ → Staging → Staging
told_shift k n idle = idle
told_shift k n (appending m h c s) = cond (eqb k m) (appending m h c (max s n)) (appending m h c s)
told_shift k n (cutting m c) = cutting m c

abbrev pub told_cut : ℕ → ℕ → Staging → Staging
told_cut k n idle = idle
told_cut k n (appending m h c s) = appending m h c s
told_cut k n (cutting m c) = cond (eqb k m) (cutting m (take n c)) (cutting m c)

abbrev pub told_commit : ℕ → Told → Staging → Told
told_commit k t idle = t
told_commit k t (appending m h c s) = cond (eqb k m) (published t false h c s) t
told_commit k t (cutting m c) = cond (eqb k m) (published t true t.listed c (min t.start (length c))) t

-- a tape made in a dropped append loses its handle
abbrev pub told_drop : ℕ → Told → Staging → Told
told_drop k t idle = with_windows t (closed k t.windows)
told_drop k t (appending m h c s) = cond (eqb k m) (with_writer t idle (t.live && t.listed)) (with_windows t (closed k t.windows))
told_drop k t (cutting m c) = cond (eqb k m) (with_writer t idle t.live) (with_windows t (closed k t.windows))

abbrev pub told_done : Told → TapeCall → ℕ → Told
told_done t restart n =
    record { epoch = t.epoch; cut = false; listed = t.listed; content = t.content; start = t.start; windows = []; writer = idle; live = false; size = t.size }
told_done t reader n = with_windows t (record { number = n; epoch = t.epoch; here = t.listed; start = t.start; content = t.content } ∷ t.windows)
told_done t append n = with_writer t (appending n t.listed t.content t.start) t.live
told_done t truncate n = with_writer t (cutting n t.content) t.live
told_done t (open' k size c st memory) n = with_open t (told_open k st t.writer) (cond (is_here k t.writer) t.size size)
told_done t (put k d) n = with_writer t (told_put k d t.writer) t.live
told_done t (shift k i) n = with_writer t (told_shift k i t.writer) t.live
told_done t (cut k i) n = with_writer t (told_cut k i t.writer) t.live
told_done t (read k o i) n = t
told_done t (commit k) n = told_commit k t t.writer
told_done t (drop' k) n = told_drop k t t.writer

abbrev pub told : Told → TapeCall → Answer → Told
told t c (Done n) = told_done t c n
told t c (Bytes l) = t
told t c (Refused x v) = t

pub record Page : Type 0 where
  pub here : Bool
  pub start : ℕ
  pub content : List ℕ

-- what a window shows
abbrev pub page_w : Window → Page
page_w w = record { here = w.here; start = w.start; content = w.content }

unfoldable pub page_in : ℕ → List Window → Option Page
page_in k [] = None
page_in k (w ∷ ws) = cond (eqb k w.number) (Some (page_w w)) (page_in k ws)

-- a truncate's view has the staged length and the old start; the smaller is taken at its commit
abbrev pub page_of : ℕ → Told → Staging → Option Page
page_of k t idle = page_in k t.windows
page_of k t (appending m h c s) = cond (eqb k m) (Some (record { here = h; start = s; content = c })) (page_in k t.windows)
page_of k t (cutting m c) = cond (eqb k m) (Some (record { here = t.listed; start = t.start; content = c })) (page_in k t.windows)

abbrev pub page : ℕ → Told → Option Page
page k t = page_of k t t.writer

unfoldable pub nothing : Told
nothing = record { epoch = 0; cut = false; listed = false; content = []; start = 0; windows = []; writer = idle; live = false; size = 0 }

-- the windows opened before epoch e
unfoldable pub before : ℕ → List Window → List Window
before e [] = []
before e (w ∷ ws) = cond (ltb w.epoch e) (w ∷ before e ws) (before e ws)

-- neither a commit nor the session's end was served
abbrev pub quiet : TapeCall → Answer → Bool
quiet c (Refused x v) = true
quiet c (Bytes l) = true
quiet restart (Done n) = false
quiet reader (Done n) = true
quiet append (Done n) = true
quiet truncate (Done n) = true
quiet (open' k size c st memory) (Done n) = true
quiet (put k d) (Done n) = true
quiet (shift k i) (Done n) = true
quiet (cut k i) (Done n) = true
quiet (read k o i) (Done n) = true
quiet (commit k) (Done n) = false
quiet (drop' k) (Done n) = true
