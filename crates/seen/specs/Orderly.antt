-- What holds of the two areas after any of our own calls, once a session was begun, beyond the layout rules: names, handles and transaction numbers are not
-- given twice, a free place has no tape, nothing is staged without a writer, views are of listed tapes, and open tapes have their directories. Assumes
-- nothing.
use Rattle.std.specs.Prelude.{◌≡◌, ◌≢◌, true, false, cond, List, [], ◌∷◌, ℕ, ◌≤◌, ◌<◌, length}
use Rattle.octets.specs.Number.{Bytes}
use Rattle.octets.specs.Compare.{same_bytes}
use Rattle.metadata.specs.Tapes.{Tape}
use Rattle.metadata.specs.Choice.{chosen_epoch, chosen_list}
use Rattle.metadata.specs.Decoding.{tapes}
use Rattle.layout.specs.Names.{name}
use Rattle.layout.specs.Disk.{directories}
use Rattle.layout.specs.Disk as D
use Rattle.layout.specs.Session.{names_at, handle_number, Begun}
use Rattle.session.specs.declared.views.View.{View}
use Rattle.session.specs.Meaning.{no_view}
use Rattle.session.specs.Rows.{head_of, view_of, transaction_of, staged_of}
use Rattle.rolling_tape.specs.Room.{is_found}
use Rattle.beginning.specs.Transactions.{is_open_at, usable}
use Rattle.beginning.specs.Sessions.{the_record}
use Rattle.beginning.specs.Ways.{→usable}
use Rattle.staging.specs.Seeing.{directory_of, is_append}
use Rattle.ending.specs.CommitDurable.{Level}
use Rattle.joins.specs.FilesAt.{Once}
use Rattle.seen.specs.Seen.{place_of, view_in}

-- a list's word on a name
unfoldable pub listed_as : List ℕ → List Tape → View
listed_as n [] = no_view
listed_as n (t ∷ ts) = cond (same_bytes t.name n) (record { listed = true; len = t.len; start = t.start }) (listed_as n ts)

-- the record that counts has the session's epoch, and says of every name what the session says
pub record Recorded (d s : List ℕ) : Type 0 where
  pub epoch : chosen_epoch (the_record d) ≡ (head_of s).epoch
  pub list : List Tape
  pub read : chosen_list (the_record d) ≡ tapes list
  pub says : (n : List ℕ) → 0 < length n → listed_as n list ≡ view_in s 17 (place_of s n)

pub record Orderly (d s : List ℕ) : Type 0 where
  -- the layout rules
  pub disk : D.Sound d
  pub session : Begun s
  pub disk-bytes : Bytes d
  pub session-bytes : Bytes s
  -- each file once, each name once
  pub once : Once d
  pub names : (p q : ℕ) → p < 8 → q < 8 → 0 < length (name s names_at p) → name s names_at p ≡ name s names_at q → p ≡ q
  pub folders : (i j : ℕ) → i < 8 → j < 8 → 0 < length (name d directories i) → name d directories i ≡ name d directories j → i ≡ j
  -- "Transaction and handle numbers are never used twice in a session"
  pub handles : (p q : ℕ) → p < 8 → q < 8 → handle_number s p ≢ 0 → handle_number s p ≡ handle_number s q → p ≡ q
  pub handle-given : (p : ℕ) → p < 8 → handle_number s p ≤ (head_of s).last_handle
  pub numbers : (t u : ℕ) → t < 17 → u < 17 → is_open_at s t ≡ true → is_open_at s u ≡ true → (transaction_of s t).number ≡ (transaction_of s u).number → t ≡ u
  pub number-given : (t : ℕ) → t < 17 → is_open_at s t ≡ true → (transaction_of s t).number ≤ (head_of s).last_transaction
  -- a free place has no tape
  pub free-shut : (p : ℕ) → p < 8 → length (name s names_at p) ≡ 0 → handle_number s p ≡ 0
  pub free-unlisted : (p : ℕ) → p < 8 → length (name s names_at p) ≡ 0 → (view_of s 17 p).listed ≡ false
  -- nothing is staged of a tape that is not open, nor without a writer
  pub shut-untouched : (p : ℕ) → p < 8 → handle_number s p ≡ 0 → (staged_of s p).touched ≡ false
  pub idle-untouched : is_open_at s 16 ≡ false → (p : ℕ) → p < 8 → (staged_of s p).touched ≡ false
  -- what a reader sees is still listed; the writer began with what is listed, at the present epoch
  pub views : (t : ℕ) → t < 16 → is_open_at s t ≡ true → (p : ℕ) → p < 8 → (view_of s t p).listed ≡ true → (view_of s 17 p).listed ≡ true
  pub writer-view : is_open_at s 16 ≡ true → (p : ℕ) → p < 8 → view_of s 16 p ≡ view_of s 17 p
  pub writer-epoch : is_open_at s 16 ≡ true → (transaction_of s 16).epoch ≡ (head_of s).epoch
  -- an open tape is listed, or the open append has made it; its directory is there
  pub made-append : (p : ℕ) → p < 8 → handle_number s p ≢ 0 → (view_of s 17 p).listed ≡ false → is_append (transaction_of s 16).kind ≡ true
  pub made-touched : (p : ℕ) → p < 8 → handle_number s p ≢ 0 → (view_of s 17 p).listed ≡ false → (staged_of s p).touched ≡ true
  pub folder : (p : ℕ) → p < 8 → handle_number s p ≢ 0 → is_found (directory_of d s p) ≡ true
  -- the list is on the disk, and the next record will count (`restarts`)
  pub recorded : Recorded d s
  pub level : Level d s

-- a call may use them
pub orderly-usable : (d s : List ℕ) → Orderly d s → usable d s ≡ true
orderly-usable d s o = →usable d s o.disk o.session
