-- What the two areas show of the tape of a name: `Seen d s n st` says that it is the store `st` of `lives/specs/Life.antt`. Readers are in the places of a
-- table there and in a list here, so of them it says that they are the same ones: as many have any property. Assumes nothing.
use Rattle.std.specs.Prelude.{◌≡◌, ◌≢◌, Bool, true, false, cond, ◌&&◌, List, [], ◌∷◌, ℕ, suc, Option, Some, None}
use Rattle.octets.specs.First.{count}
use Rattle.layout.specs.Names.{find_name}
use Rattle.layout.specs.Disk.{directories}
use Rattle.layout.specs.Session.{handle_number, entry_size_of, file_size_of}
use Rattle.components.specs.Files.{Files, no_files}
use Rattle.session.specs.declared.transactions.Kind.{Kind}
use Rattle.session.specs.declared.transactions.Kind.TheVariants as K
use Rattle.session.specs.declared.views.View.{View}
use Rattle.session.specs.Meaning.{no_view}
use Rattle.session.specs.Rows.{head_of, view_of, transaction_of, ring_of, ring_bytes, staged_of}
use Rattle.rolling_tape.specs.Removal.{areas}
use Rattle.beginning.specs.Transactions.{is_open_at}
use Rattle.staging.specs.Seeing.{seen_by, touched_as}
use Rattle.joins.specs.FilesAt.{files_at}
use Rattle.lives.specs.Life.{Reader, Writer, idle, appending, cutting, Store}
-- the place of a tape in the session, and whether the tape there has a handle
pub use Rattle.opening.specs.Calls.{place_of, is_open_tape}

-- a view that lists nothing says nothing else
abbrev pub shown : View → View
shown v = cond v.listed v no_view

-- the tape as a transaction's place saw it when that began; 17 is the list of the last commit
abbrev pub view_in : List ℕ → ℕ → Option ℕ → View
view_in s w (Some p) = shown (view_of s w p)
view_in s w None = no_view

-- the tape as the writer has staged it
abbrev pub staged_in : List ℕ → Option ℕ → View
staged_in s (Some p) = shown (seen_by s 16 p)
staged_in s None = no_view

-- the reader in place t
abbrev pub reader_in : List ℕ → Option ℕ → ℕ → Reader
reader_in s tape t =
    record {
      number = (transaction_of s t).number;
      epoch = (transaction_of s t).epoch;
      here = (view_in s t tape).listed;
      len = (view_in s t tape).len;
      start = (view_in s t tape).start;
    }

abbrev pub writer_as : Kind → (number epoch : ℕ) → View → Writer
writer_as K.Closed number epoch v = idle
writer_as K.Reader number epoch v = idle
writer_as K.Append number epoch v = appending number epoch v.listed v.len v.start
writer_as K.Truncate number epoch v = cutting number v.len

abbrev pub writer_in : List ℕ → Option ℕ → Writer
writer_in s tape = writer_as (transaction_of s 16).kind (transaction_of s 16).number (transaction_of s 16).epoch (staged_in s tape)

abbrev pub touched_in : List ℕ → Option ℕ → Bool
touched_in s (Some p) = (staged_of s p).touched
touched_in s None = false

abbrev pub files_in : List ℕ → List ℕ → Option ℕ → Files
files_in d s (Some place) = files_at (areas d s) place
files_in d s None = no_files

abbrev pub files_for : List ℕ → List ℕ → List ℕ → Files
files_for d s n = files_in d s (find_name d directories n)

-- its handle's number, 0 where it is not open, and its entry size
abbrev pub handle_in : List ℕ → Option ℕ → ℕ
handle_in s (Some p) = handle_number s p
handle_in s None = 0

abbrev pub entry_in : List ℕ → Option ℕ → ℕ
entry_in s (Some p) = entry_size_of s p
entry_in s None = 0

-- how many of a list have a property
unfoldable pub count_in : (Reader → Bool) → List Reader → ℕ
count_in has [] = 0
count_in has (r ∷ rs) = cond (has r) (suc (count_in has rs)) (count_in has rs)

-- the open readers in the places of the table that have it
unfoldable pub count_open : (Reader → Bool) → List ℕ → Option ℕ → ℕ
count_open has s tape = count (λ t. is_open_at s t && has (reader_in s tape t)) 16 0

-- an open tape, in place p
pub record SeenOpen (s : List ℕ) (p : ℕ) (st : Store) : Type 0 where
  pub ring : ring_of s p ≡ st.held.ring
  pub cache : ring_bytes s p ≡ st.held.cache
  pub size : file_size_of s p ≡ st.size
  pub unwritten : (touched_as s p).unwritten ≡ st.held.unwritten
  -- a listed tape was staged from its committed length on
  pub base : (staged_of s p).touched ≡ true → st.listed ≡ true → (staged_of s p).base ≡ st.len

pub record Seen (d s n : List ℕ) (st : Store) : Type 0 where
  pub epoch : (head_of s).epoch ≡ st.epoch
  pub cut : (head_of s).cut ≡ st.cut
  pub last : (head_of s).last_transaction ≡ st.last
  pub list : view_in s 17 (place_of s n) ≡ record { listed = st.listed; len = st.len; start = st.start }
  pub readers : (has : Reader → Bool) → count_open has s (place_of s n) ≡ count_in has st.readers
  pub writer : writer_in s (place_of s n) ≡ st.writer
  pub touched : touched_in s (place_of s n) ≡ st.touched
  pub live : is_open_tape s (place_of s n) ≡ st.live
  pub files : files_for d s n ≡ st.held.files
  pub opened : (p : ℕ) → place_of s n ≡ Some p → st.live ≡ true → SeenOpen s p st

-- the tape's handle, of an entry size; 0 where it is not open
pub record Handled (s n : List ℕ) (handle entry : ℕ) : Type 0 where
  pub number : handle_in s (place_of s n) ≡ handle
  pub size : handle ≢ 0 → entry_in s (place_of s n) ≡ entry
