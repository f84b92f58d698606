-- Laws of what an open does to a tape's directory: the disk stays sound, and of the session only the rows of tracking change. Assumes nothing.
use Rattle.std.specs.Prelude.{◌≡◌, List, [], ℕ, ◌≤◌, length, Option, Some, None}
use Rattle.std.proofs.Common.{◌∙◌, arith}
use Rattle.octets.specs.Cases.{picked}
use Rattle.octets.specs.Number.{Bytes}
use Rattle.octets.specs.Only.{OnlyIn, only_then}
use Rattle.components.specs.Pieces.{file_of}
use Rattle.layout.specs.Disk.{directories, slots, Sound}
use Rattle.layout.specs.Names.{find_name}
use Rattle.layout.specs.Session.{session_bytes, Begun}
use Rattle.disk.specs.Steps.{add_directory}
use Rattle.disk.specs.StepLaws.{length-add_directory, length-empty_directory}
use Rattle.disk.specs.SoundLaws.{slots-empty_directory, slots-add_directory, sound-add_directory, sound-empty_directory, bytes-add_directory, bytes-empty_directory}
use Rattle.session.specs.KeepLaws.{begun-only}
use Rattle.rolling_tape.specs.Removal.{Areas, areas}
use Rattle.rolling_tape.specs.Kept.{KeptSound, kept-sound-none}
use Rattle.rolling_tape.specs.RemovalLaws.{length-remove_ripe-disk, slots-remove_ripe, sound-remove_ripe, bytes-remove_ripe-disk, only-remove_ripe-session, bytes-remove_ripe-session}
use Rattle.rolling_tape.specs.Tracking.{retracked}
use Rattle.rolling_tape.specs.TrackingLaws.{length-retracked, only-retracked, bytes-retracked}
use Rattle.rolling_tape.specs.declared.tracking.Change.{Change}
use Rattle.rolling_tape.specs.declared.tracking.Change.TheVariants.{TrackUpTo, MarkBelow, UntrackAll}
use Rattle.opening.specs.declared.shape.Opening.{Opening}
use Rattle.opening.specs.Directory.{taken_files, emptied, added, readied}

-- ---- the session of a known tape, before anything is removed

module _ (a : Areas) (place : ℕ) (o : Opening) (began : ℕ) where
  abbrev up_to : Change
  up_to = TrackUpTo (file_of o.file_size o.len)

  abbrev below : Change
  below = MarkBelow (file_of o.file_size o.start) began

  abbrev tracked : List ℕ
  tracked = retracked a.disk a.session place up_to

  abbrev marks : Areas
  marks = areas a.disk (retracked a.disk tracked place below)

  module _ (few : slots a.disk ≤ 64) where
    only-marked : OnlyIn 4936 5960 a.session marks.session
    only-marked =
        only_then 4936 5960 a.session tracked marks.session (only-retracked a.disk a.session place up_to few)
        (only-retracked a.disk tracked place below few)

    bytes-marked : session_bytes ≤ length a.session → Bytes a.session → Bytes marks.session
    bytes-marked long bytes =
        let same = length-retracked a.disk a.session place up_to in
        bytes-retracked a.disk tracked place below few (omega arith) (bytes-retracked a.disk a.session place up_to few long bytes)

-- ---- both areas, as far as they are kept

module _ (a : Areas) (place : ℕ) (o : Opening) (began : ℕ) (sound : Sound a.disk) where
  kept-taken : KeptSound a (taken_files a place o began)
  unfolding taken_files
  kept-taken =
      let few = sound.head.few in
      let m = marks a place o began in
      record {
        sound = sound-remove_ripe m place _ sound;
        same = slots-remove_ripe m place _;
        long = length-remove_ripe-disk m place _;
        only = only_then 4936 5960 a.session m.session _ (only-marked a place o began few) (only-remove_ripe-session m place _ few);
      }

  bytes-taken-disk : Bytes a.disk → Bytes (taken_files a place o began).disk
  unfolding taken_files
  bytes-taken-disk bytes = bytes-remove_ripe-disk (marks a place o began) place _ sound bytes

  bytes-taken-session : session_bytes ≤ length a.session → Bytes a.session → Bytes (taken_files a place o began).session
  unfolding taken_files
  bytes-taken-session long bytes =
      let few = sound.head.few in
      let same = (only-marked a place o began few).long in
      bytes-remove_ripe-session (marks a place o began) place _ few (omega arith) (bytes-marked a place o began few long bytes)

module _ (a : Areas) (place : ℕ) (sound : Sound a.disk) where
  kept-emptied : KeptSound a (emptied a place)
  unfolding emptied
  kept-emptied =
      record {
        sound = sound-empty_directory a.disk sound place;
        same = slots-empty_directory a.disk place;
        long = length-empty_directory a.disk place;
        only = only-retracked a.disk a.session place UntrackAll sound.head.few;
      }

  bytes-emptied-disk : Bytes a.disk → Bytes (emptied a place).disk
  unfolding emptied
  bytes-emptied-disk bytes = bytes-empty_directory a.disk sound place bytes

  bytes-emptied-session : session_bytes ≤ length a.session → Bytes a.session → Bytes (emptied a place).session
  unfolding emptied
  bytes-emptied-session long bytes = bytes-retracked a.disk a.session place UntrackAll sound.head.few long bytes

pub sound-emptied : (a : Areas) (place : ℕ) → Sound a.disk → Sound (emptied a place).disk
sound-emptied a place sound = (kept-emptied a place sound).sound

-- the place is emptied, and then gets its name
kept-made : (a : Areas) (wanted : List ℕ) (place : ℕ) → Sound a.disk → length wanted ≤ 24
    → KeptSound a (areas (add_directory (emptied a place).disk wanted).area (emptied a place).session)
kept-made a wanted place sound small =
    let e = kept-emptied a place sound in
    let d = (emptied a place).disk in
    record {
      sound = sound-add_directory d e.sound wanted small;
      same = slots-add_directory d wanted small ∙ e.same;
      long = length-add_directory d wanted small ∙ e.long;
      only = e.only;
    }

-- what holds after each way holds of a new directory
add-either : (P : Areas → Type 0) (a : Areas) (wanted : List ℕ) (free : Option ℕ)
    → ((place : ℕ) → P (areas (add_directory (emptied a place).disk wanted).area (emptied a place).session)) → P a → P (added a wanted free)
add-either P a wanted (Some place) p q = p place
add-either P a wanted None p q = q

-- what holds after each way holds of a directory made ready
ready-either : (P : Areas → Type 0) (a : Areas) (wanted : List ℕ) (o : Opening) (began : ℕ) (directory : Option ℕ)
    → ((place : ℕ) → P (taken_files a place o began)) → ((place : ℕ) → P (emptied a place))
    → ((place : ℕ) → P (areas (add_directory (emptied a place).disk wanted).area (emptied a place).session)) → P a
    → P (readied a wanted o began directory)
ready-either P a wanted o began (Some place) p q r n = picked P o.listed (taken_files a place o began) (emptied a place) (λ e. p place) (λ e. q place)
ready-either P a wanted o began None p q r n = add-either P a wanted (find_name a.disk directories []) r n

-- ---- a directory made ready

module _ (a : Areas) (wanted : List ℕ) (o : Opening) (began : ℕ) (directory : Option ℕ) (sound : Sound a.disk) where
  pub bytes-readied-session : session_bytes ≤ length a.session → Bytes a.session → Bytes (readied a wanted o began directory).session
  bytes-readied-session long bytes =
      ready-either (λ (b : Areas). Bytes b.session) a wanted o began directory
      (λ place. bytes-taken-session a place o began sound long bytes)
      (λ place. bytes-emptied-session a place sound long bytes)
      (λ place. bytes-emptied-session a place sound long bytes)
      bytes

  module _ (small : length wanted ≤ 24) where
    kept-readied : KeptSound a (readied a wanted o began directory)
    kept-readied =
        ready-either (KeptSound a) a wanted o began directory
        (λ place. kept-taken a place o began sound)
        (λ place. kept-emptied a place sound)
        (λ place. kept-made a wanted place sound small)
        (kept-sound-none a sound)

    pub sound-readied : Sound (readied a wanted o began directory).disk
    sound-readied = kept-readied.sound

    pub slots-readied : slots (readied a wanted o began directory).disk ≡ slots a.disk
    slots-readied = kept-readied.same

    pub length-readied-disk : length (readied a wanted o began directory).disk ≡ length a.disk
    length-readied-disk = kept-readied.long

    -- only the rows of tracking
    pub only-readied-session : OnlyIn 4936 5960 a.session (readied a wanted o began directory).session
    only-readied-session = kept-readied.only

    pub length-readied-session : length (readied a wanted o began directory).session ≡ length a.session
    length-readied-session = only-readied-session.long

    pub begun-readied : Begun a.session → Begun (readied a wanted o began directory).session
    begun-readied =
        begun-only 4936 5960 a.session (readied a wanted o began directory).session only-readied-session (λ q. omega arith) (λ q. omega arith) (λ q. omega arith)

    pub bytes-readied-disk : Bytes a.disk → Bytes wanted → Bytes (readied a wanted o began directory).disk
    bytes-readied-disk bytes new =
        ready-either (λ (b : Areas). Bytes b.disk) a wanted o began directory
        (λ place. bytes-taken-disk a place o began sound bytes)
        (λ place. bytes-emptied-disk a place sound bytes)
        (λ place. bytes-add_directory (emptied a place).disk (sound-emptied a place sound) wanted small (bytes-emptied-disk a place sound bytes) new)
        bytes
