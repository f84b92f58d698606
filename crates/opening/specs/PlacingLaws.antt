-- What a cache is filled with: no more than it holds, and no byte past the last index. The session before the tape's row
-- is put. Assumes nothing.
use Rattle.std.specs.Prelude.{◌≡◌, true, false, List, length, drop, Option, Some, None}
use Rattle.std.proofs.Common.{◌∙◌}
use Prim.Native.Nat.{ℕ, zero, suc, ◌+◌, ◌≤◌, ◌<◌, ◌^◌}
use native.Mathlib.Omega.{arith}
use Rattle.octets.specs.Cases.{picked}
use Rattle.octets.specs.Number.{Bytes, bytes_take, bytes_drop}
use Rattle.components.specs.Pieces.{file_of, place_in}
use Rattle.layout.specs.Disk.{data_at, len, Sound}
use Rattle.layout.specs.Names.{put_name}
use Rattle.layout.specs.NamesLaws.{only-put_name, bytes-put_name}
use Rattle.layout.specs.Session.{session_bytes, names_at}
use Rattle.disk.specs.Steps.{find_file, file_bytes}
use Rattle.session.specs.Rows.{head_of}
use Rattle.session.specs.RowLaws.{head-only}
use Rattle.rolling_tape.specs.Reading.{lies, bytes_of, read_run}
use Rattle.rolling_tape.specs.ReadingLaws.{can-lies, length-read_run}
use Rattle.rolling_tape.specs.Removal.{Areas}
use Rattle.opening.specs.declared.shape.Opening.{Opening}
use Rattle.opening.specs.Directory.{readied}
use Rattle.opening.specs.DirectoryLaws.{only-readied-session, bytes-readied-session}
use Rattle.opening.specs.Calls.{cached_from, cached_count, can_fill, cached_bytes}

module _ (o : Opening) where
  pub cached-most : cached_count o ≤ o.cache
  cached-most = picked (λ (n : ℕ). n ≤ o.cache) o.listed _ 0 (λ e. omega arith) (λ e. omega arith)

  pub cached-end : o.len < 2 ^ 64 → o.start < 2 ^ 64 → cached_from o + cached_count o ≤ 2 ^ 64
  cached-end len start = picked (λ (n : ℕ). cached_from o + n ≤ 2 ^ 64) o.listed _ 0 (λ e. omega arith) (λ e. omega arith)

  -- where it can be filled, its bytes stand in the files
  pub fill-lies : (d s wanted : List ℕ) → can_fill d s wanted o ≡ true → lies d wanted o.file_size (cached_from o) (cached_count o) ≡ true
  fill-lies d s wanted h = can-lies d s false wanted o.file_size (cached_from o) (cached_count o) h

  pub length-cached : (d wanted : List ℕ) → length (cached_bytes d wanted o) ≡ cached_count o
  length-cached d wanted = length-read_run d wanted o.file_size (cached_from o) (cached_count o)

-- ---- bytes that are read out of bytes

module _ (d tape : List ℕ) (fs : ℕ) (bytes : Bytes d) where
  bytes-found : (f : Option ℕ) → Bytes (bytes_of d f)
  unfolding file_bytes
  bytes-found (Some i) = bytes_take (len d i) (drop (data_at i) d) (bytes_drop (data_at i) d bytes)
  bytes-found None = λ j. omega arith

  pub bytes-read_run : (o n : ℕ) → Bytes (read_run d tape fs o n)
  unfolding read_run
  bytes-read_run o zero i = omega arith
  bytes-read_run o (suc n) zero = bytes-found (find_file d tape (file_of fs o)) (place_in fs o)
  bytes-read_run o (suc n) (suc i) = bytes-read_run (o + 1) n i

-- ---- the session with its directory ready and the tape's name in place

module _ (a : Areas) (wanted : List ℕ) (o : Opening) (began : ℕ) (directory : Option ℕ) (p : ℕ) (sound : Sound a.disk) (small : length wanted ≤ 24) where
  abbrev pub named : List ℕ
  named = put_name (readied a wanted o began directory).session names_at p wanted

  pub length-named : length named ≡ length a.session
  length-named =
      (only-put_name (readied a wanted o began directory).session names_at p wanted small).long
      ∙ (only-readied-session a wanted o began directory sound small).long

  pub head-named : head_of named ≡ head_of a.session
  head-named =
      head-only _ _ (readied a wanted o began directory).session named
      (only-put_name (readied a wanted o began directory).session names_at p wanted small) (λ q. omega arith)
      ∙ head-only _ _ a.session (readied a wanted o began directory).session (only-readied-session a wanted o began directory sound small) (λ q. omega arith)

  pub bytes-named : session_bytes ≤ length a.session → p < 8 → Bytes a.session → Bytes wanted → Bytes named
  bytes-named long low bytes new =
      let same = (only-readied-session a wanted o began directory sound small).long in
      bytes-put_name (readied a wanted o began directory).session names_at p wanted (bytes-readied-session a wanted o began directory sound long bytes) new (omega arith) low small
