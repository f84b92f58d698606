-- The record written and read, and the record that is chosen: what was written is read back whatever stands behind it, what was read is what
-- `encode_record` writes, and what is handed on says what was read. Assumes nothing.
use Rattle.std.specs.Prelude.{◌≡◌, refl, Bool, true, false, cond, Option, Some, None, List, [], ◌++◌, ℕ, ◌+◌, ◌≤◌, ◌<◌, ◌^◌, leb, length, take, drop}
use Rattle.std.proofs.Common.{sym, ◌∙◌, append_assoc, arith, lt-ltb, le-ltb, leb-true, leb-false, length-append, drop_at, take_at, drop-drop, length-take-le}
use Rattle.std.proofs.Math.Path.{ap}
use Rattle.std.proofs.Math.Seq.{take-append_seam}
use Rattle.octets.specs.Bytes.{put, put_front, drop-take}
use Rattle.octets.specs.Number.{le, num_at, length-le, num_at-le, num_at-drop, num_at-take, Bytes as AllBytes}
use Rattle.octets.specs.Compare.{same_bytes, same_refl, same_true}
use Rattle.blake2b.specs.Laws.{length-blake2b}
use Rattle.borsh.specs.Encoding.{u64, vec}
use Rattle.borsh.specs.Taking.{span, take_number, take_array, take_vec}
use Rattle.borsh.specs.Laws.{length-vec}
use Rattle.borsh.specs.Back.{take-number-fits, take-number-short, take-array-fits, take-array-short, take-vec-fits, take-vec-short, take-vec-cut, take-number-was, take-array-was, take-vec-was}
use Rattle.metadata.specs.declared.list.TapeList.{TapeList}
use Rattle.metadata.specs.declared.record.Record.{Record}
use Rattle.metadata.specs.declared.choice.Side.TheVariants.{Left, Right}
use Rattle.metadata.specs.Tapes.{Tape, encode_list, good_list}
use Rattle.metadata.specs.Decoding.{tapes, decode_list}
use Rattle.metadata.specs.Struct.{tapes_of, storable}
use Rattle.metadata.specs.StructLaws.{length-encode_list, storable-good}
use Rattle.metadata.specs.RoundTrip.{Sizes, decode-encode}
use Rattle.metadata.specs.Record.{record_of, hash_of, encode_record, with_list, with_epoch, with_hash, with_version, read_record}
use Rattle.metadata.specs.Choice.{epoch_of, part_of, left_counts, chosen, next_side, chosen_epoch, chosen_list}

-- ---- how long

-- a hash has 32 bytes
pub length-hash : (e : ℕ) (l : List ℕ) → length (hash_of e l) ≡ 32
unfolding hash_of
length-hash e l = length-blake2b 32 [] _ (omega arith)

-- a record has 48 bytes and its list's
pub length-record : (e : ℕ) (l : List ℕ) → length (encode_record e l) ≡ 48 + length l
unfolding encode_record
length-record e l = simp (length-append, length-le, length-hash, length-vec) (omega arith)

-- the record of a list that may be stored has at most MOST_RECORD_BYTES
pub record-most : (e : ℕ) (l : TapeList) → storable l ≡ true → length (encode_record e (encode_list (tapes_of l))) ≤ 404
record-most e l ok =
    let most = length-encode_list (tapes_of l) (storable-good l ok) in
    rw length-record (omega arith)

-- ---- the ways out of reading

module _ (s : List ℕ) where
  -- no version
  pub read-no-version : take_number 4 s 0 ≡ None → read_record s ≡ None
  unfolding read_record
  read-no-version short = ap (with_version s) short

  module _ {version : ℕ} {a : ℕ} (p : take_number 4 s 0 ≡ Some (version, a)) where
    -- a version and no hash
    pub read-no-hash : take_array 32 s a ≡ None → read_record s ≡ None
    unfolding read_record
    read-no-hash short = ap (with_version s) p ∙ ap (with_hash s) short

    module _ {hash m : ℕ} {b : ℕ} (q : take_array 32 s a ≡ Some (span hash m b)) where
      -- a hash and no epoch
      pub read-no-epoch : take_number 8 s b ≡ None → read_record s ≡ None
      unfolding read_record
      read-no-epoch short = ap (with_version s) p ∙ ap (with_hash s) q ∙ ap (with_epoch s hash) short

      module _ {epoch : ℕ} {c : ℕ} (r : take_number 8 s b ≡ Some (epoch, c)) where
        -- an epoch and no list
        pub read-no-list : take_vec s c ≡ None → read_record s ≡ None
        unfolding read_record
        read-no-list short = ap (with_version s) p ∙ ap (with_hash s) q ∙ ap (with_epoch s hash) r ∙ ap (with_list s hash epoch) short

        -- all of it: then the hash decides
        pub read_all : {list n : ℕ} {d : ℕ} → take_vec s c ≡ Some (span list n d)
            → read_record s
            ≡ cond (same_bytes (take 32 (drop hash s)) (hash_of epoch (take n (drop list s)))) (Some (record_of epoch n)) None
        unfolding read_record
        read_all long = ap (with_version s) p ∙ ap (with_hash s) q ∙ ap (with_epoch s hash) r ∙ ap (with_list s hash epoch) long

-- ---- the same by the places of the fields: hash at 4, epoch at 36, the list's length at 44, the list at 48

module _ (s : List ℕ) where
  -- a record that is cut short
  pub read_short : length s < 48 + num_at 4 s 44 → read_record s ≡ None
  read_short h = by (leb 4 (length s)) (leb 36 (length s)) (leb 44 (length s)) (leb 48 (length s)) refl refl refl refl
    where
      by : (a b c d : Bool) → leb 4 (length s) ≡ a → leb 36 (length s) ≡ b → leb 44 (length s) ≡ c → leb 48 (length s) ≡ d → read_record s ≡ None
      by false b c d x y z w = read-no-version s (take-number-short 4 s 0 (leb-false 4 (length s) x))
      by true false c d x y z w =
          read-no-hash s (take-number-fits 4 s 0 (leb-true 4 (length s) x)) (take-array-short 32 s 4 (leb-false 36 (length s) y))
      by true true false d x y z w =
          read-no-epoch s (take-number-fits 4 s 0 (leb-true 4 (length s) x)) (take-array-fits 32 s 4 (leb-true 36 (length s) y))
          (take-number-short 8 s 36 (leb-false 44 (length s) z))
      by true true true false x y z w =
          read-no-list s (take-number-fits 4 s 0 (leb-true 4 (length s) x)) (take-array-fits 32 s 4 (leb-true 36 (length s) y))
          (take-number-fits 8 s 36 (leb-true 44 (length s) z))
          (take-vec-short s 44 (leb-false 48 (length s) w))
      by true true true true x y z w =
          read-no-list s (take-number-fits 4 s 0 (leb-true 4 (length s) x)) (take-array-fits 32 s 4 (leb-true 36 (length s) y))
          (take-number-fits 8 s 36 (leb-true 44 (length s) z))
          (take-vec-cut s 44 (leb-true 48 (length s) w) h)

  -- a record that is all there: the hash decides
  pub read-long : 48 + num_at 4 s 44 ≤ length s
      → read_record s
      ≡ cond (same_bytes (take 32 (drop 4 s)) (hash_of (num_at 8 s 36) (take (num_at 4 s 44) (drop 48 s)))) (Some (record_of (num_at 8 s 36) (num_at 4 s 44))) None
  read-long h =
      read_all s (take-number-fits 4 s 0 (omega arith)) (take-array-fits 32 s 4 (omega arith)) (take-number-fits 8 s 36 (omega arith))
      (take-vec-fits s 44 (omega arith) ∙ take-array-fits (num_at 4 s 44) s 48 h)

-- a record that counts, by the places of its fields
pub record Seen (s : List ℕ) (e n : ℕ) : Type 0 where
  pub ends : 48 + n ≤ length s
  pub epoch : num_at 8 s 36 ≡ e
  pub size : num_at 4 s 44 ≡ n
  pub hash : take 32 (drop 4 s) ≡ hash_of e (take n (drop 48 s))

-- what was read stands there
pub seen : (s : List ℕ) {e n : ℕ} → read_record s ≡ Some (record_of e n) → Seen s e n
seen s {e} {n} whole = by_end (leb (48 + num_at 4 s 44) (length s)) refl
  where
    never : read_record s ≡ None → Seen s e n
    never q = let z : ◌≡◌ {A = ℕ} 0 1 = cc in absurd (omega arith)

    by-hash : 48 + num_at 4 s 44 ≤ length s → (t : Bool) → same_bytes (take 32 (drop 4 s)) (hash_of (num_at 8 s 36) (take (num_at 4 s 44) (drop 48 s))) ≡ t → Seen s e n
    by-hash fits true q =
        let same : ◌≡◌ {A = Option Record} (Some (record_of (num_at 8 s 36) (num_at 4 s 44))) (Some (record_of e n))
        = ap (λ (t : Bool). cond t (Some (record_of (num_at 8 s 36) (num_at 4 s 44))) None) (sym q) ∙ sym (read-long s fits) ∙ whole in
        let both : record_of (num_at 8 s 36) (num_at 4 s 44) ≡ record_of e n = cc in
        let epoch : num_at 8 s 36 ≡ e = ap (λ (r : Record). r.epoch) both in
        let size : num_at 4 s 44 ≡ n = ap (λ (r : Record). r.list_len) both in
        record {
          ends = omega arith;
          epoch = epoch;
          size = size;
          hash = rw (← epoch, ← size) (same_true (take 32 (drop 4 s)) (hash_of (num_at 8 s 36) (take (num_at 4 s 44) (drop 48 s))) q);
        }
    by-hash fits false q = never (read-long s fits ∙ ap (λ (t : Bool). cond t (Some (record_of (num_at 8 s 36) (num_at 4 s 44))) None) q)

    by_end : (t : Bool) → leb (48 + num_at 4 s 44) (length s) ≡ t → Seen s e n
    by_end true q =
        by-hash (leb-true (48 + num_at 4 s 44) (length s) q)
        (same_bytes (take 32 (drop 4 s)) (hash_of (num_at 8 s 36) (take (num_at 4 s 44) (drop 48 s))))
        refl
    by_end false q = never (read_short s (leb-false (48 + num_at 4 s 44) (length s) q))

-- and what stands there is read
pub read-seen : (s : List ℕ) {e n : ℕ} → Seen s e n → read_record s ≡ Some (record_of e n)
read-seen s {e} {n} r =
    let fits : 48 + num_at 4 s 44 ≤ length s = omega (arith, r.ends, r.size) in
    read-long s fits ∙ rw (r.epoch, r.size, r.hash, same_refl (hash_of e (take n (drop 48 s))))

-- a record that counts ends inside its file
pub record-ends : (s : List ℕ) {e n : ℕ} → read_record s ≡ Some (record_of e n) → 48 + n ≤ length s
record-ends s whole = (seen s whole).ends

-- ---- what was written is read

-- a record's fields and what follows them
record-fields : (e : ℕ) (l rest : List ℕ) → encode_record e l ++ rest ≡ le 4 1 ++ (hash_of e l ++ (le 8 e ++ (le 4 (length l) ++ (l ++ rest))))
unfolding encode_record vec
record-fields e l rest = simp append_assoc

module _ (e : ℕ) (l rest : List ℕ) where
  record-4 : drop 4 (encode_record e l ++ rest) ≡ hash_of e l ++ (le 8 e ++ (le 4 (length l) ++ (l ++ rest)))
  record-4 =
      ap (drop 4) (record-fields e l rest)
      ∙ drop_at (le 4 1) (hash_of e l ++ (le 8 e ++ (le 4 (length l) ++ (l ++ rest)))) 4 (length-le 4 1)

  record-36 : drop 36 (encode_record e l ++ rest) ≡ le 8 e ++ (le 4 (length l) ++ (l ++ rest))
  record-36 =
      sym (drop-drop 32 4 (encode_record e l ++ rest))
      ∙ ap (drop 32) record-4
      ∙ drop_at (hash_of e l) (le 8 e ++ (le 4 (length l) ++ (l ++ rest))) 32 (length-hash e l)

  record-44 : drop 44 (encode_record e l ++ rest) ≡ le 4 (length l) ++ (l ++ rest)
  record-44 =
      sym (drop-drop 8 36 (encode_record e l ++ rest))
      ∙ ap (drop 8) record-36
      ∙ drop_at (le 8 e) (le 4 (length l) ++ (l ++ rest)) 8 (length-le 8 e)

  -- the list's bytes, where a reader takes them
  record-list : take (length l) (drop 48 (encode_record e l ++ rest)) ≡ l
  record-list =
      ap (take (length l))
      (sym (drop-drop 4 44 (encode_record e l ++ rest)) ∙ ap (drop 4) record-44 ∙ drop_at (le 4 (length l)) (l ++ rest) 4 (length-le 4 (length l)))
      ∙ take-append_seam l rest

  -- a record that was written is read back, whatever bytes follow it
  pub read_back : e < 2 ^ 64 → length l < 2 ^ 32 → read_record (encode_record e l ++ rest) ≡ Some (record_of e (length l))
  read_back f g =
      let s = encode_record e l ++ rest in
      read-seen s
      (record {
        ends = simp (length-append, length-record) (omega arith);
        epoch = num_at-drop 8 s 36 0 ∙ ap (λ (x : List ℕ). num_at 8 x 0) record-36 ∙ num_at-le 8 e (le 4 (length l) ++ (l ++ rest)) (omega arith);
        size = num_at-drop 4 s 44 0 ∙ ap (λ (x : List ℕ). num_at 4 x 0) record-44 ∙ num_at-le 4 (length l) (l ++ rest) (omega arith);
        hash = ap (take 32) record-4
            ∙ take_at (hash_of e l) (le 8 e ++ (le 4 (length l) ++ (l ++ rest))) 32 (length-hash e l)
            ∙ sym (ap (hash_of e) record-list);
      })

-- the same over any older content that is long enough
pub read-over : (e : ℕ) (l old : List ℕ) → e < 2 ^ 64 → length l < 2 ^ 32 → length (encode_record e l) ≤ length old → read_record (put old 0 (encode_record e l)) ≡ Some (record_of e (length l))
read-over e l old f g room =
    ap read_record (put_front old (encode_record e l) room)
    ∙ read_back e l (drop (length (encode_record e l)) old) f g

-- ---- what is read was written so

-- behind any four bytes of a version stands what `encode_record` writes
pub record WasRecord (s : List ℕ) (e n : ℕ) : Type 0 where
  pub ends : 48 + n ≤ length s
  pub epoch : e < 2 ^ 64
  pub size : n < 2 ^ 32
  pub bytes : drop 4 s ≡ hash_of e (take n (drop 48 s)) ++ (u64 e ++ (vec (take n (drop 48 s)) ++ drop (48 + n) s))

-- a record that was read is one that was written
pub read-was : (s : List ℕ) {e n : ℕ} → AllBytes s → read_record s ≡ Some (record_of e n) → WasRecord s e n
read-was s {e} {n} p whole =
    let r = seen s whole in
    let hash = take-array-was 32 s 4 (take-array-fits 32 s 4 (omega (arith, r.ends))) in
    let epoch = take-number-was 8 s 36 p (take-number-fits 8 s 36 (omega (arith, r.ends))) in
    let list = take-vec-was s 44 p (take-vec-fits s 44 (omega (arith, r.ends)) ∙ ap (λ (m : ℕ). take_array m s 48) r.size ∙ take-array-fits n s 48 r.ends) in
    record {
      ends = r.ends;
      epoch = omega (arith, epoch.small, r.epoch);
      size = omega (arith, list.small);
      bytes = hash.bytes
          ∙ ap (λ (x : List ℕ). x ++ drop 36 s) r.hash
          ∙ ap (λ (x : List ℕ). hash_of e (take n (drop 48 s)) ++ x)
          (epoch.bytes ∙ ap (λ (x : ℕ). le 8 x ++ drop 44 s) r.epoch ∙ ap (λ (x : List ℕ). le 8 e ++ x) list.bytes);
    }

-- ---- what is handed on

module _ (r : List ℕ) where
  -- fewer than 48 bytes are no record: epoch 0
  pub none-epoch : length r < 48 → chosen_epoch r ≡ 0
  unfolding chosen_epoch
  none-epoch h = rw (lt-ltb (length r) 48 h)

  -- and the empty list
  pub none_list : length r < 48 → chosen_list r ≡ tapes []
  unfolding chosen_list
  none_list h = rw (lt-ltb (length r) 48 h)

  -- else the epoch stands at 36
  pub some-epoch : 48 ≤ length r → chosen_epoch r ≡ num_at 8 r 36
  unfolding chosen_epoch
  some-epoch h = rw (le-ltb (length r) 48 h)

  -- and the list from 48 on
  pub some-list : 48 ≤ length r → chosen_list r ≡ decode_list (drop 48 r)
  unfolding chosen_list
  some-list h = rw (le-ltb (length r) 48 h)

-- the epoch of what is handed on is the epoch that was read
pub chosen-epoch : (s : List ℕ) → chosen_epoch (part_of s (read_record s)) ≡ epoch_of (read_record s)
chosen-epoch s = by (read_record s) refl
  where
    by : (r : Option Record) → read_record s ≡ r → chosen_epoch (part_of s r) ≡ epoch_of r
    by (Some r) q =
        let e = r.epoch in
        let n = r.list_len in
        let here = seen s {e = e} {n = n} q in
        let long : length (take (48 + n) s) ≡ 48 + n = length-take-le (48 + n) s here.ends in
        some-epoch (take (48 + n) s) (omega arith) ∙ num_at-take 8 s 36 (48 + n) (omega arith) ∙ here.epoch
    by None q = none-epoch [] (omega arith)

-- its list is the list of the record that was read
pub chosen-list : (s : List ℕ) {e n : ℕ} → read_record s ≡ Some (record_of e n) → chosen_list (part_of s (read_record s)) ≡ decode_list (take n (drop 48 s))
chosen-list s {e} {n} whole =
    let ends = record-ends s whole in
    let long : length (take (48 + n) s) ≡ 48 + n = length-take-le (48 + n) s ends in
    ap (λ (r : Option Record). chosen_list (part_of s r)) whole
    ∙ some-list (take (48 + n) s) (omega arith)
    ∙ ap decode_list (drop-take 48 n s (omega arith))

-- and the empty one where nothing counts
pub chosen_none : (s : List ℕ) → read_record s ≡ None → chosen_list (part_of s (read_record s)) ≡ tapes []
chosen_none s empty = ap (λ (r : Option Record). chosen_list (part_of s r)) empty ∙ none_list [] (omega arith)

-- ---- which file counts

module _ (left right : List ℕ) where
  -- left, if its epoch is the larger
  pub chosen-left : epoch_of (read_record right) < epoch_of (read_record left) → chosen left right ≡ part_of left (read_record left)
  unfolding chosen left_counts
  chosen-left h = rw (lt-ltb (epoch_of (read_record right)) (epoch_of (read_record left)) h)

  -- and the next record goes to right
  pub next-right : epoch_of (read_record right) < epoch_of (read_record left) → next_side left right ≡ Right
  unfolding next_side left_counts
  next-right h = rw (lt-ltb (epoch_of (read_record right)) (epoch_of (read_record left)) h)

  -- else right
  pub chosen-right : epoch_of (read_record left) ≤ epoch_of (read_record right) → chosen left right ≡ part_of right (read_record right)
  unfolding chosen left_counts
  chosen-right h = rw (le-ltb (epoch_of (read_record right)) (epoch_of (read_record left)) h)

  -- and the next record goes to left
  pub next-left : epoch_of (read_record left) ≤ epoch_of (read_record right) → next_side left right ≡ Left
  unfolding next_side left_counts
  next-left h = rw (le-ltb (epoch_of (read_record right)) (epoch_of (read_record left)) h)

-- ---- the whole way: written, chosen, taken out

-- what a record that was handed on says
abbrev pub Says : List ℕ → ℕ → List Tape → Type 0
Says r e ts = (chosen_epoch r ≡ e) × (chosen_list r ≡ tapes ts)

module _ (e : ℕ) (ts : List Tape) (rest : List ℕ) (f : e < 2 ^ 64) (good : good_list ts ≡ true) where
  written-whole : read_record (encode_record e (encode_list ts) ++ rest) ≡ Some (record_of e (length (encode_list ts)))
  written-whole = let most = length-encode_list ts good in read_back e (encode_list ts) rest f (omega arith)

  written-epoch : epoch_of (read_record (encode_record e (encode_list ts) ++ rest)) ≡ e
  written-epoch = ap epoch_of written-whole

  -- what is handed on of a file that a record was written to
  written-says : Sizes ts → Says (part_of (encode_record e (encode_list ts) ++ rest) (read_record (encode_record e (encode_list ts) ++ rest))) e ts
  written-says sizes =
      let s = encode_record e (encode_list ts) ++ rest in (
        chosen-epoch s ∙ written-epoch,
        chosen-list s written-whole ∙ ap decode_list (record-list e (encode_list ts) rest) ∙ decode-encode ts good sizes,
      )

-- a record written to left, of a larger epoch than right has, is the one chosen, and it says what was written
pub written-left : (e : ℕ) (ts : List Tape) (rest right : List ℕ) → e < 2 ^ 64 → good_list ts ≡ true → Sizes ts → epoch_of (read_record right) < e
    → Says (chosen (encode_record e (encode_list ts) ++ rest) right) e ts
written-left e ts rest right f good sizes h =
    let s = encode_record e (encode_list ts) ++ rest in
    rw (chosen-left s right (omega (arith, written-epoch e ts rest f good))) (written-says e ts rest f good sizes)

-- so is a record written to right, of an epoch that is not below left's
pub written-right : (e : ℕ) (ts : List Tape) (rest left : List ℕ) → e < 2 ^ 64 → good_list ts ≡ true → Sizes ts → epoch_of (read_record left) ≤ e
    → Says (chosen left (encode_record e (encode_list ts) ++ rest)) e ts
written-right e ts rest left f good sizes h =
    let s = encode_record e (encode_list ts) ++ rest in
    rw (chosen-right left s (omega (arith, written-epoch e ts rest f good))) (written-says e ts rest f good sizes)
