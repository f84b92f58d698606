-- A record written run by run: the head that is hashed, the hash, and the four fields. Assumes nothing.
use mathlib.Core.Path.{◌≡◌, sym, ap, ◌∙◌}
use mathlib.Core.List.{List, [], ◌++◌}
use Prim.Native.Nat.{ℕ, ◌+◌}
use native.Mathlib.Omega.{arith}
use Rattle.std.specs.Prelude.{Result, Ok}
use lib.ListN.{length, replicate, length-append}
use Rattle.octets.specs.Bytes.{put, put-append, put_whole}
use Rattle.octets.specs.Number.{put_num, length-le}
use Rattle.blake2b.specs.declared.digest.HashError.{HashError}
use Rattle.blake2b.specs.Blake2b.{blake2b}
use Rattle.blake2b.specs.Digest.{Written, written, hashed, served}
use Rattle.blake2b.specs.Laws.{length-blake2b}
use Rattle.borsh.specs.Encoding.{u32, u64, vec}
use Rattle.metadata.specs.Record.{EPOCH, TAPES, hash_of, encode_record}
use Rattle.metadata.specs.RecordLaws.{length-hash}

-- the head in its array: "epoch", the epoch's bytes, "tapes"
pub head-runs : (e : ℕ) (a b h : List ℕ) → a ≡ put (replicate 18 0) 0 EPOCH → b ≡ put_num 8 a 5 e → h ≡ put b 13 TAPES → h ≡ EPOCH ++ (u64 e ++ TAPES)
unfolding put_num
head-runs e a b h x y z =
    let s : List ℕ = replicate 18 0 in
    let long : length (EPOCH ++ (u64 e ++ TAPES)) ≡ 18 = simp (length-append, length-le) in
    let rest : put a 5 (u64 e ++ TAPES) ≡ put b 13 TAPES = put-append a 5 (u64 e) TAPES ∙ rw (length-le 8 e, ← y) in
    z
    ∙ sym rest
    ∙ rw x (sym (put-append s 0 EPOCH (u64 e ++ TAPES)))
    ∙ put_whole s (EPOCH ++ (u64 e ++ TAPES)) long

-- a digest of a message that begins with the head, in an array of its own length
pub hash-served : (e : ℕ) (head list h : List ℕ) (r : Result (Unit {0}) HashError) → head ≡ EPOCH ++ (u64 e ++ TAPES) → hashed 32 [] head list (replicate 32 0) ≡ written r h → h ≡ hash_of e list
unfolding hash_of
hash-served e head list h r x y =
    let short : length head ≡ 18 = ap length x ∙ simp (length-append, length-le) in
    let done = served 32 [] head list (replicate 32 0) (omega arith) (omega arith) (omega arith) (omega arith) (omega arith) in
    ap (λ (w : Written). w.bytes) (sym y ∙ done)
    ∙ put_whole (replicate 32 0) (blake2b 32 [] (head ++ list)) (length-blake2b 32 [] (head ++ list) (omega arith))
    ∙ ap (λ (l : List ℕ). blake2b 32 [] (l ++ list)) x

-- and it is one that is served
pub hash-done : (e : ℕ) (head list h : List ℕ) (r : Result (Unit {0}) HashError) → head ≡ EPOCH ++ (u64 e ++ TAPES) → hashed 32 [] head list (replicate 32 0) ≡ written r h → r ≡ Ok tt
hash-done e head list h r x y =
    let short : length head ≡ 18 = ap length x ∙ simp (length-append, length-le) in
    ap (λ (w : Written). w.answer) (sym y ∙ served 32 [] head list (replicate 32 0) (omega arith) (omega arith) (omega arith) (omega arith) (omega arith))

-- version, hash, epoch and list, one behind the other
pub put-record-runs : (s a b c r : List ℕ) (i j k e : ℕ) (hash list : List ℕ) → hash ≡ hash_of e list → i ≡ 4 → j ≡ 36 → k ≡ 44
    → a ≡ put s 0 (u32 1) → b ≡ put a i hash → c ≡ put b j (u64 e) → r ≡ put c k (vec list) → r ≡ put s 0 (encode_record e list)
unfolding encode_record
put-record-runs s a b c r i j k e hash list h p q o w x y z =
    let body = u64 e ++ vec list in
    let first : i ≡ 0 + length (u32 1) = omega (arith, length-le 4 1) in
    let second : j ≡ i + length (hash_of e list) = omega (arith, length-hash e list) in
    let third : k ≡ j + length (u64 e) = omega (arith, length-le 8 e) in
    sym
    (put-append s 0 (u32 1) (hash_of e list ++ body)
    ∙ rw (← first, ← w)
    (put-append a i (hash_of e list) body
    ∙ rw (← second, ← h, ← x)
    (put-append b j (u64 e) (vec list) ∙ rw (← third, ← y) (sym z))))
