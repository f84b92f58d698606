-- RFC 7693 section 3: the mixing function G, the compression function F, padding, and BLAKE2b of a key and a message. Words stand in lists,
-- `slice_index v a` is the RFC's v[a] and `slice_set v a x` its v[a] := x. Assumes nothing.
use Rattle.std.specs.Prelude.{ℕ, zero, suc, ◌+◌, ◌-◌, ◌*◌, ◌/◌, ◌%◌, ◌^◌, max, Bool, true, false, List, [], ◌∷◌, ◌++◌, length, take, drop, replicate, slice_index, slice_set}
use Rattle.octets.specs.Number.{le, num_at}
use Rattle.blake2b.specs.Words.{w, xor, shl, rotr}
use Rattle.blake2b.specs.Constants.{r, bb, R1, R2, R3, R4, IV, SIGMA}

-- ---- 3.1 Mixing Function G

-- v[a] := (v[a] + v[b] + x) mod 2**w
unfoldable pub add_word : ℕ → ℕ → ℕ → List ℕ → List ℕ
add_word a b x v = slice_set v a ((slice_index v a + slice_index v b + x) % 2 ^ w)

-- v[c] := (v[c] + v[d]) mod 2**w
unfoldable pub add : ℕ → ℕ → List ℕ → List ℕ
add c d v = slice_set v c ((slice_index v c + slice_index v d) % 2 ^ w)

-- v[d] := (v[d] ^ v[a]) >>> n
unfoldable pub turn : ℕ → ℕ → ℕ → List ℕ → List ℕ
turn d a n v = slice_set v d (rotr (xor (slice_index v d) (slice_index v a)) n)

-- v, and then the step f: the steps stand in the RFC's order
infixl 20 ◌▷◌
abbrev pub ◌▷◌ : List ℕ → (List ℕ → List ℕ) → List ℕ
v ▷ f = f v

unfoldable pub G : List ℕ → ℕ → ℕ → ℕ → ℕ → ℕ → ℕ → List ℕ
G v a b c d x y =
    v
    ▷ add_word a b x
    ▷ turn d a R1
    ▷ add c d
    ▷ turn b c R2
    ▷ add_word a b y
    ▷ turn d a R3
    ▷ add c d
    ▷ turn b c R4

-- ---- 3.2 Compression Function F

-- a round's mixing number j on v[a], v[b], v[c], v[d], with the message words at SIGMA[i][2 j] and SIGMA[i][2 j + 1]
unfoldable pub mixing : List ℕ → ℕ → ℕ → ℕ → ℕ → ℕ → ℕ → List ℕ → List ℕ
mixing m i j a b c d v = G v a b c d (slice_index m (slice_index SIGMA (16 * i + 2 * j))) (slice_index m (slice_index SIGMA (16 * i + (2 * j + 1))))

-- one round, with row i of SIGMA
unfoldable pub round : List ℕ → ℕ → List ℕ → List ℕ
round m i v =
    v
    ▷ mixing m i 0 0 4 8 12
    ▷ mixing m i 1 1 5 9 13
    ▷ mixing m i 2 2 6 10 14
    ▷ mixing m i 3 3 7 11 15
    ▷ mixing m i 4 0 5 10 15
    ▷ mixing m i 5 1 6 11 12
    ▷ mixing m i 6 2 7 8 13
    ▷ mixing m i 7 3 4 9 14

-- the first k rounds: round i takes row i mod 10
unfoldable pub rounds : List ℕ → ℕ → List ℕ → List ℕ
rounds m zero v = v
rounds m (suc k) v = round m (k % 10) (rounds m k v)

-- v[14] := v[14] ^ 0xFF..FF where this is the last block
unfoldable pub flagged : Bool → List ℕ → List ℕ
flagged true v = slice_set v 14 (xor (slice_index v 14) (2 ^ w - 1))
flagged false v = v

-- the local work vector: h and IV, with both words of the counter t and the last-block flag f
unfoldable pub work_vector : List ℕ → ℕ → Bool → List ℕ
work_vector h t f =
    (h ++ IV)
    ▷ (λ v. slice_set v 12 (xor (slice_index v 12) (t % 2 ^ w)))
    ▷ (λ v. slice_set v 13 (xor (slice_index v 13) (t / 2 ^ w)))
    ▷ flagged f

-- h[i] := h[i] ^ v[i] ^ v[i + 8], for the words of h from i on
unfoldable pub fold_from : ℕ → List ℕ → List ℕ → List ℕ
fold_from i [] v = []
fold_from i (x ∷ h) v = xor (xor x (slice_index v i)) (slice_index v (i + 8)) ∷ fold_from (i + 1) h v

unfoldable pub F : List ℕ → List ℕ → ℕ → Bool → List ℕ
F h m t f = fold_from 0 h (rounds m r (work_vector h t f))

-- ---- 2.4 Little-Endian Interpretation of Words as Bytes

-- k words of s, from a place on
unfoldable pub words_from : ℕ → List ℕ → ℕ → List ℕ
words_from zero s at = []
words_from (suc k) s at = num_at 8 s at ∷ words_from k s (at + 8)

-- the bytes of words, lowest first
unfoldable pub bytes_of : List ℕ → List ℕ
bytes_of [] = []
bytes_of (x ∷ h) = le 8 x ++ bytes_of h

-- ---- 3.3 Padding Data and Computing a BLAKE2 Digest

-- padded with zero bytes to a whole block
unfoldable pub pad : List ℕ → List ℕ
pad s = s ++ replicate (bb - length s) 0

-- "If a secret key is used (kk > 0), it is padded with zero bytes and set as d[0]"
unfoldable pub keyed : List ℕ → List ℕ
keyed [] = []
keyed (k ∷ ks) = pad (k ∷ ks)

-- a block of s, from a place on
unfoldable pub block_from : List ℕ → ℕ → List ℕ
block_from s at = pad (take bb (drop at s))

-- d[i], the words of block i of s
unfoldable pub d : List ℕ → ℕ → List ℕ
d s i = words_from 16 (block_from s (i * bb)) 0

-- ceil(n / bb): the blocks that n bytes fill
abbrev pub blocks : ℕ → ℕ
blocks n = (n + (bb - 1)) / bb

-- dd = ceil(kk / bb) + ceil(ll / bb), and 1 where there is neither key nor message
unfoldable pub dd : ℕ → ℕ → ℕ
dd kk ll = max 1 (blocks kk + blocks ll)

-- h[0] := h[0] ^ 0x01010000 ^ (kk << 8) ^ nn: the first word of section 2.5's parameter block; the others are 0
unfoldable pub start : ℕ → ℕ → List ℕ
start kk nn = slice_set IV 0 (xor (xor (xor (slice_index IV 0) 0x01010000) (shl kk 8)) nn)

-- h after the first k blocks of s, none of them the last
unfoldable pub absorbed : List ℕ → List ℕ → ℕ → List ℕ
absorbed h s zero = h
absorbed h s (suc k) = F (absorbed h s k) (d s k) ((k + 1) * bb) false

-- h after all n + 1 blocks of s: the last has its flag, and the count of all bytes, the padded key's among them
unfoldable pub finished : List ℕ → List ℕ → ℕ → List ℕ
finished h s n = F (absorbed h s n) (d s n) (length s) true

-- BLAKE2b of nn bytes, with a key and a message: the first nn bytes of h
unfoldable pub blake2b : ℕ → List ℕ → List ℕ → List ℕ
blake2b nn key message =
    take nn
    (bytes_of
    (finished (start (length key) nn) (keyed key ++ message) (dd (length key) (length message) - 1)))
