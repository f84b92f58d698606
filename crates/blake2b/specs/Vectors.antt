-- RFC 7693 appendix A: the definitions, computed. The program `vectors` runs the code on these and on appendix E. Assumes nothing.
use Rattle.std.specs.Prelude.{◌≡◌, [], ◌∷◌, replicate, refl}
use Rattle.octets.specs.Number.{le, num_at}
use Rattle.blake2b.specs.Words.{xor_bits, xor, rotr}
use Rattle.blake2b.specs.Constants.{IV, SIGMA}
use Rattle.blake2b.specs.Blake2b.{blake2b, add_word, add, turn, G, mixing, round, rounds, flagged, work_vector, fold_from, F, words_from, bytes_of, pad, keyed, block_from, d, dd, start, absorbed, finished}

-- "BLAKE2b-512("abc")"
abc : blake2b 64 [] (0x61 ∷ 0x62 ∷ 0x63 ∷ [])
    ≡
    0xba ∷ 0x80 ∷ 0xa5 ∷ 0x3f ∷ 0x98 ∷ 0x1c ∷ 0x4d ∷ 0x0d ∷ 0x6a ∷ 0x27 ∷ 0x97 ∷ 0xb6 ∷ 0x9f ∷ 0x12 ∷ 0xf6 ∷ 0xe9 ∷
    0x4c ∷ 0x21 ∷ 0x2f ∷ 0x14 ∷ 0x68 ∷ 0x5a ∷ 0xc4 ∷ 0xb7 ∷ 0x4b ∷ 0x12 ∷ 0xbb ∷ 0x6f ∷ 0xdb ∷ 0xff ∷ 0xa2 ∷ 0xd1 ∷
    0x7d ∷ 0x87 ∷ 0xc5 ∷ 0x39 ∷ 0x2a ∷ 0xab ∷ 0x79 ∷ 0x2d ∷ 0xc2 ∷ 0x52 ∷ 0xd5 ∷ 0xde ∷ 0x45 ∷ 0x33 ∷ 0xcc ∷ 0x95 ∷
    0x18 ∷ 0xd3 ∷ 0x8a ∷ 0xa8 ∷ 0xdb ∷ 0xf1 ∷ 0x92 ∷ 0x5a ∷ 0xb9 ∷ 0x23 ∷ 0x86 ∷ 0xed ∷ 0xd4 ∷ 0x00 ∷ 0x99 ∷ 0x23 ∷ []
unfolding blake2b add_word add turn G mixing round rounds flagged work_vector fold_from F words_from bytes_of pad keyed block_from d dd start absorbed finished xor_bits xor rotr IV SIGMA le num_at
abc = refl

-- a key, more than one block after it, and a shorter digest: 129 zero bytes under the key 01 02 03, as Python's hashlib has it
keyed-blocks : blake2b 20 (1 ∷ 2 ∷ 3 ∷ []) (replicate 129 0)
    ≡
    0xb1 ∷ 0x13 ∷ 0x8f ∷ 0x8f ∷ 0x3f ∷ 0xf1 ∷ 0x29 ∷ 0x69 ∷ 0xfd ∷ 0xdd ∷
    0x64 ∷ 0x2a ∷ 0x74 ∷ 0x9a ∷ 0xe4 ∷ 0x66 ∷ 0x21 ∷ 0xa4 ∷ 0x60 ∷ 0xdb ∷ []
unfolding blake2b add_word add turn G mixing round rounds flagged work_vector fold_from F words_from bytes_of pad keyed block_from d dd start absorbed finished xor_bits xor rotr IV SIGMA le num_at
keyed-blocks = refl
