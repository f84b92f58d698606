-- RFC 7693 sections 2.1, 2.6 and 2.7: BLAKE2b's parameters, its initialization vector and its message schedule. Assumes nothing.
use Rattle.std.specs.Prelude.{ℕ, List, [], ◌∷◌}

-- r, the rounds in F
abbrev pub r : ℕ
r = 12

-- bb, the bytes of a block
abbrev pub bb : ℕ
bb = 128

-- the rotation distances of G
abbrev pub R1 : ℕ
R1 = 32

abbrev pub R2 : ℕ
R2 = 24

abbrev pub R3 : ℕ
R3 = 16

abbrev pub R4 : ℕ
R4 = 63

-- "IV[i] = floor(2**w * frac(sqrt(prime(i+1)))), where prime(i) is the i:th prime number"
unfoldable pub IV : List ℕ
IV =
    0x6a09e667f3bcc908
    ∷ 0xbb67ae8584caa73b
    ∷ 0x3c6ef372fe94f82b
    ∷ 0xa54ff53a5f1d36f1
    ∷ 0x510e527fade682d1
    ∷ 0x9b05688c2b3e6c1f
    ∷ 0x1f83d9abfb41bd6b
    ∷ 0x5be0cd19137e2179
    ∷ []

-- the ten rows of the message schedule, one after the other: SIGMA[i][j] stands at 16 * i + j
unfoldable pub SIGMA : List ℕ
SIGMA =
    0 ∷ 1 ∷ 2 ∷ 3 ∷ 4 ∷ 5 ∷ 6 ∷ 7 ∷ 8 ∷ 9 ∷ 10 ∷ 11 ∷ 12 ∷ 13 ∷ 14 ∷ 15
    ∷ 14 ∷ 10 ∷ 4 ∷ 8 ∷ 9 ∷ 15 ∷ 13 ∷ 6 ∷ 1 ∷ 12 ∷ 0 ∷ 2 ∷ 11 ∷ 7 ∷ 5 ∷ 3
    ∷ 11 ∷ 8 ∷ 12 ∷ 0 ∷ 5 ∷ 2 ∷ 15 ∷ 13 ∷ 10 ∷ 14 ∷ 3 ∷ 6 ∷ 7 ∷ 1 ∷ 9 ∷ 4
    ∷ 7 ∷ 9 ∷ 3 ∷ 1 ∷ 13 ∷ 12 ∷ 11 ∷ 14 ∷ 2 ∷ 6 ∷ 5 ∷ 10 ∷ 4 ∷ 0 ∷ 15 ∷ 8
    ∷ 9 ∷ 0 ∷ 5 ∷ 7 ∷ 2 ∷ 4 ∷ 10 ∷ 15 ∷ 14 ∷ 1 ∷ 11 ∷ 12 ∷ 6 ∷ 8 ∷ 3 ∷ 13
    ∷ 2 ∷ 12 ∷ 6 ∷ 10 ∷ 0 ∷ 11 ∷ 8 ∷ 3 ∷ 4 ∷ 13 ∷ 7 ∷ 5 ∷ 15 ∷ 14 ∷ 1 ∷ 9
    ∷ 12 ∷ 5 ∷ 1 ∷ 15 ∷ 14 ∷ 13 ∷ 4 ∷ 10 ∷ 0 ∷ 7 ∷ 6 ∷ 3 ∷ 9 ∷ 2 ∷ 8 ∷ 11
    ∷ 13 ∷ 11 ∷ 7 ∷ 14 ∷ 12 ∷ 1 ∷ 3 ∷ 9 ∷ 5 ∷ 0 ∷ 15 ∷ 4 ∷ 8 ∷ 6 ∷ 2 ∷ 10
    ∷ 6 ∷ 15 ∷ 14 ∷ 9 ∷ 11 ∷ 3 ∷ 0 ∷ 8 ∷ 12 ∷ 2 ∷ 13 ∷ 7 ∷ 1 ∷ 4 ∷ 10 ∷ 5
    ∷ 10 ∷ 2 ∷ 8 ∷ 4 ∷ 7 ∷ 6 ∷ 1 ∷ 5 ∷ 15 ∷ 11 ∷ 9 ∷ 14 ∷ 3 ∷ 12 ∷ 13 ∷ 0
    ∷ []
