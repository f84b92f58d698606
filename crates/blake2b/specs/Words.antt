-- RFC 7693 section 2.3: arithmetic on words of w = 64 bits. Every definition here computes on numerals, so that a digest does. Assumes nothing.
use Rattle.std.specs.Prelude.{ℕ, zero, suc, ◌+◌, ◌-◌, ◌*◌, ◌/◌, ◌%◌, ◌^◌}
use Rattle.std.specs.Int.Bits.{differ}

-- w, the bits of a word
abbrev pub w : ℕ
w = 64

-- the exclusive or of the lowest k bits of a and b, bit by bit
unfoldable pub xor_bits : ℕ → ℕ → ℕ → ℕ
xor_bits zero a b = 0
xor_bits (suc k) a b = differ (a % 2) (b % 2) + 2 * xor_bits k (a / 2) (b / 2)

-- a ^ b: "the bitwise exclusive-or operation"
unfoldable pub xor : ℕ → ℕ → ℕ
xor a b = xor_bits w a b

-- x >> n: "floor(x / 2**n)"
abbrev pub shr : ℕ → ℕ → ℕ
shr x n = x / 2 ^ n

-- x << n: "(x * 2**n) mod (2**w)"
abbrev pub shl : ℕ → ℕ → ℕ
shl x n = x * 2 ^ n % 2 ^ w

-- x >>> n: "(x >> n) ^ (x << (w - n))"
unfoldable pub rotr : ℕ → ℕ → ℕ
rotr x n = xor (shr x n) (shl x (w - n))
