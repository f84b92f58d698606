-- Bytes put around a ring: where each goes, what is left as it was, and that one or two copies do it. Assumes nothing.
use Rattle.std.specs.Prelude.{◌≡◌, ℕ, zero, suc, ◌+◌, ◌-◌, ◌%◌, ◌<◌, ◌≤◌, List, [], ◌∷◌, ◌++◌, length, take, drop, ◌≢◌, slice_index, slice_set, refl}
use Rattle.std.proofs.Common.{sym, ap, ◌∙◌, add-zero, mod-lt, mod-eq_of_lt, arith, length-set, take-append-drop, length-drop, get_or-set_same, get_or-set_other, ext_get_or, get_or-drop, length-take-le}
use Rattle.std.proofs.Math.Nat.{mod-add-mod, mod_self}
use Rattle.octets.specs.Cases.{mod-apart}
use Rattle.octets.specs.Bytes.{put}
use Rattle.octets.specs.Number.{Bytes, bytes-set}
use Rattle.ring_buffer.specs.Ring.{around}

pub length-around : (c : ℕ) (bytes : List ℕ) (e : ℕ) (d : List ℕ) → length (around c bytes e d) ≡ length bytes
unfolding around
length-around c bytes e [] = refl
length-around c bytes e (b ∷ d) = length-around c (slice_set bytes (e % c) b) (e + 1) d ∙ length-set bytes (e % c) b

pub bytes-around : (c : ℕ) (bytes : List ℕ) (e : ℕ) (d : List ℕ) → Bytes bytes → Bytes d → Bytes (around c bytes e d)
unfolding around
bytes-around c bytes e [] p q = p
bytes-around c bytes e (b ∷ d) p q = bytes-around c (slice_set bytes (e % c) b) (e + 1) d (bytes-set bytes (e % c) b p (q 0)) (λ i. q (suc i))

-- a place that no byte goes to
pub around-out : (c : ℕ) (bytes : List ℕ) (e : ℕ) (d : List ℕ) (p : ℕ) → ((i : ℕ) → i < length d → (e + i) % c ≢ p)
    → slice_index (around c bytes e d) p ≡ slice_index bytes p
unfolding around
around-out c bytes e [] p h = refl
around-out c bytes e (b ∷ d) p h =
    around-out c (slice_set bytes (e % c) b) (e + 1) d p
    (λ i l z.
    let s : e + suc i ≡ e + 1 + i = omega arith in
    h (suc i) (omega arith) (rw s z))
    ∙ get_or-set_other bytes (e % c) p b 0 (λ z. h 0 (omega arith) (rw add-zero (sym z)))

-- the place that the i-th byte goes to
pub around-in : (c : ℕ) (bytes : List ℕ) (e : ℕ) (d : List ℕ) (i : ℕ) → c ≤ length bytes → length d ≤ c → i < length d
    → slice_index (around c bytes e d) ((e + i) % c) ≡ slice_index d i
unfolding around
around-in c bytes e [] i room f h = absurd (omega arith)
around-in c bytes e (b ∷ d) zero room f h =
    let m : e % c < length bytes = omega (arith, mod-lt e {m = c} (omega arith)) in
    rw add-zero
    (around-out c (slice_set bytes (e % c) b) (e + 1) d (e % c) (λ i s z. mod-apart c e (e + 1 + i) (omega arith) (omega arith) (sym z))
    ∙ get_or-set_same bytes (e % c) b 0 m)
around-in c bytes e (b ∷ d) (suc i) room f h =
    let s : e + suc i ≡ e + 1 + i = omega arith in
    rw s (around-in c (slice_set bytes (e % c) b) (e + 1) d i (simp length-set room) (omega arith) (omega arith))

-- what lies past the capacity is left
pub around-past : (c : ℕ) (bytes : List ℕ) (e : ℕ) (d : List ℕ) (i : ℕ) → 0 < c → c ≤ i → slice_index (around c bytes e d) i ≡ slice_index bytes i
around-past c bytes e d i some h = around-out c bytes e d i (λ j l z. omega (arith, mod-lt (e + j) {m = c} some))

pub drop-around : (c : ℕ) (bytes : List ℕ) (e : ℕ) (d : List ℕ) → 0 < c → drop c (around c bytes e d) ≡ drop c bytes
drop-around c bytes e d some =
    ext_get_or 0 (drop c (around c bytes e d)) (drop c bytes)
    (simp (length-drop, length-around))
    (λ i l.
    get_or-drop c (around c bytes e d) i 0 ∙ around-past c bytes e d (c + i) some (omega arith) ∙ sym (get_or-drop c bytes i 0))

-- a push in pieces
pub around-append : (c : ℕ) (bytes : List ℕ) (e : ℕ) (d f : List ℕ) → around c bytes e (d ++ f) ≡ around c (around c bytes e d) (e + length d) f
unfolding around
around-append c bytes e [] f = rw add-zero
around-append c bytes e (b ∷ d) f =
    let s : e + suc (length d) ≡ e + 1 + length d = omega arith in
    rw s (around-append c (slice_set bytes (e % c) b) (e + 1) d f)

suc-in : (c e : ℕ) → e % c + 1 < c → (e + 1) % c ≡ e % c + 1
suc-in c e h = sym (mod-add-mod e c 1) ∙ mod-eq_of_lt h

-- what does not pass the capacity is put in one piece
pub around-straight : (c : ℕ) (bytes : List ℕ) (e : ℕ) (d : List ℕ) → e % c + length d ≤ c → around c bytes e d ≡ put bytes (e % c) d
unfolding around put
around-straight c bytes e [] h = refl
around-straight c bytes e (b ∷ []) h = refl
around-straight c bytes e (b ∷ (a ∷ d)) h =
    let s : (e + 1) % c ≡ e % c + 1 = suc-in c e (omega arith) in
    around-straight c (slice_set bytes (e % c) b) (e + 1) (a ∷ d) (rw s (omega arith)) ∙ rw s

-- what passes it is put in two
pub around-two : (c : ℕ) (bytes : List ℕ) (e : ℕ) (d : List ℕ) → 0 < c → length d ≤ c → c ≤ e % c + length d
    → around c bytes e d ≡ put (put bytes (e % c) (take (c - e % c) d)) 0 (drop (c - e % c) d)
around-two c bytes e d some f h =
    let n = c - e % c in
    let low : e % c < c = mod-lt e some in
    let long : length (take n d) ≡ n = length-take-le n d (omega arith) in
    let v : e % c + n ≡ c = omega arith in
    let w : (e + n) % c ≡ 0 = sym (mod-add-mod e c n) ∙ ap (λ (x : ℕ). x % c) v ∙ mod_self c in
    ap (λ (x : List ℕ). around c bytes e x) (sym (take-append-drop n d))
    ∙ around-append c bytes e (take n d) (drop n d)
    ∙ ap (λ (x : List ℕ). around c x (e + length (take n d)) (drop n d)) (around-straight c bytes e (take n d) (omega arith))
    ∙ rw long (around-straight c (put bytes (e % c) (take n d)) (e + n) (drop n d) (rw (w, length-drop) (omega arith)) ∙ rw w)
