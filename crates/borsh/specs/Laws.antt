-- Laws of the encodings: how long they are, that they are bytes, that no two values share one, and what the order of keys says. Assumes nothing.
use Rattle.std.specs.Prelude.{◌≡◌, true, List, [], ◌∷◌, ◌++◌, ℕ, ◌+◌, ◌<◌, ◌^◌, length, take, drop}
use Rattle.std.proofs.Math.Path.{refl}
use Rattle.std.proofs.Common.{sym, ap, ◌∙◌, append_assoc, arith, length-append, take_at, drop_at}
use Rattle.octets.specs.Cases.{and_l, and_r, and_both}
use Rattle.octets.specs.Bytes.{put, put-append}
use Rattle.octets.specs.Number.{le, Bytes, length-le, le-inj, bytes_le, bytes-append}
use Rattle.octets.specs.Compare.{comes_before}
use Rattle.borsh.specs.Encoding.{vec, each, sorted_map, ascending}

-- ---- how long

pub length-vec : (bs : List ℕ) → length (vec bs) ≡ 4 + length bs
unfolding vec
length-vec bs = rw (length-append (le 4 (length bs)) bs, length-le 4 (length bs))

pub length-sorted_map : {A : Type 0} (f : A → List ℕ) (xs : List A) → length (sorted_map f xs) ≡ 4 + length (each f xs)
unfolding sorted_map
length-sorted_map f xs = rw (length-append (le 4 (length xs)) (each f xs), length-le 4 (length xs))

pub each_append : {A : Type 0} (f : A → List ℕ) (xs ys : List A) → each f (xs ++ ys) ≡ each f xs ++ each f ys
unfolding each
each_append f [] ys = refl
each_append f (x ∷ xs) ys = rw (each_append f xs ys) (sym (append_assoc (f x) (each f xs) (each f ys)))

-- ---- bytes only

pub bytes-vec : (bs : List ℕ) → Bytes bs → Bytes (vec bs)
unfolding vec
bytes-vec bs p = bytes-append (le 4 (length bs)) bs (bytes_le 4 (length bs)) p

pub bytes-each : {A : Type 0} (f : A → List ℕ) → ((x : A) → Bytes (f x)) → (xs : List A) → Bytes (each f xs)
unfolding each
bytes-each f p [] i = omega arith
bytes-each f p (x ∷ xs) i = bytes-append (f x) (each f xs) (p x) (bytes-each f p xs) i

pub bytes-sorted_map : {A : Type 0} (f : A → List ℕ) → ((x : A) → Bytes (f x)) → (xs : List A) → Bytes (sorted_map f xs)
unfolding sorted_map
bytes-sorted_map f p xs = bytes-append (le 4 (length xs)) (each f xs) (bytes_le 4 (length xs)) (bytes-each f p xs)

-- ---- written in two runs

pub put-vec : (s : List ℕ) (at : ℕ) (bs : List ℕ) → put s at (vec bs) ≡ put (put s at (le 4 (length bs))) (at + 4) bs
unfolding vec
put-vec s at bs =
    put-append s at (le 4 (length bs)) bs
    ∙ ap (λ (n : ℕ). put (put s at (le 4 (length bs))) (at + n) bs) (length-le 4 (length bs))

-- ---- an encoding followed by a rest tells both

pub append_inj : (a b r t : List ℕ) → length a ≡ length b → a ++ r ≡ b ++ t → (a ≡ b) × (r ≡ t)
append_inj a b r t n e = (
  sym (take_at a r (length a) refl) ∙ ap (take (length a)) e ∙ take_at b t (length a) (sym n),
  sym (drop_at a r (length a) refl) ∙ ap (drop (length a)) e ∙ drop_at b t (length a) (sym n),
)

pub le-cons-inj : (k v w : ℕ) (r t : List ℕ) → v < 256 ^ k → w < 256 ^ k → le k v ++ r ≡ le k w ++ t → (v ≡ w) × (r ≡ t)
le-cons-inj k v w r t f g e =
    let q = append_inj (le k v) (le k w) r t (length-le k v ∙ sym (length-le k w)) e in
    (le-inj k v w f g q.0, q.1)

pub vec-inj : (a b r t : List ℕ) → length a < 256 ^ 4 → length b < 256 ^ 4 → vec a ++ r ≡ vec b ++ t → (a ≡ b) × (r ≡ t)
unfolding vec
vec-inj a b r t f g e =
    let q = le-cons-inj 4 (length a) (length b) (a ++ r) (b ++ t) f g
    (sym (append_assoc (le 4 (length a)) a r) ∙ e ∙ append_assoc (le 4 (length b)) b t) in
    append_inj a b r t q.0 q.1

-- ---- the order of keys

module _ {A : Type 0} (key : A → List ℕ) (before : List ℕ) where
  pub ascending-nil : ascending key before [] ≡ true
  unfolding ascending
  ascending-nil = refl

  pub ascending-head : (x : A) (xs : List A) → ascending key before (x ∷ xs) ≡ true → comes_before before (key x) ≡ true
  unfolding ascending
  ascending-head x xs = and_l (comes_before before (key x)) (ascending key (key x) xs)

  pub ascending-tail : (x : A) (xs : List A) → ascending key before (x ∷ xs) ≡ true → ascending key (key x) xs ≡ true
  unfolding ascending
  ascending-tail x xs = and_r (comes_before before (key x)) (ascending key (key x) xs)

  pub ascending-cons : (x : A) (xs : List A) → comes_before before (key x) ≡ true → ascending key (key x) xs ≡ true → ascending key before (x ∷ xs) ≡ true
  unfolding ascending
  ascending-cons x xs = and_both (comes_before before (key x)) (ascending key (key x) xs)
