-- The Borsh specification, for the types that a metadata record is made of. A struct is its fields in the order of their declaration, so it is the
-- `++` of their encodings and needs no definition. Assumes nothing.
use Rattle.std.specs.Prelude.{Bool, true, ◌&&◌, List, [], ◌∷◌, ◌++◌, ℕ, length}
use Rattle.octets.specs.Number.{le}
use Rattle.octets.specs.Compare.{comes_before}

-- "Integers: little_endian(x)"
abbrev pub u32 : ℕ → List ℕ
u32 v = le 4 v

abbrev pub u64 : ℕ → List ℕ
u64 v = le 8 v

-- "Fixed sized arrays: for el in x: repr(el)": of bytes, the bytes
abbrev pub array : List ℕ → List ℕ
array bs = bs

-- "Dynamic sized containers: repr(len() as u32), for el in x: repr(el)": of bytes, as a string is too
unfoldable pub vec : List ℕ → List ℕ
vec bs = u32 (length bs) ++ bs

-- each element's encoding, one after the other
unfoldable pub each : {A : Type 0} → (A → List ℕ) → List A → List ℕ
each f [] = []
each f (x ∷ xs) = f x ++ each f xs

-- "HashMap: repr(x.len() as u32), for (k, v) in x.sorted_by_key(): repr(k), repr(v)": f encodes a key with its value, and the entries are given in
-- the order of their keys, which `ascending` says
unfoldable pub sorted_map : {A : Type 0} → (A → List ℕ) → List A → List ℕ
sorted_map f xs = u32 (length xs) ++ each f xs

-- sorted by key and no key twice: each key comes after the one before it, and the first after a given text (the empty one lets any other pass)
unfoldable pub ascending : {A : Type 0} → (A → List ℕ) → List ℕ → List A → Bool
ascending key before [] = true
ascending key before (x ∷ xs) = comes_before before (key x) && ascending key (key x) xs
