-- A run of bytes put into a byte area. Everything that is written into lent memory is a `put`: a number, a copy and a fill alike. So what a write
-- leaves alone is said once. Assumes nothing.
use Rattle.std.specs.Prelude.{◌≡◌, refl, ◌≢◌, List, [], ◌∷◌, ◌++◌, ℕ, zero, suc, ◌+◌, ◌-◌, ◌≤◌, ◌<◌, length, get_or, set, take, drop, replicate}
use Rattle.std.proofs.Common.{sym, ap, ◌∙◌, append-nil, add_assoc, add-zero, zero-add, add-one, arith, length-set, length-drop, take-append-drop, drop_of_length-le, get_or-set_same, get_or-set_other, drop-cons, take-add, drop_at, length-take-le, take-suc-set, drop-set-lt, drop-drop, set-set}
use Rattle.std.proofs.Math.Seq.{append_snoc, take-append_seam, take-set-lt}
use Rattle.std.proofs.lemmas.List.{take-set-le, drop-set-add, set_comm}

-- s, with bs in the place of what stands from at on
unfoldable pub put : List ℕ → ℕ → List ℕ → List ℕ
put s at [] = s
put s at (b ∷ bs) = put (set s at b) (at + 1) bs

-- ---- parts of an area

-- a part that lies inside is as long as it says
pub length_part : (n : ℕ) (s : List ℕ) (at : ℕ) → at + n ≤ length s → length (take n (drop at s)) ≡ n
length_part n s at h = length-take-le n (drop at s) (simp length-drop (omega arith))

-- the front part without its own front
pub drop-take : (m n : ℕ) (s : List ℕ) → m ≤ length s → drop m (take (m + n) s) ≡ take n (drop m s)
drop-take m n s h = ap (drop m) (take-add m n s) ∙ drop_at (take m s) (take n (drop m s)) m (length-take-le m s h)

-- ---- what a put keeps and what it writes

pub length-put : (s : List ℕ) (at : ℕ) (bs : List ℕ) → length (put s at bs) ≡ length s
unfolding put
length-put s at [] = refl
length-put s at (b ∷ bs) = length-put (set s at b) (at + 1) bs ∙ length-set s at b

-- a byte outside: the side condition is linear
pub get_or-put-other : (s : List ℕ) (at : ℕ) (bs : List ℕ) (i d : ℕ) → (at ≤ i → at + length bs ≤ i) → get_or (put s at bs) i d ≡ get_or s i d
unfolding put
get_or-put-other s at [] i d h = refl
get_or-put-other s at (b ∷ bs) i d h =
    let e : i ≢ at = λ q. omega (arith, h (omega arith)) in
    get_or-put-other (set s at b) (at + 1) bs i d (λ l. omega (arith, h (omega arith))) ∙ get_or-set_other s at i b d e

-- a byte inside
pub get_or-put-in : (s : List ℕ) (at : ℕ) (bs : List ℕ) (j d : ℕ) → at + length bs ≤ length s → j < length bs → get_or (put s at bs) (at + j) d ≡ get_or bs j d
unfolding put
get_or-put-in s at [] j d h l = absurd (omega arith)
get_or-put-in s at (b ∷ bs) zero d h l =
    rw add-zero
    (get_or-put-other (set s at b) (at + 1) bs at d (λ q. omega arith) ∙ get_or-set_same s at b d (omega arith))
get_or-put-in s at (b ∷ bs) (suc j) d h l =
    let e : at + suc j ≡ at + 1 + j = omega arith in
    rw e (get_or-put-in (set s at b) (at + 1) bs j d (simp length-set (omega arith)) (omega arith))

-- two runs, one behind the other
pub put-append : (s : List ℕ) (at : ℕ) (xs ys : List ℕ) → put s at (xs ++ ys) ≡ put (put s at xs) (at + length xs) ys
unfolding put
put-append s at [] ys = rw add-zero
put-append s at (x ∷ xs) ys =
    let e : at + suc (length xs) ≡ at + 1 + length xs = omega arith in
    rw e (put-append (set s at x) (at + 1) xs ys)

-- an area that is long enough, cut around the run
pub put_is : (s : List ℕ) (at : ℕ) (bs : List ℕ) → at + length bs ≤ length s → put s at bs ≡ take at s ++ (bs ++ drop (at + length bs) s)
unfolding put
put_is s at [] h = rw add-zero (sym (take-append-drop at s))
put_is s at (b ∷ bs) h =
    let e : at + suc (length bs) ≡ at + 1 + length bs = omega arith in
    let rest : drop (at + 1 + length bs) (set s at b) ≡ drop (at + 1 + length bs) s = drop-set-lt (at + 1 + length bs) s at b (omega arith) in
    let front : take (at + 1) (set s at b) ≡ take at s ++ (b ∷ []) = rw add-one (take-suc-set s at b (omega arith)) in
    rw (put_is (set s at b) (at + 1) bs (simp length-set (omega arith)), rest, front, e)
    (append_snoc (take at s) b (bs ++ drop (at + 1 + length bs) s))

-- a part that was lent, put back between what stands before and behind it
pub put-lent : (s : List ℕ) (at : ℕ) (part : List ℕ) → at + length part ≤ length s → take at s ++ (part ++ drop (length part) (drop at s)) ≡ put s at part
put-lent s at part h = ap (λ (l : List ℕ). take at s ++ (part ++ l)) (drop-drop (length part) at s) ∙ sym (put_is s at part h)

-- a run put at the front: the run, and what stood behind it
pub put_front : (s bs : List ℕ) → length bs ≤ length s → put s 0 bs ≡ bs ++ drop (length bs) s
put_front s bs h = put_is s 0 bs (omega arith) ∙ rw (zero-add (length bs))

-- a run that fills the area is all of it
pub put_whole : (s bs : List ℕ) → length bs ≡ length s → put s 0 bs ≡ bs
put_whole s bs e =
    let over : length s ≤ length bs = omega arith in
    put_front s bs (omega arith)
    ∙ ap (λ (l : List ℕ). bs ++ l) (drop_of_length-le s over)
    ∙ append-nil bs

-- the part that was put, and the parts before and behind it
pub part-put : (s : List ℕ) (at : ℕ) (bs : List ℕ) → at + length bs ≤ length s → take (length bs) (drop at (put s at bs)) ≡ bs
part-put s at bs h =
    rw (put_is s at bs h, drop_at (take at s) (bs ++ drop (at + length bs) s) at (length-take-le at s (omega arith)))
    (take-append_seam bs (drop (at + length bs) s))

-- a run put inside a part is put into that part
pub part-put-inside : (n : ℕ) (s : List ℕ) (a k : ℕ) (bs : List ℕ) → k + length bs ≤ n → take n (drop a (put s (a + k) bs)) ≡ put (take n (drop a s)) k bs
unfolding put
part-put-inside n s a k [] h = refl
part-put-inside n s a k (b ∷ bs) h =
    ap (λ (i : ℕ). take n (drop a (put (set s (a + k) b) i bs))) (add_assoc a k 1)
    ∙ part-put-inside n (set s (a + k) b) a (k + 1) bs (omega arith)
    ∙ ap (λ (l : List ℕ). put l (k + 1) bs) (ap (take n) (drop-set-add a s k b) ∙ take-set-lt n (drop a s) k b (omega arith))

pub take-put-below : (n : ℕ) (s : List ℕ) (at : ℕ) (bs : List ℕ) → n ≤ at → take n (put s at bs) ≡ take n s
unfolding put
take-put-below n s at [] h = refl
take-put-below n s at (b ∷ bs) h = take-put-below n (set s at b) (at + 1) bs (omega arith) ∙ take-set-le n s at b h

pub drop-put-above : (n : ℕ) (s : List ℕ) (at : ℕ) (bs : List ℕ) → at + length bs ≤ n → drop n (put s at bs) ≡ drop n s
unfolding put
drop-put-above n s at [] h = refl
drop-put-above n s at (b ∷ bs) h = drop-put-above n (set s at b) (at + 1) bs (omega arith) ∙ drop-set-lt n s at b (omega arith)

-- ---- two puts into an area

set-put : (s : List ℕ) (i v at : ℕ) (bs : List ℕ) → (at ≤ i → at + length bs ≤ i) → put (set s i v) at bs ≡ set (put s at bs) i v
unfolding put
set-put s i v at [] h = refl
set-put s i v at (b ∷ bs) h =
    let e : i ≢ at = λ q. omega (arith, h (omega arith)) in
    ap (λ (l : List ℕ). put l (at + 1) bs) (set_comm s i at v b e)
    ∙ set-put (set s at b) i v (at + 1) bs (λ l. omega (arith, h (omega arith)))

-- apart from each other, they may change places
pub put-swap : (s : List ℕ) (a : ℕ) (xs : List ℕ) (b : ℕ) (ys : List ℕ) → a + length xs ≤ b → put (put s a xs) b ys ≡ put (put s b ys) a xs
unfolding put
put-swap s a [] b ys h = refl
put-swap s a (x ∷ xs) b ys h =
    put-swap (set s a x) (a + 1) xs b ys (omega arith)
    ∙ ap (λ (l : List ℕ). put l (a + 1) xs) (set-put s a x b ys (λ q. absurd (omega arith)))

-- at the same place, the later one stands
pub put-over : (s : List ℕ) (at : ℕ) (xs ys : List ℕ) → length xs ≡ length ys → put (put s at xs) at ys ≡ put s at ys
unfolding put
put-over s at [] [] e = refl
put-over s at [] (y ∷ ys) e = absurd (omega arith)
put-over s at (x ∷ xs) [] e = absurd (omega arith)
put-over s at (x ∷ xs) (y ∷ ys) e =
    ap (λ (l : List ℕ). put l (at + 1) ys)
    (sym (set-put (set s at x) at y (at + 1) xs (λ q. absurd (omega arith))) ∙ ap (λ (l : List ℕ). put l (at + 1) xs) (set-set s at x y))
    ∙ put-over (set s at y) (at + 1) xs ys (omega arith)

-- ---- the turns of the loops that copy and fill

pub put_step : (s : List ℕ) (at : ℕ) (src : List ℕ) (j : ℕ) → j < length src → put s (at + j) (drop j src) ≡ put (set s (at + j) (get_or src j 0)) (at + (j + 1)) (drop (j + 1) src)
unfolding put
put_step s at src j h = rw (drop-cons src j 0 h, ← add_assoc, ← add-one)

pub put-end : (s : List ℕ) (at : ℕ) (src : List ℕ) (j : ℕ) → length src ≤ j → put s (at + j) (drop j src) ≡ s
unfolding put
put-end s at src j h = rw (drop_of_length-le src h)

pub fill_step : (s : List ℕ) (i to : ℕ) → i < to → put s i (replicate (to - i) 0) ≡ put (set s i 0) (i + 1) (replicate (to - (i + 1)) 0)
unfolding put
fill_step s i to h =
    let e : to - i ≡ suc (to - (i + 1)) = omega arith in
    rw e

pub fill_end : (s : List ℕ) (i to : ℕ) → to ≤ i → put s i (replicate (to - i) 0) ≡ s
unfolding put
fill_end s i to h =
    let e : to - i ≡ 0 = omega arith in
    rw e
