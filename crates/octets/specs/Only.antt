-- What a step leaves alone, by place: an area that differs from another between two places only. A put is such a step, and so is a step made of such
-- steps; numbers and parts that lie elsewhere are then as they were. Assumes nothing.
use Rattle.std.specs.Prelude.{◌≡◌, List, length, get_or, take, drop, replicate}
use Rattle.std.proofs.Math.Path.{refl}
use Rattle.std.proofs.Common.{sym, ◌∙◌, arith, length-take, length-drop, get_or-take, get_or-drop, ext_get_or}
use Prim.Native.Nat.{ℕ, zero, suc, ◌+◌, ◌≤◌, ◌<◌}
use Rattle.std.proofs.lemmas.List.{length-replicate}
use Rattle.octets.specs.Bytes.{put, length-put, get_or-put-other, put_is}
use Rattle.octets.specs.Number.{num_at, put_num, length-le, Bytes, bytes_le, bytes-append, bytes_take, bytes_drop}

-- t is s but for the places from low up to high
pub record OnlyIn (low high : ℕ) (s t : List ℕ) : Type 0 where
  pub long : length t ≡ length s
  pub same : (i : ℕ) → (low ≤ i → high ≤ i) → get_or t i 0 ≡ get_or s i 0

pub only_none : (low high : ℕ) (s : List ℕ) → OnlyIn low high s s
only_none low high s = record { long = refl; same = λ i h. refl }

pub only-put : (s : List ℕ) (at : ℕ) (bs : List ℕ) → OnlyIn at (at + length bs) s (put s at bs)
only-put s at bs = record { long = length-put s at bs; same = λ i h. get_or-put-other s at bs i 0 h }

pub only-put_num : (k : ℕ) (s : List ℕ) (at v : ℕ) → OnlyIn at (at + k) s (put_num k s at v)
unfolding put_num
only-put_num k s at v = record { long = length-put _ _ _; same = λ i h. get_or-put-other _ _ _ i 0 (λ l. rw length-le (h l)) }

pub only-zeros : (s : List ℕ) (at n : ℕ) → OnlyIn at (at + n) s (put s at (replicate n 0))
only-zeros s at n = record { long = length-put _ _ _; same = λ i h. get_or-put-other _ _ _ i 0 (λ l. rw length-replicate (h l)) }

-- one step behind another
pub only_then : (low high : ℕ) (s t u : List ℕ) → OnlyIn low high s t → OnlyIn low high t u → OnlyIn low high s u
only_then low high s t u p q = record { long = q.long ∙ p.long; same = λ i h. q.same i h ∙ p.same i h }

-- the places between which a step stays, said more widely
pub only_wider : (low high low' high' : ℕ) (s t : List ℕ) → low' ≤ low → high ≤ high' → OnlyIn low high s t → OnlyIn low' high' s t
only_wider low high low' high' s t a b p = record { long = p.long; same = λ i h. p.same i (λ l. omega (arith, h (omega arith))) }

module _ (low high : ℕ) (s t : List ℕ) (only : OnlyIn low high s t) where
  -- a number elsewhere
  pub num_at-only : (k b : ℕ) → (low < b + k → high ≤ b) → num_at k t b ≡ num_at k s b
  unfolding num_at
  num_at-only zero b h = refl
  num_at-only (suc k) b h = rw (only.same b (λ l. h (omega arith)), num_at-only k (b + 1) (λ l. omega (arith, h (omega arith))))

  -- a part elsewhere
  pub part-only : (n b : ℕ) → (low < b + n → high ≤ b) → take n (drop b t) ≡ take n (drop b s)
  part-only n b h =
      ext_get_or 0 _ _ (simp (length-take, length-drop, only.long))
      (λ i l.
      let k = rw length-take at l in
      let m : i < n = omega arith in
      get_or-take n (drop b t) i 0 m
      ∙ get_or-drop b t i 0
      ∙ only.same (b + i) (λ q. omega (arith, h (omega arith)))
      ∙ sym (get_or-drop b s i 0)
      ∙ sym (get_or-take n (drop b s) i 0 m))

-- ---- bytes stay bytes

pub bytes-put : (s : List ℕ) (at : ℕ) (bs : List ℕ) → at + length bs ≤ length s → Bytes s → Bytes bs → Bytes (put s at bs)
bytes-put s at bs h p q i = rw (put_is s at bs h) (bytes-append (take at s) _ (bytes_take at s p) (bytes-append bs _ q (bytes_drop (at + length bs) s p)) i)

pub bytes-put_num : (k : ℕ) (s : List ℕ) (at v : ℕ) → at + k ≤ length s → Bytes s → Bytes (put_num k s at v)
unfolding put_num
bytes-put_num k s at v h p = bytes-put s at _ (rw length-le h) p (bytes_le k v)
