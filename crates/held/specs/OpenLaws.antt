-- A session's end and a tape's opening: pages stay in the files that are tracked again, and the cache is filled from them. Assumes nothing.
use Rattle.std.proofs.lemmas.Option.{none-some}
use Rattle.std.specs.Prelude.{◌≡◌, refl, true, ◌&&◌, List, [], ℕ, zero, suc, ◌+◌, ◌-◌, ◌%◌, ◌≤◌, ◌<◌, length, take, drop, Option, Some, None, slice_get}
use Rattle.std.proofs.Common.{sym, ◌∙◌, ⊎_elim, mod-eq_of_lt, add-one, arith, drop-cons, get_or-take, get_or-drop}
use Rattle.std.proofs.Math.Path.{fun_ext}
use Rattle.octets.specs.Cases.{picked, and_r}
use Rattle.octets.specs.Bytes.{length-put, get_or-put-in, length_part}
use Rattle.ring_buffer.specs.Ring.{nth, fresh}
use Rattle.ring_buffer.specs.RingLaws.{sound-fresh, sound-reset}
use Rattle.components.specs.Pieces.{file_of, place_in}
use Rattle.components.specs.PiecesLaws.{file-mono}
use Rattle.components.specs.Files.{Files, byte_at, mark_below, track}
use Rattle.components.proofs.MarkLaws.{mark-mark, track-bytes, track-there, track-mark, track-byte, remove-mark}
use Rattle.held.specs.Held.{forget, taken, on_disk_at, load, filled}
use Rattle.held.specs.Page.{Kept, Ringed, Sound}
use Rattle.held.specs.SettleLaws.{swept_kept}

-- ---- the files

-- what opening tracks does not depend on what was tracked before
pub track-forget : (n : ℕ) (f : Files) → track n (forget f) ≡ track n f
unfolding track forget
track-forget n f = fun_ext (λ k. refl)

-- a byte that is found stands in a file on the disk
record OnDisk (fs : ℕ) (f : Files) (o x : ℕ) : Type 0 where
  there : (f (file_of fs o)).there ≡ true
  stands : slice_get (f (file_of fs o)).bytes (place_in fs o) ≡ Some x

on-disk : (fs : ℕ) (f : Files) (o : ℕ) {x : ℕ} → byte_at fs f o ≡ Some x → OnDisk fs f o x
unfolding byte_at
on-disk fs f o {x} =
    let g = f (file_of fs o) in
    picked (λ (q : Option ℕ). q ≡ Some x → OnDisk fs f o x) (g.tracked && g.there) (slice_get g.bytes (place_in fs o)) None
    (λ t e. record { there = and_r g.tracked g.there t; stands = e })
    (λ _ e. absurd (none-some x e))

pub track-kept : (fs : ℕ) → 0 < fs → (f : Files) (l st n : ℕ) (c : List ℕ) → Kept fs f st n c → n ≤ l → Kept fs (track (file_of fs l) f) st n c
track-kept fs z f l st n c k below o a b =
    let d = on-disk fs f o (k o a b) in
    track-byte fs (file_of fs l) f o (file-mono fs z o l (omega arith)) d.there ∙ d.stands

-- the files below start's are marked and may go; no page begins there
pub taken-kept : (fs : ℕ) → 0 < fs → (f : Files) (began l start st n : ℕ) (c : List ℕ) → Kept fs (track (file_of fs l) f) st n c → start ≤ st
    → Kept fs (taken fs began l start f) st n c
unfolding taken
taken-kept fs z f began l start st n c k later =
    swept_kept fs z (track (file_of fs l) f) (file_of fs start) began 0xffff_ffff_ffff_ffff st n c k
    (λ i e m _. absurd (none-some e (sym (track-mark (file_of fs l) f i) ∙ m)))
    (λ _. file-mono fs z start st later)

pub taken-mark : (fs : ℕ) (f : Files) (began l start k : ℕ) {e : ℕ} → (taken fs began l start f k).mark ≡ Some e → (e ≡ began) × (k < file_of fs start)
unfolding taken
taken-mark fs f began l start k {e} m =
    let tracked = track (file_of fs l) f in
    ⊎_elim
    (λ q. absurd (none-some e (sym (track-mark (file_of fs l) f k) ∙ q)))
    (λ q. q)
    (mark-mark (file_of fs start) began tracked k (remove-mark 0xffff_ffff_ffff_ffff (mark_below (file_of fs start) began tracked) k m))

-- what tracking finds is on the disk
track-disk : (fs m : ℕ) (f : Files) (o : ℕ) {x : ℕ} → byte_at fs (track m f) o ≡ Some x → on_disk_at fs f o ≡ Some x
unfolding on_disk_at
track-disk fs m f o e =
    let d = on-disk fs (track m f) o e in
    let t = sym (track-there m f (file_of fs o)) ∙ d.there in
    rw t (rw (track-bytes m f (file_of fs o)) at d.stands)

pub load_kept : (fs m : ℕ) (f : Files) (st : ℕ) (c : List ℕ) → Kept fs (track m f) st (length c) c
    → (n o : ℕ) → st ≤ o → o + n ≤ length c → load fs f o n ≡ Some (take n (drop o c))
unfolding load
load_kept fs m f st c k zero o a b = refl
load_kept fs m f st c k (suc n) o a b =
    rw (track-disk fs m f o (k o a (omega arith)), load_kept fs m f st c k n (o + 1) (omega arith) (omega arith), drop-cons c o 0 (omega arith), add-one o)

-- ---- the cache: filled from a up to the tape's length, or made empty

pub fill-ringed : (capacity st a : ℕ) (memory x : List ℕ) (f : Files) → st ≤ a → a ≤ length x → length x - a ≤ capacity → 1 ≤ capacity → capacity ≤ length memory
    → Ringed (filled capacity a memory (take (length x - a) (drop a x)) f) st (length x) x
unfolding filled nth
fill-ringed capacity st a memory x f u v w one room o p q r =
    let last = take (length x - a) (drop a x) in
    let long : length last ≡ length x - a = length_part (length x - a) x a (omega arith) in
    let k = o - a in
    let place : (0 + k) % capacity ≡ 0 + k = mod-eq_of_lt {n = 0 + k} {m = capacity} (omega arith) in
    let e : a + k ≡ o = omega arith in
    rw place (get_or-put-in memory 0 last k 0 (omega arith) (omega arith))
    ∙ get_or-take (length x - a) (drop a x) k 0 (omega arith)
    ∙ get_or-drop a x k 0
    ∙ rw e

-- a cache is in order that ends where the tape ends
filled-sound : (capacity first : ℕ) (memory bs : List ℕ) (f : Files) (end : ℕ) → 1 ≤ capacity → capacity ≤ 4096 → capacity ≤ length memory
    → length bs ≤ capacity → first + length bs ≡ end → Sound (filled capacity first memory bs f) end end
unfolding filled
filled-sound capacity first memory bs f end one small room fits e =
    record {
      ring =
          rw (length-put memory 0 bs)
          (sound-reset (fresh capacity first) (length memory) (sound-fresh capacity first (length memory) one small room) (length bs) first fits);
      few = omega arith;
      new = omega arith;
      joined = λ _. e;
      empty = λ _. refl;
    }

pub fill-sound : (capacity a : ℕ) (memory x : List ℕ) (f : Files) → 1 ≤ capacity → capacity ≤ 4096 → capacity ≤ length memory → a ≤ length x → length x - a ≤ capacity
    → Sound (filled capacity a memory (take (length x - a) (drop a x)) f) (length x) (length x)
fill-sound capacity a memory x f one small room v w =
    let long : length (take (length x - a) (drop a x)) ≡ length x - a = length_part (length x - a) x a (omega arith) in
    filled-sound capacity a memory (take (length x - a) (drop a x)) f (length x) one small room (omega arith) (omega arith)

pub made-sound : (capacity st : ℕ) (memory : List ℕ) (f : Files) → 1 ≤ capacity → capacity ≤ 4096 → capacity ≤ length memory → Sound (filled capacity st memory [] f) st st
made-sound capacity st memory f one small room = filled-sound capacity st memory [] f st one small room (omega arith) (omega arith)
