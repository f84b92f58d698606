-- An append's commit: a page keeps its files if each mark that may go lies below its start. The cache is as it was. Assumes nothing.
use Rattle.std.specs.Prelude.{◌≡◌, refl, ◌⊎◌, List, ℕ, ◌-◌, ◌≤◌, ◌<◌, Some}
use Rattle.std.proofs.Common.{◌∙◌, inl, inr, ⊎_elim, arith}
use Rattle.octets.specs.Cases.{decide}
use Rattle.ring_buffer.specs.Put.{unwritten_of}
use Rattle.components.specs.Pieces.{file_of}
use Rattle.components.specs.PiecesLaws.{file-mono}
use Rattle.components.specs.Files.{Files, mark_below, removes, remove}
use Rattle.components.proofs.WriteLaws.{write-mark}
use Rattle.components.proofs.MarkLaws.{mark-mark, mark-byte, removed-mark, remove-mark, remove-keeps}
use Rattle.held.specs.Held.{Held, flush, settled}
use Rattle.held.specs.Page.{Kept, Sound}

-- files marked and removed: a page stays if old marks that may go, and the new ones if they may go, lie below its start
pub swept_kept : (fs : ℕ) → 0 < fs → (f : Files) (start_file began oldest st n : ℕ) (c : List ℕ) → Kept fs f st n c
    → ((k e : ℕ) → (f k).mark ≡ Some e → e < oldest → k < file_of fs st)
    → (began < oldest → start_file ≤ file_of fs st)
    → Kept fs (remove oldest (mark_below start_file began f)) st n c
swept_kept fs z f start_file began oldest st n c kept old new o a b =
    let k = file_of fs o in
    let marked = mark_below start_file began f in
    let up : file_of fs st ≤ k = file-mono fs z st o a in
    decide (removes oldest marked k)
    (λ t.
    let (e, m, l) = removed-mark oldest marked k t in
    ⊎_elim
    (λ q. absurd (omega (arith, old k e q l)))
    (λ (q : (e ≡ began) × (k < start_file)). absurd (omega (arith, q.0, q.1, new (omega (arith, q.0)))))
    (mark-mark start_file began f k m))
    (λ t. remove-keeps fs oldest marked o t ∙ mark-byte fs start_file began f o ∙ kept o a b)

-- marks that are there were there before, or are set now, below start's file; those below the oldest epoch may go
pub settled-kept : (fs : ℕ) → 0 < fs → (h : Held) (began oldest W start st n : ℕ) (c : List ℕ) → Kept fs (flush fs W h) st n c
    → ((k e : ℕ) → (flush fs W h k).mark ≡ Some e → e < oldest → k < file_of fs st)
    → (began < oldest → file_of fs start ≤ file_of fs st)
    → Kept fs (settled fs began oldest W start h).files st n c
unfolding settled
settled-kept fs z h began oldest W start st n c kept old new = swept_kept fs z (flush fs W h) (file_of fs start) began oldest st n c kept old new

pub settled-mark : (fs : ℕ) (h : Held) (began oldest W start k : ℕ) {e : ℕ} → ((settled fs began oldest W start h).files k).mark ≡ Some e
    → ((h.files k).mark ≡ Some e) ⊎ ((e ≡ began) × (k < file_of fs start))
unfolding settled flush
settled-mark fs h began oldest W start k m =
    let flushed = flush fs W h in
    ⊎_elim
    (λ q. inl (write-mark fs (unwritten_of h.ring h.cache h.unwritten) h.files (W - h.unwritten) k q))
    inr
    (mark-mark (file_of fs start) began flushed k (remove-mark oldest (mark_below (file_of fs start) began flushed) k m))

pub settled-sound : (fs : ℕ) (h : Held) (began oldest L W start : ℕ) → Sound h L W → Sound (settled fs began oldest W start h) W W
unfolding settled
settled-sound fs h began oldest L W start s = record { ring = s.ring; few = omega arith; new = omega arith; joined = s.joined; empty = λ _. refl }
