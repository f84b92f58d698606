-- Laws of replies: how long their parts are at most, and that the parts, put one behind the other, are the reply. Assumes nothing.
use Rattle.std.specs.Prelude.{◌≡◌, refl, List, [], ◌∷◌, ◌++◌, ℕ, ◌+◌, ◌*◌, ◌≤◌, ◌<◌, length}
use Rattle.std.proofs.Common.{arith, length-append}
use Rattle.std.proofs.Math.ListN.{set}
use Rattle.octets.specs.Bytes.{put}
use Rattle.lines.specs.Written.{Written, written_byte, written_then}
use Rattle.lines.specs.Numbers.{decimal_of}
use Rattle.lines.specs.NumberLaws.{length-decimal}
use Rattle.lines.specs.Hex.{hex_of}
use Rattle.lines.specs.HexLaws.{length-hex}
use Rattle.lines.specs.Reply.{tabbed, bytes_text, reply_of, unreadable_reply}

pub length-tabbed : (n : ℕ) → length (tabbed n) ≤ 21
length-tabbed n = rw length-append (omega (arith, length-decimal n))

pub text-none : (s : List ℕ) → length s < 1 → bytes_text s ≡ 45 ∷ []
unfolding bytes_text
text-none [] l = refl
text-none (b ∷ s) l = absurd (omega arith)

pub text-some : (s : List ℕ) → 1 ≤ length s → bytes_text s ≡ hex_of s
unfolding bytes_text
text-some [] l = absurd (omega arith)
text-some (b ∷ s) l = refl

pub length-text : (s : List ℕ) → length (bytes_text s) ≤ 1 + length s * 2
unfolding bytes_text
length-text [] = omega arith
length-text (b ∷ s) = omega (arith, length-hex (b ∷ s))

pub written-tabbed : (n : ℕ) (s t : List ℕ) (at end : ℕ) → Written (decimal_of n) s at end t → Written (tabbed n) s at (end + 1) (set t end 9)
written-tabbed n s t at end w = written_then (decimal_of n) (9 ∷ []) s t (set t end 9) at end (end + 1) w (written_byte 9 t end)

module _ (number code value : ℕ) (bytes : List ℕ) (s t₁ t₂ t₃ t₄ : List ℕ) (e₁ e₂ e₃ e₄ : ℕ) where
  pub written-reply : Written (tabbed number) s 0 e₁ t₁ → Written (tabbed code) t₁ e₁ e₂ t₂ → Written (tabbed value) t₂ e₂ e₃ t₃ → Written (bytes_text bytes) t₃ e₃ e₄ t₄
      → Written (reply_of number code value bytes) s 0 (e₄ + 1) (set t₄ e₄ 10)
  unfolding reply_of
  written-reply p q r w =
      let end = e₄ + 1 in
      let u = set t₄ e₄ 10 in
      let last : Written (bytes_text bytes ++ (10 ∷ [])) t₃ e₃ end u = written_then (bytes_text bytes) (10 ∷ []) t₃ t₄ u e₃ e₄ end w (written_byte 10 t₄ e₄) in
      let two : Written (tabbed value ++ (bytes_text bytes ++ (10 ∷ []))) t₂ e₂ end u = written_then (tabbed value) (bytes_text bytes ++ (10 ∷ [])) t₂ t₃ u e₂ e₃ end r last in
      let three : Written (tabbed code ++ (tabbed value ++ (bytes_text bytes ++ (10 ∷ [])))) t₁ e₁ end u
      = written_then (tabbed code) (tabbed value ++ (bytes_text bytes ++ (10 ∷ []))) t₁ t₂ u e₁ e₂ end q two in
      written_then (tabbed number) (tabbed code ++ (tabbed value ++ (bytes_text bytes ++ (10 ∷ [])))) s t₁ u 0 e₁ end p three

pub written-unreadable : (number : ℕ) (s t u : List ℕ) (end : ℕ) → Written (tabbed number) s 0 end t → u ≡ put t end (45 ∷ 9 ∷ 45 ∷ 9 ∷ 45 ∷ 10 ∷ [])
    → Written (unreadable_reply number) s 0 (end + 6) u
unfolding unreadable_reply
written-unreadable number s t u end p q = written_then (tabbed number) (45 ∷ 9 ∷ 45 ∷ 9 ∷ 45 ∷ 10 ∷ []) s t u 0 end (end + 6) p (refl, q)
