-- Laws of what a line says: the two ways out of its length, and a read's bytes counted without the product. Assumes nothing.
use Rattle.std.specs.Prelude.{◌≡◌, ◌≢◌, false, Option, None, List, [], ℕ, ◌*◌, ◌/◌, ◌≤◌, ◌<◌, ltb, length, get_or}
use Rattle.std.proofs.Common.{sym, ◌∙◌, mul-zero, div-lt_iff_lt-mul, arith, lt-ltb, le-ltb}
use Rattle.octets.specs.Cases.{order}
use Rattle.lines.specs.declared.words.Word.{Word}
use Rattle.lines.specs.Fields.{fields}
use Rattle.lines.specs.Words.{word_of}
use Rattle.lines.specs.Calls.{by_word, call_of}

pub call_long : (line : List ℕ) → 8500 < length line → call_of line ≡ None
unfolding call_of
call_long line l = rw (lt-ltb 8500 (length line) l)

pub call-word : (line : List ℕ) (w : Option Word) → length line ≤ 8500 → word_of (get_or (fields line) 0 []) ≡ w → call_of line ≡ by_word w (fields line)
unfolding call_of
call-word line w l e = rw (le-ltb 8500 (length line) l, e)

pub long-none : (n count entry : ℕ) → entry ≡ 0 → ltb n (count * entry) ≡ false
long-none n count entry e = rw (e, mul-zero count) (le-ltb n 0 (omega arith))

pub long-some : (n count entry : ℕ) → entry ≢ 0 → ltb (n / entry) count ≡ ltb n (count * entry)
long-some n count entry d =
    let some : 0 < entry = order 0 entry (λ (l : 0 < entry). l) (λ (l : entry ≤ 0). absurd (d (omega arith))) in
    order n (count * entry)
    (λ (l : n < count * entry). lt-ltb (n / entry) count ((div-lt_iff_lt-mul some).1 l) ∙ sym (lt-ltb n (count * entry) l))
    (λ (l : count * entry ≤ n).
    le-ltb (n / entry) count
    (order (n / entry) count
    (λ (q : n / entry < count). absurd (let m : n < count * entry = (div-lt_iff_lt-mul some).0 q in omega arith))
    (λ (q : count ≤ n / entry). q))
    ∙ sym (le-ltb n (count * entry) l))
