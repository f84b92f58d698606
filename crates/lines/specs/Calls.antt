-- Document 01, "The driver": what a line says. The word of a call, as many fields as the call has, and a number or hex where the call has one; any bytes
-- are a name. A line above 8,500 bytes says nothing. Assumes nothing.
use Rattle.std.specs.Prelude.{cond, Option, Some, None, List, [], ℕ, eqb, ltb, length, get_or}
use Rattle.lines.specs.declared.words.Word.{Word}
use Rattle.lines.specs.declared.words.Word.TheVariants as word
use Rattle.lines.specs.declared.calls.Call.{Call}
use Rattle.lines.specs.declared.calls.Call.TheVariants.{Format, Store, Append, Reader, Truncate, Open, Put, Shift, Cut, Read, Commit, Drop}
use Rattle.lines.specs.Numbers.{number_of}
use Rattle.lines.specs.Hex.{is_hex}
use Rattle.lines.specs.Fields.{fields}
use Rattle.lines.specs.Words.{word_of}

-- a call whose line has so many fields, its word among them
abbrev pub exactly : ℕ → List (List ℕ) → Option Call → Option Call
exactly n fs c = cond (eqb (length fs) n) c None

-- what follows where a field says a number
abbrev pub given : Option ℕ → (ℕ → Option Call) → Option Call
given (Some n) f = f n
given None f = None

-- a number in field k, counted from the word on
abbrev pub number_in : List (List ℕ) → ℕ → (ℕ → Option Call) → Option Call
number_in fs k f = given (number_of (get_or fs k [])) f

-- what the fields of a line say behind the word of a call; field 2 of an open is its name, and field 3 of a put its bytes in hex
unfoldable pub by_word : Option Word → List (List ℕ) → Option Call
by_word (Some word.Format) fs = exactly 1 fs (Some Format)
by_word (Some word.Store) fs = exactly 1 fs (Some Store)
by_word (Some word.Append) fs = exactly 1 fs (Some Append)
by_word (Some word.Reader) fs = exactly 1 fs (Some Reader)
by_word (Some word.Truncate) fs = exactly 1 fs (Some Truncate)
by_word (Some word.Open) fs =
    exactly 7 fs (number_in fs 1 (λ t. number_in fs 3 (λ e. number_in fs 4 (λ f. number_in fs 5 (λ c. number_in fs 6 (λ s. Some (Open t e f c s)))))))
by_word (Some word.Put) fs = exactly 4 fs (number_in fs 1 (λ t. number_in fs 2 (λ h. cond (is_hex (get_or fs 3 [])) (Some (Put t h)) None)))
by_word (Some word.Shift) fs = exactly 4 fs (number_in fs 1 (λ t. number_in fs 2 (λ h. number_in fs 3 (λ s. Some (Shift t h s)))))
by_word (Some word.Cut) fs = exactly 4 fs (number_in fs 1 (λ t. number_in fs 2 (λ h. number_in fs 3 (λ n. Some (Cut t h n)))))
by_word (Some word.Read) fs =
    exactly 5 fs (number_in fs 1 (λ t. number_in fs 2 (λ h. number_in fs 3 (λ o. number_in fs 4 (λ n. Some (Read t h o n))))))
by_word (Some word.Commit) fs = exactly 2 fs (number_in fs 1 (λ t. Some (Commit t)))
by_word (Some word.Drop) fs = exactly 2 fs (number_in fs 1 (λ t. Some (Drop t)))
by_word None fs = None

unfoldable pub call_of : List ℕ → Option Call
call_of line = cond (ltb 8500 (length line)) None (by_word (word_of (get_or (fields line) 0 [])) (fields line))
