-- Document 01, "The driver": the worked example, its nine lines and the nine replies to them, spelled as their bytes. One table of the definitions, proved by
-- the one theorem `worked`. Assumes nothing.
use Rattle.std.specs.Prelude.{◌≡◌, refl, Some, List, [], ◌∷◌, ℕ, get_or}
use Rattle.octets.specs.Compare.{same_bytes}
use Rattle.lines.specs.declared.calls.Call.TheVariants.{Format, Store, Append, Reader, Open, Put, Read, Commit}
use Rattle.lines.specs.Numbers.{all_digits, value_from, number_of, decimal_in, decimal_of}
use Rattle.lines.specs.Hex.{is_hex_digit, hex_value, hex_digit, hex_of, is_hex, hex_bytes, bytes_of_hex}
use Rattle.lines.specs.Fields.{in_front, fields}
use Rattle.lines.specs.Words.{later_word, word_of}
use Rattle.lines.specs.Calls.{by_word, call_of}
use Rattle.lines.specs.Reply.{bytes_text, reply_of}

-- ---- the lines

abbrev line1 : List ℕ
line1 = 102 ∷ 111 ∷ 114 ∷ 109 ∷ 97 ∷ 116 ∷ []

abbrev line2 : List ℕ
line2 = 115 ∷ 116 ∷ 111 ∷ 114 ∷ 101 ∷ []

abbrev line3 : List ℕ
line3 = 97 ∷ 112 ∷ 112 ∷ 101 ∷ 110 ∷ 100 ∷ []

abbrev line4 : List ℕ
line4 = 111 ∷ 112 ∷ 101 ∷ 110 ∷ 9 ∷ 49 ∷ 9 ∷ 118 ∷ 111 ∷ 116 ∷ 101 ∷ 115 ∷ 9 ∷ 49 ∷ 9 ∷ 52 ∷ 9 ∷ 56 ∷ 9 ∷ 48 ∷ []

abbrev line5 : List ℕ
line5 = 112 ∷ 117 ∷ 116 ∷ 9 ∷ 49 ∷ 9 ∷ 49 ∷ 9 ∷ 55 ∷ 57 ∷ 54 ∷ 53 ∷ 55 ∷ 51 ∷ []

abbrev line6 : List ℕ
line6 = 112 ∷ 117 ∷ 116 ∷ 9 ∷ 49 ∷ 9 ∷ 49 ∷ 9 ∷ 55 ∷ 57 ∷ 54 ∷ 53 ∷ 55 ∷ 51 ∷ []

abbrev line7 : List ℕ
line7 = 99 ∷ 111 ∷ 109 ∷ 109 ∷ 105 ∷ 116 ∷ 9 ∷ 49 ∷ []

abbrev line8 : List ℕ
line8 = 114 ∷ 101 ∷ 97 ∷ 100 ∷ 101 ∷ 114 ∷ []

abbrev line9 : List ℕ
line9 = 114 ∷ 101 ∷ 97 ∷ 100 ∷ 9 ∷ 50 ∷ 9 ∷ 49 ∷ 9 ∷ 48 ∷ 9 ∷ 54 ∷ []

-- ---- the replies, each with its line's end

abbrev reply1 : List ℕ
reply1 = 49 ∷ 9 ∷ 48 ∷ 9 ∷ 48 ∷ 9 ∷ 45 ∷ 10 ∷ []

abbrev reply2 : List ℕ
reply2 = 50 ∷ 9 ∷ 48 ∷ 9 ∷ 48 ∷ 9 ∷ 45 ∷ 10 ∷ []

abbrev reply3 : List ℕ
reply3 = 51 ∷ 9 ∷ 48 ∷ 9 ∷ 49 ∷ 9 ∷ 45 ∷ 10 ∷ []

abbrev reply4 : List ℕ
reply4 = 52 ∷ 9 ∷ 48 ∷ 9 ∷ 49 ∷ 9 ∷ 45 ∷ 10 ∷ []

abbrev reply5 : List ℕ
reply5 = 53 ∷ 9 ∷ 48 ∷ 9 ∷ 48 ∷ 9 ∷ 45 ∷ 10 ∷ []

abbrev reply6 : List ℕ
reply6 = 54 ∷ 9 ∷ 48 ∷ 9 ∷ 51 ∷ 9 ∷ 45 ∷ 10 ∷ []

abbrev reply7 : List ℕ
reply7 = 55 ∷ 9 ∷ 48 ∷ 9 ∷ 49 ∷ 9 ∷ 45 ∷ 10 ∷ []

abbrev reply8 : List ℕ
reply8 = 56 ∷ 9 ∷ 48 ∷ 9 ∷ 50 ∷ 9 ∷ 45 ∷ 10 ∷ []

abbrev reply9 : List ℕ
reply9 = 57 ∷ 9 ∷ 48 ∷ 9 ∷ 54 ∷ 9 ∷ 55 ∷ 57 ∷ 54 ∷ 53 ∷ 55 ∷ 51 ∷ 55 ∷ 57 ∷ 54 ∷ 53 ∷ 55 ∷ 51 ∷ 10 ∷ []

-- `yesyes`, the bytes that the last line reads
abbrev yes : List ℕ
yes = 121 ∷ 101 ∷ 115 ∷ []

pub record Worked : Type 0 where
  pub says1 : call_of line1 ≡ Some Format
  pub says2 : call_of line2 ≡ Some Store
  pub says3 : call_of line3 ≡ Some Append
  pub says4 : call_of line4 ≡ Some (Open 1 1 4 8 0)
  pub says5 : call_of line5 ≡ Some (Put 1 1)
  pub says6 : call_of line6 ≡ Some (Put 1 1)
  pub says7 : call_of line7 ≡ Some (Commit 1)
  pub says8 : call_of line8 ≡ Some Reader
  pub says9 : call_of line9 ≡ Some (Read 2 1 0 6)
  -- what an open and a put take from their lines
  pub name : get_or (fields line4) 2 [] ≡ 118 ∷ 111 ∷ 116 ∷ 101 ∷ 115 ∷ []
  pub bytes : bytes_of_hex (get_or (fields line5) 3 []) ≡ Some yes
  pub prints1 : reply_of 1 0 0 [] ≡ reply1
  pub prints2 : reply_of 2 0 0 [] ≡ reply2
  pub prints3 : reply_of 3 0 1 [] ≡ reply3
  pub prints4 : reply_of 4 0 1 [] ≡ reply4
  pub prints5 : reply_of 5 0 0 [] ≡ reply5
  pub prints6 : reply_of 6 0 3 [] ≡ reply6
  pub prints7 : reply_of 7 0 1 [] ≡ reply7
  pub prints8 : reply_of 8 0 2 [] ≡ reply8
  pub prints9 : reply_of 9 0 6 (121 ∷ 101 ∷ 115 ∷ yes) ≡ reply9

pub worked : Worked
unfolding same_bytes all_digits value_from number_of decimal_in decimal_of is_hex_digit hex_value hex_digit hex_of is_hex hex_bytes bytes_of_hex in_front fields later_word word_of by_word call_of bytes_text reply_of
worked =
    record {
      says1 = refl;
      says2 = refl;
      says3 = refl;
      says4 = refl;
      says5 = refl;
      says6 = refl;
      says7 = refl;
      says8 = refl;
      says9 = refl;
      name = refl;
      bytes = refl;
      prints1 = refl;
      prints2 = refl;
      prints3 = refl;
      prints4 = refl;
      prints5 = refl;
      prints6 = refl;
      prints7 = refl;
      prints8 = refl;
      prints9 = refl;
    }
