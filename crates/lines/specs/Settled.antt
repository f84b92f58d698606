-- Document 01, "The driver": readings of its edges, as small lines spelled as their bytes. One table, proved by the one theorem `settled`. Assumes nothing.
use Rattle.std.specs.Prelude.{◌≡◌, refl, Some, None, [], ◌∷◌}
use Rattle.octets.specs.Compare.{same_bytes}
use Rattle.lines.specs.declared.calls.Call.TheVariants.{Open, Put, Commit}
use Rattle.lines.specs.Numbers.{all_digits, value_from, number_of, decimal_in, decimal_of}
use Rattle.lines.specs.Hex.{is_hex_digit, is_hex}
use Rattle.lines.specs.Fields.{in_front, fields}
use Rattle.lines.specs.Words.{later_word, word_of}
use Rattle.lines.specs.Calls.{by_word, call_of}
use Rattle.lines.specs.Reply.{unreadable_reply}

pub record Settled : Type 0 where
  -- an empty line says nothing
  pub empty-line : call_of [] ≡ None
  -- a tab at the end is one more field
  pub trailing-tab : call_of (115 ∷ 116 ∷ 111 ∷ 114 ∷ 101 ∷ 9 ∷ []) ≡ None
  -- a carriage return belongs to the last field
  pub carriage-return : call_of (99 ∷ 111 ∷ 109 ∷ 109 ∷ 105 ∷ 116 ∷ 9 ∷ 49 ∷ 13 ∷ []) ≡ None
  -- leading zeros are taken
  pub leading_zeros : call_of (99 ∷ 111 ∷ 109 ∷ 109 ∷ 105 ∷ 116 ∷ 9 ∷ 48 ∷ 48 ∷ 55 ∷ []) ≡ Some (Commit 7)
  -- 2^64-1 is a number, also behind zeros
  pub most : call_of (99 ∷ 111 ∷ 109 ∷ 109 ∷ 105 ∷ 116 ∷ 9 ∷ 48 ∷ 48 ∷ 48 ∷ 49 ∷ 56 ∷ 52 ∷ 52 ∷ 54 ∷ 55 ∷ 52 ∷ 52 ∷ 48 ∷ 55 ∷ 51 ∷ 55 ∷ 48 ∷ 57 ∷ 53 ∷ 53 ∷ 49 ∷ 54 ∷ 49 ∷ 53 ∷ []) ≡ Some (Commit 18446744073709551615)
  -- 2^64 is none
  pub past-most : call_of (99 ∷ 111 ∷ 109 ∷ 109 ∷ 105 ∷ 116 ∷ 9 ∷ 49 ∷ 56 ∷ 52 ∷ 52 ∷ 54 ∷ 55 ∷ 52 ∷ 52 ∷ 48 ∷ 55 ∷ 51 ∷ 55 ∷ 48 ∷ 57 ∷ 53 ∷ 53 ∷ 49 ∷ 54 ∷ 49 ∷ 54 ∷ []) ≡ None
  -- an empty field is no number
  pub no_digit : call_of (99 ∷ 111 ∷ 109 ∷ 109 ∷ 105 ∷ 116 ∷ 9 ∷ []) ≡ None
  -- any bytes are a name, none too
  pub no_name : call_of (111 ∷ 112 ∷ 101 ∷ 110 ∷ 9 ∷ 49 ∷ 9 ∷ 9 ∷ 49 ∷ 9 ∷ 52 ∷ 9 ∷ 56 ∷ 9 ∷ 48 ∷ []) ≡ Some (Open 1 1 4 8 0)
  -- an empty field is the hex of no bytes
  pub no_bytes : call_of (112 ∷ 117 ∷ 116 ∷ 9 ∷ 49 ∷ 9 ∷ 49 ∷ 9 ∷ []) ≡ Some (Put 1 1)
  -- `-` is no hex
  pub dash : call_of (112 ∷ 117 ∷ 116 ∷ 9 ∷ 49 ∷ 9 ∷ 49 ∷ 9 ∷ 45 ∷ []) ≡ None
  -- hex is lower case
  pub upper-case : call_of (112 ∷ 117 ∷ 116 ∷ 9 ∷ 49 ∷ 9 ∷ 49 ∷ 9 ∷ 65 ∷ 66 ∷ []) ≡ None
  -- and has two digits a byte
  pub half-byte : call_of (112 ∷ 117 ∷ 116 ∷ 9 ∷ 49 ∷ 9 ∷ 49 ∷ 9 ∷ 97 ∷ 98 ∷ 99 ∷ []) ≡ None
  -- a word in upper case is no call's
  pub other_word : call_of (83 ∷ 84 ∷ 79 ∷ 82 ∷ 69 ∷ []) ≡ None
  -- an unreadable line prints `-` three times after its number
  pub unreadable : unreadable_reply 12 ≡ 49 ∷ 50 ∷ 9 ∷ 45 ∷ 9 ∷ 45 ∷ 9 ∷ 45 ∷ 10 ∷ []

pub settled : Settled
unfolding same_bytes all_digits value_from number_of decimal_in decimal_of is_hex_digit is_hex in_front fields later_word word_of by_word call_of unreadable_reply
settled =
    record {
      empty-line = refl;
      trailing-tab = refl;
      carriage-return = refl;
      leading_zeros = refl;
      most = refl;
      past-most = refl;
      no_digit = refl;
      no_name = refl;
      no_bytes = refl;
      dash = refl;
      upper-case = refl;
      half-byte = refl;
      other_word = refl;
      unreadable = refl;
    }
