-- Document 01, "The driver": a reply is "line number, code, value, bytes in hex or `-`", parted by tabs; "An unreadable line [..] prints `-` three times
-- after its number". Assumes nothing.
use Rattle.std.specs.Prelude.{List, [], ◌∷◌, ◌++◌, ℕ}
use Rattle.lines.specs.Numbers.{decimal_of}
use Rattle.lines.specs.Hex.{hex_of}

-- a number and the tab behind it
abbrev pub tabbed : ℕ → List ℕ
tabbed n = decimal_of n ++ (9 ∷ [])

-- hex, or `-` for no bytes
unfoldable pub bytes_text : List ℕ → List ℕ
bytes_text [] = 45 ∷ []
bytes_text (b ∷ bs) = hex_of (b ∷ bs)

unfoldable pub reply_of : ℕ → ℕ → ℕ → List ℕ → List ℕ
reply_of number code value bytes = tabbed number ++ (tabbed code ++ (tabbed value ++ (bytes_text bytes ++ (10 ∷ []))))

unfoldable pub unreadable_reply : ℕ → List ℕ
unreadable_reply number = tabbed number ++ (45 ∷ 9 ∷ 45 ∷ 9 ∷ 45 ∷ 10 ∷ [])
