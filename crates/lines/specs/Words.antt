-- Document 01, "The driver": the word that says which call a line is. Words are spelled as their bytes. Assumes nothing.
use Rattle.std.specs.Prelude.{cond, Option, Some, None, List, [], ◌∷◌, ℕ}
use Rattle.octets.specs.Compare.{same_bytes}
use Rattle.lines.specs.declared.words.Word.{Word}
use Rattle.lines.specs.declared.words.Word.TheVariants.{Format, Store, Append, Reader, Truncate, Open, Put, Shift, Cut, Read, Commit, Drop}

abbrev pub format : List ℕ
format = 102 ∷ 111 ∷ 114 ∷ 109 ∷ 97 ∷ 116 ∷ []

abbrev pub store : List ℕ
store = 115 ∷ 116 ∷ 111 ∷ 114 ∷ 101 ∷ []

abbrev pub append : List ℕ
append = 97 ∷ 112 ∷ 112 ∷ 101 ∷ 110 ∷ 100 ∷ []

abbrev pub reader : List ℕ
reader = 114 ∷ 101 ∷ 97 ∷ 100 ∷ 101 ∷ 114 ∷ []

abbrev pub truncate : List ℕ
truncate = 116 ∷ 114 ∷ 117 ∷ 110 ∷ 99 ∷ 97 ∷ 116 ∷ 101 ∷ []

abbrev pub «open» : List ℕ
«open» = 111 ∷ 112 ∷ 101 ∷ 110 ∷ []

abbrev pub put : List ℕ
put = 112 ∷ 117 ∷ 116 ∷ []

abbrev pub shift : List ℕ
shift = 115 ∷ 104 ∷ 105 ∷ 102 ∷ 116 ∷ []

abbrev pub cut : List ℕ
cut = 99 ∷ 117 ∷ 116 ∷ []

abbrev pub read : List ℕ
read = 114 ∷ 101 ∷ 97 ∷ 100 ∷ []

abbrev pub commit : List ℕ
commit = 99 ∷ 111 ∷ 109 ∷ 109 ∷ 105 ∷ 116 ∷ []

abbrev pub drop : List ℕ
drop = 100 ∷ 114 ∷ 111 ∷ 112 ∷ []

-- those of the calls on what is open; any other bytes are no call's word
unfoldable pub later_word : List ℕ → Option Word
later_word s =
    cond (same_bytes s put) (Some Put)
    (cond (same_bytes s shift) (Some Shift)
    (cond (same_bytes s cut) (Some Cut)
    (cond (same_bytes s read) (Some Read)
    (cond (same_bytes s commit) (Some Commit)
    (cond (same_bytes s drop) (Some Drop)
    None)))))

-- the word of a line's first field
unfoldable pub word_of : List ℕ → Option Word
word_of s =
    cond (same_bytes s format) (Some Format)
    (cond (same_bytes s store) (Some Store)
    (cond (same_bytes s append) (Some Append)
    (cond (same_bytes s reader) (Some Reader)
    (cond (same_bytes s truncate) (Some Truncate)
    (cond (same_bytes s «open») (Some Open)
    (later_word s))))))
