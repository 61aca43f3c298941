-- The line that document 01's printing program writes. Definitions only.
use Rattle.std.specs.Prelude.{ℕ, List, [], ◌∷◌, ◌++◌}
use Rattle.buf.specs.Bytes.{u64_at}
use Rattle.text.specs.Digits.{digits, width}

abbrev pub space : ℕ
space = 32

abbrev pub newline : ℕ
newline = 10

-- a number in decimal, and the byte after it
unfoldable pub number_text : (n after : ℕ) → List ℕ
number_text n after = digits 10 (width n) n ++ (after ∷ [])

-- a float's pattern as 16 hexadecimal digits, and a space
unfoldable pub word_text : ℕ → List ℕ
word_text n = digits 16 16 n ++ (space ∷ [])

-- "prints kind, status, three floats as 16 hexadecimal digits, evaluations", from the sealed part of a record
unfoldable pub line_of : (kind : ℕ) → List ℕ → List ℕ
line_of kind r =
    number_text kind space
    ++ (number_text (u64_at r 16) space
    ++ (word_text (u64_at r 24) ++ (word_text (u64_at r 32) ++ (word_text (u64_at r 40) ++ number_text (u64_at r 48) newline))))
