-- A row as text: its words in base ten, parted by commas, and byte 10 at the end.
use Rattle.std.specs.Prelude.{ℕ, List, [], ◌∷◌, ◌++◌, map, decimal}
use Rattle.text.specs.Fields.{with_commas}

-- byte 10, which ends a row, and of a text a line: two rules with one number
abbrev pub newline : ℕ
newline = 10

-- a row has at most so many words, and at most so many bytes: 64 words of ten digits, 63 commas and byte 10
abbrev pub most_words : ℕ
most_words = 64

abbrev pub most_bytes : ℕ
most_bytes = 704

-- The bytes of a row; those of no word are byte 10 alone.
abbrev pub row_bytes : List ℕ → List ℕ
row_bytes words = with_commas (map decimal words) ++ (newline ∷ [])
