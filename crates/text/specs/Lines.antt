-- A text line by line.
use Rattle.std.specs.Prelude.{ℕ, ◌-◌, Bool, cond, ◌||◌, List, [], ◌∷◌, length, take, ◌==◌, slice_index}
use Rattle.text.specs.Fields.{onto_first}

-- the byte that ends a line
abbrev pub newline : ℕ
newline = 10

-- the lines, each with its byte 10, which only the last may lack
abbrev pub lines : List ℕ → List (List ℕ)
lines [] = []
lines (b ∷ bs) = cond (b == newline) ((b ∷ []) ∷ lines bs) (onto_first b (lines bs))

-- a line without its byte 10
abbrev pub bare : List ℕ → List ℕ
bare line = take (length line - 1) line

-- a text whose last line has its byte 10 too
abbrev pub is_ended : List ℕ → Bool
is_ended text = length text == 0 || slice_index text (length text - 1) == newline
