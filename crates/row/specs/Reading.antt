-- Reading a row from a text: the questions in their order, the first no deciding.
use Rattle.std.specs.Prelude.{ℕ, zero, suc, ◌+◌, cond, List, [], ◌∷◌, map, length, take, drop, Some, None, Ok, Err, Option, Result, ◌==◌, nat_lt}
use Rattle.std.specs.Option.{option_map, unwrap_or}
use Rattle.text.specs.Fields.{fields}
use Rattle.text.specs.Parts.{position}
use Rattle.text.specs.Words.{word_in}
use Rattle.row.specs.declared.faults.RowFault.{RowFault}
use Rattle.row.specs.declared.faults.RowFault.TheVariants.{TooWide, Unended, FieldCount, NoNumber}
use Rattle.row.specs.Rows.{most_bytes, most_words, newline}

-- how many bytes stand before the first byte 10 among the next 704
abbrev pub line_length : List ℕ → ℕ → Option ℕ
line_length text place = position newline (take most_bytes (drop place text))

-- the bytes of the row at a place, without its byte 10
abbrev pub line_at : List ℕ → ℕ → Option (List ℕ)
line_at text place = option_map (λ n. take n (drop place text)) (line_length text place)

-- the fields of a line: a bare one has one field, or none where no word is due
abbrev pub fields_due : ℕ → List ℕ → List (List ℕ)
fields_due zero [] = []
fields_due zero (b ∷ bs) = fields (b ∷ bs)
fields_due (suc n) line = fields line

-- the first field that is no number, counted from 0
abbrev pub first_bad : List (List ℕ) → Option ℕ
first_bad [] = None
first_bad (f ∷ fs) = elim (word_in f) [ None ↦ Some 0 | Some w ↦ option_map suc (first_bad fs) ]

abbrev pub words_of : List (List ℕ) → List ℕ
words_of fs = map (λ f. unwrap_or (word_in f) 0) fs

abbrev pub unless_bad : List ℕ → Option ℕ → Result (List ℕ) RowFault
unless_bad words None = Ok words
unless_bad words (Some at) = Err (NoNumber at)

-- the words of fields, or the first field that is no number
abbrev pub field_words : List (List ℕ) → Result (List ℕ) RowFault
field_words fs = unless_bad (words_of fs) (first_bad fs)

-- words that were read, or the fault for which they were not
abbrev pub words_or : Result (Unit {0}) RowFault → List ℕ → Result (List ℕ) RowFault
words_or (Ok read) words = Ok words
words_or (Err fault) words = Err fault

-- the words of a line where so many are due
abbrev pub line_words : ℕ → List ℕ → Result (List ℕ) RowFault
line_words due line =
    cond (length (fields_due due line) == due) (field_words (fields_due due line)) (Err (FieldCount (length (fields_due due line))))

-- words with the place after their row
abbrev pub ending : ℕ → Result (List ℕ) RowFault → Result (ℕ × List ℕ) RowFault
ending end (Ok words) = Ok (end, words)
ending end (Err fault) = Err fault

abbrev pub row_of : ℕ → ℕ → Option (List ℕ) → Result (ℕ × List ℕ) RowFault
row_of place due None = Err Unended
row_of place due (Some line) = ending (place + length line + 1) (line_words due line)

-- the row at a place where so many words are due: the place after its byte 10, and its words
abbrev pub row_at : List ℕ → ℕ → ℕ → Result (ℕ × List ℕ) RowFault
row_at text place due = cond (nat_lt most_words due) (Err TooWide) (row_of place due (line_at text place))

-- the answer and the row then: a refusal leaves the row as it was
abbrev pub settled : List ℕ → Result (ℕ × List ℕ) RowFault → Result ℕ RowFault × List ℕ
settled row (Ok found) = (Ok found.0, found.1)
settled row (Err fault) = (Err fault, row)

-- Reading: the answer, and the row then.
abbrev pub read_row : List ℕ → ℕ → List ℕ → Result ℕ RowFault × List ℕ
read_row text place row = settled row (row_at text place (length row))

abbrev pub width_of : Option (List ℕ) → ℕ
width_of None = 0
width_of (Some line) = length (fields_due 0 line)

-- How many words the row at a place has: its fields, none where it is bare or there is no row.
abbrev pub width_at : List ℕ → ℕ → ℕ
width_at text place = width_of (line_at text place)
