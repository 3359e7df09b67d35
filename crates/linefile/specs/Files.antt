-- A line file: every line begins with a letter and a comma, and is numbered among the lines of its letter.
use Rattle.std.specs.Prelude.{◌≡◌, ℕ, ◌+◌, ◌<◌, Bool, true, cond, ◌&&◌, ◌⊎◌, List, [], ◌∷◌, length, Some, None, Ok, Err, vec_items, Option, Result, ◌==◌, nat_eq, nat_le, nat_lt, alloc_error}
use Rattle.std.specs.Global.{Vec}
use Rattle.text.specs.Fields.{comma, fields_from}
use Rattle.linefile.specs.Forms.{provided, with_value}
use Rattle.linefile.specs.Formats.{Format}
use Rattle.text.specs.Lines.{bare, is_ended, lines}
use Rattle.text.specs.Parts.{first_from}
use Rattle.faults.specs.declared.lines.FileFault.{FileFault}
use Rattle.faults.specs.declared.lines.FileFault.TheVariants.{Bytes, Line, Memory}
use Rattle.faults.specs.declared.lines.LineFault.{LineFault}
use Rattle.faults.specs.declared.lines.LineFault.TheVariants.{Letter, Fields, Number, Limit}

-- a line file has at most so many bytes
abbrev pub longest : ℕ
longest = 32768

-- question 1: it has no more, and the last is byte 10 unless there is none
abbrev pub is_whole : List ℕ → Bool
is_whole text = nat_le (length text) longest && is_ended text

-- the letter that a line begins with, before a comma, by its place among the letters
abbrev pub letter_of : List ℕ → List ℕ → Option ℕ
letter_of letters [] = None
letter_of letters (b ∷ []) = None
letter_of letters (b ∷ (c ∷ rest)) = cond (c == comma) (first_from b letters 0) None

-- what follows a yes, or the fault
abbrev pub asked : {A B : Type 0} → LineFault → Option A → (A → Result B LineFault) → Result B LineFault
asked fault None more = Err fault
asked fault (Some a) more = more a

-- questions 3 to 5 of the line at a place, of a letter that so many earlier lines have: the letter, and what the line says
abbrev pub numbered : {L : Type 0} → Format L → ℕ → List ℕ → ℕ → ℕ → Result (ℕ × L) LineFault
numbered format place line letter count =
    asked (Fields place) (format.form letter (fields_from line (Some 2))) λ found.
    asked (Number place) (provided (λ number. nat_eq number count) found.0) λ number.
    asked (Limit place) (provided (λ number. nat_lt number (format.limit letter)) number) λ _.
    Ok (letter, found.1)

-- question 2 before them, with what the earlier lines tell of a letter: whether it may still come, and how many of them have it
abbrev pub lettered : {L : Type 0} → Format L → (ℕ → Bool) → (ℕ → ℕ) → ℕ → List ℕ → Result (ℕ × L) LineFault
lettered format may_come count place line =
    asked (Letter place) (with_value (letter_of format.letters line) (provided may_come)) λ letter.
    numbered format place line letter (count letter)

-- The earlier lines are told by their letters, the last first: no later letter is among them,
abbrev pub in_order : List ℕ → ℕ → Bool
in_order [] letter = true
in_order (l ∷ earlier) letter = nat_le l letter && in_order earlier letter

-- and so many of them are this one.
abbrev pub count_of : List ℕ → ℕ → ℕ
count_of [] letter = 0
count_of (l ∷ earlier) letter = cond (l == letter) 1 0 + count_of earlier letter

-- questions 2 to 5 of the line behind earlier ones, whose place is how many there are
abbrev pub read_line : {L : Type 0} → Format L → List ℕ → List ℕ → Result (ℕ × L) LineFault
read_line format earlier line = lettered format (in_order earlier) (count_of earlier) (length earlier) line

abbrev pub in_front : {L : Type 0} → L → Result (List L) LineFault → Result (List L) LineFault
in_front l (Ok ls) = Ok (l ∷ ls)
in_front l (Err fault) = Err fault

-- the lines behind earlier ones, each in turn
abbrev pub read_lines : {L : Type 0} → Format L → List ℕ → List (List ℕ) → Result (List L) LineFault
read_lines format earlier [] = Ok []
read_lines format earlier (line ∷ rest) = elim (read_line format earlier (bare line)) [
  | Ok found ↦ in_front found.1 (read_lines format (found.0 ∷ earlier) rest)
  | Err fault ↦ Err fault
]

abbrev pub in_file : {L : Type 0} → Result (List L) LineFault → Result (List L) FileFault
in_file (Ok ls) = Ok ls
in_file (Err fault) = Err (Line fault)

-- The lines of a file, or the first fault in it.
abbrev pub file_lines : {L : Type 0} → Format L → List ℕ → Result (List L) FileFault
file_lines format text = cond (is_whole text) (in_file (read_lines format [] (lines text))) (Err Bytes)

-- The same as a relation. A line gets yes to questions 2 to 5: it is of this letter and says this.
pub record Passes {L : Type 0} (format : Format L) (may_come : ℕ → Bool) (count : ℕ → ℕ) (line : List ℕ) (letter : ℕ) (l : L) : Type 0 where
  pub begins : letter_of format.letters line ≡ Some letter
  pub comes : may_come letter ≡ true
  pub says : format.form letter (fields_from line (Some 2)) ≡ Some (count letter, l)
  pub below : count letter < format.limit letter

-- All lines behind earlier ones get yes, and say these things.
pub data Pass {L : Type 0} (format : Format L) : List ℕ → List (List ℕ) → List L → Type 0 where
  no_more : {earlier : List ℕ} → Pass format earlier [] []
  one_more : {earlier : List ℕ} {line : List ℕ} {rest : List (List ℕ)} {l : L} {ls : List L} (letter : ℕ)
      → Passes format (in_order earlier) (count_of earlier) (bare line) letter l → Pass format (letter ∷ earlier) rest ls → Pass format earlier (line ∷ rest) (l ∷ ls)

-- The file gets yes to questions 1 to 5, and its lines say these things.
abbrev pub FilePasses : {L : Type 0} → Format L → List ℕ → List L → Type 0
FilePasses format text ls = (is_whole text ≡ true) × Pass format [] (lines text) ls

-- the answer is these lines or this fault, unless there was no memory
abbrev pub Tells : {L : Type 0} → Result (List L) FileFault → Result (Vec L) FileFault → Type 0
Tells verdict (Ok v) = Ok (vec_items v) ≡ verdict
Tells verdict (Err fault) = (fault ≡ Memory alloc_error) ⊎ (Err fault ≡ verdict)

-- The file is accepted exactly when it passes: the lines that are answered are what it says, and a file that is refused says nothing.
abbrev pub Exactly : {L : Type 0} → Format L → List ℕ → Result (Vec L) FileFault → Type 0
Exactly format text (Ok v) = FilePasses format text (vec_items v)
Exactly format text (Err fault) = (fault ≡ Memory alloc_error) ⊎ ((ls : List _) → FilePasses format text ls → ⊥)
