-- Past the end of a text there is no row.
use Rattle.std.proofs.Common.{◌≡◌, ℕ, ◌≤◌, List, length, take, None, ap}
use Rattle.std.proofs.lemmas.List.{drop_all}
use Rattle.text.specs.Parts.{position}
use Rattle.row.specs.Reading.{line_length}
use Rattle.row.specs.Rows.{newline}

pub none_past : (text : List ℕ) (place : ℕ) → length text ≤ place → line_length text place ≡ None
none_past text place h = ap (λ (rest : List ℕ). position newline (take 704 rest)) (drop_all place text h)
