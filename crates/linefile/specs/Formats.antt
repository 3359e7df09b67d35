-- What makes a kind of line file.
use Rattle.std.specs.Prelude.{ℕ, List, Option}

-- Its letters in order and, for each letter by its place among them, how many lines it may have, and the form of the fields behind it: they tell the line's number and what the line says.
pub record Format (L : Type 0) : Type 0 where
  pub letters : List ℕ
  pub limit : ℕ → ℕ
  pub form : ℕ → List (List ℕ) → Option (ℕ × L)
