-- The line of a refusal.
use Rattle.std.specs.Prelude.{ℕ, List, [], ◌∷◌, ◌++◌, codes}
use Rattle.row.specs.Rows.{row_bytes}

abbrev pub refused : List ℕ
refused = codes "refused,"

-- The line that ends a refused output: the layer, the number and the place of what was refused, and how many rows were accepted before.
unfoldable pub refusal : ℕ → ℕ → ℕ → ℕ → List ℕ
refusal layer number place rows = refused ++ row_bytes (layer ∷ number ∷ place ∷ rows ∷ [])
