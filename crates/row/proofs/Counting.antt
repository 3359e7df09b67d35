-- How many fields a line has, and how many are due.
use Rattle.std.proofs.Common.{◌≡◌, ℕ, ◌+◌, ◌≤◌, Bool, true, false, cond, eqb, List, [], ◌∷◌, length, Some, arith}
use Rattle.text.proofs.Parting.{from_within}
use Rattle.text.specs.Fields.{comma, fields, fields_from, onto_first}

-- each field but the first is behind a comma
pub length_fields : (line : List ℕ) → length (fields line) ≤ length line + 1
length_fields [] = omega arith
length_fields (b ∷ bs) = go (eqb b comma) (length_fields bs)
  where
    longer : (fs : List (List ℕ)) → length (onto_first b fs) ≤ length fs + 1
    longer [] = omega arith
    longer (f ∷ fs) = omega arith

    go : (t : Bool) → length (fields bs) ≤ length bs + 1 → length (cond t ([] ∷ fields bs) (onto_first b (fields bs))) ≤ length (b ∷ bs) + 1
    go true ih = omega arith
    go false ih = omega (arith, longer (fields bs))

-- the fields from the first place on are all
pub all_fields : (line : List ℕ) → fields_from line (Some 0) ≡ fields line
all_fields line = from_within line 0 (omega arith)
