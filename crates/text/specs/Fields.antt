-- The fields of a line: its parts between commas, so that n commas part n + 1 fields.
use Rattle.std.specs.Prelude.{◌≡◌, ℕ, ◌+◌, ◌<◌, cond, List, [], ◌∷◌, ◌++◌, length, drop, Some, None, Option, ◌==◌, nat_le}
use Rattle.std.specs.Option.{option_map}
use Rattle.std.specs.List.{AllByRecursion}
use Rattle.text.specs.Parts.{first_from, position}

abbrev pub comma : ℕ
comma = 44

-- the fields, each but the first behind a comma
abbrev pub after_commas : List (List ℕ) → List ℕ
after_commas [] = []
after_commas (f ∷ fs) = comma ∷ (f ++ after_commas fs)

abbrev pub with_commas : List (List ℕ) → List ℕ
with_commas [] = []
with_commas (f ∷ fs) = f ++ after_commas fs

-- The line is these fields, one or more, parted by commas, and none of them holds a comma.
pub record Parted (line : List ℕ) (fs : List (List ℕ)) : Type 0 where
  pub some : 0 < length fs
  pub whole : with_commas fs ≡ line
  pub apart : AllByRecursion (λ f. position comma f ≡ None) fs

abbrev pub onto_first : ℕ → List (List ℕ) → List (List ℕ)
onto_first b [] = (b ∷ []) ∷ []
onto_first b (f ∷ fs) = (b ∷ f) ∷ fs

-- The fields of a line.
abbrev pub fields : List ℕ → List (List ℕ)
fields [] = [] ∷ []
fields (b ∷ bs) = cond (b == comma) ([] ∷ fields bs) (onto_first b (fields bs))

-- The fields from a place on: none where there is no such place.
abbrev pub fields_from : List ℕ → Option ℕ → List (List ℕ)
fields_from text None = []
fields_from text (Some place) = cond (nat_le place (length text)) (fields (drop place text)) []

-- Where the field after the one at a place begins: behind the next comma, if there is one.
abbrev pub next_place : List ℕ → Option ℕ → Option ℕ
next_place text None = None
next_place text (Some place) = option_map (λ comma_at. comma_at + 1) (first_from comma text place)
