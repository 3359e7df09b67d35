-- Fields read in turn, each by its form.
use Rattle.std.specs.Prelude.{ℕ, Bool, cond, List, [], ◌∷◌, Some, None, Option, ◌==◌}
use Rattle.std.specs.Option.{option_map}

-- the value of the first field, if there is one and it has the form
abbrev pub first_of : {A : Type 0} → (List ℕ → Option A) → List (List ℕ) → Option A
first_of form [] = None
first_of form (f ∷ fs) = form f

abbrev pub rest : List (List ℕ) → List (List ℕ)
rest [] = []
rest (f ∷ fs) = fs

abbrev pub with_value : {A B : Type 0} → Option A → (A → Option B) → Option B
with_value None more = None
with_value (Some a) more = more a

-- the byte of a field that has just one
abbrev pub only_byte : List ℕ → Option ℕ
only_byte [] = None
only_byte (b ∷ []) = Some b
only_byte (b ∷ (c ∷ cs)) = None

-- what a table has beside a number
abbrev pub beside : {A : Type 0} → List (ℕ × A) → ℕ → Option A
beside [] number = None
beside (entry ∷ others) number = cond (number == entry.0) (Some entry.1) (beside others number)

-- a field of one byte, by a table of the bytes it may be
abbrev pub letter_in : {A : Type 0} → List (ℕ × A) → List ℕ → Option A
letter_in table field = with_value (only_byte field) (beside table)

-- a value that passes a test
abbrev pub provided : {A : Type 0} → (A → Bool) → A → Option A
provided test a = cond (test a) (Some a) None

-- a field of one form or of another
abbrev pub or_else : {A : Type 0} → Option A → Option A → Option A
or_else None other = other
or_else (Some a) other = Some a

-- `-` where there is no value, or a field of the form
abbrev pub optional : {A : Type 0} → (List ℕ → Option A) → List ℕ → Option (Option A)
optional form bytes = or_else (letter_in ((45, None) ∷ []) bytes) (option_map Some (form bytes))

-- a field of the form, and then the other fields
abbrev pub field : {A B : Type 0} → (List ℕ → Option A) → (A → List (List ℕ) → Option B) → List (List ℕ) → Option B
field form more fs = with_value (first_of form fs) (λ a. more a (rest fs))

abbrev pub nothing_left : List (List ℕ) → Option (Unit {0})
nothing_left [] = Some tt
nothing_left (f ∷ fs) = None

-- no field more
abbrev pub done : {A : Type 0} → A → List (List ℕ) → Option A
done a fs = with_value (nothing_left fs) (λ _. Some a)
