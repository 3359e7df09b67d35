-- The joinings of a set by their numbers, which count from 1.
use Rattle.std.specs.Prelude.{List, [], ◌∷◌, ℕ, zero, suc}

-- What the joining of a number makes of two words. A number that no joining has keeps the first word.
abbrev pub by_number : List (ℕ → ℕ → ℕ) → ℕ → ℕ → ℕ → ℕ
by_number [] n a b = a
by_number (f ∷ fs) zero a b = a
by_number (f ∷ fs) (suc zero) a b = f a b
by_number (f ∷ fs) (suc (suc n)) a b = by_number fs (suc n) a b
