-- What the joinings that come with the crate mean.
use Rattle.std.specs.Prelude.{List, [], ◌∷◌, ℕ, ◌+◌, min, max}
use Rattle.std.specs.Int.Bits.{bit_or}

-- the sum, or the largest word where that is smaller
abbrev pub capped_sum : ℕ → ℕ → ℕ
capped_sum a b = min (a + b) 4294967295

-- the larger of the two
abbrev pub larger : ℕ → ℕ → ℕ
larger a b = max a b

-- the bits that are set in either
abbrev pub either_bits : ℕ → ℕ → ℕ
either_bits a b = bit_or a b

-- number 1, number 2 and number 3
abbrev pub shipped_joinings : List (ℕ → ℕ → ℕ)
shipped_joinings = capped_sum ∷ larger ∷ either_bits ∷ []
