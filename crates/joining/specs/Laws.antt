-- The laws of a joining. A word is a number below 2 ^ 32.
use Rattle.std.specs.Prelude.{◌≡◌, List, [], ◌∷◌, ℕ, ◌^◌, ◌<◌}

-- two words give a word
abbrev pub Closed : (ℕ → ℕ → ℕ) → Type 0
Closed f = (a b : ℕ) → a < 2 ^ 32 → b < 2 ^ 32 → f a b < 2 ^ 32

-- the order of two words does not matter
abbrev pub Commutes : (ℕ → ℕ → ℕ) → Type 0
Commutes f = (a b : ℕ) → a < 2 ^ 32 → b < 2 ^ 32 → f a b ≡ f b a

-- of three words, it does not matter which two are joined first
abbrev pub Associates : (ℕ → ℕ → ℕ) → Type 0
Associates f = (a b c : ℕ) → a < 2 ^ 32 → b < 2 ^ 32 → c < 2 ^ 32 → f (f a b) c ≡ f a (f b c)

pub record Lawful (f : ℕ → ℕ → ℕ) : Type 0 where
  pub closed : Closed f
  pub commutes : Commutes f
  pub associates : Associates f

abbrev pub AllLawful : List (ℕ → ℕ → ℕ) → Type 0
AllLawful [] = Unit {0}
AllLawful (f ∷ fs) = Lawful f × AllLawful fs
