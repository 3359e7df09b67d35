-- A set with one joining more at its end.
use Rattle.std.specs.Prelude.{◌≡◌, refl, List, [], ◌∷◌, ◌++◌, ℕ, zero, suc, ◌+◌, length}
use Rattle.std.proofs.Common.{arith}
use Rattle.joining.specs.Laws.{Lawful, AllLawful}
use Rattle.joining.specs.Numbered.{by_number}

pub all_lawful_more : (fs : List (ℕ → ℕ → ℕ)) (f : ℕ → ℕ → ℕ) → AllLawful fs → Lawful f → AllLawful (fs ++ (f ∷ []))
all_lawful_more [] f h k = (k, tt)
all_lawful_more (g ∷ gs) f h k = (h.0, all_lawful_more gs f h.1 k)

-- its own number is the one after theirs
pub number_last : (fs : List (ℕ → ℕ → ℕ)) (f : ℕ → ℕ → ℕ) (n a b : ℕ) → n ≡ length fs + 1 → by_number (fs ++ (f ∷ [])) n a b ≡ f a b
number_last [] f zero a b h = absurd (omega arith)
number_last [] f (suc zero) a b h = refl
number_last [] f (suc (suc n)) a b h = absurd (omega arith)
number_last (g ∷ gs) f zero a b h = absurd (omega arith)
number_last (g ∷ gs) f (suc zero) a b h = absurd (omega arith)
number_last (g ∷ gs) f (suc (suc n)) a b h = number_last gs f (suc n) a b (omega arith)

-- every other number stays as it was
pub number_other : (fs : List (ℕ → ℕ → ℕ)) (f : ℕ → ℕ → ℕ) (n a b : ℕ) → (n ≡ length fs + 1 → ⊥) → by_number (fs ++ (f ∷ [])) n a b ≡ by_number fs n a b
number_other [] f zero a b h = refl
number_other [] f (suc zero) a b h = absurd (h refl)
number_other [] f (suc (suc n)) a b h = refl
number_other (g ∷ gs) f zero a b h = refl
number_other (g ∷ gs) f (suc zero) a b h = refl
number_other (g ∷ gs) f (suc (suc n)) a b h = number_other gs f (suc n) a b (λ e. h (omega arith))
