-- One digit more of a number: the steps of the loop that reads one.
use Rattle.std.proofs.Common.{◌≡◌, ℕ, ◌+◌, ◌-◌, ◌*◌, ◌<◌, ◌≤◌, List, [], ◌∷◌, length, get_or, drop, None, ◌∙◌, arith}
use Rattle.std.proofs.lemmas.List.{at_drop_more}
use Rattle.std.proofs.lemmas.Bool.Decides.{nat_tests}
use Rattle.text.specs.Words.{digits_in, value_after}

pub value_grows : (v : ℕ) (ds : List ℕ) → v ≤ value_after v ds
value_grows v [] = omega arith
value_grows v (d ∷ ds) = omega (arith, value_grows (v * 10 + (d - 48)) ds)

digit_off : (v d : ℕ) (ds : List ℕ) → digits_in v (d ∷ []) ≡ None → digits_in v (d ∷ ds) ≡ None
digit_off v d ds e = let g = value_grows (v * 10 + (d - 48)) ds in grind (arith, nat_tests)

module _ (v : ℕ) (xs : List ℕ) (i : ℕ) where
  pub digits_stop : i < length xs → digits_in v (get_or xs i 0 ∷ []) ≡ None → digits_in v (drop i xs) ≡ None
  digits_stop h e = at_drop_more (digits_in v) xs i 0 h ∙ digit_off v (get_or xs i 0) (drop (i + 1) xs) e
