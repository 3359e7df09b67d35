-- The digits of a word, as they are written: how many there are, and that they spell it.
use Rattle.std.proofs.Common.{◌≡◌, ℕ, ◌+◌, ◌/◌, ◌%◌, ◌^◌, ◌<◌, ◌≤◌, true, List, [], ◌∷◌, ◌++◌, length, get_or, decimal, sym, ap, ◌∙◌, ⊎_elim, arith, rules}
use Rattle.std.proofs.lemmas.Fmt.{decimal_digit, decimal_nonempty, decimal_step, decimal-digits_value, digits_decimal, first_decimal, length-decimal-le, digits_value-decimal}
use Rattle.std.proofs.lemmas.Str.Parse.{IsNumeralModel, numerals_by_fold}
use Rattle.std.proofs.lemmas.Bool.{cases_lt}
use Rattle.text.specs.Words.{Spells, all_digits, value, value_after}

length_digit : (n : ℕ) → n < 10 → length (decimal n) ≡ 1
length_digit n h = ap length (decimal_digit n h)

-- a word of one digit, and one of two, as their bytes
pub one_digit : (n : ℕ) → n < 10 → decimal n ≡ (48 + n) ∷ []
one_digit n h = decimal_digit n h

pub two_digits : (n : ℕ) → 10 ≤ n → n < 100 → decimal n ≡ (48 + n / 10) ∷ (48 + n % 10) ∷ []
two_digits n from to = decimal_step n from (omega arith) ∙ ap (λ ds. ds ++ ((48 + n % 10) ∷ [])) (decimal_digit (n / 10) (omega arith))

-- a word has ten digits at most
pub length_word : (n : ℕ) → n < 2 ^ 32 → length (decimal n) ≤ 10
length_word n h = length-decimal-le 10 n (omega arith) (omega arith) (omega arith)

pub length_some : (n : ℕ) → n < 2 ^ 32 → 0 < length (decimal n)
length_some n h = decimal_nonempty n (omega arith)

own : IsNumeralModel (λ ds. all_digits ds ≡ true) value
own = numerals_by_fold (λ ds. all_digits ds ≡ true) (search rules) value_after (search rules)

alone : (n : ℕ) → n < 2 ^ 32 → get_or (decimal n) 0 0 ≡ 48 → length (decimal n) ≡ 1
alone n h e =
    ⊎_elim (λ (z : n < 1). length_digit n (omega arith)) (λ (z : 1 ≤ n). absurd (omega (arith, first_decimal n z (omega arith)))) (cases_lt n 1)

pub spells_decimal : (n : ℕ) → n < 2 ^ 32 → Spells (decimal n) n
spells_decimal n h = record {
  digits = digits_decimal own n (omega arith);
  some = length_some n h;
  no_leading_zero = alone n h;
  number = digits_value-decimal own n (omega arith);
  small = omega arith;
}

pub decimal_from_spells : (text : List ℕ) (n : ℕ) → Spells text n → text ≡ decimal n
decimal_from_spells text n s =
    sym (decimal-digits_value own text s.digits s.some s.no_leading_zero (let e = s.number in let k = s.small in omega arith)) ∙ ap decimal s.number
