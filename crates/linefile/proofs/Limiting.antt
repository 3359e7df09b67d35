-- A line file that passes has no more lines of a letter than its limit.
use Rattle.std.proofs.Common.{◌≡◌, ℕ, ◌+◌, ◌<◌, ◌≤◌, Bool, true, false, cond, eqb, List, ◌∷◌, map, Some, refl, ap, subst, arith}
use Rattle.std.proofs.lemmas.Bool.{eqb-true}
use Rattle.text.specs.Fields.{fields_from}
use Rattle.linefile.specs.Files.{Pass, count_of, no_more, one_more}
use Rattle.linefile.specs.Formats.{Format}
use Rattle.text.specs.Lines.{bare}

one_below : (next letter n limit : ℕ) → n ≤ limit → (next ≡ letter → n < limit) → cond (eqb next letter) 1 0 + n ≤ limit
one_below next letter n limit h k = go (eqb next letter) refl
  where
    go : (t : Bool) → eqb next letter ≡ t → cond t 1 0 + n ≤ limit
    go true t = omega (arith, k (eqb-true next letter t))
    go false t = omega arith

-- where each line tells its letter
module _ {L : Type 0} (format : Format L) (letter_told : L → ℕ) (tells_letter : (letter : ℕ) (fs : List (List ℕ)) (n : ℕ) (l : L) → format.form letter fs ≡ Some (n, l) → letter_told l ≡ letter) where
  pub few_of : (letter : ℕ) (earlier : List ℕ) (left : List (List ℕ)) (ls : List L) → Pass format earlier left ls → count_of earlier letter ≤ format.limit letter → count_of (map letter_told ls) letter + count_of earlier letter ≤ format.limit letter
  few_of letter earlier left ls no_more h = omega arith
  few_of letter earlier left ls (one_more {line = line} {rest = rest} {l = l} {ls = more} next p q) h =
      let told : letter_told l ≡ next = tells_letter next (fields_from (bare line) (Some 2)) (count_of earlier next) l p.says in
      let rest_few = few_of letter (next ∷ earlier) rest more q (one_below next letter (count_of earlier letter) (format.limit letter) h (λ e. subst (λ (x : ℕ). count_of earlier x < format.limit x) e p.below)) in
      let same : ◌≡◌ {A = ℕ} (cond (eqb (letter_told l) letter) 1 0) (cond (eqb next letter) 1 0) = ap (λ (x : ℕ). cond (eqb x letter) 1 0) told in
      omega (arith, rest_few, same)
