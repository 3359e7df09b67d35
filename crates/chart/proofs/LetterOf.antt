-- A line of a chart file tells its letter.
use Rattle.std.proofs.Common.{◌≡◌, ℕ, Bool, true, false, cond, eqb, List, Some, None, Option, sym, refl, ap, ◌∙◌, arith}
use Rattle.std.proofs.lemmas.Bool.{eqb-true}
use Rattle.chart.specs.ChartFiles.{as_line, form}
use Rattle.chart.specs.Effects.{effect_in}
use Rattle.chart.specs.Regions.{region_in}
use Rattle.chart.specs.States.{state_in}
use Rattle.chart.specs.Transitions.{transition_in}
use Rattle.chart.specs.Variables.{variable_in}
use Rattle.chart.specs.declared.lines.Line.{Line}
use Rattle.chart.specs.declared.lines.Line.TheVariants.{Variable, Region, State, Transition, Effect}

abbrev pub letter_told : Line → ℕ
letter_told (Variable v) = 0
letter_told (Region r) = 1
letter_told (State s) = 2
letter_told (Transition t) = 3
letter_told (Effect e) = 4

line_told : {A : Type 0} (k : ℕ) (kind : A → Line) → ((a : A) → letter_told (kind a) ≡ k) → (o : Option (ℕ × A)) (n : ℕ) (l : Line) → as_line kind o ≡ Some (n, l) → letter_told l ≡ k
line_told k kind tells None n l e = let z : ◌≡◌ {A = ℕ} 0 1 = cc in absurd (omega arith)
line_told k kind tells (Some found) n l e =
    let same : kind found.1 ≡ l = ap (λ (p : ℕ × Line). p.1) (let pair : (found.0, kind found.1) ≡ (n, l) = cc in pair) in
    ap letter_told (sym same) ∙ tells found.1

one_of : (letter k n : ℕ) (l : Line) (this others : Option (ℕ × Line)) → (this ≡ Some (n, l) → letter_told l ≡ k) → (others ≡ Some (n, l) → letter_told l ≡ letter)
    → cond (eqb letter k) this others ≡ Some (n, l) → letter_told l ≡ letter
one_of letter k n l this others f g e = go (eqb letter k) refl e
  where
    go : (t : Bool) → eqb letter k ≡ t → cond t this others ≡ Some (n, l) → letter_told l ≡ letter
    go true t e = f e ∙ sym (eqb-true letter k t)
    go false t e = g e

pub form_told : (letter : ℕ) (fs : List (List ℕ)) (n : ℕ) (l : Line) → form letter fs ≡ Some (n, l) → letter_told l ≡ letter
form_told letter fs n l e =
    one_of letter 0 n l _ _ (line_told 0 Variable (λ _. refl) (variable_in fs) n l)
    (one_of letter 1 n l _ _ (line_told 1 Region (λ _. refl) (region_in fs) n l)
    (one_of letter 2 n l _ _ (line_told 2 State (λ _. refl) (state_in fs) n l)
    (one_of letter 3 n l _ _ (line_told 3 Transition (λ _. refl) (transition_in fs) n l)
    (one_of letter 4 n l _ _ (line_told 4 Effect (λ _. refl) (effect_in fs) n l)
    (λ none. let z : ◌≡◌ {A = ℕ} 0 1 = cc in absurd (omega arith))))))
    e
