-- A chart file that passes keeps the limits.
use Rattle.std.proofs.Common.{◌≡◌, ℕ, ◌+◌, ◌≤◌, cond, eqb, List, [], ◌∷◌, map, length, Option, arith}
use Rattle.chart.proofs.LetterOf.{form_told, letter_told}
use Rattle.chart.specs.ChartFiles.{chart_format}
use Rattle.chart.specs.declared.lines.Line.{Line}
use Rattle.chart.specs.declared.lines.Line.TheVariants.{Variable, Region, State, Transition, Effect}
use Rattle.linefile.proofs.Limiting.{few_of}
use Rattle.linefile.specs.Files.{FilePasses, count_of}
use Rattle.text.specs.Lines.{lines}
use Rattle.std.specs.List.{cons_option, filter_map}
use Rattle.structure.specs.Lists.{Limited, effect_of, listed, region_of, state_of, transition_of, variable_of}

-- what is picked of a line counts it where it is of that letter
abbrev Counts : {A : Type 0} → ℕ → Line → Option A → Type 0
Counts {A} k l o = (more : List A) → length (cons_option o more) ≡ cond (eqb (letter_told l) k) 1 0 + length more

one : {A : Type 0} (x : A) (more : List A) → length (x ∷ more) ≡ 1 + length more
one x more = omega arith

none : {A : Type 0} (more : List A) → length more ≡ 0 + length more
none more = omega arith

counted : (l : Line) → Counts 0 l (variable_of l) × Counts 1 l (region_of l) × Counts 2 l (state_of l) × Counts 3 l (transition_of l) × Counts 4 l (effect_of l)
counted (Variable v) = (one v, none, none, none, none)
counted (Region r) = (none, one r, none, none, none)
counted (State s) = (none, none, one s, none, none)
counted (Transition t) = (none, none, none, one t, none)
counted (Effect e) = (none, none, none, none, one e)

picked_count : {A : Type 0} (pick : Line → Option A) (k : ℕ) → ((l : Line) → Counts k l (pick l)) → (ls : List Line) → length (filter_map pick ls) ≡ count_of (map letter_told ls) k
picked_count pick k counts [] = omega arith
picked_count pick k counts (l ∷ ls) = omega (arith, counts l (filter_map pick ls), picked_count pick k counts ls)

module _ (text : List ℕ) (ls : List Line) (passes : FilePasses chart_format text ls) where
  few_picked : {A : Type 0} (pick : Line → Option A) (k : ℕ) → ((l : Line) → Counts k l (pick l)) → length (filter_map pick ls) ≤ chart_format.limit k
  few_picked pick k counts =
      let few = few_of chart_format letter_told form_told k [] (lines text) ls passes.1 (omega arith) in
      omega (arith, few, picked_count pick k counts ls)

  pub limited : Limited (listed ls)
  limited = (
    few_picked variable_of 0 (λ l. (counted l).0),
    few_picked region_of 1 (λ l. (counted l).1),
    few_picked state_of 2 (λ l. (counted l).2),
    few_picked transition_of 3 (λ l. (counted l).3),
    few_picked effect_of 4 (λ l. (counted l).4),
  )
