-- What an answer decides: nothing is refused, or a line is.
use Rattle.std.specs.Prelude.{◌≡◌, ℕ, ◌+◌, Bool, ◌⊎◌, List, [], ◌∷◌, Some, None, Ok, Err, Option, Result, alloc_error}
use Rattle.std.specs.Fn.{Once}
use Rattle.std.specs.Option.{option_map}
use Rattle.linefile.specs.Questions.{first_no}
use Rattle.faults.specs.declared.charts.ChartFault.{ChartFault}
use Rattle.faults.specs.declared.charts.ChartFault.TheVariants.{Memory}

abbrev pub Verdict : Type 0
Verdict = Result (Unit {0}) ChartFault

-- The first line that says no, where so many lines stand before those that are asked.
abbrev pub first_line : {L : Type 0} → ℕ → (ℕ → L → Bool) → List L → Option ℕ
first_line before says lines = option_map (λ n. before + n) (first_no says lines)

-- A constructor makes of a line the fault that a function of numbers gives.
abbrev pub Makes : {F : Type 0} → Once F (ℕ × Unit {0}) ChartFault → F → (ℕ → ChartFault) → Type 0
Makes g fault fault_at = (line : ℕ) (made : ChartFault) → g.post fault (line, tt) made → made ≡ fault_at line

-- refused at that line, if there is one
abbrev pub refused_at : (ℕ → ChartFault) → Option ℕ → Verdict
refused_at fault None = Ok tt
refused_at fault (Some line) = Err (fault line)

-- The first no decides.
abbrev pub decided : List Verdict → Verdict
decided [] = Ok tt
decided (Ok done ∷ rest) = decided rest
decided (Err fault ∷ rest) = Err fault

-- The answer is the one that is due, unless memory is short.
abbrev pub Asked : {A : Type 0} → Result A ChartFault → Result A ChartFault → Type 0
Asked answer due = (answer ≡ Err (Memory alloc_error)) ⊎ (answer ≡ due)
