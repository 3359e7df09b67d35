-- What an execution writes. Until charts are run, the outputs of a row are its inputs.
use Rattle.std.specs.Prelude.{◌≡◌, ℕ, suc, ◌≤◌, ◌⊎◌, List, [], ◌∷◌, ◌++◌, length, take, Some, None, Ok, Err, Option, Result}
use Rattle.std.specs.List.{flat_map}
use Rattle.text.specs.Lines.{lines}
use Rattle.row.specs.Reading.{row_at, width_at}
use Rattle.row.specs.Rows.{row_bytes}
use Rattle.trace.specs.Faults.{refusal_of}
use Rattle.trace.specs.Traces.{trace_of}
use Rattle.trace.specs.declared.faults.Fault.{Fault}
use Rattle.trace.specs.declared.faults.Fault.TheVariants.{Row, Trace}

-- the output for the lines of a trace whose rows have so many words, behind so many rows
abbrev pub output_from : ℕ → ℕ → List (List ℕ) → List ℕ
output_from width rows [] = []
output_from width rows (line ∷ rest) = elim (row_at line 0 width) [
  | Ok found ↦ row_bytes found.1 ++ output_from width (suc rows) rest
  | Err fault ↦ refusal_of (Row fault) rows
]

-- the output for a trace, which tells how many words each row has, or for why there is none
abbrev pub traced : (List ℕ → ℕ) → Result (List ℕ) Fault → List ℕ
traced width (Ok trace) = output_from (width trace) 0 (lines trace)
traced width (Err fault) = refusal_of fault 0

-- The output for a trace, or for one that cannot be read. The first row decides how many words each has.
abbrev pub output : Option (List ℕ) → List ℕ
output trace = traced (λ bytes. width_at bytes 0) (trace_of trace)

-- The rows come out as they went in: the output is the first lines of the trace and, unless those are all, a refusal that counts them.
pub record Echoes (trace out : List ℕ) : Type 0 where
  pub rows : ℕ
  pub rest : List ℕ
  pub accepted : rows ≤ length (lines trace)
  pub same : out ≡ flat_map (λ line. line) (take rows (lines trace)) ++ rest
  pub ending : ((rest ≡ []) × (rows ≡ length (lines trace))) ⊎ ((fault : Fault) × (rest ≡ refusal_of fault rows))

abbrev pub Echoed : Option (List ℕ) → List ℕ → Type 0
Echoed None out = out ≡ refusal_of Trace 0
Echoed (Some trace) out = Echoes trace out
