-- A chart file: the questions in their order, the first no deciding.
use Rattle.std.specs.Prelude.{◌≡◌, ℕ, ◌⊎◌, List, Ok, Err, Result, alloc_error}
use Rattle.chart.specs.ChartFiles.{chart_format}
use Rattle.chart.specs.declared.lines.Line.{Line}
use Rattle.linefile.specs.Files.{FilePasses, file_lines}
use Rattle.faults.specs.declared.lines.FileFault.{FileFault}
use Rattle.faults.specs.ChartFaults.{chart_fault}
use Rattle.structure.specs.Lists.{Lists, listed, no_lines}
use Rattle.structure.specs.Structure.{Structured, structure_verdict}
use Rattle.structure.specs.Verdicts.{Verdict}
use Rattle.faults.specs.declared.charts.ChartFault.{ChartFault}
use Rattle.faults.specs.declared.charts.ChartFault.TheVariants.{Memory}

abbrev pub kept : Lists → Verdict → Result Lists ChartFault
kept lists (Ok yes-to-all) = Ok lists
kept lists (Err fault) = Err fault

-- questions 6 to 12, where 1 to 5 got yes
abbrev pub judged : ℕ → Result (List Line) FileFault → Result Lists ChartFault
judged joinings (Ok lines) = kept (listed lines) (structure_verdict joinings (listed lines))
judged joinings (Err fault) = Err (chart_fault fault)

-- The lines of a chart file by their kinds, or the first no. The joinings are numbered up to a number.
abbrev pub verdict : ℕ → List ℕ → Result Lists ChartFault
verdict joinings text = judged joinings (file_lines chart_format text)

-- the answer and the lines then: a refused read leaves no lines
abbrev pub settled : Result Lists ChartFault → Verdict × Lists
settled (Ok lists) = (Ok tt, lists)
settled (Err fault) = (Err fault, no_lines)

-- Reading: the answer and the lines then, as the verdict has it or for want of memory.
abbrev pub Settles : Result Lists ChartFault → Verdict × Lists → Type 0
Settles found left = (left ≡ settled (Err (Memory alloc_error))) ⊎ (left ≡ settled found)

-- The file gets yes to questions 1 to 12, and these are its lines.
pub record Passes (joinings : ℕ) (text : List ℕ) (lists : Lists) : Type 0 where
  pub lines : List Line
  pub said : FilePasses chart_format text lines
  pub sorted : listed lines ≡ lists
  pub structured : Structured joinings lists

-- A chart file is accepted exactly when it passes, unless memory is short.
pub record Exactly (joinings : ℕ) (text : List ℕ) (left : Verdict × Lists) : Type 0 where
  pub sound : left.0 ≡ Ok tt → Passes joinings text left.1
  pub complete : (lists : Lists) → Passes joinings text lists → Settles (Ok lists) left
