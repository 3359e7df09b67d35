-- The refusals of a line: each with the number of its question and the line.
use Rattle.std.specs.Prelude.{ℕ}
use Rattle.faults.specs.declared.lines.LineFault.{LineFault}
use Rattle.faults.specs.declared.lines.LineFault.TheVariants.{Letter, Fields, Number, Limit}

-- a line is the first layer
abbrev pub layer_of : LineFault → ℕ
layer_of fault = 1

abbrev pub number_of : LineFault → ℕ
number_of (Letter line) = 2
number_of (Fields line) = 3
number_of (Number line) = 4
number_of (Limit line) = 5

abbrev pub place_of : LineFault → ℕ
place_of (Letter line) = line
place_of (Fields line) = line
place_of (Number line) = line
place_of (Limit line) = line
