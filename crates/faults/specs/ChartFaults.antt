-- The refusals of a chart: each with its number, and the line of the file that it tells, counted from 0.
use Rattle.std.specs.Prelude.{ℕ}
use Rattle.faults.specs.LineFaults as text
use Rattle.faults.specs.declared.lines.FileFault.{FileFault}
use Rattle.faults.specs.declared.lines.FileFault.TheVariants as file
use Rattle.faults.specs.declared.charts.ChartFault.{ChartFault}
use Rattle.faults.specs.declared.charts.ChartFault.TheVariants.{File, Line, Names, Roots, Ring, Initials, Exits, Crossing, Write, Memory}

-- a line has a layer of its own, and the chart as a whole is the second
abbrev pub layer_of : ChartFault → ℕ
layer_of (Line fault) = text.layer_of fault
layer_of File = 2
layer_of (Names line) = 2
layer_of Roots = 2
layer_of (Ring line) = 2
layer_of (Initials line) = 2
layer_of (Exits line) = 2
layer_of (Crossing line) = 2
layer_of (Write line) = 2
layer_of (Memory short) = 2

abbrev pub number_of : ChartFault → ℕ
number_of File = 1
number_of (Line fault) = text.number_of fault
number_of (Names line) = 6
number_of Roots = 7
number_of (Ring line) = 8
number_of (Initials line) = 9
number_of (Exits line) = 10
number_of (Crossing line) = 11
number_of (Write line) = 12
number_of (Memory short) = 0

abbrev pub place_of : ChartFault → ℕ
place_of File = 0
place_of (Line fault) = text.place_of fault
place_of (Names line) = line
place_of Roots = 0
place_of (Ring line) = line
place_of (Initials line) = line
place_of (Exits line) = line
place_of (Crossing line) = line
place_of (Write line) = line
place_of (Memory short) = 0

-- what is wrong with the file is wrong with the chart
abbrev pub chart_fault : FileFault → ChartFault
chart_fault file.Bytes = File
chart_fault (file.Line fault) = Line fault
chart_fault (file.Memory short) = Memory short
