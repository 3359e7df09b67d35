use Rattle.std.proofs.Common.{◌≡◌, ◌-◌, ◌≤◌, ◌++◌, length, drop, vec_items}
use Rattle.text.specs.Lines.{lines}
use Rattle.trace.specs.Output.{output_from}
use Rattle.trace.proofs.output.append_rows.Given as goal

-- the output so far and that of the lines that are left are the whole output
abbrev pub invariant-loop-place : goal.invariant-loop-place
invariant-loop-place l =
    (vec_items l.out ++ output_from (length l.row) l.rows (lines (drop l.place l.trace)) ≡ vec_items l.initial.out ++ output_from (length l.initial.row) 0 (lines l.trace))
    × (l.rows ≤ l.place)
    × (l.place ≤ length l.trace)

abbrev pub decreases-loop-place : goal.decreases-loop-place
decreases-loop-place l = length l.trace - l.place
