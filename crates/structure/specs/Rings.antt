-- The regions above a region.
use Rattle.std.specs.Prelude.{ℕ, ◌+◌, Bool, false, length, Some, None, Option, ◌==◌}
use Rattle.chart.specs.declared.regions.Region.{Region}
use Rattle.chart.specs.declared.states.State.{State}
use Rattle.graph.specs.Graphs.{Reach, lowest_loop}
use Rattle.std.specs.List.{slice_get}
use Rattle.std.specs.Option.{option_map}
use Rattle.structure.specs.Lists.{Lists, before_regions}
use Rattle.structure.specs.Verdicts.{Verdict, refused_at}
use Rattle.faults.specs.declared.charts.ChartFault.TheVariants.{Ring}

abbrev pub lies_in : ℕ → Option State → Bool
lies_in region None = false
lies_in region (Some s) = s.region == region

abbrev pub parent_lies_in : Lists → ℕ → Option ℕ → Bool
parent_lies_in lists region None = false
parent_lies_in lists region (Some state) = lies_in region (slice_get lists.states state)

abbrev pub has_above : Lists → ℕ → Option Region → Bool
has_above lists above None = false
has_above lists above (Some r) = parent_lies_in lists above r.parent

-- The second region is the one of the first's parent state.
abbrev pub is_below : Lists → ℕ → ℕ → Bool
is_below lists region above = has_above lists above (slice_get lists.regions region)

-- The first region reaches the second through its parents.
abbrev pub Below : Lists → ℕ → ℕ → Type 0
Below lists region above = Reach (length lists.regions) (is_below lists) region above

-- 8. No region reaches itself through its parents.
abbrev pub rings_verdict : Lists → Verdict
rings_verdict lists =
    refused_at Ring (option_map (λ region. before_regions lists + region) (lowest_loop (length lists.regions) (is_below lists)))
