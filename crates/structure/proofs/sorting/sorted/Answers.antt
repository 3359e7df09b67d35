use Rattle.std.proofs.Common.{◌≡◌, sym, subst, rules}
use Rattle.structure.specs.Lists.{Limited, Lists, effect_of, listed, region_of, state_of, transition_of, variable_of}
use Rattle.structure.proofs.sorting.sorted.Goals as goal
use Rattle.structure.proofs.sorting.sorted.Goals.{In_ok-pick_all-5}

-- each list has what was picked of its kind
all_picked : (c : In_ok-pick_all-5) → ◌≡◌ {A = Lists}
    (record {
      variables = c.in_ok-pick_all.field-0.items;
      regions = c.in_ok-pick_all-2.field-0.items;
      states = c.in_ok-pick_all-3.field-0.items;
      transitions = c.in_ok-pick_all-4.field-0.items;
      effects = c.in_ok-pick_all-5.field-0.items;
    })
    (listed c.args.lines.now)
all_picked c = rw (
  c.in_ok-pick_all.ensures variable_of (λ line held h. search rules),
  c.in_ok-pick_all-2.ensures region_of (λ line held h. search rules),
  c.in_ok-pick_all-3.ensures state_of (λ line held h. search rules),
  c.in_ok-pick_all-4.ensures transition_of (λ line held h. search rules),
  c.in_ok-pick_all-5.ensures effect_of (λ line held h. search rules),
)

pub invariant_of-result : goal.invariant_of-result
invariant_of-result c = subst Limited (sym (all_picked c)) c.requires

pub returns : goal.returns
returns c = all_picked (goal.at.returns c).In_ok-pick_all-5
