-- The verdict accepts exactly what is structured.
use Rattle.std.proofs.Common.{◌≡◌, ◌↔◌, ℕ, ◌+◌, Bool, List, [], ◌∷◌, length, Some, None, Ok, Err, Option, refl, arith}
use Rattle.graph.proofs.Loops.{lowest_is}
use Rattle.graph.specs.Graphs.{Lowest, lowest_loop}
use Rattle.std.proofs.lemmas.Bool.Decides.{nat_tests}
use Rattle.std.specs.Option.{option_map}
use Rattle.linefile.proofs.Asking.{all_from_none, none_from_all}
use Rattle.linefile.specs.Questions.{AllYes}
use Rattle.std.specs.List.{AllByRecursion}
use Rattle.structure.specs.Effects.{may_write}
use Rattle.structure.specs.Lists.{Lists, before_effects, before_regions, before_states, before_transitions}
use Rattle.structure.specs.Names.{effect_names, names_by_kind, region_names, state_names, transition_names, variable_names}
use Rattle.structure.specs.Regions.{one_initial, root_count, roots_verdict}
use Rattle.structure.specs.Rings.{Below, is_below, rings_verdict}
use Rattle.structure.specs.States.{state_exits_fit}
use Rattle.structure.specs.Structure.{OnlyRoot, Structured, questions, structure_verdict}
use Rattle.structure.specs.Transitions.{stays}
use Rattle.structure.specs.Verdicts.{Verdict, decided, first_line, refused_at}
use Rattle.faults.specs.declared.charts.ChartFault.{ChartFault}
use Rattle.faults.specs.declared.charts.ChartFault.TheVariants.{Crossing, Exits, Initials, Names, Ring, Write}
use Rattle.structure.proofs.Roots.{root_where_1, 1-where-root}

-- nothing is refused where there is no line
no_line : (fault : ℕ → ChartFault) (before : ℕ) (o : Option ℕ) → (refused_at fault (option_map (λ n. before + n) o) ≡ Ok tt) ↔ (o ≡ None)
no_line fault before None = (λ _. refl, λ _. refl)
no_line fault before (Some n) = (λ e. cc, λ e. cc)

-- verdicts accept together exactly where each does
accepted : (vs : List Verdict) → (decided vs ≡ Ok tt) ↔ AllByRecursion (λ v. v ≡ Ok tt) vs
accepted [] = (λ _. tt, λ _. refl)
accepted (Ok u ∷ vs) = (λ e. (refl, (accepted vs).0 e), λ all. (accepted vs).1 all.1)
accepted (Err fault ∷ vs) = (λ e. absurd cc, λ all. cc all.0)

accepts_lines : {L : Type 0} (fault : ℕ → ChartFault) (before : ℕ) (says : ℕ → L → Bool) (lines : List L) → (refused_at fault (first_line before says lines) ≡ Ok tt) ↔ AllYes says lines
accepts_lines fault before says lines = (
  λ e. all_from_none says lines ((no_line fault before _).0 e),
  λ all. (no_line fault before _).1 (none_from_all says lines all),
)

accepts_root : (lists : Lists) → (roots_verdict lists ≡ Ok tt) ↔ ((root : ℕ) × OnlyRoot lists.regions root)
accepts_root lists = (
  λ e. root_where_1 0 lists.regions (grind (arith, nat_tests)),
  λ o. let one : root_count lists ≡ 1 = 1-where-root 0 lists.regions o.0 o.1 in grind (arith, nat_tests),
)

-- there is no lowest loop exactly where there is none
accepts_ringless : (lists : Lists) → (rings_verdict lists ≡ Ok tt) ↔ ((region : ℕ) → Below lists region region → ⊥)
accepts_ringless lists = go (lowest_loop n (is_below lists)) (lowest_is n (is_below lists))
  where
    n : ℕ
    n = length lists.regions

    go : (o : Option ℕ) → Lowest n (is_below lists) o → (refused_at Ring (option_map (λ region. before_regions lists + region) o) ≡ Ok tt) ↔ ((region : ℕ) → Below lists region region → ⊥)
    go None free = (λ e. free, λ _. refl)
    go (Some region) l = (λ e. absurd cc, λ free. absurd (free region l.0))

module _ (joinings : ℕ) (lists : Lists) where
  pub structured : (structure_verdict joinings lists ≡ Ok tt) ↔ Structured joinings lists
  structured =
      let variables = accepts_lines Names 0 (λ _. variable_names joinings) lists.variables in
      let regions = accepts_lines Names (before_regions lists) (λ _. region_names lists) lists.regions in
      let states = accepts_lines Names (before_states lists) (λ _. state_names lists) lists.states in
      let transitions = accepts_lines Names (before_transitions lists) (λ _. transition_names lists) lists.transitions in
      let effects = accepts_lines Names (before_effects lists) (λ _. effect_names lists) lists.effects in
      let starts = accepts_lines Initials (before_regions lists) (λ region _. one_initial lists region) lists.regions in
      let exits = accepts_lines Exits (before_states lists) (state_exits_fit lists) lists.states in
      let staying = accepts_lines Crossing (before_transitions lists) (λ _. stays lists) lists.transitions in
      let writes = accepts_lines Write (before_effects lists) (λ _. may_write lists) lists.effects in (
        λ e.
            let yes = (accepted (questions joinings lists)).0 e in
            let names = (accepted (names_by_kind joinings lists)).0 yes.0 in
            record {
              variables_name = variables.0 names.0;
              regions_name = regions.0 names.1.0;
              states_name = states.0 names.1.1.0;
              transitions_name = transitions.0 names.1.1.1.0;
              effects_name = effects.0 names.1.1.1.1.0;
              root = (accepts_root lists).0 yes.1.0;
              no_ring = (accepts_ringless lists).0 yes.1.1.0;
              regions_start = starts.0 yes.1.1.1.0;
              states_exit = exits.0 yes.1.1.1.1.0;
              transitions_stay = staying.0 yes.1.1.1.1.1.0;
              effects_write = writes.0 yes.1.1.1.1.1.1.0;
            },
        λ s.
            let names = (accepted (names_by_kind joinings lists)).1 (variables.1 s.variables_name, (regions.1 s.regions_name, (states.1 s.states_name, (transitions.1 s.transitions_name, (effects.1 s.effects_name, tt))))) in
            (accepted (questions joinings lists)).1 (names, ((accepts_root lists).1 s.root, ((accepts_ringless lists).1 s.no_ring, (starts.1 s.regions_start, (exits.1 s.states_exit, (staying.1 s.transitions_stay, (writes.1 s.effects_write, tt))))))),
      )
