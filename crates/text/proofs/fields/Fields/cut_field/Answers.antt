use Rattle.std.proofs.Common.{ℕ, ◌+◌, ◌-◌, ◌≤◌, length, drop, Option, unwrap_or, sym, refl, ap, ◌∙◌, arith}
use Rattle.std.specs.Option.{option_map}
use Rattle.text.specs.Fields.{fields_from, next_place}
use Rattle.text.proofs.Parting.{from_cut, from_last, take_length}
use Rattle.text.proofs.fields.Fields.cut_field.Goals as goal

pub returns-in-Some : goal.returns-in-Some
returns-in-Some c =
    let text = c.args.self.now.text.now in
    let place = c.args.place in
    let end = c.in-Some.end in
    let next = c.requires in
    let found = c.in-Some.ensures in
    let h : place ≤ length text = omega (arith, c.args.self.now.within, ap (λ (o : Option ℕ). unwrap_or o 0) next) in
    record {
      text = refl;
      field = ap (fields_from text) next ∙ from_cut text place end h found.first.within (sym found.value);
      place = (refl, take_length (end - place) (drop place text));
      next = sym (ap (next_place text) next ∙ ap (option_map (λ i. i + 1)) (sym found.value));
    }

pub returns-in-None : goal.returns-in-None
returns-in-None c =
    let text = c.args.self.now.text.now in
    let place = c.args.place in
    let next = c.requires in
    let h : place ≤ length text = omega (arith, c.args.self.now.within, ap (λ (o : Option ℕ). unwrap_or o 0) next) in
    record {
      text = refl;
      field = ap (fields_from text) next ∙ from_last text place h (sym c.in-None.ensures.value);
      place = (refl, take_length (length text - place) (drop place text));
      next = sym (ap (next_place text) next ∙ ap (option_map (λ i. i + 1)) (sym c.in-None.ensures.value));
    }
