use Rattle.std.proofs.Common.{drop, sym, refl, ◌∙◌}
use Rattle.text.proofs.Parting.{fields_parted, from_within, parted_only}
use Rattle.text.proofs.fields.Fields.new.Goals as goal

pub returns : goal.returns
returns c =
    record {
      text = refl;
      fields = refl;
      parted = λ h. rw (from_within c.args.text.now c.args.place h) (fields_parted (drop c.args.place c.args.text.now));
      only = λ h fs p. parted_only (drop c.args.place c.args.text.now) fs p ∙ sym (from_within c.args.text.now c.args.place h);
    }
