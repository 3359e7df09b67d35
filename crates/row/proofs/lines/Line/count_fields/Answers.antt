use Rattle.std.proofs.Common.{◌≡◌, ◌∙◌, inl, refl, ap, arith, length}
use Rattle.std.proofs.lemmas.Iterator.Consumers.{YieldsList-from_first, count_from_yields_List}
use Rattle.text.specs.Fields.{fields}
use Rattle.text.specs.Unread.{unread}
use Rattle.row.proofs.Counting.{all_fields, length_fields}
use Rattle.row.proofs.lines.Line.count_fields.Goals as goal

pub count-requires-clause-fits : goal.count-requires-clause-fits
count-requires-clause-fits c =
    let line = c.self.inside.bytes.now in
    inl (omega (arith, length_fields line, ap length (c.new.ensures.fields ∙ all_fields line)))

pub returns : goal.returns
returns c =
    let line = c.self.inside.bytes.now in
    let value : c.count.result ≡ length (fields c.args.self.now) = count_from_yields_List _ c.count.result c.count.ensures.ran (YieldsList-from_first (λ f. f.text.now) unread (unread c.new.result) refl)
    ∙ ap length (c.new.ensures.fields ∙ all_fields line ∙ ap fields c.self.view_is) in
    record { value = value; bound = omega (arith, value, length_fields c.args.self.now, c.self.invariant, ap length c.self.view_is) }
