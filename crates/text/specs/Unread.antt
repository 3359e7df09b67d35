-- What a reader of fields or of lines has still to read. A function and no model, since clauses name the text and the next place too, which the parts alone would hide.
use Rattle.std.specs.Prelude.{ℕ, List}
use Rattle.text.specs.Fields.{fields_from}
use Rattle.text.specs.Lines.{lines}
use Rattle.text.specs.declared.fields.Fields.{Fields}
use Rattle.text.specs.declared.lines.Lines.{Lines}

abbrev pub unread : Fields → List (List ℕ)
unread fields = fields_from fields.text.now fields.next

abbrev pub unread_lines : Lines → List (List ℕ)
unread_lines left = lines left.rest.now
