use Rattle.std.proofs.Common.{◌≡◌, ℕ, ◌<◌, List, [], length, set, Ok, sym, ap, ◌∙◌, ap₂, arith, rules}
use Rattle.std.proofs.lemmas.List.{nil_from_length}
use Rattle.std.proofs.lemmas.Slice.{first_rest}
use Rattle.text.proofs.Overwriting.{overwritten_one}
use Rattle.text.specs.Parts.{overwritten}
use Rattle.row.specs.Rows.{row_bytes}
use Rattle.row.proofs.Rereading.{rereads}
use Rattle.row.proofs.Rewriting.{write_fits}
use Rattle.row.proofs.writing.put_row.Goals as goal

pub returns-in-empty : goal.returns-in-empty
returns-in-empty c =
    let row = c.args.row.now in
    let text = c.args.text.now in
    let none : length row ≡ 0 = search rules in
    let nil : row ≡ [] = nil_from_length row none in
    let len : 1 ≡ length (row_bytes row) = ap (λ (ws : List ℕ). length (row_bytes ws)) (sym nil) in
    let wrote : set text 0 10 ≡ overwritten text 0 (row_bytes row) =
    overwritten_one text 0 10 (omega (arith, c.requires, len)) ∙ ap (λ (ws : List ℕ). overwritten text 0 (row_bytes ws)) (sym nil) in
    record {
      all = ap₂ (λ (n : ℕ) (t : List ℕ). (Ok n, t)) len wrote ∙ sym (write_fits row text c.requires.0 c.requires.1);
      again = rereads row text (set text 0 10) 1 c.requires.0 (λ i. omega (arith, c.type_inv.row i)) wrote len;
    }

pub returns-in-len1-up : goal.returns-in-len1-up
returns-in-len1-up c =
    let row = c.args.row.now in
    let text = c.args.text.now in
    let some : 0 < length row = search rules in
    let whole = sym (first_rest row 0 some) in
    let len : c.put_words.result ≡ length (row_bytes row) = c.put_words.ensures.len ∙ ap (λ (ws : List ℕ). length (row_bytes ws)) whole in
    let wrote : c.put_words.new.text ≡ overwritten text 0 (row_bytes row) =
    c.put_words.ensures.text ∙ ap (λ (ws : List ℕ). overwritten text 0 (row_bytes ws)) whole in
    record {
      all = ap₂ (λ (n : ℕ) (t : List ℕ). (Ok n, t)) len wrote ∙ sym (write_fits row text c.requires.0 c.requires.1);
      again = rereads row text c.put_words.new.text c.put_words.result c.requires.0 (λ i. omega (arith, c.type_inv.row i)) wrote len;
    }
