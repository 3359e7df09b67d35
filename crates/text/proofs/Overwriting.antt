-- Bytes written into a text, one part after another.
use Rattle.std.proofs.Common.{◌≡◌, ℕ, ◌+◌, ◌<◌, ◌≤◌, List, [], ◌∷◌, ◌++◌, length, set, sym, refl, ap, ◌∙◌, add-one, arith}
use lib.Seq.{paste}
use Rattle.std.proofs.lemmas.List.Edits.{paste_all, paste-paste}
use Rattle.std.proofs.lemmas.List.{length-append, set_split}
use Rattle.text.specs.Parts.{overwritten}

over_paste : (text : List ℕ) (place : ℕ) (bytes : List ℕ) → paste text place bytes (length bytes) ≡ overwritten text place bytes
over_paste text place bytes = paste_all text place bytes (length bytes) refl

-- a part and the next are one part
pub overwritten_append : (text : List ℕ) (place : ℕ) (xs ys : List ℕ) → place + length xs ≤ length text → overwritten (overwritten text place xs) (place + length xs) ys ≡ overwritten text place (xs ++ ys)
overwritten_append text place xs ys h =
    sym (over_paste (overwritten text place xs) (place + length xs) ys)
    ∙ ap (λ (t : List ℕ). paste t (place + length xs) ys (length ys)) (sym (over_paste text place xs))
    ∙ paste-paste text place xs ys (length xs) (length ys) refl refl (omega arith)
    ∙ ap (paste text place (xs ++ ys)) (sym (length-append xs ys))
    ∙ over_paste text place (xs ++ ys)

pub overwritten_one : (text : List ℕ) (place byte : ℕ) → place < length text → set text place byte ≡ overwritten text place (byte ∷ [])
overwritten_one text place byte h = set_split text place byte h ∙ rw add-one
