-- Parts of a text: where a byte stands, and bytes written at a place.
use Rattle.std.specs.Prelude.{◌≡◌, ℕ, ◌+◌, ◌<◌, ◌≤◌, cond, List, ◌++◌, length, take, drop, Some, None, Option, ◌==◌, ◌≢◌, nat_le, slice_index, slice_index_or}
use Rattle.std.specs.List.{position as first_index}
use Rattle.std.specs.Option.{option_map}

-- how many bytes stand before the first such byte, if there is one
abbrev pub position : ℕ → List ℕ → Option ℕ
position byte text = first_index (λ b. b == byte) text

-- It is the place of the first such byte at or after a place.
pub record First (byte : ℕ) (text : List ℕ) (from at : ℕ) : Type 0 where
  pub after : from ≤ at
  pub within : at < length text
  pub there : slice_index_or text at 0 ≡ byte
  pub none_before : (k : ℕ) → from ≤ k → k < at → slice_index text k ≢ byte

-- No such byte stands at or after a place.
abbrev pub Absent : ℕ → List ℕ → ℕ → Type 0
Absent byte text from = (k : ℕ) → from ≤ k → k < length text → slice_index text k ≢ byte

-- The place of the first such byte at or after a place, if there is one.
abbrev pub first_from : ℕ → List ℕ → ℕ → Option ℕ
first_from byte text from = option_map (λ i. from + i) (position byte (drop from text))

-- the text with the bytes in place of as many of its own
abbrev pub overwritten : List ℕ → ℕ → List ℕ → List ℕ
overwritten text place bytes = take place text ++ (bytes ++ drop (place + length bytes) text)

-- Bytes written into a text: the place after them and the text then, or nothing and the text as it was where they do not fit.
abbrev pub put : List ℕ → List ℕ → ℕ → Option ℕ × List ℕ
put bytes text place =
    cond (nat_le (place + length bytes) (length text)) (Some (place + length bytes), overwritten text place bytes) (None, text)
