-- What is held between two lines of a line file: the letter of the last line and how many lines have it so far, if there is one. A letter is given by its place among the letters.
use Rattle.std.specs.Prelude.{ℕ, Bool, true, cond, Some, None, Ok, Err, Option, Result, nat_eq, nat_le}
use Rattle.std.specs.Option.{option_map}
use Rattle.linefile.specs.declared.reading.Last.{Last}

-- a letter may come where it is the last one or a later
abbrev pub comes : Option (ℕ × ℕ) → ℕ → Bool
comes None letter = true
comes (Some last) letter = nat_le last.0 letter

-- how many lines a letter has that may come
abbrev pub so_far : Option (ℕ × ℕ) → ℕ → ℕ
so_far None letter = 0
so_far (Some last) letter = cond (nat_eq letter last.0) last.1 0

-- letters by their places
abbrev pub placed_last : {K : Type 0} → (K → ℕ) → Option (Last K) → Option (ℕ × ℕ)
placed_last place last = option_map (λ l. (place l.letter, l.count)) last

abbrev pub placed : {K L E : Type 0} → (K → ℕ) → Result (Last K × L) E → Result (ℕ × L) E
placed place (Ok found) = Ok (place found.0.letter, found.1)
placed place (Err fault) = Err fault
