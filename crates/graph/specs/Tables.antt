-- A table of n rows of n cells, and what is read off from it.
use Rattle.std.specs.Prelude.{◌≡◌, ℕ, Bool, false, ◌&&◌, ◌||◌, List, [], length, map, slice_index_or, count_by, All}
use Rattle.std.specs.List.{range_with_len}

-- a row of n cells, where each says what a test does
abbrev pub row_of : ℕ → (ℕ → Bool) → List Bool
row_of n test = map test (range_with_len 0 n)

-- n rows of n cells, where each says what a test does
abbrev pub square : ℕ → (ℕ → ℕ → Bool) → List (List Bool)
square n test = map (λ a. row_of n (test a)) (range_with_len 0 n)

-- each row has as many cells as there are rows
abbrev pub IsSquare : List (List Bool) → Type 0
IsSquare rows = All (λ row. length row ≡ length rows) rows

abbrev pub marked : List Bool → ℕ → Bool
marked row b = slice_index_or row b false

abbrev pub cell : List (List Bool) → ℕ → ℕ → Bool
cell rows a b = marked (slice_index_or rows a []) b

-- what a row is once it goes on by way of a node
abbrev pub gone_on : ℕ → List Bool → List Bool → List Bool
gone_on node through row = row_of (length row) (λ b. marked row b || (marked row node && marked through b))

-- how many rows have a node marked
abbrev pub column_count : List (List Bool) → ℕ → ℕ
column_count rows node = count_by (λ row. marked row node) rows

abbrev pub column_counts : List (List Bool) → List ℕ
column_counts rows = map (column_count rows) (range_with_len 0 (length rows))
