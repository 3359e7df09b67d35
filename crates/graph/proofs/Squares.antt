-- Rows and tables whose cells say what a test does.
use Rattle.std.proofs.Common.{◌≡◌, ℕ, ◌+◌, ◌<◌, Bool, false, List, [], ◌∷◌, ◌++◌, length, get_or, map, sym, ap, ◌∙◌, subst, arith}
use Rattle.std.proofs.lemmas.List.FromFn.{fill_by_all, get_or-map-range_with_len, length-map-range_with_len, map-range_with_len_more}
use Rattle.std.specs.List.{range_with_len}
use Rattle.graph.specs.Tables.{IsSquare, cell, marked, row_of, square}

module _ (n : ℕ) (test : ℕ → Bool) where
  pub length-row_of : length (row_of n test) ≡ n
  length-row_of = length-map-range_with_len test 0 n

  pub marked-row_of : (b : ℕ) → b < n → marked (row_of n test) b ≡ test b
  marked-row_of b h = get_or-map-range_with_len test 0 n b b false h (omega arith)

  pub is_row_of : (row : List Bool) → length row ≡ n → ((b : ℕ) → b < n → marked row b ≡ test b) → row ≡ row_of n test
  is_row_of row long same = fill_by_all test row n false long same

module _ (n : ℕ) (test : ℕ → ℕ → Bool) where
  pub length-square : length (square n test) ≡ n
  length-square = length-map-range_with_len (λ a. row_of n (test a)) 0 n

  pub get_or-square : (a : ℕ) (d : List Bool) → a < n → get_or (square n test) a d ≡ row_of n (test a)
  get_or-square a d h = get_or-map-range_with_len (λ a. row_of n (test a)) 0 n a a d h (omega arith)

  pub cell-square : (a b : ℕ) → a < n → b < n → cell (square n test) a b ≡ test a b
  cell-square a b h i = ap (λ (row : List Bool). marked row b) (get_or-square a [] h) ∙ marked-row_of n (test a) b i

  pub square_even : IsSquare (square n test)
  square_even a d h = ap length (get_or-square a d (omega (arith, length-square))) ∙ length-row_of n (test a) ∙ sym length-square

  pub is_square : (rows : List (List Bool)) → length rows ≡ n → ((a : ℕ) → a < n → get_or rows a [] ≡ row_of n (test a)) → rows ≡ square n test
  is_square rows long same = fill_by_all (λ a. row_of n (test a)) rows n [] long same

  -- the same of a table that is known to be one
  pub length_of : (rows : List (List Bool)) → rows ≡ square n test → length rows ≡ n
  length_of rows e = ap length e ∙ length-square

  pub even_of : (rows : List (List Bool)) → rows ≡ square n test → IsSquare rows
  even_of rows e = subst IsSquare (sym e) square_even

-- tests that say the same of nodes make one table
pub square_same : (n : ℕ) (test other : ℕ → ℕ → Bool) → ((a b : ℕ) → a < n → b < n → test a b ≡ other a b) → square n test ≡ square n other
square_same n test other same =
    is_square n other (square n test) (length-square n test) (λ a h.
    get_or-square n test a [] h
    ∙ is_row_of n (other a) (row_of n (test a)) (length-row_of n (test a)) (λ b i. marked-row_of n (test a) b i ∙ same a b h i))

-- one row more
pub rows_more : (n : ℕ) (test : ℕ → ℕ → Bool) (k : ℕ) (rows pushed : List (List Bool)) (row : List Bool) → rows ≡ map (λ a. row_of n (test a)) (range_with_len 0 k) → row ≡ row_of n (test k) → pushed ≡ rows ++ row ∷ [] → pushed ≡ map (λ a. row_of n (test a)) (range_with_len 0 (k + 1))
rows_more n test k rows pushed row so_far is e =
    e
    ∙ ap (λ (l : List (List Bool)). l ++ row ∷ []) so_far
    ∙ ap (λ (r : List Bool). map (λ a. row_of n (test a)) (range_with_len 0 k) ++ r ∷ []) is
    ∙ sym (map-range_with_len_more (λ a. row_of n (test a)) 0 k k (omega arith))
