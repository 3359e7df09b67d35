-- A pass over a table in three parts: the rows before one row, that row, and the rows after it.
use Rattle.std.proofs.Common.{◌≡◌, ℕ, ◌+◌, ◌<◌, Bool, true, false, ◌&&◌, ◌||◌, List, [], ◌∷◌, ◌++◌, length, get_or, map, All, sym, refl, ap, ◌∙◌, add-one, arith, ltb, rules}
use Rattle.std.proofs.lemmas.List.{get_or-map, get_or_append_left, get_or_at, length-append, length-map, map-append, places}
use Rattle.std.proofs.lemmas.Bool.{lt-ltb}
use Rattle.graph.specs.Graphs.{by_way_of, via}
use Rattle.graph.specs.Tables.{IsSquare, cell, gone_on, marked, row_of, square}
use Rattle.graph.proofs.Squares.{cell-square, is_row_of, is_square, length-square, square_same}

-- the tests that `via` begins with pass at nodes
below_all : (a n : ℕ) (x : Bool) → a < n → (ltb a n && x) ≡ x
below_all a n x h = ap (λ (t : Bool). t && x) (lt-ltb a n h)

absorbed : (x y : Bool) → (x || (y && x)) ≡ x
absorbed true y = refl
absorbed false true = refl
absorbed false false = refl

-- a row that goes on by way of itself stays
gone_on_itself : (node : ℕ) (row : List Bool) → gone_on node row row ≡ row
gone_on_itself node row = sym (is_row_of (length row) (λ b. marked row b || (marked row node && marked row b)) row refl (λ b h. sym (absorbed (marked row b) (marked row node))))

-- what a pass asks of its three parts, and what it makes of them
pub record Passed (rows before after : List (List Bool)) (through : List Bool) (node : ℕ) : Type 0 where
  pub front : All (λ row. length through ≡ length row) before
  pub within : node < length through
  pub back : All (λ row. length through ≡ length row) after
  pub whole : map (gone_on node through) before ++ through ∷ map (gone_on node through) after ≡ square (length rows) (by_way_of node (cell rows))

module _ (rows before after : List (List Bool)) (through : List Bool) (node : ℕ) (parts : rows ≡ before ++ through ∷ after) (at : length before ≡ node) (even : IsSquare rows) where
  long : length rows ≡ node + (1 + length after)
  long = ap length parts ∙ simp length-append (omega arith)

  through_is : (d : List Bool) → get_or rows node d ≡ through
  through_is d = ap (λ (l : List (List Bool)). get_or l node d) parts ∙ get_or_at before through after d node at

  wide : length through ≡ length rows
  wide = ap length (sym (through_is [])) ∙ even node [] (omega (arith, long))

  mapped : map (gone_on node through) before ++ through ∷ map (gone_on node through) after ≡ map (gone_on node through) rows
  mapped =
      ap (λ (row : List Bool). map (gone_on node through) before ++ row ∷ map (gone_on node through) after) (sym (gone_on_itself node through))
      ∙ sym (map-append (gone_on node through) before (through ∷ after))
      ∙ ap (map (gone_on node through)) (sym parts)

  row_passed : (a : ℕ) → a < length rows → get_or (map (gone_on node through) rows) a [] ≡ row_of (length rows) (by_way_of node (cell rows) a)
  row_passed a h =
      get_or-map (gone_on node through) rows a [] [] h
      ∙ ap (λ (n : ℕ). row_of n (λ b. cell rows a b || (cell rows a node && marked through b))) (even a [] h)
      ∙ ap (λ (row : List Bool). row_of (length rows) (λ b. cell rows a b || (cell rows a node && marked row b))) (sym (through_is []))

  pub passed : Passed rows before after through node
  passed =
      record {
        front = λ k d h. wide ∙ sym (even k d (omega (arith, long))) ∙ ap length (ap (λ (l : List (List Bool)). get_or l k d) parts ∙ get_or_append_left before (through ∷ after) d k h);
        within = omega (arith, wide, long);
        back = λ k d h. wide ∙ sym (even (node + (1 + k)) d (omega (arith, long))) ∙ ap length (ap (λ (l : List (List Bool)). get_or l (node + (1 + k)) d) parts ∙ search (rules, places));
        whole = mapped ∙ is_square (length rows) (by_way_of node (cell rows)) (map (gone_on node through) rows) (length-map rows (gone_on node through)) row_passed;
      }

-- one pass after another
module _ (n : ℕ) (follows : ℕ → ℕ → Bool) where
  pub none_passed : (rows : List (List Bool)) → rows ≡ square n follows → rows ≡ square n (via n follows 0)
  none_passed rows e = e ∙ square_same n follows (via n follows 0) (λ a b h i. sym (below_all a n (ltb b n && follows a b) h ∙ below_all b n (follows a b) i))

  pub one_more_passed : (k : ℕ) → k < n → (rows passed after : List (List Bool)) → rows ≡ square n (via n follows k) → passed ≡ square (length rows) (by_way_of k (cell rows)) → after ≡ passed → after ≡ square n (via n follows (k + 1))
  one_more_passed k l rows passed after e p same =
      same ∙ p
      ∙ ap (λ (table : List (List Bool)). square (length table) (by_way_of k (cell table))) e
      ∙ ap (λ (m : ℕ). square m (by_way_of k (cell (square n (via n follows k))))) (length-square n (via n follows k))
      ∙ square_same n (by_way_of k (cell (square n (via n follows k)))) (via n follows (k + 1)) (λ a b h i.
      rw (cell-square n (via n follows k) a b h i, cell-square n (via n follows k) a k h l, cell-square n (via n follows k) k b l i) (ap (λ (j : ℕ). via n follows j a b) (sym (add-one k))))
