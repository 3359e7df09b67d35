-- The steps of the loop that picks the lines of a kind.
use Rattle.std.proofs.Common.{◌≡◌, ℕ, ◌+◌, ◌<◌, ◌≤◌, List, [], ◌∷◌, ◌++◌, length, get_or, drop, Some, None, Option, sym, refl, ap, ◌∙◌, ap₂}
use Rattle.chart.specs.declared.lines.Line.{Line}
use Rattle.std.proofs.lemmas.List.{append_assoc, append-nil, at_drop_more, at_drop_all}
use Rattle.std.specs.List.{filter_map}

module _ {A : Type 0} (pick : Line → Option A) (lines : List Line) (i : ℕ) (so_far : List A) where
  pub picked_all : length lines ≤ i → so_far ++ filter_map pick (drop i lines) ≡ so_far
  picked_all h = ap (λ (more : List A). so_far ++ more) (at_drop_all (filter_map pick) lines i h) ∙ append-nil so_far

  -- at the line `i`
  module _ (d : Line) (h : i < length lines) where
    abbrev onto : Option A → List A → List A
    onto None more = more
    onto (Some a) more = a ∷ more

    first : (l : Line) (ls : List Line) → filter_map pick (l ∷ ls) ≡ onto (pick l) (filter_map pick ls)
    first l ls = go (pick l) refl
      where
        go : (o : Option A) → pick l ≡ o → filter_map pick (l ∷ ls) ≡ onto o (filter_map pick ls)
        go None e = rw (e)
        go (Some a) e = rw (e)

    here : (o : Option A) → o ≡ pick (get_or lines i d) → filter_map pick (drop i lines) ≡ onto o (filter_map pick (drop (i + 1) lines))
    here o e =
        at_drop_more (filter_map pick) lines i d h ∙ first (get_or lines i d) (drop (i + 1) lines)
        ∙ ap (λ (p : Option A). onto p (filter_map pick (drop (i + 1) lines))) (sym e)

    pub picked_none : (then : List A) → then ≡ so_far → None ≡ pick (get_or lines i d) → then ++ filter_map pick (drop (i + 1) lines) ≡ so_far ++ filter_map pick (drop i lines)
    picked_none then same e = ap₂ (λ (xs more : List A). xs ++ more) same (sym (here None e))

    pub picked_one : (then : List A) (a : A) → then ≡ so_far ++ (a ∷ []) → Some a ≡ pick (get_or lines i d) → then ++ filter_map pick (drop (i + 1) lines) ≡ so_far ++ filter_map pick (drop i lines)
    picked_one then a more e =
        ap (λ (xs : List A). xs ++ filter_map pick (drop (i + 1) lines)) more
        ∙ append_assoc so_far (a ∷ []) (filter_map pick (drop (i + 1) lines))
        ∙ ap (λ (xs : List A). so_far ++ xs) (sym (here (Some a) e))
