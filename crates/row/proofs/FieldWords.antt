-- The words of fields: the steps of the loop that reads them.
use Rattle.std.proofs.Common.{◌≡◌, ℕ, suc, ◌+◌, List, [], ◌∷◌, ◌++◌, Some, None, Ok, Err, Option, Result, unwrap_or, sym, refl, ap, ◌∙◌, ap₂, arith}
use Rattle.std.proofs.lemmas.List.{append_assoc, append-nil}
use Rattle.std.specs.Option.{option_map}
use Rattle.text.specs.Words.{word_in}
use Rattle.row.specs.declared.faults.RowFault.{RowFault}
use Rattle.row.specs.declared.faults.RowFault.TheVariants.{NoNumber}
use Rattle.row.specs.Reading.{field_words, first_bad, unless_bad, words_of}

unfoldable told : ℕ → List ℕ → Option ℕ → Result (List ℕ) RowFault
told at words None = Ok words
told at words (Some i) = Err (NoNumber (at + i))

-- what the fields from `at` on give, behind the words of those before
pub words_after : ℕ → List ℕ → List (List ℕ) → Result (List ℕ) RowFault
unfolding told
words_after at words fs = told at (words ++ words_of fs) (first_bad fs)

told_start : (words : List ℕ) (o : Option ℕ) → told 0 words o ≡ unless_bad words o
unfolding told
told_start words None = refl
told_start words (Some i) = ap (λ (n : ℕ). Err (NoNumber n)) (let e : 0 + i ≡ i = omega arith in e)

told_later : (at : ℕ) (words : List ℕ) (o : Option ℕ) → told at words (option_map suc o) ≡ told (at + 1) words o
unfolding told
told_later at words None = refl
told_later at words (Some i) = ap (λ (n : ℕ). Err (NoNumber n)) (let e : at + suc i ≡ at + 1 + i = omega arith in e)

pub bad_here : (f : List ℕ) (fs : List (List ℕ)) → word_in f ≡ None → first_bad (f ∷ fs) ≡ Some 0
bad_here f fs e = rw (e, first_bad)

pub bad_later : (f : List ℕ) (fs : List (List ℕ)) (w : ℕ) → word_in f ≡ Some w → first_bad (f ∷ fs) ≡ option_map suc (first_bad fs)
bad_later f fs w e = rw (e, first_bad)

pub after_start : (fs : List (List ℕ)) → words_after 0 [] fs ≡ field_words fs
unfolding words_after told
after_start fs = told_start (words_of fs) (first_bad fs)

pub after_more : (at : ℕ) (words : List ℕ) (f : List ℕ) (fs : List (List ℕ)) (w : ℕ) → word_in f ≡ Some w → words_after at words (f ∷ fs) ≡ words_after (at + 1) (words ++ (w ∷ [])) fs
unfolding words_after told
after_more at words f fs w e =
    ap₂ (told at)
    (ap (λ (o : Option ℕ). words ++ (unwrap_or o 0 ∷ words_of fs)) e ∙ sym (append_assoc words (w ∷ []) (words_of fs)))
    (bad_later f fs w e)
    ∙ told_later at ((words ++ (w ∷ [])) ++ words_of fs) (first_bad fs)

pub after_stop : (at : ℕ) (words : List ℕ) (f : List ℕ) (fs : List (List ℕ)) → word_in f ≡ None → words_after at words (f ∷ fs) ≡ Err (NoNumber at)
unfolding words_after told
after_stop at words f fs e =
    ap (told at (words ++ words_of (f ∷ fs))) (bad_here f fs e) ∙ ap (λ (n : ℕ). Err (NoNumber n)) (let z : at + 0 ≡ at = omega arith in z)

pub after_all : (at : ℕ) (words : List ℕ) → words_after at words [] ≡ Ok words
unfolding words_after told
after_all at words = ap Ok (append-nil words)
