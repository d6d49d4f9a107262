-- Texts that are written piece by piece.
use Rattle.std.proofs.Common.{◌≡◌, ℕ, List, [], ◌∷◌, ◌++◌}
use Rattle.std.proofs.Common.{refl, sym, ap, ◌∙◌, append_assoc}
use Rattle.std.specs.Fmt.{decimal}
use Rattle.std.proofs.lemmas.List.{append-nil}
use Rattle.cert_text.specs.Numbers.{more_numbers_text}

-- two whole pieces
pub both_pieces :
    (before between after text more : List ℕ) → between ≡ before ++ text → after ≡ between ++ more
    → after ≡ before ++ (text ++ more)
both_pieces before between after text more is after_is =
    after_is ∙ ap (λ (l : List ℕ). l ++ more) is ∙ append_assoc before text more

-- further numbers and others behind them
more_numbers_text-append : (ns ms : List ℕ)
    → more_numbers_text (ns ++ ms) ≡ more_numbers_text ns ++ more_numbers_text ms
more_numbers_text-append [] ms = refl
more_numbers_text-append (n ∷ ns) ms =
    ap (λ (l : List ℕ). 44 ∷ decimal n ++ l) (more_numbers_text-append ns ms)
    ∙ ap (λ (l : List ℕ). 44 ∷ l) (sym (append_assoc (decimal n) (more_numbers_text ns) (more_numbers_text ms)))

-- one more number was written
pub one_more_number :
    (written : List ℕ) (n : ℕ) (before between after : List ℕ) → between ≡ before ++ more_numbers_text written
    → after ≡ between ++ 44 ∷ decimal n → after ≡ before ++ more_numbers_text (written ++ n ∷ [])
one_more_number written n before between after is after_is =
    both_pieces before between after (more_numbers_text written) (44 ∷ decimal n) is after_is
    ∙ ap (λ (l : List ℕ). before ++ l)
    (sym (more_numbers_text-append written (n ∷ [])
    ∙ ap (λ (l : List ℕ). more_numbers_text written ++ 44 ∷ l) (append-nil (decimal n))))
