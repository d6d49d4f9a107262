-- How offsets are spelled behind other tokens of their line.
use Rattle.std.proofs.Common.{◌≡◌, ℕ, zero, suc, ℤ, pos, negsuc, true, false, List, ◌∷◌, ◌++◌, sym, ap, ◌∙◌}
use Rattle.std.proofs.Common.{arith}
use Rattle.std.proofs.lemmas.Int.{ints}
use Rattle.std.specs.Prelude.{codes, int_lt, unsigned_abs}
use Rattle.std.specs.Fmt.{decimal}
use Rattle.std.proofs.lemmas.List.{append-nil}
use Rattle.fn_tokens.specs.Spelling.{spelled_from}
use Rattle.fn_grammar.specs.Print.{offset_tokens}

-- an offset that is added
added_one : (k : ℤ) (n : ℕ) (text : List ℕ) → text ≡ codes " + " ++ decimal n → n ≡ unsigned_abs k
    → int_lt (pos 0) k ≡ true → text ≡ spelled_from false (offset_tokens k)
added_one (pos zero) n text is size positive = absurd (cc)
added_one (pos (suc m)) n text is size positive =
    is ∙ ap (λ (x : ℕ). 32 ∷ 43 ∷ 32 ∷ decimal x) size
    ∙ ap (λ (l : List ℕ). 32 ∷ 43 ∷ 32 ∷ l) (sym (append-nil (decimal (suc m))))
added_one (negsuc m) n text is size positive = absurd (cc)

-- one that is taken away
taken_one : (k : ℤ) (n : ℕ) (text : List ℕ) → text ≡ codes " - " ++ decimal n → n ≡ unsigned_abs k
    → int_lt k (pos 0) ≡ true → text ≡ spelled_from false (offset_tokens k)
taken_one (pos m) n text is size negative = absurd (grind (arith, ints, negative))
taken_one (negsuc m) n text is size negative =
    is ∙ ap (λ (x : ℕ). 32 ∷ 45 ∷ 32 ∷ decimal x) size
    ∙ ap (λ (l : List ℕ). 32 ∷ 45 ∷ 32 ∷ l) (sym (append-nil (decimal (suc m))))

-- the same of an integer that is written in one more way
pub added : (k z : ℤ) (n : ℕ) (text : List ℕ) → z ≡ k → text ≡ codes " + " ++ decimal n → n ≡ unsigned_abs z
    → int_lt (pos 0) z ≡ true → text ≡ spelled_from false (offset_tokens k)
added k z n text same is size positive =
    added_one z n text is size positive ∙ ap (λ (x : ℤ). spelled_from false (offset_tokens x)) same

pub taken : (k z : ℤ) (n : ℕ) (text : List ℕ) → z ≡ k → text ≡ codes " - " ++ decimal n → n ≡ unsigned_abs z
    → int_lt z (pos 0) ≡ true → text ≡ spelled_from false (offset_tokens k)
taken k z n text same is size negative =
    taken_one z n text is size negative ∙ ap (λ (x : ℤ). spelled_from false (offset_tokens x)) same
