-- Facts of small numbers, by a test that computes.
use Rattle.std.proofs.Common.{◌≡◌, ◌<◌, ℕ, zero, suc, Bool, true, ap, ◌∙◌, inl, inr, arith}
use Rattle.std.specs.Prelude.{◌&&◌}
use Rattle.std.proofs.lemmas.Bool.{and_parts, cases_eq}

-- all numbers below this one pass the test
abbrev pub tested_below : (ℕ → Bool) → ℕ → Bool
tested_below test zero = true
tested_below test (suc n) = test n && tested_below test n

-- each number below it passes
pub passes : (test : ℕ → Bool) (n k : ℕ) → tested_below test n ≡ true → k < n → test k ≡ true
passes test zero k tested below = absurd (omega arith)
passes test (suc n) k tested below =
    let both : (test n ≡ true) × (tested_below test n ≡ true) = and_parts (test n) (tested_below test n) tested in
    elim (cases_eq k n) as (λ _. test k ≡ true) [
      | inl same ↦ ap test same ∙ both.0
      | inr other ↦ passes test n k both.1 (omega arith)
    ]
