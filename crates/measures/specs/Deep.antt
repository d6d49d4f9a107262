-- A plan with many questions on one path.
use Rattle.std.specs.Prelude.{◌≡◌, ℕ, ◌-◌, ◌<◌, ◌≤◌, true, refl}
use Rattle.std.proofs.Common.{zero, suc, arith}
use Rattle.ask_core.specs.declared.asker.TheConstants.{MAX_QUESTIONS}
use Rattle.ask_core.specs.Plans.{Plan, Ask, Holds}
use Rattle.ask_core.specs.Askers.{IsFine, has_fine_literals, longest_path}
use Rattle.ask_core.specs.TwoNames.{at_most}

-- so many questions, one behind the yes of the other
unfoldable pub deep_plan : ℕ → Plan ℕ
deep_plan zero = Holds
deep_plan (suc n) = Ask at_most (deep_plan n) Holds

-- the plan with no question left
pub deep_plan-zero : deep_plan 0 ≡ Holds
unfolding deep_plan
deep_plan-zero = refl

-- a plan with questions left asks the next one
pub deep_plan-above : (n : ℕ) → 0 < n → deep_plan n ≡ Ask at_most (deep_plan (n - 1)) (deep_plan 0)
unfolding deep_plan
deep_plan-above zero above = absurd (omega arith)
deep_plan-above (suc n) above = let e : suc n - 1 ≡ n = omega arith in rw e

literals : (n : ℕ) → has_fine_literals 2 (deep_plan n) ≡ true
unfolding deep_plan
literals zero = refl
literals (suc n) = rw (literals n)

paths : (n : ℕ) → longest_path (deep_plan n) ≡ n
unfolding deep_plan
paths zero = refl
paths (suc n) = omega (arith, paths n)

-- the plan keeps the limits
pub IsFine-deep_plan : (n : ℕ) → n ≤ MAX_QUESTIONS → IsFine 2 (deep_plan n)
IsFine-deep_plan n below = record { literals = literals n; paths = omega (arith, paths n, below) }
