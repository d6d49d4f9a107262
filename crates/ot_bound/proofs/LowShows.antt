-- What the trees of a low certificate show of shorter documents.
use Rattle.std.proofs.Common.{◌≡◌, ◌↔◌, ℕ, ◌<◌, ℤ, pos, true, List, [], ◌∷◌, Some}
use Rattle.fn_rules.specs.declared.function.ObName.{ObName}
use Rattle.fn_rules.specs.Functions.{Function}
use Rattle.ask_core.specs.Plans.{Plan, value}
use Rattle.ask_core.specs.Trees.{AnswerTree, Fits}
use Rattle.ot_questions.specs.declared.why.Why.{Why}
use Rattle.ot_questions.specs.Meaning.{AlwaysHolds, HoldsAtLength, AllHoldAtLength}
use Rattle.ot_questions.specs.Obligation.{plan_below}
use Rattle.ot_sections.specs.Certificates.{AreAnswers}

-- where each tree fits its plan on the documents of fewer cells than a bound, each obligation holds on those
pub answers_hold_below :
    ((t : AnswerTree) (p : Plan Why) (v : ℕ → ℤ) → Fits t p [] → v 0 ≡ pos 0 → value p v ≡ true)
    → ((f : Function) (ob : ObName) (bound : ℕ)
    → AlwaysHolds (plan_below f (Some bound) ob) ↔ ((n : ℕ) → n < bound → HoldsAtLength f ob n))
    → (f : Function) (bound n : ℕ) → n < bound → (obs : List ObName) (trees : List AnswerTree)
    → AreAnswers (plan_below f (Some bound)) obs trees → AllHoldAtLength f obs n
answers_hold_below law mean f bound n below [] trees answers = tt
answers_hold_below law mean f bound n below (ob ∷ obs) [] answers = absurd answers
answers_hold_below law mean f bound n below (ob ∷ obs) (t ∷ trees) answers = (
  (mean f ob bound).0 (λ v zero. law t (plan_below f (Some bound) ob) v answers.0 zero) n below,
  answers_hold_below law mean f bound n below obs trees answers.2,
)
