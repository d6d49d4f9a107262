-- A certificate shows that all plans of its level hold.
use Rattle.std.proofs.Common.{◌≡◌, ℕ, ℤ, pos, true, List, [], ◌∷◌}
use Rattle.fn_rules.specs.declared.function.ObName.{ObName}
use Rattle.fn_rules.specs.Functions.{Function}
use Rattle.ask_core.specs.Plans.{Plan, value}
use Rattle.ask_core.specs.Trees.{AnswerTree, Fits}
use Rattle.ot_questions.specs.declared.why.Why.{Why}
use Rattle.ot_questions.specs.Obligation.{plan_of}
use Rattle.ot_questions.specs.Meaning.{AllHold}
use Rattle.ot_sections.specs.Certificates.{AreAnswers}

-- where each tree fits its plan, each plan holds
pub answers_hold :
    ((t : AnswerTree) (p : Plan Why) (v : ℕ → ℤ) → Fits t p [] → v 0 ≡ pos 0 → value p v ≡ true)
    → (f : Function) (obs : List ObName) (trees : List AnswerTree) → AreAnswers (plan_of f) obs trees → AllHold f obs
answers_hold law f [] [] answers = tt
answers_hold law f [] (t ∷ trees) answers = tt
answers_hold law f (ob ∷ obs) [] answers = absurd answers
answers_hold law f (ob ∷ obs) (t ∷ trees) answers =
    (λ v zero. law t (plan_of f ob) v answers.0 zero, answers_hold law f obs trees answers.2)
