-- The question lists of two obligations, and the verdict that they come to.
use Rattle.std.proofs.Common.{◌≡◌, ℕ, List, [], ◌∷◌, Some, None, pos, inr, refl}
use Rattle.diff_graph.specs.Literals.{IsPossible}
use Rattle.ot_model.specs.declared.op.Kind.TheVariants.{Ins, Del}
use Rattle.fn_rules.specs.declared.function.ObName.{ObName}
use Rattle.fn_rules.specs.declared.function.ObName.TheVariants.{Pair}
use Rattle.ask_core.specs.Plans.{Plan, Ask, Holds, Fails}
use Rattle.ask_core.specs.Trees.{Question, End}
use Rattle.ask_core.specs.Questions.{Questions, failing_at}
use Rattle.ot_decide.specs.Verdicts.{ObQuestions, AreAsked, count_in, failing_in, AskTheQuestions}

abbrev two : List ObName
two = Pair Ins Ins ∷ Pair Ins Del ∷ []

-- one question, which holds after either answer
abbrev one_question : Plan ℕ
one_question = Ask (record { x = 0; y = 1; k = pos 0 }) Holds Holds

abbrev asked_once : Questions ℕ
asked_once = record { asked = [] ∷ []; failing = None }

abbrev asked_twice : List (ObQuestions ℕ)
asked_twice =
    record { ob = Pair Ins Ins; questions = asked_once } ∷ record { ob = Pair Ins Del; questions = asked_once } ∷ []

-- integers meet no answers
nothing_is_met : IsPossible []
nothing_is_met = ((λ _. pos 0), refl, tt)

-- both obligations are asked, a question each
both_are_asked : AreAsked (λ _. one_question) two asked_twice
both_are_asked = (
  asked_once,
  inr (
    nothing_is_met,
    (record { asked = []; failing = None }, refl, (record { asked = []; failing = None }, refl, refl)),
  ),
  (
    record { ob = Pair Ins Del; questions = asked_once } ∷ [],
    (
      asked_once,
      inr (
        nothing_is_met,
        (record { asked = []; failing = None }, refl, (record { asked = []; failing = None }, refl, refl)),
      ),
      ([], refl, refl),
    ),
    refl,
  ),
)

two_questions : count_in asked_twice ≡ 2
two_questions = refl

nothing_fails : failing_in asked_twice ≡ None
nothing_fails = refl

-- trees that ask them
trees_ask_them : AskTheQuestions (λ _. one_question) (Question End End ∷ Question End End ∷ []) asked_twice
trees_ask_them = (refl, (refl, tt))

abbrev failed_once : List (ObQuestions ℕ)
failed_once = record { ob = Pair Ins Ins; questions = failing_at [] 7 } ∷ []

-- behind an obligation that fails no other is asked
first_failure_is_last : AreAsked (λ _. Fails 7) two failed_once
first_failure_is_last = (failing_at [] 7, inr (nothing_is_met, refl), refl)

first_failure : failing_in failed_once ≡ Some (record { ob = Pair Ins Ins; end = record { answers = []; why = 7 } })
first_failure = refl
