-- How many questions obligations have together, where each has at most so many.
use Rattle.std.proofs.Common.{◌≡◌, ℕ, ◌+◌, ◌*◌, ◌≤◌, List, [], ◌∷◌, length, Option, Some, None, MatchOption, arith, ap}
use Rattle.std.proofs.Common.{subst, sym}
use Rattle.std.proofs.Math.Nat.{mul-le-mul_right, suc-mul}
use Rattle.fn_rules.specs.declared.function.ObName.{ObName}
use Rattle.ask_core.specs.Plans.{Plan}
use Rattle.ask_core.specs.Questions.{Questions, QuestionList, FailingEnd}
use Rattle.ot_decide.specs.Verdicts.{ObQuestions, AreAsked, count_in}

-- so many times a number, where there are at most 24
pub at_most : (count times most : ℕ) → count ≤ times * most → times ≤ 24 → count ≤ 24 * most
at_most count times most is few = omega (arith, is, mul-le-mul_right most few)

module _ {W : Type 0} (plan : ObName → Plan W) (most : ℕ) (few : (ob : ObName) (q : Questions W)
    → QuestionList (plan ob) [] q → length q.asked ≤ most) where
  -- one obligation more adds at most so many questions
  count_joined :
      (ob : ObName) (obs : List ObName) (q : Questions W) (failing : Option (FailingEnd W))
      (lists : List (ObQuestions W))
      → length q.asked ≤ most
      → ((later : List (ObQuestions W)) → AreAsked plan obs later → count_in later ≤ length obs * most)
      → MatchOption failing
      ((later : List (ObQuestions W)) × AreAsked plan obs later × (lists ≡ record { ob = ob; questions = q } ∷ later))
      (λ _. lists ≡ record { ob = ob; questions = q } ∷ [])
      → count_in lists ≤ most + length obs * most
  count_joined ob obs q None lists one later (others, asked, is) =
      subst (λ (l : List (ObQuestions W)). count_in l ≤ most + length obs * most) (sym is)
      (omega (arith, one, later others asked))
  count_joined ob obs q (Some end) lists one later is =
      subst (λ (l : List (ObQuestions W)). count_in l ≤ most + length obs * most) (sym is) (omega (arith, one))

  -- as many for each of them
  pub count_all :
      (obs : List ObName) (lists : List (ObQuestions W)) → AreAsked plan obs lists → count_in lists ≤ length obs * most
  count_all [] lists is = omega (arith, ap (λ (l : List (ObQuestions W)). count_in l) is)
  count_all (ob ∷ obs) lists (q, listed, joined) =
      omega (
        arith,
        suc-mul (length obs) most,
        count_joined ob obs q q.failing lists (few ob q listed) (count_all obs) joined,
      )
