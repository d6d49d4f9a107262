-- The definitions on a small plan over two names: it asks whether name 0 is at most name 1, holds at
-- no, and at yes asks whether name 1 is below name 0, which no integers meet after yes.
use Rattle.std.proofs.Common.{◌≡◌, ℕ, ℤ, pos, negsuc, ◌+ℤ◌, ◌≤ℤ◌, true, false, [], ◌∷◌, refl, Result, Ok, Err, Some}
use Rattle.std.proofs.Common.{None, lit≤, inl, inr, arith}
use Rattle.std.proofs.lemmas.Int.{ints}
use Rattle.diff_graph.specs.declared.lit.PickError.{PickError}
use Rattle.diff_graph.specs.declared.lit.PickError.TheVariants.{NotACycle}
use Rattle.diff_graph.specs.Literals.{IsPossible}
use Rattle.ask_core.specs.declared.tree.Tok.TheVariants as token
use Rattle.ask_core.specs.Trees.{Question, End, Impossible, Fits, tokens_of}
use Rattle.ask_core.specs.Leading.{LeadTo}
use Rattle.ask_core.specs.Questions.{QuestionList, no_questions, failing_at}
use Rattle.ask_core.specs.TwoNames.{at_most, is_under, two_name_plan}

-- each end answered as the plan has it
fits-each_end_answered :
    Fits (Question (Question (Impossible (0 ∷ 1 ∷ [])) End) End) (two_name_plan true) []
fits-each_end_answered = (((lit≤ tt, lit≤ tt, refl), tt), tt)

-- the cycle may begin at either literal
fits-cycle_begun_elsewhere :
    Fits (Question (Question (Impossible (1 ∷ 0 ∷ [])) End) End) (two_name_plan true) []
fits-cycle_begun_elsewhere = (((lit≤ tt, lit≤ tt, refl), tt), tt)

-- a place that no integers meet may be closed where the plan still asks
fits-cycle_before_the_end :
    Fits (Impossible (1 ∷ 0 ∷ [])) (two_name_plan true) (at_most ∷ is_under true ∷ [])
fits-cycle_before_the_end = (lit≤ tt, lit≤ tt, refl)

-- `.` does not answer a plan that asks
unfit-end_where_the_plan_asks : Fits End (two_name_plan true) [] → ⊥
unfit-end_where_the_plan_asks fits = fits

-- `.` does not answer a plan that fails
unfit-end_where_the_plan_fails : Fits (Question (Question End End) End) (two_name_plan true) [] → ⊥
unfit-end_where_the_plan_fails fits = fits.0.0

-- the same literal twice does not chain
unfit-cycle_of_one_literal :
    Fits (Question (Question (Impossible (0 ∷ 0 ∷ [])) End) End) (two_name_plan true) [] → ⊥
unfit-cycle_of_one_literal fits =
    let wrong : ◌≡◌ {A = Result (Unit {0}) PickError} (Err NotACycle) (Ok tt) = fits.0.0.2 in cc

-- the tokens in preorder
tokens_of-each_end_answered :
    tokens_of (Question (Question (Impossible (0 ∷ 1 ∷ [])) End) End)
    ≡ token.Ask ∷ token.Ask ∷ token.Cycle (0 ∷ 1 ∷ []) ∷ token.Holds ∷ token.Holds ∷ []
tokens_of-each_end_answered = refl

-- the same integer for each name
equal : ℕ → ℤ
equal n = pos 0

IsPossible-none : IsPossible []
unfolding equal
IsPossible-none = (equal, refl, tt)

IsPossible-at_most : IsPossible (at_most ∷ [])
unfolding equal
IsPossible-at_most = (equal, refl, (grind (arith, ints), tt))

IsPossible-both : IsPossible (at_most ∷ is_under false ∷ [])
unfolding equal
IsPossible-both = (equal, refl, (grind (arith, ints), (grind (arith, ints), tt)))

-- the plan has two questions, and nothing that fails is possible
QuestionList-strict :
    QuestionList (two_name_plan true) [] (record { asked = [] ∷ (at_most ∷ []) ∷ []; failing = None })
QuestionList-strict =
    inr (
      IsPossible-none,
      (
        record { asked = (at_most ∷ []) ∷ []; failing = None },
        inr (IsPossible-at_most, (no_questions, inl (not_both, refl), (no_questions, refl, refl))),
        (no_questions, refl, refl),
      ),
    )
  where
    not_both : IsPossible (at_most ∷ is_under true ∷ []) → ⊥
    not_both (v, zero_is_0, met) =
        let at_yes : v 0 ≤ℤ (v 1 +ℤ pos 0) = met.0 in
        let under : v 1 ≤ℤ (v 0 +ℤ negsuc 0) = met.1.0 in
        omega (arith, ints)

-- where name 1 need not be below name 0, yes twice is possible and fails, and the list ends there
QuestionList-lax :
    QuestionList (two_name_plan false) []
    (record {
      asked = [] ∷ (at_most ∷ []) ∷ [];
      failing = Some (record { answers = at_most ∷ is_under false ∷ []; why = 7 });
    })
QuestionList-lax =
    inr (
      IsPossible-none,
      (
        record {
          asked = (at_most ∷ []) ∷ [];
          failing = Some (record { answers = at_most ∷ is_under false ∷ []; why = 7 });
        },
        inr (IsPossible-at_most, (failing_at (at_most ∷ is_under false ∷ []) 7, inr (IsPossible-both, refl), refl)),
        refl,
      ),
    )

-- both questions answered by yes lead to the end that fails
yes_twice : LeadTo 7 (two_name_plan true) (at_most ∷ is_under true ∷ [])
yes_twice = inl (refl, inl (refl, refl))
