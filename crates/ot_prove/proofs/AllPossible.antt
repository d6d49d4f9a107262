-- Some integers meet each list of answers of a question list.
use Rattle.std.proofs.Common.{◌≡◌, true, false, List, [], ◌∷◌, ◌++◌, Option, Some, None, MatchOption, inl, inr, sym}
use Rattle.std.proofs.Common.{subst}
use Rattle.std.specs.List.{AllByRecursion}
use Rattle.diff_graph.specs.declared.lit.Lit.{Lit}
use Rattle.diff_graph.specs.Literals.{IsPossible}
use Rattle.ask_core.specs.Plans.{Plan, Ask, Holds, Fails}
use Rattle.ask_core.specs.Trees.{with_answer}
use Rattle.ask_core.specs.Questions.{Questions, FailingEnd, QuestionList, asked_with_yes, asked_with_both}
use Rattle.ot_prove.specs.Outcomes.{AreAllPossible}

possible-append :
    (xs ys : List (List Lit)) → AllByRecursion IsPossible xs → AllByRecursion IsPossible ys
    → AllByRecursion IsPossible (xs ++ ys)
possible-append [] ys xs_all ys_all = ys_all
possible-append (x ∷ xs) ys xs_all ys_all = (xs_all.0, possible-append xs ys xs_all.1 ys_all)

module _ {W : Type 0} where
  -- where some integers meet each list of both parts, and that of the question, some meet each list of the whole
  possible_join :
      (w : List Lit) (y q : Questions W) (P : Questions W → Type 0) (failing : Option (FailingEnd W)) → IsPossible w
      → ((n : Questions W) → P n → AreAllPossible n) → AreAllPossible y
      → MatchOption failing ((m : Questions W) × P m × (q ≡ asked_with_both w y m)) (λ _. q ≡ asked_with_yes w y)
      → AreAllPossible q
  possible_join w y q P None possible of_no of_yes (n, is_no, is) =
      let no_part = of_no n is_no in
      subst (λ (x : Questions W). AreAllPossible x) (sym is)
      ((possible, possible-append y.asked n.asked of_yes.0 no_part.0), no_part.1)
  possible_join w y q P (Some end) possible of_no of_yes is =
      subst (λ (x : Questions W). AreAllPossible x) (sym is) ((possible, of_yes.0), of_yes.1)

  pub possible_list : (p : Plan W) (w : List Lit) (q : Questions W) → QuestionList p w q → AreAllPossible q
  possible_list (Ask l on_yes on_no) w q (inl none) =
      subst (λ (x : Questions W). AreAllPossible x) (sym none.1) (tt, tt)
  possible_list (Ask l on_yes on_no) w q (inr (possible, (y, of_yes, joins))) =
      possible_join w y q (λ (x : Questions W). QuestionList on_no (with_answer w l false) x) y.failing possible
      (λ n of_no. possible_list on_no (with_answer w l false) n of_no)
      (possible_list on_yes (with_answer w l true) y of_yes) joins
  possible_list Holds w q is = subst (λ (x : Questions W). AreAllPossible x) (sym is) (tt, tt)
  possible_list (Fails why) w q (inl none) = subst (λ (x : Questions W). AreAllPossible x) (sym none.1) (tt, tt)
  possible_list (Fails why) w q (inr some) = subst (λ (x : Questions W). AreAllPossible x) (sym some.1) (tt, some.0)
