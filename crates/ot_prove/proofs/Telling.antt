-- What a question list tells of its plan: by induction on the plan, since a valuation that meets the answers at a
-- question goes on to one of its parts, and the failing end of the list is that of a part.
use Rattle.std.proofs.Common.{◌≡◌, ◌↔◌, ◌⊎◌, ℕ, ℤ, ◌-ℤ◌, Bool, true, false, List, [], ◌∷◌, Option, Some, None}
use Rattle.std.proofs.Common.{MatchOption, inl, inr, arith, refl, sym, ap, ◌∙◌, subst}
use Rattle.std.proofs.lemmas.Bool.{cases_Bool}
use Rattle.std.proofs.lemmas.Int.{ints}
use Rattle.diff_graph.specs.declared.lit.Lit.{Lit}
use Rattle.diff_graph.specs.Literals.{AreMet, IsPossible, is_met}
use Rattle.ask_core.specs.Plans.{Plan, Ask, Holds, Fails, end_of, value}
use Rattle.ask_core.specs.Trees.{with_answer}
use Rattle.ask_core.specs.Questions.{Questions, FailingEnd, QuestionList, asked_with_yes, asked_with_both}
use Rattle.ot_prove.specs.Outcomes.{FailsAt, HoldsEverywhere}
use Rattle.ot_prove.proofs.AllPossible.{possible_list}

-- only differences count, so the integers that meet a list may have 0 for name 0
AreMet-lowered : (v : ℕ → ℤ) (w : List Lit) → AreMet v w → AreMet (λ n. v n -ℤ v 0) w
AreMet-lowered v [] met = tt
AreMet-lowered v (l ∷ w) met = (omega (arith, ints, met.0), AreMet-lowered v w met.1)

IsPossible-met : (v : ℕ → ℤ) (w : List Lit) → AreMet v w → IsPossible w
IsPossible-met v w met = ((λ n. v n -ℤ v 0), omega (arith, ints), AreMet-lowered v w met)

-- a valuation meets one more answer exactly where it gives it
abbrev pub AnswersSo : Type 0
AnswersSo =
    (v : ℕ → ℤ) (w : List Lit) (l : Lit) (yes_said : Bool)
    → AreMet v (with_answer w l yes_said) ↔ (AreMet v w × (is_met v l ≡ yes_said))

module _ {W : Type 0} where
  -- without a failing end both parts are without one
  no_failing_part :
      (w : List Lit) (y q : Questions W) (IsNoPart : Questions W → Type 0) (failing : Option (FailingEnd W))
      → y.failing ≡ failing
      → MatchOption failing ((n : Questions W) × IsNoPart n × (q ≡ asked_with_both w y n)) (λ _. q ≡ asked_with_yes w y)
      → q.failing ≡ None → (y.failing ≡ None) × ((n : Questions W) × IsNoPart n × (n.failing ≡ None))
  no_failing_part w y q IsNoPart None ends (n, is_no, is) none =
      (ends, (n, is_no, sym (ap (λ (x : Questions W). x.failing) is) ∙ none))
  no_failing_part w y q IsNoPart (Some e) ends is none =
      let same : q.failing ≡ y.failing = ap (λ (x : Questions W). x.failing) is in absurd (cc)

  -- a failing end is that of the part for yes or that of the part for no
  failing_part :
      (w : List Lit) (y q : Questions W) (IsNoPart : Questions W → Type 0) (e : FailingEnd W)
      (failing : Option (FailingEnd W))
      → MatchOption failing ((n : Questions W) × IsNoPart n × (q ≡ asked_with_both w y n)) (λ _. q ≡ asked_with_yes w y)
      → q.failing ≡ Some e → (y.failing ≡ Some e) ⊎ ((n : Questions W) × IsNoPart n × (n.failing ≡ Some e))
  failing_part w y q IsNoPart e None (n, is_no, is) ends =
      inr (n, is_no, sym (ap (λ (x : Questions W). x.failing) is) ∙ ends)
  failing_part w y q IsNoPart e (Some other) is ends = inl (sym (ap (λ (x : Questions W). x.failing) is) ∙ ends)

  module _ (answers : AnswersSo) (v : ℕ → ℤ) where
    -- where the list has no failing end, the plan holds at each valuation that meets the answers
    holds_by_list :
        (p : Plan W) (w : List Lit) (q : Questions W) → QuestionList p w q → q.failing ≡ None
        → AreMet v w → value p v ≡ true
    holds_by_list (Ask l on_yes on_no) w q (inl never) none met = absurd (never.0 (IsPossible-met v w met))
    holds_by_list (Ask l on_yes on_no) w q (inr (possible, (y, of_yes, joins))) none met =
        let parts = no_failing_part w y q (QuestionList on_no (with_answer w l false)) y.failing refl joins none in
        elim (cases_Bool (is_met v l)) [
          | inl passed ↦
              rw passed
              (holds_by_list on_yes (with_answer w l true) y of_yes parts.0 ((answers v w l true).1 (met, passed)))
          | inr failed ↦
              rw failed
              (holds_by_list on_no (with_answer w l false) parts.1.0 parts.1.1 parts.1.2
              ((answers v w l false).1 (met, failed)))
        ]
    holds_by_list Holds w q is none met = refl
    holds_by_list (Fails why) w q (inl never) none met = absurd (never.0 (IsPossible-met v w met))
    holds_by_list (Fails why) w q (inr some) none met =
        let ends : q.failing ≡ Some (record { answers = w; why = why }) =
        ap (λ (x : Questions W). x.failing) some.1 in absurd (cc)

    -- a valuation that meets the answers of the failing end meets those before, and leads to its cause
    fails_by_list :
        (p : Plan W) (w : List Lit) (q : Questions W) (e : FailingEnd W) → QuestionList p w q → q.failing ≡ Some e
        → AreMet v e.answers → AreMet v w × (end_of p v ≡ Some e.why)
    fails_by_list (Ask l on_yes on_no) w q e (inl never) ends met =
        let none : q.failing ≡ None = ap (λ (x : Questions W). x.failing) never.1 in absurd (cc)
    fails_by_list (Ask l on_yes on_no) w q e (inr (possible, (y, of_yes, joins))) ends met =
        elim (failing_part w y q (QuestionList on_no (with_answer w l false)) e y.failing joins ends) [
          | inl at_yes ↦
              (let there = fails_by_list on_yes (with_answer w l true) y e of_yes at_yes met in
              let here = (answers v w l true).0 there.0 in
              (here.0, rw here.1 there.1))
          | inr at_no ↦
              (let there = fails_by_list on_no (with_answer w l false) at_no.0 e at_no.1 at_no.2 met in
              let here = (answers v w l false).0 there.0 in
              (here.0, rw here.1 there.1))
        ]
    fails_by_list Holds w q e is ends met =
        let none : q.failing ≡ None = ap (λ (x : Questions W). x.failing) is in absurd (cc)
    fails_by_list (Fails why) w q e (inl never) ends met =
        let none : q.failing ≡ None = ap (λ (x : Questions W). x.failing) never.1 in absurd (cc)
    fails_by_list (Fails why) w q e (inr some) ends met =
        let here : q.failing ≡ Some (record { answers = w; why = why }) = ap (λ (x : Questions W). x.failing) some.1 in
        let same : record { answers = w; why = why } ≡ e = cc in
        subst (λ (x : FailingEnd W). AreMet v x.answers → AreMet v w × (Some why ≡ Some x.why)) same
        (λ met_here. (met_here, refl)) met

  pub told_by_list :
      AnswersSo → (p : Plan W) (q : Questions W) → QuestionList p [] q
      → (failing : Option (FailingEnd W)) → q.failing ≡ failing
      → MatchOption failing (HoldsEverywhere p) (λ e. FailsAt p e)
  told_by_list answers p q list None ends = λ v. holds_by_list answers v p [] q list ends tt
  told_by_list answers p q list (Some e) ends = (
    (subst (λ (x : Option (FailingEnd W)). MatchOption x (Unit {0}) (λ e. IsPossible e.answers)) ends
        (possible_list p [] q list).1),
    λ v met. (fails_by_list answers v p [] q e list ends met).1,
  )
