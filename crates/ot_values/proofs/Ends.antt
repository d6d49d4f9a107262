-- The failing end of a question list is one to which answers lead through the plan.
use Rattle.std.proofs.Common.{◌≡◌, true, false, List, [], ◌∷◌, ◌++◌, Option, Some, None, MatchOption, refl, sym, ap}
use Rattle.std.proofs.Common.{◌∙◌, subst, inl, inr}
use Rattle.std.proofs.lemmas.List.{append_assoc, append-nil}
use Rattle.diff_graph.specs.declared.lit.Lit.{Lit}
use Rattle.diff_graph.specs.Literals.{negated}
use Rattle.ask_core.specs.Plans.{Plan, Ask, Holds, Fails}
use Rattle.ask_core.specs.Leading.{LeadTo}
use Rattle.ask_core.specs.Questions.{FailingEnd, Questions, QuestionList, no_questions, asked_with_yes, asked_with_both}
use Rattle.ask_core.specs.Trees.{with_answer}
use Rattle.ot_questions.specs.declared.why.Why.{Why}

-- behind the answers that were given before
record LeadsBehind (p : Plan Why) (w : List Lit) (e : FailingEnd Why) : Type 0 where
  pub rest : List Lit
  pub behind : e.answers ≡ w ++ rest
  pub leads : LeadTo e.why p rest

some_is : (x y : FailingEnd Why) → Some x ≡ Some y → x ≡ y
some_is x y e = cc

one_more : (w rest answers : List Lit) (l : Lit) → answers ≡ (w ++ l ∷ []) ++ rest → answers ≡ w ++ l ∷ rest
one_more w rest answers l e = e ∙ append_assoc w (l ∷ []) rest

lead_yes :
    (l : Lit) (on_yes on_no : Plan Why) (w : List Lit) (e : FailingEnd Why)
    → LeadsBehind on_yes (with_answer w l true) e
    → LeadsBehind (Ask l on_yes on_no) w e
lead_yes l on_yes on_no w e h =
    record { rest = l ∷ h.rest; behind = one_more w h.rest e.answers l h.behind; leads = inl (refl, h.leads) }

lead_no :
    (l : Lit) (on_yes on_no : Plan Why) (w : List Lit) (e : FailingEnd Why)
    → LeadsBehind on_no (with_answer w l false) e
    → LeadsBehind (Ask l on_yes on_no) w e
lead_no l on_yes on_no w e h =
    record {
      rest = negated l ∷ h.rest;
      behind = one_more w h.rest e.answers (negated l) h.behind;
      leads = inr (refl, h.leads);
    }

-- what fails is not nothing
none_fails : (q : Questions Why) (e : FailingEnd Why) → q ≡ no_questions → q.failing ≡ Some e → ⊥
none_fails q e none fails =
    absurd (let not : None ≡ Some e = sym (ap (λ (x : Questions Why). x.failing) none) ∙ fails in cc)

-- the failing end of a question is that of its part for yes, or else that of its part for no
parts_lead :
    (l : Lit) (on_yes on_no : Plan Why) (w : List Lit) (q y : Questions Why) (e : FailingEnd Why)
    (failing : Option (FailingEnd Why))
    → (y.failing ≡ Some e → LeadsBehind on_yes (with_answer w l true) e)
    → ((n : Questions Why) → QuestionList on_no (with_answer w l false) n → n.failing ≡ Some e
    → LeadsBehind on_no (with_answer w l false) e)
    → MatchOption failing ((n : Questions Why) × QuestionList on_no (with_answer w l false) n
    × (q ≡ asked_with_both w y n))
    (λ _. q ≡ asked_with_yes w y)
    → q.failing ≡ Some e → LeadsBehind (Ask l on_yes on_no) w e
parts_lead l on_yes on_no w q y e None by_yes by_no (n, list, is) fails =
    lead_no l on_yes on_no w e (by_no n list (sym (ap (λ (x : Questions Why). x.failing) is) ∙ fails))
parts_lead l on_yes on_no w q y e (Some end) by_yes by_no is fails =
    lead_yes l on_yes on_no w e (by_yes (sym (ap (λ (x : Questions Why). x.failing) is) ∙ fails))

-- the failing end of a question list is one to which answers lead
ends_lead :
    (p : Plan Why) (w : List Lit) (q : Questions Why) (e : FailingEnd Why) → QuestionList p w q
    → q.failing ≡ Some e → LeadsBehind p w e
ends_lead (Ask l on_yes on_no) w q e (inl (_, none)) fails = absurd (none_fails q e none fails)
ends_lead (Ask l on_yes on_no) w q e (inr (_, (y, listed, joins))) fails =
    parts_lead l on_yes on_no w q y e y.failing (λ some. ends_lead on_yes (with_answer w l true) y e listed some)
    (λ n list some. ends_lead on_no (with_answer w l false) n e list some) joins fails
ends_lead Holds w q e none fails = absurd (none_fails q e none fails)
ends_lead (Fails why) w q e (inl (_, none)) fails = absurd (none_fails q e none fails)
ends_lead (Fails why) w q e (inr (_, is)) fails =
    let here : record { answers = w; why = why } ≡ e =
    some_is _ e (sym (ap (λ (x : Questions Why). x.failing) is) ∙ fails) in
    record {
      rest = [];
      behind = sym (ap (λ (x : FailingEnd Why). x.answers) here) ∙ sym (append-nil w);
      leads = ap (λ (x : FailingEnd Why). x.why) here;
    }

pub first_end_leads :
    (p : Plan Why) (q : Questions Why) (e : FailingEnd Why) → QuestionList p [] q → q.failing ≡ Some e
    → LeadTo e.why p e.answers
first_end_leads p q e list fails =
    let h = ends_lead p [] q e list fails in subst (λ (x : List Lit). LeadTo e.why p x) (sym h.behind) h.leads
