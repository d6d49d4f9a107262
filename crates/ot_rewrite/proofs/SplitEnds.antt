-- What a form is split into says exactly where the rules end that begin with the form.
use Rattle.std.proofs.Common.{◌≡◌, ◌≢◌, ◌↔◌, Bool, true, false, nat_eq, Some, None, refl, subst}
use Rattle.std.proofs.lemmas.Bool.{eqb-true}
use Rattle.fn_rules.specs.Functions.{Function}
use Rattle.fn_rules.specs.Shipped.{ties}
use Rattle.ot_questions.specs.declared.place.Place.{Place}
use Rattle.ot_questions.specs.declared.why.Why.TheVariants.{Undefined}
use Rattle.ot_terms.specs.Forms as forms
use Rattle.ot_terms.specs.Forms.{FormTree}
use Rattle.ot_terms.specs.Goals.{GoalTree, Holds, Fails, If}
use Rattle.ot_rewrite.specs.Table.{rewritten}
use Rattle.ot_rewrite.specs.Splits.{SplitTree, Yes, No, Ask, first_question, RulesLeadTo, there, by_rule, EndsInYes}
use Rattle.ot_rewrite.specs.Splits.{EndsInNo, EndsAtQuestion, split_of}
use Rattle.ot_rewrite.proofs.SplitForms.{EndsAs, split_is}

-- where no rule is left, there is one end
one_end :
    (f : Function) (g h k : GoalTree) → RulesLeadTo f g h → RulesLeadTo f g k → rewritten f h ≡ None
    → rewritten f k ≡ None → h ≡ k
one_end f g h k there there s t = refl
one_end f g h k there (by_rule e l) s t = absurd (cc)
one_end f g h k (by_rule e l) there s t = absurd (cc)
one_end f g h k (by_rule {h = n} e l) (by_rule {h = m} d r) s t =
    let same : m ≡ n = cc in one_end f n h k l (subst (λ x. RulesLeadTo f x k) same r) s t

-- the goals with which a form is tried: they tell the ends apart
abbrev tried : FormTree → GoalTree
tried g = If g Holds (Fails Undefined)

question_by :
    (x y : Place) (b : Bool) → nat_eq x.var y.var ≡ b → x.var ≢ y.var → (f : Function) (on_yes on_no : GoalTree)
    → rewritten f (If (forms.Le x y) on_yes on_no) ≡ None
unfolding rewritten
question_by x y true same differ f on_yes on_no = absurd (differ (eqb-true x.var y.var same))
question_by x y false other differ f on_yes on_no = rw other refl

question_ends :
    (x y : Place) → x.var ≢ y.var → (f : Function) (on_yes on_no : GoalTree)
    → rewritten f (If (forms.Le x y) on_yes on_no) ≡ None
question_ends x y = question_by x y (nat_eq x.var y.var) refl

holds_ends : rewritten ties Holds ≡ None
unfolding rewritten
holds_ends = refl

fails_ends : rewritten ties (Fails Undefined) ≡ None
unfolding rewritten
fails_ends = refl

module _ (g : FormTree) where
  -- no two of the three ends
  yes_not_no : EndsInYes g → EndsInNo g → ⊥
  yes_not_no a b =
      let same =
      one_end ties (tried g) Holds (Fails Undefined) (a ties Holds (Fails Undefined))
      (b ties Holds (Fails Undefined)) holds_ends fails_ends
      in
      cc

  yes_not_question : (x y : Place) → EndsInYes g → EndsAtQuestion x y g → ⊥
  yes_not_question x y a b =
      let r = b.1 ties Holds (Fails Undefined) in
      let same =
      one_end ties (tried g) Holds (If (forms.Le x y) r.0 r.1) (a ties Holds (Fails Undefined)) r.2 holds_ends
      (question_ends x y b.0 ties r.0 r.1)
      in
      cc

  no_not_question : (x y : Place) → EndsInNo g → EndsAtQuestion x y g → ⊥
  no_not_question x y a b =
      let r = b.1 ties Holds (Fails Undefined) in
      let same =
      one_end ties (tried g) (Fails Undefined) (If (forms.Le x y) r.0 r.1) (a ties Holds (Fails Undefined)) r.2
      fails_ends (question_ends x y b.0 ties r.0 r.1)
      in
      cc

  one_question : (x y s t : Place) → EndsAtQuestion x y g → EndsAtQuestion s t g → (x ≡ s) × (y ≡ t)
  one_question x y s t a b =
      let l = a.1 ties Holds (Fails Undefined) in
      let r = b.1 ties Holds (Fails Undefined) in
      let same : If (forms.Le x y) l.0 l.1 ≡ If (forms.Le s t) r.0 r.1 =
      one_end ties (tried g) (If (forms.Le x y) l.0 l.1) (If (forms.Le s t) r.0 r.1) l.2 r.2
      (question_ends x y a.0 ties l.0 l.1) (question_ends s t b.0 ties r.0 r.1)
      in
      (cc, cc)

  in_yes : (s : SplitTree) → EndsAs g s → EndsInYes g → s ≡ Yes
  in_yes Yes e h = refl
  in_yes No e h = absurd (yes_not_no h e)
  in_yes (Ask x y a b) e h = absurd (yes_not_question x y h e)

  in_no : (s : SplitTree) → EndsAs g s → EndsInNo g → s ≡ No
  in_no Yes e h = absurd (yes_not_no e h)
  in_no No e h = refl
  in_no (Ask x y a b) e h = absurd (no_not_question x y h e)

  at_question : (s : SplitTree) (x y : Place) → EndsAs g s → EndsAtQuestion x y g → first_question s ≡ Some (x, y)
  at_question Yes x y e h = absurd (yes_not_question x y e h)
  at_question No x y e h = absurd (no_not_question x y e h)
  at_question (Ask s t a b) x y e h = let same = one_question s t x y e h in cc

  asked_there : (s : SplitTree) (x y : Place) → EndsAs g s → first_question s ≡ Some (x, y) → EndsAtQuestion x y g
  asked_there Yes x y e h = absurd (cc)
  asked_there No x y e h = absurd (cc)
  asked_there (Ask s t a b) x y e h =
      let same : (s, t) ≡ (x, y) = cc in subst (λ (p : Place × Place). EndsAtQuestion p.0 p.1 g) same e

  pub splits_to_yes : (split_of g ≡ Yes) ↔ EndsInYes g
  splits_to_yes = ((λ e. subst (EndsAs g) e (split_is g).ends), in_yes (split_of g) (split_is g).ends)

  pub splits_to_no : (split_of g ≡ No) ↔ EndsInNo g
  splits_to_no = ((λ e. subst (EndsAs g) e (split_is g).ends), in_no (split_of g) (split_is g).ends)

  pub splits_at_question : (x y : Place) → (first_question (split_of g) ≡ Some (x, y)) ↔ EndsAtQuestion x y g
  splits_at_question x y =
      (asked_there (split_of g) x y (split_is g).ends, at_question (split_of g) x y (split_is g).ends)
