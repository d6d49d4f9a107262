-- A transformation at a valuation: what is asked for its result goes on with the result that its cases give.
use Rattle.std.proofs.Common.{◌≡◌, ℕ, ℤ, ◌&&◌, ◌||◌, not, if◌then◌else◌, Option, Some, None, List, [], ◌∷◌, drop, refl}
use Rattle.std.proofs.Common.{ap, sym, ◌∙◌, subst}
use Rattle.std.specs.Prelude.{◌↔◌, IsSomeAnd}
use Rattle.ot_model.specs.declared.op.Kind.{Kind}
use Rattle.fn_rules.specs.declared.guard.Cmp.{Cmp}
use Rattle.fn_rules.specs.declared.guard.Cmp.TheVariants as cmp
use Rattle.fn_rules.specs.Formulas.{Formula, Always, Compare, And, Or, Not, is_compared}
use Rattle.fn_rules.specs.Functions.{Function, GuardedCase}
use Rattle.ask_core.specs.Plans.{Plan, end_of}
use Rattle.ot_questions.specs.declared.place.Place.{Place}
use Rattle.ot_questions.specs.declared.place.SymOp.{SymOp}
use Rattle.ot_questions.specs.declared.why.Why.{Why}
use Rattle.ot_questions.specs.Places.{integer_at, sym_kind, sym_result}
use Rattle.ot_questions.specs.Questions.{ask_transform}
use Rattle.ot_questions.proofs.Values.{end-transform, sym_holds, sym_first, sym_by_kinds, sym_transformed}
use Rattle.ot_terms.specs.Forms.{form_holds}
use Rattle.ot_terms.specs.Placing.{compared, guard_form}
use Rattle.ot_terms.specs.Standing.{from_case}
use Rattle.ot_terms.specs.Truth.{first_sym_result, result_by_kinds, result_from}
use Rattle.ot_terms.proofs.Choices.{along, result_goes_on}

module _ (v : ℕ → ℤ) where
  form_holds-compared : (c : Cmp) (x y : Place)
      → form_holds v (compared c x y) ≡ is_compared c (integer_at v x) (integer_at v y)
  form_holds-compared cmp.Lt x y = refl
  form_holds-compared cmp.Le x y = refl
  form_holds-compared cmp.Eq x y = refl

  module _ (a b : SymOp) where
    form_holds-guard_form : (g : Formula) → form_holds v (guard_form g a b) ≡ sym_holds v g a b
    form_holds-guard_form Always = refl
    form_holds-guard_form (Compare atom) = form_holds-compared atom.cmp _ _
    form_holds-guard_form (And g h) =
        ap (λ t. t && form_holds v (guard_form h a b)) (form_holds-guard_form g)
        ∙ ap (λ t. sym_holds v g a b && t) (form_holds-guard_form h)
    form_holds-guard_form (Or g h) =
        ap (λ t. t || form_holds v (guard_form h a b)) (form_holds-guard_form g)
        ∙ ap (λ t. sym_holds v g a b || t) (form_holds-guard_form h)
    form_holds-guard_form (Not g) = ap not (form_holds-guard_form g)

    first_sym_result-sym_first : (cs : List GuardedCase) → first_sym_result v cs a b ≡ sym_first v cs a b
    first_sym_result-sym_first [] = refl
    first_sym_result-sym_first (c ∷ cs) =
        ap (λ t. if t then Some (sym_result c.res a b) else first_sym_result v cs a b) (form_holds-guard_form c.guard)
        ∙ ap (λ o. if sym_holds v c.guard a b then Some (sym_result c.res a b) else o) (first_sym_result-sym_first cs)

    result_by_kinds-sym_by_kinds :
        (f : Function) (case : ℕ) (j k : Option Kind)
        → result_by_kinds f v case a b j k ≡ sym_by_kinds v (from_case case f) a b j k
    result_by_kinds-sym_by_kinds f case None k = refl
    result_by_kinds-sym_by_kinds f case (Some j) None = refl
    result_by_kinds-sym_by_kinds f case (Some j) (Some k) = first_sym_result-sym_first (drop case (f.cases j k))

    pub result_holds :
        (f : Function) (case : ℕ) (P : SymOp → Type 0) (go : SymOp → Plan Why)
        → ((r : SymOp) → P r ↔ (end_of (go r) v ≡ None))
        → IsSomeAnd (result_from f v case a b) P ↔ (end_of (ask_transform (from_case case f) a b go) v ≡ None)
    result_holds f case P go h =
        let left = from_case case f in
        subst (λ o. IsSomeAnd o P ↔ (end_of (ask_transform left a b go) v ≡ None))
        (sym (result_by_kinds-sym_by_kinds f case (sym_kind a) (sym_kind b)))
        (along (IsSomeAnd (sym_transformed v left a b) P) _ _ (end-transform left a b go v)
        (result_goes_on (sym_transformed v left a b) P (λ r. end_of (go r) v) h))
