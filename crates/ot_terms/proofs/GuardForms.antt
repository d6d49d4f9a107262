-- A guard as a form: it asks what the guard asks, and so it is true where the guard is.
use Rattle.std.proofs.Common.{◌≡◌, ℕ, ℤ, pos, Bool, true, false, if◌then◌else◌, Some, None, is_none, refl, ap, sym, ◌∙◌}
use Rattle.ot_model.specs.declared.op.Op.{Op}
use Rattle.fn_rules.specs.declared.guard.Atom.{Atom}
use Rattle.fn_rules.specs.declared.guard.Cmp.{Cmp}
use Rattle.fn_rules.specs.declared.guard.Cmp.TheVariants as cmp
use Rattle.fn_rules.specs.Formulas.{Formula, Always, Compare, And, Or, Not, holds_of}
use Rattle.ask_core.specs.Plans as plans
use Rattle.ask_core.specs.Plans.{Plan, end_of}
use Rattle.ot_questions.specs.declared.place.Place.{Place}
use Rattle.ot_questions.specs.declared.place.SymOp.{SymOp}
use Rattle.ot_questions.specs.declared.why.Why.{Why}
use Rattle.ot_questions.specs.declared.why.Why.TheVariants.{Undefined}
use Rattle.ot_questions.specs.Instances.{StandsForOperation}
use Rattle.ot_questions.specs.Questions.{ask_le, ask_lt, ask_eq, ask_compared, ask_atom, ask_guard}
use Rattle.ot_questions.proofs.QuestionValuations.{guard_ends}
use Rattle.ot_terms.specs.Forms.{form_holds}
use Rattle.ot_terms.specs.Placing.{compared, atom_form, guard_form}
use Rattle.ot_terms.specs.Standing.{ask_form}
use Rattle.ot_terms.proofs.Forms.{end_form}

ask_form-compared : (c : Cmp) (x y : Place) (p q : Plan Why) → ask_form (compared c x y) p q ≡ ask_compared c x y p q
unfolding ask_form ask_compared ask_le ask_lt ask_eq
ask_form-compared cmp.Lt x y p q = refl
ask_form-compared cmp.Le x y p q = refl
ask_form-compared cmp.Eq x y p q = refl

ask_form-atom_form : (atom : Atom) (a b : SymOp) (p q : Plan Why)
    → ask_form (atom_form atom a b) p q ≡ ask_atom atom a b p q
unfolding ask_atom
ask_form-atom_form atom a b p q = ask_form-compared atom.cmp _ _ p q

-- the form of a guard asks what the guard asks
pub ask_form_guard_form : (g : Formula) (a b : SymOp) (p q : Plan Why)
    → ask_form (guard_form g a b) p q ≡ ask_guard g a b p q
unfolding ask_form ask_guard
ask_form_guard_form Always a b p q = refl
ask_form_guard_form (Compare atom) a b p q = ask_form-atom_form atom a b p q
ask_form_guard_form (And g h) a b p q =
    ask_form_guard_form g a b (ask_form (guard_form h a b) p q) q
    ∙ ap (λ t. ask_guard g a b t q) (ask_form_guard_form h a b p q)
ask_form_guard_form (Or g h) a b p q =
    ask_form_guard_form g a b p (ask_form (guard_form h a b) p q)
    ∙ ap (λ t. ask_guard g a b p t) (ask_form_guard_form h a b p q)
ask_form_guard_form (Not g) a b p q = ask_form_guard_form g a b q p

-- two tests that lead to one end, where the ends differ
same_test : (s t : Bool) → (if s then None else Some Undefined) ≡ (if t then None else Some Undefined) → s ≡ t
same_test true true e = refl
same_test true false e = ap is_none e
same_test false true e = ap is_none e
same_test false false e = refl

pub guard_form_holds :
    (g : Formula) (v : ℕ → ℤ) (a b : SymOp) (x y : Op) → v 0 ≡ pos 0 → StandsForOperation v a x
    → StandsForOperation v b y
    → form_holds v (guard_form g a b) ≡ holds_of g x y
guard_form_holds g v a b x y zero sx sy =
    same_test (form_holds v (guard_form g a b)) (holds_of g x y)
    (sym (end_form (guard_form g a b) plans.Holds (plans.Fails Undefined) v)
    ∙ (ap (λ p. end_of p v) (ask_form_guard_form g a b plans.Holds (plans.Fails Undefined))
    ∙ guard_ends g v a b x y plans.Holds (plans.Fails Undefined) zero sx sy))
