-- At a valuation the questions about operations go on as the interpreter answers them.
use Rattle.std.proofs.Common.{◌≡◌, ℕ, ℤ, pos, ◌+ℤ◌, if◌then◌else◌, Option, Some, None, option_map, refl, ap, sym, ◌∙◌}
use Rattle.std.proofs.Common.{subst, inl, inr, Decides}
use Rattle.std.specs.Prelude.{◌≢◌}
use Rattle.std.proofs.lemmas.Bool.Decides.{same_from_decides}
use Rattle.ot_model.specs.declared.op.Op.{Op}
use Rattle.ot_model.specs.declared.op.Op.TheVariants as ops
use Rattle.ot_model.specs.Effect.{is_enabled}
use Rattle.fn_rules.specs.Formulas.{Formula, holds_of}
use Rattle.fn_rules.specs.Conditions.{IsFormOf}
use Rattle.fn_rules.specs.Functions.{Function}
use Rattle.fn_rules.specs.Transformation.{transform_of, is_allowed, IsAllowed}
use Rattle.ask_core.specs.Plans.{Plan, end_of}
use Rattle.ot_questions.specs.declared.place.SymOp.{SymOp}
use Rattle.ot_questions.specs.declared.why.Why.{Why}
use Rattle.ot_questions.specs.Questions.{ask_guard, ask_result, or_undefined, ask_transform, ask_enabled, ask_allowed}
use Rattle.ot_questions.specs.declared.why.Why.TheVariants.{Operations}
use Rattle.ot_questions.specs.Obligation.{ask_same_form}
use Rattle.ot_questions.specs.Meaning.{op_at}
use Rattle.ot_questions.specs.Instances.{StandsForOperation, GoesOnWith, ComesTo}
use Rattle.ot_questions.proofs.Values.{by_test, end-guard, end-result, end-enabled, end-allowed, sym_transformed}
use Rattle.ot_questions.proofs.Values.{sym_allowed, enabled_to}
use Rattle.ot_questions.proofs.Operations.{IsCounted, holds_of-op_at, transform_of-op_at}
use Rattle.ot_questions.proofs.Forms.{counted_form}
use Rattle.ot_questions.proofs.Standing.{counted_by_standing, op_at-standing, standing-op_at}
use Rattle.ot_questions.proofs.Answered.{Decides-allowed}
use Rattle.ot_questions.proofs.Triples.{FoundAs, same_form_found}

-- a fact about what two symbolic operations stand for
at_both :
    (v : ℕ → ℤ) (x y : SymOp) (a b : Op) (P : Op → Op → Type 0) → v 0 ≡ pos 0 → StandsForOperation v x a
    → StandsForOperation v y b
    → P (op_at v x) (op_at v y) → P a b
at_both v x y a b P z sx sy h =
    subst (λ o. P o b) (op_at-standing v x a z sx) (subst (λ o. P (op_at v x) o) (op_at-standing v y b z sy) h)

pub guard_ends :
    (g : Formula) (v : ℕ → ℤ) (x y : SymOp) (a b : Op) (p q : Plan Why) → v 0 ≡ pos 0 → StandsForOperation v x a
    → StandsForOperation v y b
    → end_of (ask_guard g x y p q) v ≡ (if holds_of g a b then end_of p v else end_of q v)
guard_ends g v x y a b p q z sx sy =
    at_both v x y a b (λ c d. end_of (ask_guard g x y p q) v ≡ by_test (holds_of g c d) p q v) z sx sy
    (end-guard g x y p q v
    ∙ ap (λ t. by_test t p q v)
    (sym (holds_of-op_at v z x y (counted_by_standing v x a sx) (counted_by_standing v y b sy) g)))

goes_on_with :
    (v : ℕ → ℤ) (f : Function) (x y : SymOp) (o : Option SymOp) → v 0 ≡ pos 0 → IsCounted v x
    → sym_transformed v f x y ≡ o
    → GoesOnWith v (ask_result f x y) (option_map (op_at v) o)
goes_on_with v f x y None z cx e = λ go. end-result f x y go v ∙ ap (λ o. end_of (go o) v) e
goes_on_with v f x y (Some r) z cx e = (
  r,
  standing-op_at v r z (counted_form v f x y r cx e),
  λ go. end-result f x y go v ∙ ap (λ o. end_of (go o) v) e,
)

pub result_goes_on :
    (f : Function) (v : ℕ → ℤ) (x y : SymOp) (a b : Op) → v 0 ≡ pos 0 → StandsForOperation v x a
    → StandsForOperation v y b
    → GoesOnWith v (ask_result f x y) (transform_of f a b)
result_goes_on f v x y a b z sx sy =
    at_both v x y a b (λ c d. GoesOnWith v (ask_result f x y) (transform_of f c d)) z sx sy
    (subst (λ o. GoesOnWith v (ask_result f x y) o)
    (sym (transform_of-op_at v z x y (counted_by_standing v x a sx) (counted_by_standing v y b sy) f))
    (goes_on_with v f x y (sym_transformed v f x y) z (counted_by_standing v x a sx) refl))

-- where it is a cause that there is no result
comes_to :
    (v : ℕ → ℤ) (f : Function) (x y : SymOp) (o : Option Op) → GoesOnWith v (ask_result f x y) o
    → ComesTo v (ask_transform f x y) o
unfolding ask_transform
comes_to v f x y None h = λ go. h (or_undefined go)
comes_to v f x y (Some r) h = (h.0, h.1, λ go. h.2 (or_undefined go))

pub transform_comes_to :
    (f : Function) (v : ℕ → ℤ) (x y : SymOp) (a b : Op) → v 0 ≡ pos 0 → StandsForOperation v x a
    → StandsForOperation v y b
    → ComesTo v (ask_transform f x y) (transform_of f a b)
transform_comes_to f v x y a b z sx sy = comes_to v f x y (transform_of f a b) (result_goes_on f v x y a b z sx sy)

enabled_to-is_enabled : (a : Op) (n : ℕ) → enabled_to a (pos n) ≡ is_enabled a n
enabled_to-is_enabled (ops.Ins at ch site) n = refl
enabled_to-is_enabled (ops.Del at site) n = refl
enabled_to-is_enabled (ops.Upd at ch site) n = refl
enabled_to-is_enabled ops.Nop n = refl

pub enabled_ends :
    (v : ℕ → ℤ) (x : SymOp) (a : Op) (off : ℤ) (n : ℕ) (p q : Plan Why) → v 0 ≡ pos 0 → v 1 +ℤ off ≡ pos n
    → StandsForOperation v x a
    → end_of (ask_enabled x off p q) v ≡ (if is_enabled a n then end_of p v else end_of q v)
enabled_ends v x a off n p q z e sx =
    end-enabled x off p q v z
    ∙ ap (λ t. by_test t p q v)
    (ap (λ o. enabled_to o (v 1 +ℤ off)) (op_at-standing v x a z sx)
    ∙ (ap (enabled_to a) e ∙ enabled_to-is_enabled a n))

pub allowed_ends :
    (f : Function) (v : ℕ → ℤ) (x y : SymOp) (a b : Op) (p : Plan Why)
    → ((c d : Op) → Decides (is_allowed f c d) (IsAllowed f c d))
    → v 0 ≡ pos 0 → StandsForOperation v x a → StandsForOperation v y b
    → end_of (ask_allowed f.head x y p) v ≡ (if is_allowed f a b then end_of p v else None)
allowed_ends f v x y a b p decides z sx sy =
    at_both v x y a b (λ c d. end_of (ask_allowed f.head x y p) v ≡ (if is_allowed f c d then end_of p v else None)) z
    sx sy (end-allowed f.head x y p v
    ∙ ap (λ t. if t then end_of p v else None)
    (same_from_decides {P = IsAllowed f (op_at v x) (op_at v y)} (sym_allowed v f.head x y)
    (is_allowed f (op_at v x) (op_at v y))
    (Decides-allowed v f x y (counted_by_standing v x a sx) (counted_by_standing v y b sy))
    (decides (op_at v x) (op_at v y))))

found_as : (Same : Type 0) (end : Option Why) → FoundAs Same end
    → (Same → end ≡ None) × ((Same → ⊥) → end ≡ Some Operations)
found_as Same end (inl one) = (λ same. one.1, λ other. absurd (other one.0))
found_as Same end (inr two) = (λ same. absurd (two.0 same), λ other. two.1)

pub one_form_found :
    (v : ℕ → ℤ) (x y : SymOp) (a b c : Op) → StandsForOperation v x a → StandsForOperation v y b
    → IsFormOf c a → IsFormOf c b
    → (a ≡ b → end_of (ask_same_form x y) v ≡ None) × (a ≢ b → end_of (ask_same_form x y) v ≡ Some Operations)
one_form_found v x y a b c sx sy fa fb =
    found_as (a ≡ b) (end_of (ask_same_form x y) v) (same_form_found v x y a b c sx sy fa fb)
