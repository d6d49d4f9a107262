-- An operation that is carried over executed ones, one after the other.
use Rattle.std.proofs.Common.{◌≡◌, ℕ, ◌+◌, ◌<◌, List, [], ◌∷◌, length, drop, get_or, Some, None, refl}
use Rattle.std.proofs.lemmas.List.{drop_more}
use Rattle.ot_model.specs.declared.op.Op.{Op}
use Rattle.fn_rules.specs.Functions.{Function}
use Rattle.fn_rules.specs.Transformation.{transform_of}
use Rattle.fn_rules.specs.Orders.{through}
use Rattle.ot_ways.specs.Steps.{step_of}
use Rattle.ot_trace.specs.Steps.{steps_over}

module _ (f : Function) (o : Op) (executed : List Op) (i : ℕ) (other : Op) (inside : i < length executed) where
  abbrev here : Op
  here = get_or executed i other

  -- the next one has a result
  pub steps-next : (p : Op) → transform_of f o here ≡ Some p
      → steps_over f o (drop i executed) ≡ step_of f o here ∷ steps_over f p (drop (i + 1) executed)
  steps-next p is = rw (drop_more executed i other inside, is) refl

  pub through-next : (p : Op) → transform_of f o here ≡ Some p
      → through f o (drop i executed) ≡ through f p (drop (i + 1) executed)
  through-next p is = rw (drop_more executed i other inside, is) refl

  -- it has none
  pub steps-last : transform_of f o here ≡ None → steps_over f o (drop i executed) ≡ step_of f o here ∷ []
  steps-last none = rw (drop_more executed i other inside, none) refl

  pub through-none : transform_of f o here ≡ None → through f o (drop i executed) ≡ None
  through-none none = rw (drop_more executed i other inside, none) refl
