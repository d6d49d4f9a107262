-- Forms of operations behind executed ones: where they are, and what stays of them.
use Rattle.std.proofs.Common.{◌≡◌, ℕ, ◌+◌, ◌<◌, List, length, drop, get_or, Some, refl}
use Rattle.std.proofs.lemmas.List.{drop_more}
use Rattle.ot_model.specs.declared.op.Op.{Op}
use Rattle.fn_rules.specs.Functions.{Function}
use Rattle.fn_rules.specs.Transformation.{transform_of}
use Rattle.fn_rules.specs.Orders.{through}

-- one executed operation further
pub through-next : (f : Function) (o p : Op) (executed : List Op) (i : ℕ) (other : Op) → i < length executed
    → transform_of f o (get_or executed i other) ≡ Some p
    → through f o (drop i executed) ≡ through f p (drop (i + 1) executed)
through-next f o p executed i other inside is = rw (drop_more executed i other inside, is) refl
