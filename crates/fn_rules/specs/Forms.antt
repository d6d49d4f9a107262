-- What holds of forms: of operations as transformations leave them, which may also be nop. The properties
-- speak of operations as they were made; editors execute and transform forms.
use Rattle.std.specs.Prelude.{◌≡◌, ℕ, true, List, length, Some}
use Rattle.ot_model.specs.declared.cell.Cell.{Cell}
use Rattle.ot_model.specs.declared.op.Op.{Op}
use Rattle.ot_model.specs.Operations.{kind_of}
use Rattle.ot_model.specs.Effect.{IsEnabled, is_enabled}
use Rattle.fn_rules.specs.Functions.{Function, IsForKind, HasDeclaredKind}
use Rattle.fn_rules.specs.Transformation.{transform_of, IsAllowed}
use Rattle.fn_rules.specs.Conditions.{IsIntegrable}
use Rattle.fn_rules.specs.Properties.{ConvergesAt, CommutesAt}

-- what every function keeps of operations: a form is of a kind that the function is for and allowed with
-- whatever its operation was allowed with; with whom one may be, and what the properties say of two, does
-- not depend on their order
pub record KeepsForms (f : Function) : Type 0 where
  pub made : (o : Op) → HasDeclaredKind f.head (kind_of o) → IsForKind f.head (kind_of o)
  pub declared : (a b form : Op) → transform_of f a b ≡ Some form → IsForKind f.head (kind_of a)
      → IsForKind f.head (kind_of form)
  pub allowed : (a b form other : Op) → transform_of f a b ≡ Some form → IsAllowed f a other → IsAllowed f form other
  pub allowed_back : (a b : Op) → IsAllowed f a b → IsAllowed f b a
  pub enabled_is_tested : (n : ℕ) (o : Op) → IsEnabled o n → is_enabled o n ≡ true

-- two forms that may be integrated on one document, and may be with each other, converge there
abbrev pub ConvergesOnForms : Function → Type 0
ConvergesOnForms f =
    (d : List Cell) (a b : Op) → IsIntegrable f (length d) a → IsIntegrable f (length d) b → IsAllowed f a b
    → ConvergesAt f d a b

-- three such forms commute, too, and the third has one form behind the first two, whichever of them is
-- called the first
pub record CarriesForms (f : Function) : Type 0 where
  pub keeps : KeepsForms f
  pub converging : ConvergesOnForms f
  pub commuting : (d : List Cell) (a b c : Op) → IsIntegrable f (length d) a → IsIntegrable f (length d) b
      → IsIntegrable f (length d) c
      → IsAllowed f a b → IsAllowed f a c → IsAllowed f b c → CommutesAt f a b c
