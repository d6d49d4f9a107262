-- The tests that the parts of a case have to pass, in their order.
use Rattle.std.specs.Prelude.{◌≤◌, ℕ, ◌+◌, if◌then◌else◌, All, List, [], ◌∷◌, length, Option, Some, None}
use Rattle.std.specs.Option.{option_or}
use Rattle.ot_model.specs.declared.limits.TheConstants.{MAX_CELLS, MAX_OPERATIONS}
use Rattle.ot_model.specs.declared.op.Op.{Op}
use Rattle.ot_model.specs.Operations.{kind_of}
use Rattle.ot_model.specs.Effect.{is_enabled}
use Rattle.fn_rules.specs.Functions.{Function, has_declared_kind}
use Rattle.fn_rules.specs.Transformation.{is_allowed}
use Rattle.fn_rules.specs.Conditions.{IsIntegrable}
use Rattle.fn_rules.specs.Properties.{AreConcurrent}
use Rattle.fn_rules.specs.Orders.{names_each_once, NamesEachOnce}
use Rattle.case_json.specs.declared.limits.TheConstants.{MAX_ORDERS}
use Rattle.case_json.specs.declared.fault.CaseFault.{CaseFault}
use Rattle.case_json.specs.declared.fault.CaseFault.TheVariants as faults
use Rattle.case_json.specs.declared.trial.Trial.{Trial}

-- the first fault that a test finds in a list, whose members count from a number
abbrev pub first_fault : {A : Type 0} → (ℕ → A → Option CaseFault) → ℕ → List A → Option CaseFault
first_fault test i [] = None
first_fault test i (x ∷ others) = option_or (test i x) (first_fault test (i + 1) others)

-- what is wrong with an operation on a document of so many cells
abbrev pub operation_fault : Function → ℕ → ℕ → Op → Option CaseFault
operation_fault f cells i o =
    if has_declared_kind f.head (kind_of o)
    then (if is_enabled o cells then None else Some (faults.Enabled i))
    else Some (faults.Kind i)

-- what is wrong with two operations
abbrev pub pair_fault : Function → ℕ → Op → ℕ → Op → Option CaseFault
pair_fault f i a j b = if is_allowed f a b then None else Some (faults.Pair i j)

-- the first pair that is not allowed: an operation with each behind it, then the pairs of those behind it
abbrev pub pairs_fault : Function → ℕ → List Op → Option CaseFault
pairs_fault f i [] = None
pairs_fault f i (a ∷ others) = option_or (first_fault (pair_fault f i a) (i + 1) others) (pairs_fault f (i + 1) others)

-- what is wrong with an order of so many operations
abbrev pub order_fault : ℕ → ℕ → List ℕ → Option CaseFault
order_fault count i order = if names_each_once count order then None else Some (faults.Order i)

-- the first fault of a case whose parts could be read: its operations one by one, its pairs, its orders
abbrev pub case_fault_of : Function → Trial → Option CaseFault
case_fault_of f trial =
    option_or (first_fault (operation_fault f (length trial.doc)) 0 trial.ops)
    (option_or (pairs_fault f 0 trial.ops)
    (first_fault (order_fault (length trial.ops)) 0 trial.orders))

-- a trial that can be integrated: concurrent operations, within the limits, and orders of all of them
pub record IsReadyTrial (f : Function) (trial : Trial) : Type 0 where
  pub concurrent : AreConcurrent f trial.doc trial.ops
  pub integrable : All (IsIntegrable f (length trial.doc)) trial.ops
  pub orders : All (NamesEachOnce (length trial.ops)) trial.orders
  pub few_cells : length trial.doc ≤ MAX_CELLS
  pub few_ops : length trial.ops ≤ MAX_OPERATIONS
  pub few_orders : length trial.orders ≤ MAX_ORDERS
