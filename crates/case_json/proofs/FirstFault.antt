-- What holds of a case whose parts no test finds a fault in.
use Rattle.std.proofs.Common.{◌≡◌, ◌↔◌, ℕ, ◌+◌, ◌≤◌, Bool, true, false, List, [], ◌∷◌, length, Option, Some, None, refl}
use Rattle.std.proofs.Common.{if◌then◌else◌}
use Rattle.std.specs.Option.{option_or}
use Rattle.std.specs.List.{AllByRecursion}
use Rattle.std.specs.Cmp.Derive.{both_true}
use Rattle.std.proofs.lemmas.List.Elements.{All-from_recursion}
use Rattle.ot_model.specs.declared.limits.TheConstants.{MAX_CELLS, MAX_OPERATIONS}
use Rattle.ot_model.specs.declared.cell.Cell.{Cell}
use Rattle.ot_model.specs.declared.op.Op.{Op}
use Rattle.ot_model.specs.declared.op.Kind.{Kind}
use Rattle.ot_model.specs.Operations.{kind_of}
use Rattle.ot_model.specs.Effect.{is_enabled}
use Rattle.fn_rules.specs.declared.function.Head.{Head}
use Rattle.fn_rules.specs.Functions.{Function, has_declared_kind, is_for_kind}
use Rattle.fn_rules.specs.Transformation.{is_allowed, IsAllowed}
use Rattle.fn_rules.specs.Conditions.{is_integrable, IsIntegrable}
use Rattle.fn_rules.specs.Properties.{AreConcurrent}
use Rattle.fn_rules.specs.Orders.{names_each_once, NamesEachOnce}
use Rattle.case_json.specs.declared.limits.TheConstants.{MAX_ORDERS}
use Rattle.case_json.specs.declared.fault.CaseFault.{CaseFault}
use Rattle.case_json.specs.declared.fault.CaseFault.TheVariants as faults
use Rattle.case_json.specs.declared.trial.Trial.{Trial}
use Rattle.case_json.specs.Tests.{first_fault, operation_fault, pair_fault, pairs_fault, order_fault, case_fault_of}
use Rattle.case_json.specs.Tests.{IsReadyTrial}

-- where nothing was found, nothing is in front
option_or-none : {A : Type 0} (found other : Option A) → option_or found other ≡ None → (found ≡ None) × (other ≡ None)
option_or-none None other none = (refl, none)
option_or-none (Some x) other none = cc

-- a test without a fault was passed
passed : (test : Bool) (fault : CaseFault) → (if test then None else Some fault) ≡ None → test ≡ true
passed true fault none = refl
passed false fault none = cc

-- without a fault in a list, each member passes the test
first_fault-none : {A : Type 0} (test : ℕ → A → Option CaseFault) (P : A → Type 0)
    → ((n : ℕ) (x : A) → test n x ≡ None → P x)
    → (n : ℕ) (xs : List A) → first_fault test n xs ≡ None → AllByRecursion P xs
first_fault-none test P passes n [] none = tt
first_fault-none test P passes n (x ∷ xs) none =
    let parts = option_or-none (test n x) (first_fault test (n + 1) xs) none in
    (passes n x parts.0, first_fault-none test P passes (n + 1) xs parts.1)

operation_fault-none : (f : Function) (cells n : ℕ) (o : Op) → operation_fault f cells n o ≡ None
    → (has_declared_kind f.head (kind_of o) ≡ true) × (is_enabled o cells ≡ true)
operation_fault-none f cells n o none = by (has_declared_kind f.head (kind_of o)) none
  where
    by : (declared : Bool)
        → (if declared then (if is_enabled o cells then None else Some (faults.Enabled n))
        else Some (faults.Kind n)) ≡ None
        → (declared ≡ true) × (is_enabled o cells ≡ true)
    by false none = cc
    by true none = (refl, passed (is_enabled o cells) (faults.Enabled n) none)

-- a kind that the function is for is there or not
is_for_kind-declared : (head : Head) (k : Option Kind) → has_declared_kind head k ≡ true → is_for_kind head k ≡ true
is_for_kind-declared head None declared = cc
is_for_kind-declared head (Some k) declared = declared

-- what the tests of operations and orders decide
pub record TestsDecide : Type 0 where
  pub allowed : (f : Function) (a b : Op) → (is_allowed f a b ≡ true) ↔ IsAllowed f a b
  pub integrable : (f : Function) (cells : ℕ) (o : Op) → (is_integrable f cells o ≡ true) ↔ IsIntegrable f cells o
  pub once : (count : ℕ) (order : List ℕ) → names_each_once count order ≡ true → NamesEachOnce count order

module _ (decide : TestsDecide) (f : Function) where
  operation_fault-integrable : (cells n : ℕ) (o : Op) → operation_fault f cells n o ≡ None → IsIntegrable f cells o
  operation_fault-integrable cells n o none =
      let parts = operation_fault-none f cells n o none in
      (decide.integrable f cells o).0 (both_true (is_for_kind-declared f.head (kind_of o) parts.0) parts.1)

  pair_fault-none : (i : ℕ) (a : Op) (j : ℕ) (b : Op) → pair_fault f i a j b ≡ None → IsAllowed f a b
  pair_fault-none i a j b none = (decide.allowed f a b).0 (passed (is_allowed f a b) (faults.Pair i j) none)

  order_fault-none : (count i : ℕ) (order : List ℕ) → order_fault count i order ≡ None → NamesEachOnce count order
  order_fault-none count i order none =
      decide.once count order (passed (names_each_once count order) (faults.Order i) none)

  -- operations without a fault, alone and in pairs, are concurrent
  faultless-concurrent : (d : List Cell) (n i : ℕ) (ops : List Op)
      → first_fault (operation_fault f (length d)) n ops ≡ None → pairs_fault f i ops ≡ None → AreConcurrent f d ops
  faultless-concurrent d n i [] alone pairs = tt
  faultless-concurrent d n i (o ∷ others) alone pairs =
      let here = option_or-none (operation_fault f (length d) n o)
      (first_fault (operation_fault f (length d)) (n + 1) others) alone in
      let with_others = option_or-none (first_fault (pair_fault f i o) (i + 1) others)
      (pairs_fault f (i + 1) others) pairs in (
        (operation_fault-none f (length d) n o here.0).0,
        (operation_fault-integrable (length d) n o here.0).enabled,
        first_fault-none (pair_fault f i o) (IsAllowed f o) (pair_fault-none i o) (i + 1) others with_others.0,
        faultless-concurrent d (n + 1) (i + 1) others here.1 with_others.1,
      )

  -- a trial within the limits that has no fault is ready
  pub faultless-ready : (trial : Trial) → case_fault_of f trial ≡ None
      → length trial.doc ≤ MAX_CELLS → length trial.ops ≤ MAX_OPERATIONS
      → length trial.orders ≤ MAX_ORDERS → IsReadyTrial f trial
  faultless-ready trial none cells ops orders =
      let operation : ℕ → Op → Option CaseFault = operation_fault f (length trial.doc) in
      let order : ℕ → List ℕ → Option CaseFault = order_fault (length trial.ops) in
      let first = option_or-none (first_fault operation 0 trial.ops)
      (option_or (pairs_fault f 0 trial.ops) (first_fault order 0 trial.orders)) none in
      let second = option_or-none (pairs_fault f 0 trial.ops) (first_fault order 0 trial.orders) first.1 in
      record {
        concurrent = faultless-concurrent trial.doc 0 0 trial.ops first.0 second.0;
        integrable = All-from_recursion (IsIntegrable f (length trial.doc)) trial.ops
            (first_fault-none operation (IsIntegrable f (length trial.doc))
            (operation_fault-integrable (length trial.doc)) 0 trial.ops first.0);
        orders = All-from_recursion (NamesEachOnce (length trial.ops)) trial.orders
            (first_fault-none order (NamesEachOnce (length trial.ops)) (order_fault-none (length trial.ops))
            0 trial.orders second.1);
        few_cells = cells;
        few_ops = ops;
        few_orders = orders;
      }
