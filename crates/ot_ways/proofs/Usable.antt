-- What can be transformed: the operations of an instance, and what becomes of them.
use Rattle.std.proofs.Common.{◌≡◌, ◌≤◌, ◌<◌, ◌+◌, ℕ, List, [], ◌∷◌, length, get_or, IsTrue, IfSome, refl, sym, arith}
use Rattle.std.specs.Prelude.{Option, Some, None, All}
use Rattle.std.proofs.lemmas.List.Elements.{All-nil, All-cons, All-get_or}
use Rattle.ot_model.specs.declared.cell.Cell.{Cell}
use Rattle.ot_model.specs.declared.op.Op.{Op}
use Rattle.ot_model.specs.Operations.{kind_of}
use Rattle.ot_model.specs.Effect.{IsEnabled}
use Rattle.fn_rules.specs.declared.function.Level.{Level}
use Rattle.fn_rules.specs.declared.function.Level.TheVariants.{Tp1, Tp2}
use Rattle.fn_rules.specs.Conditions.{IsWithin, IsInRange, IsIntegrable}
use Rattle.fn_rules.specs.Forms.{KeepsForms}
use Rattle.fn_rules.specs.Functions.{Function, IsForKind}
use Rattle.fn_rules.specs.Properties.{AreConcurrent}
use Rattle.fn_rules.specs.Transformation.{transform_of}
use Rattle.fn_rules.specs.Validity.{is_valid}
use Rattle.ot_counter.specs.Counters.{Breaks}
use Rattle.ot_ways.specs.declared.ways.BothWays.TheVariants.{Triple}
use Rattle.ot_ways.specs.declared.ways.OperationWay.{OperationWay}
use Rattle.ot_ways.specs.Steps.{both_ways_of, one_end_of, operation_way_of}

-- what is said of operations within a bound, and of what becomes of them
abbrev pub IsWider : Type 0
IsWider = (m n : ℕ) (o : Op) → m ≤ n → IsWithin m o → IsWithin n o

abbrev pub StaysNear : Type 0
StaysNear = (f : Function) (a b c : Op) (m : ℕ) → IsTrue (is_valid f) → IsWithin m a → IsWithin m b
    → transform_of f a b ≡ Some c
    → IsWithin (m + 99) c

-- the operation may be transformed
abbrev pub IsUsable : Function → Op → Type 0
IsUsable f o = IsForKind f.head (kind_of o) × IsInRange o

-- what becomes of an operation on a document of a million cells may be transformed again
pub result_is_usable :
    IsWider → StaysNear → (f : Function) → KeepsForms f → IsTrue (is_valid f) → (a b : Op) (result : Option Op)
    → IsForKind f.head (kind_of a) → IsWithin 1000000 a → IsWithin 1000000 b → result ≡ transform_of f a b
    → IfSome result (IsUsable f)
result_is_usable wider stays f keeps valid a b None declared near_a near_b e = tt
result_is_usable wider stays f keeps valid a b (Some o) declared near_a near_b e = (
  keeps.declared a b o (sym e) declared,
  wider (1000000 + 99) 1099511627776 o (omega arith) (stays f a b o 1000000 valid near_a near_b (sym e)),
)

-- concurrent operations may be integrated
pub concurrent_integrable : (f : Function) → KeepsForms f → (d : List Cell) (ops : List Op) → AreConcurrent f d ops
    → All (IsIntegrable f (length d)) ops
concurrent_integrable f keeps d [] h = All-nil (IsIntegrable f (length d))
concurrent_integrable f keeps d (o ∷ os) h =
    All-cons (IsIntegrable f (length d)) o os (record { declared = keeps.made o h.0; enabled = h.1 })
    (concurrent_integrable f keeps d os h.3)

-- what breaks a property is concurrent
pub concurrent_where_broken : (f : Function) (level : Level) (d : List Cell) (ops : List Op)
    → Breaks f level d ops → AreConcurrent f d ops
concurrent_where_broken f Tp1 d ops h = h.3
concurrent_where_broken f Tp2 d ops h = h.4

abbrev pub IsNear : Type 0
IsNear = (n : ℕ) (o : Op) → IsEnabled o n → IsWithin n o

-- an operation of those that may be integrated is of the function's kinds, and near
pub usable_at :
    IsWider → IsNear → (f : Function) (n : ℕ) (ops : List Op) (i : ℕ) (x : Op) → All (IsIntegrable f n) ops
    → i < length ops → n ≤ 1000000
    → IsForKind f.head (kind_of (get_or ops i x)) × IsWithin 1000000 (get_or ops i x)
usable_at wider near f n ops i x all below few =
    let here = All-get_or (IsIntegrable f n) ops i x below all in
    (here.declared, wider n 1000000 (get_or ops i x) few (near n (get_or ops i x) here.enabled))

-- both ways of three operations
pub three_told :
    (f : Function) (d : List Cell) (ops : List Op) (x : Op) (left right : OperationWay) (one : Option (List Cell))
    → left ≡ operation_way_of f (get_or ops 0 x) (get_or ops 1 x) (get_or ops 2 x)
    → right ≡ operation_way_of f (get_or ops 1 x) (get_or ops 0 x) (get_or ops 2 x)
    → one ≡ one_end_of f d ops → 3 ≤ length ops
    → length ops < 4 → Some (Triple left right one) ≡ both_ways_of f Tp2 d ops
three_told f d [] x left right one p q r low high = absurd (omega (arith, low))
three_told f d (a ∷ []) x left right one p q r low high = absurd (omega (arith, low))
three_told f d (a ∷ b ∷ []) x left right one p q r low high = absurd (omega (arith, low))
three_told f d (a ∷ b ∷ c ∷ []) x left right one p q r low high = rw (p, q, r) refl
three_told f d (a ∷ b ∷ c ∷ e ∷ others) x left right one p q r low high = absurd (omega (arith, high))
