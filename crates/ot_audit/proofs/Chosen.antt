-- Cases of a slice, and the plain cases that they stand for.
use Rattle.std.proofs.Common.{◌≡◌, ℕ, zero, suc, ◌<◌, ◌≤◌, ◌-◌, Option, Some, Result, IfOk, List, [], ◌∷◌, length}
use Rattle.std.proofs.Common.{get_or, map, take, drop, refl, ap, sym, subst, ◌∙◌, arith}
use Rattle.std.specs.Prelude.{slice_get}
use Rattle.std.specs.List.{AllByRecursion}
use Rattle.std.proofs.lemmas.List.{length-map, take_rest}
use Rattle.std.proofs.lemmas.Result.{IfOk-weaker}
use Rattle.fn_rules.specs.declared.function.Case.{Case}
use Rattle.fn_rules.specs.Functions.{GuardedCase, case_of}
use Rattle.ot_questions.specs.Nears.{IsNearCase}
use Rattle.ot_questions.specs.declared.place.SymOp.{SymOp}
use Rattle.ot_questions.specs.Places.{sym_result}
use Rattle.ot_terms.specs.Goals.{GoalTree, Holds, If}
use Rattle.ot_terms.specs.Placing.{guard_form}
use Rattle.ot_audit.specs.declared.target.Target.{Target}
use Rattle.ot_audit.specs.declared.target.Target.TheVariants as targets
use Rattle.ot_audit.specs.Goals.{IsTargetOf, unless_true, at_own, at_target, with_first_result}

pub near_at :
    (xs : List Case) (i : ℕ) (d : Case) → AllByRecursion IsNearCase (map case_of xs) → i < length xs
    → IsNearCase (case_of (get_or xs i d))
near_at [] i d near below = absurd (omega arith)
near_at (x ∷ xs) zero d near below = near.0
near_at (x ∷ xs) (suc i) d near below = near_at xs i d near.1 (omega arith)

-- the first case
pub near_first :
    (xs : List Case) (x : Case) → AllByRecursion IsNearCase (map case_of xs) → 1 ≤ length xs
    → x ≡ get_or xs 0 x → IsNearCase (case_of x)
near_first xs x near some is = subst (λ (y : Case). IsNearCase (case_of y)) (sym is) (near_at xs 0 x near some)

pub near_front : (xs : List Case) (i : ℕ) → AllByRecursion IsNearCase (map case_of xs)
    → AllByRecursion IsNearCase (map case_of (take i xs))
near_front xs zero near = tt
near_front [] (suc i) near = tt
near_front (x ∷ xs) (suc i) near = (near.0, near_front xs i near.1)

pub got_at : (xs : List Case) (i : ℕ) (d : Case) → i < length xs
    → slice_get (map case_of xs) i ≡ Some (case_of (get_or xs i d))
got_at [] i d below = absurd (omega arith)
got_at (x ∷ xs) zero d below = refl
got_at (x ∷ xs) (suc i) d below = got_at xs i d (omega arith)

pub front_cases : (xs : List Case) (i : ℕ) → map case_of (take i xs) ≡ take i (map case_of xs)
front_cases xs zero = refl
front_cases [] (suc i) = refl
front_cases (x ∷ xs) (suc i) = ap (λ cs. case_of x ∷ cs) (front_cases xs i)

-- the guard of a case behind those of all earlier ones
pub case_reached :
    (xs : List Case) (i : ℕ) (x : Case) (a b : SymOp) (own g : GoalTree) → i < length xs → x ≡ get_or xs i x
    → own ≡ at_own (Some (case_of x)) a b → g ≡ unless_true (map case_of (take i xs)) a b own
    → g ≡ at_target (map case_of xs) (targets.Case i) a b
case_reached xs i x a b own g below is here behind =
    let got : Some (case_of x) ≡ slice_get (map case_of xs) i = ap (λ y. Some (case_of y)) is
    ∙ sym (got_at xs i x below) in
    behind
    ∙ ap (λ h. unless_true (map case_of (take i xs)) a b h) (here ∙ ap (λ o. at_own o a b) got)
    ∙ ap (λ cs. unless_true cs a b (at_own (slice_get (map case_of xs) i) a b)) (front_cases xs i)

-- a target of as many cases
pub target_there : (xs : List Case) (cs : List GuardedCase) (target : Target) → map case_of xs ≡ cs
    → IsTargetOf (length cs) target
    → IsTargetOf (length xs) target
target_there xs cs target e h =
    let same : length xs ≡ length cs = sym (length-map xs case_of) ∙ ap length e in
    subst (λ n. IsTargetOf n target) (sym same) h

-- those behind the first case
pub near_behind :
    (xs : List Case) → AllByRecursion IsNearCase (map case_of xs) → 1 ≤ length xs
    → AllByRecursion IsNearCase (map case_of (take (length xs - 1) (drop 1 xs)))
near_behind [] near some = absurd (omega arith)
near_behind (x ∷ xs) near some =
    subst (λ (l : List Case). AllByRecursion IsNearCase (map case_of l)) (sym (take_rest (x ∷ xs) 1)) near.1

-- by the guard of the first case: its result, or what those behind it come to
pub first_result :
    (xs : List Case) (x : Case) (a b : SymOp) (go : Option SymOp → GoalTree) (here behind g : GoalTree) → 1 ≤ length xs
    → x ≡ get_or xs 0 x → here ≡ go (Some (sym_result (case_of x).res a b))
    → behind ≡ with_first_result (map case_of (take (length xs - 1) (drop 1 xs))) a b go
    → g ≡ If (guard_form (case_of x).guard a b) here behind → g ≡ with_first_result (map case_of xs) a b go
first_result [] x a b go here behind g some is first rest made = absurd (omega arith)
first_result (y ∷ ys) x a b go here behind g some is first rest made =
    made ∙ ap (λ (h : GoalTree). If (guard_form (case_of x).guard a b) h behind) first
    ∙ ap (λ (h : GoalTree). If (guard_form (case_of x).guard a b) (go (Some (sym_result (case_of x).res a b))) h)
    (rest ∙ ap (λ (l : List Case). with_first_result (map case_of l) a b go) (take_rest (y ∷ ys) 1))
    ∙ ap (λ (z : Case). If (guard_form (case_of z).guard a b) (go (Some (sym_result (case_of z).res a b)))
    (with_first_result (map case_of ys) a b go)) is

-- the same of a goal that is placed where there is memory
pub first_placed :
    {T E : Type 0} (result : Result T E) (tree : T → GoalTree) (xs : List Case) (x : Case) (a b r : SymOp)
    (go : Option SymOp → GoalTree)
    (here behind : GoalTree) → 1 ≤ length xs → x ≡ get_or xs 0 x
    → r ≡ sym_result (case_of x).res a b → here ≡ go (Some r)
    → behind ≡ with_first_result (map case_of (take (length xs - 1) (drop 1 xs))) a b go
    → IfOk result (λ t. tree t ≡ If (guard_form (case_of x).guard a b) here behind)
    → IfOk result (λ t. tree t ≡ with_first_result (map case_of xs) a b go)
first_placed result tree xs x a b r go here behind some is made first rest =
    IfOk-weaker result (λ t. tree t ≡ If (guard_form (case_of x).guard a b) here behind)
    (λ t. tree t ≡ with_first_result (map case_of xs) a b go)
    (λ t. first_result xs x a b go here behind (tree t) some is (first ∙ ap (λ (o : SymOp). go (Some o)) made) rest)

-- the guards of the cases in their order
pub unless_placed :
    {T E : Type 0} (result : Result T E) (tree : T → GoalTree) (xs : List Case) (x : Case) (a b : SymOp)
    (on_yes behind next : GoalTree)
    → 1 ≤ length xs → x ≡ get_or xs 0 x → on_yes ≡ Holds
    → behind ≡ unless_true (map case_of (take (length xs - 1) (drop 1 xs))) a b next
    → IfOk result (λ t. tree t ≡ If (guard_form (case_of x).guard a b) on_yes behind)
    → IfOk result (λ t. tree t ≡ unless_true (map case_of xs) a b next)
unless_placed result tree [] x a b on_yes behind next some is first rest = absurd (omega arith)
unless_placed result tree (y ∷ ys) x a b on_yes behind next some is first rest =
    IfOk-weaker result (λ t. tree t ≡ If (guard_form (case_of x).guard a b) on_yes behind)
    (λ t. tree t ≡ unless_true (map case_of (y ∷ ys)) a b next)
    (λ t made.
    made ∙ ap (λ (h : GoalTree). If (guard_form (case_of x).guard a b) h behind) first
    ∙ ap (λ (h : GoalTree). If (guard_form (case_of x).guard a b) Holds h)
    (rest ∙ ap (λ (l : List Case). unless_true (map case_of l) a b next) (take_rest (y ∷ ys) 1))
    ∙ ap (λ (z : Case). If (guard_form (case_of z).guard a b) Holds (unless_true (map case_of ys) a b next)) is)
