-- What the functions of the workload make of insertions and deletions: further cases change nothing.
use Rattle.std.proofs.Common.{◌≡◌, ℕ, zero, suc, ◌≤◌, ℤ, pos, negsuc, ◌+ℤ◌, Bool, true, false, ◌&&◌, if◌then◌else◌}
use Rattle.std.proofs.Common.{int_lt, ◌++◌, Some, refl, ap, ◌∙◌, inl, inr, arith}
use Rattle.std.specs.Ordering.{int_eq}
use Rattle.std.proofs.lemmas.Bool.{cases_Bool}
use Rattle.std.proofs.lemmas.Int.{ints}
use Rattle.ot_model.specs.declared.op.Op.{Op}
use Rattle.ot_model.specs.declared.op.Op.TheVariants.{Ins, Del}
use Rattle.ot_model.specs.declared.op.Mode.TheVariants.{Tomb}
use Rattle.ot_model.specs.Operations.{kind_of}
use Rattle.fn_rules.specs.Functions.{HasDeclaredKind}
use Rattle.fn_rules.specs.Shipped.{smaller_stays, by_sites}
use Rattle.fn_rules.specs.Transformation.{first_result, transform_of}
use Rattle.ot_drill.specs.Workload.{further_cases, drill_function}
use Rattle.ot_drill.proofs.Places.{place_behind}

-- an insertion or a deletion
abbrev pub IsDeclared : Op → Type 0
IsDeclared o = HasDeclaredKind (by_sites Tomb) (kind_of o)

-- a place plus nothing
plus_zero : (p : ℤ) → p +ℤ pos 0 ≡ p
plus_zero p = omega (arith, ints)

-- a further case is implied by the case behind it
implied : (p q : ℤ) (s t k : ℕ) → int_lt p (q +ℤ negsuc k) ≡ true → p +ℤ pos 0 ≡ place_behind p s q t
unfolding place_behind
implied p q s t k h = grind (arith, ints)

-- what the three cases of `ttf` choose for two insertions
chosen : (p q : ℤ) (s t : ℕ) →
    (if int_lt p (q +ℤ pos 0) then p +ℤ pos 0
    else (if int_eq p (q +ℤ pos 0) && int_lt (pos s) (pos t +ℤ pos 0) then p +ℤ pos 0 else p +ℤ pos 1))
    ≡ place_behind p s q t
unfolding place_behind
chosen p q s t = grind (arith, ints)

-- what its two cases choose for a deletion behind an insertion
chosen_deletion : (p q : ℤ) (t u : ℕ) → t ≤ u
    → (if int_lt p (q +ℤ pos 0) then p +ℤ pos 0 else p +ℤ pos 1) ≡ place_behind p u q t
unfolding place_behind
chosen_deletion p q t u h = grind (arith, ints)

-- an operation at a chosen place is chosen
if_through : {X Y : Type 0} (g : X → Y) (b : Bool) (x y : X) → (if b then g x else g y) ≡ g (if b then x else y)
if_through g true x y = refl
if_through g false x y = refl

-- the same for two choices
twice_through : {X Y : Type 0} (g : X → Y) (b c : Bool) (x y : X) →
    (if b then g x else (if c then g x else g y)) ≡ g (if b then x else (if c then x else y))
twice_through g true c x y = refl
twice_through g false c x y = if_through g c x y

-- two insertions, with any number of further cases
insertions : (n : ℕ) (p q : ℤ) (c d s t : ℕ) →
    first_result (further_cases n ++ smaller_stays) (Ins p c s) (Ins q d t) ≡ Some (Ins (place_behind p s q t) c s)
insertions zero p q c d s t =
    twice_through (λ x. Some (Ins x c s)) (int_lt p (q +ℤ pos 0))
    (int_eq p (q +ℤ pos 0) && int_lt (pos s) (pos t +ℤ pos 0)) (p +ℤ pos 0) (p +ℤ pos 1)
    ∙ ap (λ x. Some (Ins x c s)) (chosen p q s t)
insertions (suc k) p q c d s t =
    elim (cases_Bool (int_lt p (q +ℤ negsuc k))) [
      | inl wanted ↦ rw wanted (ap (λ x. Some (Ins x c s)) (implied p q s t k wanted))
      | inr not_wanted ↦ rw not_wanted (insertions k p q c d s t)
    ]

-- an insertion behind an insertion
pub insertion_behind : (n : ℕ) (p q : ℤ) (c d s t : ℕ) →
    transform_of (drill_function n) (Ins p c s) (Ins q d t) ≡ Some (Ins (place_behind p s q t) c s)
insertion_behind n p q c d s t = insertions n p q c d s t

-- a deletion behind an insertion: it may be given any rank that is not below the insertion's site
pub deletion_behind : (n : ℕ) (p q : ℤ) (d s t u : ℕ) → t ≤ u →
    transform_of (drill_function n) (Del p s) (Ins q d t) ≡ Some (Del (place_behind p u q t) s)
deletion_behind n p q d s t u h =
    if_through (λ x. Some (Del x s)) (int_lt p (q +ℤ pos 0)) (p +ℤ pos 0) (p +ℤ pos 1)
    ∙ ap (λ x. Some (Del x s)) (chosen_deletion p q t u h)

-- behind a deletion no insertion moves
pub insertion_behind_deletion : (n : ℕ) (p q : ℤ) (c s t : ℕ)
    → transform_of (drill_function n) (Ins p c s) (Del q t) ≡ Some (Ins p c s)
insertion_behind_deletion n p q c s t = ap (λ x. Some (Ins x c s)) (plus_zero p)

-- behind a deletion no deletion moves
pub deletion_behind_deletion : (n : ℕ) (p q : ℤ) (s t : ℕ)
    → transform_of (drill_function n) (Del p s) (Del q t) ≡ Some (Del p s)
deletion_behind_deletion n p q s t = ap (λ x. Some (Del x s)) (plus_zero p)
