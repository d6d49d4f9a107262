-- What a transformation makes of an operation, and which operations it may be with.
use Rattle.std.proofs.Common.{◌≡◌, ℕ, ◌+◌, Bool, true, ◌&&◌, List, [], ◌∷◌, Option, Some, None, length, refl, sym}
use Rattle.std.proofs.Common.{subst, inl, inr, arith}
use Rattle.std.specs.Prelude.{ℤ, pos, ◌+ℤ◌, ◌≤ℤ◌, nat_le}
use Rattle.std.specs.List.{list_all}
use Rattle.std.proofs.lemmas.Bool.{cases_Bool, and_parts}
use Rattle.std.proofs.lemmas.Int.{ints}
use Rattle.ot_model.specs.declared.op.Op.{Op}
use Rattle.ot_model.specs.declared.op.Op.TheVariants.{Ins, Del, Upd, Nop}
use Rattle.ot_model.specs.declared.op.Kind.{Kind}
use Rattle.ot_model.specs.Operations.{kind_of, at_of, site_of, char_of, placed}
use Rattle.fn_rules.specs.declared.guard.Side.TheVariants.{First, Second}
use Rattle.fn_rules.specs.declared.guard.Tightness.TheVariants.{Loose}
use Rattle.fn_rules.specs.declared.function.Res.{Res}
use Rattle.fn_rules.specs.declared.function.Res.TheVariants as results
use Rattle.fn_rules.specs.declared.limits.TheConstants.{MAX_CASES, MAX_ATOMS, MAX_NESTING}
use Rattle.fn_rules.specs.Formulas.{of_side, holds_of}
use Rattle.fn_rules.specs.Functions.{Function, GuardedCase, cases_of}
use Rattle.fn_rules.specs.Validity.{is_offset, has_valid_atoms, atoms_of, nesting_of, is_valid_res, is_valid_case}
use Rattle.fn_rules.specs.Validity.{compares_chars, is_valid}
use Rattle.fn_rules.specs.Transformation.{result_of, first_result, transform_by_kinds, transform_of, Differ, IsAllowed}
use Rattle.fn_rules.specs.Conditions.{IsWithin, IsMovedFrom, IsFormOf}
use Rattle.fn_rules.proofs.LimitsKept.{are_valid_cases-valid}

Differ-sym : (x y : Option ℕ) → Differ x y → Differ y x
Differ-sym None None apart = tt
Differ-sym None (Some y) apart = tt
Differ-sym (Some x) None apart = tt
Differ-sym (Some x) (Some y) apart = λ same. apart (sym same)

-- who may be with whom does not depend on the order
pub IsAllowed-sym : (f : Function) (a b : Op) → IsAllowed f a b → IsAllowed f b a
IsAllowed-sym f a b allowed = record {
  sites = λ assumed. Differ-sym (site_of a) (site_of b) (allowed.sites assumed);
  chars = λ assumed. Differ-sym (char_of a) (char_of b) (allowed.chars assumed);
}

-- a form of an operation is allowed with whatever the operation was allowed with
pub IsAllowed-form : (f : Function) (a c d : Op) → IsFormOf a c → IsAllowed f a d → IsAllowed f c d
IsAllowed-form f a c d (inl gone) allowed =
    subst (λ (o : Op). IsAllowed f o d) (sym gone) (record { sites = λ _. tt; chars = λ _. tt })
IsAllowed-form f a c d (inr moved) allowed = record {
  sites = λ assumed. rw moved.site (allowed.sites assumed);
  chars = λ assumed. rw moved.char (allowed.chars assumed);
}

IsMovedFrom-placed : (a : Op) (to : ℤ) → IsMovedFrom a (placed a to)
IsMovedFrom-placed (Ins at ch site) to = record { kind = refl; site = refl; char = refl }
IsMovedFrom-placed (Del at site) to = record { kind = refl; site = refl; char = refl }
IsMovedFrom-placed (Upd at ch site) to = record { kind = refl; site = refl; char = refl }
IsMovedFrom-placed Nop to = record { kind = refl; site = refl; char = refl }

IsFormOf-result_of : (res : Res) (a b : Op) → IsFormOf a (result_of res a b)
IsFormOf-result_of (results.Keep base k) a b = inr (IsMovedFrom-placed a (at_of (of_side base a b) +ℤ k))
IsFormOf-result_of results.Nop a b = inl refl

IsFormOf-first_result : (cases : List GuardedCase) (a b c : Op) → first_result cases a b ≡ Some c → IsFormOf a c
IsFormOf-first_result [] a b c is = cc
IsFormOf-first_result (one ∷ others) a b c is =
    elim (cases_Bool (holds_of one.guard a b)) [
      | inl true_here ↦ (let is_result : Some (result_of one.res a b) ≡ Some c = rw true_here at is in
          let same : result_of one.res a b ≡ c = cc in
          subst (λ (o : Op). IsFormOf a o) same (IsFormOf-result_of one.res a b))
      | inr false_here ↦ IsFormOf-first_result others a b c (rw false_here at is)
    ]

IsFormOf-by_kinds : (f : Function) (a b c : Op) (k l : Option Kind)
    → transform_by_kinds f a b k l ≡ Some c → IsFormOf a c
IsFormOf-by_kinds f a b c None l is = let gone : c ≡ Nop = cc in inl gone
IsFormOf-by_kinds f a b c (Some k) None is =
    let same : a ≡ c = cc in
    subst (λ (o : Op). IsFormOf a o) same (inr (record { kind = refl; site = refl; char = refl }))
IsFormOf-by_kinds f a b c (Some k) (Some l) is = IsFormOf-first_result (cases_of f k l) a b c is

-- a transformation makes nop of an operation, or the same at some position
pub IsFormOf-transform_of : (f : Function) (a b c : Op) → transform_of f a b ≡ Some c → IsFormOf a c
IsFormOf-transform_of f a b c is = IsFormOf-by_kinds f a b c (kind_of a) (kind_of b) is

-- nop stays nop
pub transform_of-nop : (f : Function) (b : Op) → transform_of f Nop b ≡ Some Nop
transform_of-nop f b = refl

-- an operation is as it was behind nop
pub transform_of-by_nop : (f : Function) (a : Op) → transform_of f a Nop ≡ Some a
transform_of-by_nop f (Ins at ch site) = refl
transform_of-by_nop f (Del at site) = refl
transform_of-by_nop f (Upd at ch site) = refl
transform_of-by_nop f Nop = refl

IsWithin-placed : (m : ℕ) (a : Op) (to : ℤ) → pos 0 ≤ℤ (to +ℤ pos m) → to ≤ℤ pos m → IsWithin m (placed a to)
IsWithin-placed m (Ins at ch site) to low high = (low, high)
IsWithin-placed m (Del at site) to low high = (low, high)
IsWithin-placed m (Upd at ch site) to low high = (low, high)
IsWithin-placed m Nop to low high = (omega (arith, ints), omega (arith, ints))

-- an offset moves a bound by at most 99
offset_low : (m : ℕ) (at k : ℤ) → is_offset k ≡ true → pos 0 ≤ℤ (at +ℤ pos m) → pos 0 ≤ℤ ((at +ℤ k) +ℤ pos (m + 99))
offset_low m at k small low = grind (arith, ints)

offset_high : (m : ℕ) (at k : ℤ) → is_offset k ≡ true → at ≤ℤ pos m → (at +ℤ k) ≤ℤ pos (m + 99)
offset_high m at k small high = grind (arith, ints)

IsWithin-result_of : (m : ℕ) (res : Res) (a b : Op) → is_valid_res res ≡ true → IsWithin m a → IsWithin m b
    → IsWithin (m + 99) (result_of res a b)
IsWithin-result_of m (results.Keep First k) a b small near_a near_b =
    IsWithin-placed (m + 99) a (at_of a +ℤ k) (offset_low m (at_of a) k small near_a.0)
    (offset_high m (at_of a) k small near_a.1)
IsWithin-result_of m (results.Keep Second k) a b small near_a near_b =
    IsWithin-placed (m + 99) a (at_of b +ℤ k) (offset_low m (at_of b) k small near_b.0)
    (offset_high m (at_of b) k small near_b.1)
IsWithin-result_of m results.Nop a b small near_a near_b = (omega (arith, ints), omega (arith, ints))

is_valid_res-valid : (chars : Bool) (one : GuardedCase) → is_valid_case chars one ≡ true → is_valid_res one.res ≡ true
is_valid_res-valid chars one valid =
    (and_parts (has_valid_atoms chars one.guard && nat_le (atoms_of one.guard) MAX_ATOMS
    && nat_le (nesting_of Loose one.guard) MAX_NESTING) (is_valid_res one.res) valid).1

-- the result of the first case that holds is at most 99 further on
IsWithin-first_result : (m : ℕ) (chars : Bool) (cases : List GuardedCase) (a b c : Op) → list_all (is_valid_case chars)
    cases ≡ true → IsWithin m a → IsWithin m b → first_result cases a b ≡ Some c → IsWithin (m + 99) c
IsWithin-first_result m chars [] a b c valid near_a near_b is = cc
IsWithin-first_result m chars (one ∷ others) a b c valid near_a near_b is =
    elim (cases_Bool (holds_of one.guard a b)) [
      | inl true_here ↦ (let is_result : Some (result_of one.res a b) ≡ Some c = rw true_here at is in
          let same : result_of one.res a b ≡ c = cc in
          subst (λ (o : Op). IsWithin (m + 99) o) same
          (IsWithin-result_of m one.res a b
          (is_valid_res-valid chars one
          ((and_parts (is_valid_case chars one) (list_all (is_valid_case chars) others) valid).0)) near_a near_b))
      | inr false_here ↦ IsWithin-first_result m chars others a b c
          ((and_parts (is_valid_case chars one) (list_all (is_valid_case chars) others) valid).1) near_a
          near_b (rw false_here at is)
    ]

-- so is what a transformation makes of an operation
IsWithin-by_kinds : (m : ℕ) (f : Function) (a b c : Op) (k l : Option Kind) → is_valid f ≡ true →
    IsWithin m a → IsWithin m b → transform_by_kinds f a b k l ≡ Some c → IsWithin (m + 99) c
IsWithin-by_kinds m f a b c None l valid near_a near_b is =
    let gone : Nop ≡ c = cc in
    subst (λ (o : Op). IsWithin (m + 99) o) gone (omega (arith, ints), omega (arith, ints))
IsWithin-by_kinds m f a b c (Some k) None valid near_a near_b is =
    let same : a ≡ c = cc in
    subst (λ (o : Op). IsWithin (m + 99) o) same (omega (arith, ints), omega (arith, ints))
IsWithin-by_kinds m f a b c (Some k) (Some l) valid near_a near_b is =
    IsWithin-first_result m (compares_chars k l) (cases_of f k l) a b c
    ((and_parts (nat_le (length (cases_of f k l)) MAX_CASES)
    (list_all (is_valid_case (compares_chars k l)) (cases_of f k l)) (are_valid_cases-valid f k l valid)).1)
    near_a near_b is

-- a position moves by at most 99 from one of the two positions
pub IsWithin-transform_of : (f : Function) (a b c : Op) (m : ℕ) → is_valid f ≡ true →
    IsWithin m a → IsWithin m b → transform_of f a b ≡ Some c → IsWithin (m + 99) c
IsWithin-transform_of f a b c m valid near_a near_b is =
    IsWithin-by_kinds m f a b c (kind_of a) (kind_of b) valid near_a near_b is
