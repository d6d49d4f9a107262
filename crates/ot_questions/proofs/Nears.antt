-- Offsets stay small.
use Rattle.std.proofs.Common.{◌≡◌, ℕ, ◌+◌, ℤ, pos, negsuc, ◌+ℤ◌, ◌≤ℤ◌, Bool, true, false, ◌&&◌, IsTrue, nat_le, int_le}
use Rattle.std.proofs.Common.{List, [], ◌∷◌, length, arith, rules, refl, sym, subst, ◌≤◌}
use Rattle.std.specs.Ordering.{int_eq}
use Rattle.std.specs.List.{AllByRecursion, list_all}
use Rattle.std.proofs.lemmas.Int.{ints}
use Rattle.fn_rules.specs.declared.guard.Side.TheVariants.{First, Second}
use Rattle.fn_rules.specs.declared.guard.Sort.{Sort}
use Rattle.fn_rules.specs.declared.guard.Sort.TheVariants.{Pos, Site, Char}
use Rattle.fn_rules.specs.declared.function.Res.{Res}
use Rattle.fn_rules.specs.declared.function.Res.TheVariants as results
use Rattle.fn_rules.specs.Formulas.{Formula, Always, Compare, And, Or, Not}
use Rattle.fn_rules.specs.Functions.{GuardedCase}
use Rattle.fn_rules.specs.Validity.{is_offset, is_offset_for, has_valid_atoms, is_valid_res, is_valid_case}
use Rattle.fn_rules.specs.Validity.{are_valid_cases, atoms_of, nesting_of}
use Rattle.fn_rules.specs.declared.limits.TheConstants.{MAX_CASES, MAX_ATOMS, MAX_NESTING}
use Rattle.fn_rules.specs.declared.guard.Tightness.TheVariants.{Loose}
use Rattle.ot_questions.specs.declared.place.SymOp.{SymOp}
use Rattle.ot_questions.specs.declared.place.SymOp.TheVariants.{Ins, Del, Upd, Nop}
use Rattle.ot_questions.specs.Places.{sym_at, sym_thing, sym_result, offset_of}
use Rattle.ot_questions.specs.Nears.{IsNear, IsNearOp, HasNearAtoms, IsNearCase, IsResultOf}

pub both_true : (a b : Bool) → a && b ≡ true → (a ≡ true) × (b ≡ true)
both_true true b h = (refl, h)
both_true false b h = absurd (cc)

pub ≡-IsTrue : (b : Bool) → IsTrue b → b ≡ true
≡-IsTrue true h = refl
≡-IsTrue false h = absurd (search (h, rules))

int_le-true : (a b : ℤ) → int_le a b ≡ true → a ≤ℤ b
int_le-true a b h = grind (arith, ints)

pub IsNear-zero : (n : ℕ) → IsNear n (pos 0)
IsNear-zero n = record { low = omega (arith, ints); high = omega (arith, ints) }

-- what an atom compares is no farther than the operation's place
pub sym_thing_near : (n : ℕ) (sort : Sort) (o : SymOp) → IsNearOp n o → IsNear n (sym_thing sort o).off
sym_thing_near n Pos o near = near
sym_thing_near n Site (Ins p c s) near = IsNear-zero n
sym_thing_near n Site (Del p s) near = IsNear-zero n
sym_thing_near n Site (Upd p c s) near = IsNear-zero n
sym_thing_near n Site Nop near = IsNear-zero n
sym_thing_near n Char (Ins p c s) near = IsNear-zero n
sym_thing_near n Char (Del p s) near = IsNear-zero n
sym_thing_near n Char (Upd p c s) near = IsNear-zero n
sym_thing_near n Char Nop near = IsNear-zero n

IsNear-offset : (k : ℤ) → is_offset k ≡ true → IsNear 99 k
IsNear-offset k h =
    let e = both_true (int_le (negsuc 98) k) (int_le k (pos 99)) h in
    record { low = int_le-true (negsuc 98) k e.0; high = int_le-true k (pos 99) e.1 }

IsNear-same : (k : ℤ) → int_eq k (pos 0) ≡ true → IsNear 99 k
IsNear-same k h = record { low = grind (arith, ints); high = grind (arith, ints) }

pub IsNear-offset_for : (chars : Bool) (sort : Sort) (k : ℤ) → is_offset_for chars sort k ≡ true → IsNear 99 k
IsNear-offset_for chars Pos k h = IsNear-offset k h
IsNear-offset_for chars Site k h = IsNear-same k h
IsNear-offset_for chars Char k h = IsNear-same k (both_true chars (int_eq k (pos 0)) h).1

HasNearAtoms-valid : (chars : Bool) (g : Formula) → has_valid_atoms chars g ≡ true → HasNearAtoms g
HasNearAtoms-valid chars Always e = tt
HasNearAtoms-valid chars (Compare atom) e = IsNear-offset_for chars atom.sort atom.k e
HasNearAtoms-valid chars (And g h) e =
    let both = both_true (has_valid_atoms chars g) (has_valid_atoms chars h) e in
    (HasNearAtoms-valid chars g both.0, HasNearAtoms-valid chars h both.1)
HasNearAtoms-valid chars (Or g h) e =
    let both = both_true (has_valid_atoms chars g) (has_valid_atoms chars h) e in
    (HasNearAtoms-valid chars g both.0, HasNearAtoms-valid chars h both.1)
HasNearAtoms-valid chars (Not g) e = HasNearAtoms-valid chars g e

pub IsNear-res : (res : Res) → is_valid_res res ≡ true → IsNear 99 (offset_of res)
IsNear-res (results.Keep base k) h = IsNear-offset k h
IsNear-res results.Nop h = IsNear-zero 99

-- a case that may stand in a block has small offsets
IsNearCase-valid : (chars : Bool) (c : GuardedCase) → is_valid_case chars c ≡ true → IsNearCase c
IsNearCase-valid chars c e =
    let res = both_true (has_valid_atoms chars c.guard && nat_le (atoms_of c.guard) MAX_ATOMS
    && nat_le (nesting_of Loose c.guard) MAX_NESTING) (is_valid_res c.res) e in
    let most = both_true (has_valid_atoms chars c.guard && nat_le (atoms_of c.guard) MAX_ATOMS)
    (nat_le (nesting_of Loose c.guard) MAX_NESTING) res.0 in
    let atoms = both_true (has_valid_atoms chars c.guard) (nat_le (atoms_of c.guard) MAX_ATOMS) most.0 in
    (HasNearAtoms-valid chars c.guard atoms.0, IsNear-res c.res res.1)

-- what a test says of each element
AllByRecursion-list_all :
    {X : Type 0} (p : X → Bool) (P : X → Type 0) → ((x : X) → p x ≡ true → P x) → (xs : List X) → list_all p xs ≡ true
    → AllByRecursion P xs
AllByRecursion-list_all p P tells [] e = tt
AllByRecursion-list_all p P tells (x ∷ xs) e =
    let both = both_true (p x) (list_all p xs) e in (tells x both.0, AllByRecursion-list_all p P tells xs both.1)

pub AreNear-block : (chars : Bool) (cs : List GuardedCase) → are_valid_cases chars cs ≡ true
    → AllByRecursion IsNearCase cs
AreNear-block chars cs e =
    let both = both_true (nat_le (length cs) MAX_CASES) (list_all (is_valid_case chars) cs) e in
    AllByRecursion-list_all (is_valid_case chars) IsNearCase (IsNearCase-valid chars) cs both.1

pub IsNear-more : (m n : ℕ) (k : ℤ) → m ≤ n → IsNear m k → IsNear n k
IsNear-more m n k h near = record { low = omega (arith, ints); high = omega (arith, ints) }

pub IsNear-plus : (m n : ℕ) (j k : ℤ) → IsNear m j → IsNear n k → IsNear (m + n) (j +ℤ k)
IsNear-plus m n j k near other = record { low = omega (arith, ints); high = omega (arith, ints) }

-- what a result makes of an operation
is_result : (res : Res) (a b : SymOp) → IsNear 99 (offset_of res) → IsResultOf a b (sym_result res a b)
is_result (results.Keep First k) (Ins p c s) b near =
    record { near = λ n x y. IsNear-plus n 99 p.off k x near; kind = λ head h. h }
is_result (results.Keep First k) (Del p s) b near =
    record { near = λ n x y. IsNear-plus n 99 p.off k x near; kind = λ head h. h }
is_result (results.Keep First k) (Upd p c s) b near =
    record { near = λ n x y. IsNear-plus n 99 p.off k x near; kind = λ head h. h }
is_result (results.Keep First k) Nop b near = record { near = λ n x y. IsNear-zero (n + 99); kind = λ head h. h }
is_result (results.Keep Second k) (Ins p c s) b near =
    record { near = λ n x y. IsNear-plus n 99 (sym_at b).off k y near; kind = λ head h. h }
is_result (results.Keep Second k) (Del p s) b near =
    record { near = λ n x y. IsNear-plus n 99 (sym_at b).off k y near; kind = λ head h. h }
is_result (results.Keep Second k) (Upd p c s) b near =
    record { near = λ n x y. IsNear-plus n 99 (sym_at b).off k y near; kind = λ head h. h }
is_result (results.Keep Second k) Nop b near = record { near = λ n x y. IsNear-zero (n + 99); kind = λ head h. h }
is_result results.Nop a b near = record { near = λ n x y. IsNear-zero (n + 99); kind = λ head h. refl }

pub IsResultOf-value : (res : Res) (a b r : SymOp) → r ≡ sym_result res a b
    → IsNear 99 (offset_of res) → IsResultOf a b r
IsResultOf-value res a b r e near = subst (λ o. IsResultOf a b o) (sym e) (is_result res a b near)

-- nop, and the first operation itself, may come out of a transformation
pub IsResultOf-nop : (a b : SymOp) → IsResultOf a b Nop
IsResultOf-nop a b = record { near = λ n x y. IsNear-zero (n + 99); kind = λ head h. refl }

pub IsResultOf-same : (a b : SymOp) → IsResultOf a b a
IsResultOf-same a b = record { near = λ n x y. IsNear-more n (n + 99) _ (omega arith) x; kind = λ head h. h }
