-- What a function within the limits knows of its cases.
use Rattle.std.proofs.Common.{◌≡◌, ℕ, ◌<◌, ◌≤◌, Bool, true, false, ◌&&◌, ◌||◌, List, [], ◌∷◌, length, get_or, map, refl}
use Rattle.std.proofs.Common.{subst, inl, inr, arith, eqb-true}
use Rattle.std.specs.List.{list_all, list_any}
use Rattle.std.proofs.lemmas.List.Folds.{list_all_at, list_all-map}
use Rattle.std.proofs.lemmas.Bool.{or_cases, cases_Bool, and_parts}
use Rattle.std.proofs.lemmas.Bool.Decides.{nat_tests}
use Rattle.std.specs.Prelude.{ℤ, pos, nat_le, nat_eq}
use Rattle.std.specs.Ordering.{int_eq}
use Rattle.ot_model.specs.declared.op.Kind.{Kind}
use Rattle.ot_model.specs.declared.op.TheConstants.{KINDS}
use Rattle.ot_model.specs.declared.op.Op.{Op}
use Rattle.ot_model.specs.Kinds.{each_pair}
use Rattle.ot_model.proofs.KindRows.{Contains-kind}
use Rattle.fn_rules.specs.declared.guard.Sort.{Sort}
use Rattle.fn_rules.specs.declared.guard.Sort.TheVariants as sorts
use Rattle.fn_rules.specs.declared.function.Case.{Case}
use Rattle.fn_rules.specs.declared.function.Head.{Head}
use Rattle.fn_rules.specs.declared.limits.TheConstants.{MAX_CASES, MAX_ATOMS, MAX_NESTING}
use Rattle.fn_rules.specs.Formulas.{Formula, Always, Compare, And, Or, Not}
use Rattle.fn_rules.specs.Functions.{Function, GuardedCase, case_of, cases_of, is_declared, is_declared_pair}
use Rattle.fn_rules.specs.Validity.{is_offset_for, has_valid_atoms, atoms_of, nesting_of, is_valid_res, is_valid_case}
use Rattle.fn_rules.specs.Validity.{are_valid_cases, compares_chars, is_valid_block, is_valid}
use Rattle.fn_rules.specs.Building.{PairCases, cases_in, function_from, has_own_blocks, is_buildable}
use Rattle.fn_rules.specs.Conditions.{is_char, has_char_atoms, both_have_chars, IsReadyFor}
use Rattle.fn_rules.specs.declared.guard.Tightness.TheVariants.{Loose}

-- what all of a list pass, each of it passes
pub each_true : {X : Type 0} (p : X → Bool) (xs : List X) (i : ℕ) (d : X) → list_all p xs ≡ true → i < length xs
    → p (get_or xs i d) ≡ true
each_true p xs i d all below =
    elim (cases_Bool (p (get_or xs i d)))
    [ inl true_here ↦ true_here | inr false_here ↦ cc (list_all_at p xs i d below false_here) ]

-- what all kinds pass, each of them passes
each_kind_true : (p : Kind → Bool) (k : Kind) → list_all p KINDS ≡ true → p k ≡ true
each_kind_true p k all =
    let listed = Contains-kind k in
    subst (λ (x : Kind). p x ≡ true) listed.2 (each_true p KINDS listed.0 k all listed.1)

-- what all pairs of kinds pass, each of them passes
pub each_pair_true : (p : Kind → Kind → Bool) (k l : Kind) → each_pair p ≡ true → p k l ≡ true
each_pair_true p k l all = each_kind_true (p k) l (each_kind_true (λ x. list_all (p x) KINDS) k all)

-- the block of any two kinds of a valid function is valid
pub is_valid_block-valid : (f : Function) (k l : Kind) → is_valid f ≡ true → is_valid_block f k l ≡ true
is_valid_block-valid f k l valid =
    each_pair_true (is_valid_block f) k l
    (and_parts (list_any (is_declared f.head) KINDS) (each_pair (is_valid_block f)) valid).1

-- the cases of a valid function may stand in their block
pub are_valid_cases-valid : (f : Function) (k l : Kind) → is_valid f ≡ true
    → are_valid_cases (compares_chars k l) (cases_of f k l) ≡ true
are_valid_cases-valid f k l valid =
    (and_parts (are_valid_cases (compares_chars k l) (cases_of f k l))
    (is_declared_pair f.head k l || nat_eq (length (cases_of f k l)) 0) (is_valid_block-valid f k l valid)).0

no_members : {X : Type 0} (xs : List X) → length xs ≡ 0 → xs ≡ []
no_members [] none = refl
no_members (x ∷ xs) none = absurd (omega arith)

-- a valid function has no cases for a pair that is not declared
pub cases_of-undeclared : (f : Function) (k l : Kind) → is_valid f ≡ true
    → is_declared_pair f.head k l ≡ false → cases_of f k l ≡ []
cases_of-undeclared f k l valid undeclared =
    let parts = and_parts (are_valid_cases (compares_chars k l) (cases_of f k l))
    (is_declared_pair f.head k l || nat_eq (length (cases_of f k l)) 0) (is_valid_block-valid f k l valid) in
    let none : nat_eq (length (cases_of f k l)) 0 ≡ true = rw undeclared at parts.1 in
    no_members (cases_of f k l) (eqb-true (length (cases_of f k l)) 0 none)

-- the function of blocks that build one is valid
pub is_valid-buildable : (head : Head) (blocks : List PairCases) → is_buildable head blocks ≡ true
    → is_valid (function_from head blocks) ≡ true
is_valid-buildable head blocks buildable =
    (and_parts (has_own_blocks head blocks) (is_valid (function_from head blocks)) buildable).1

-- the cases of blocks that build a function may stand in their block
pub are_valid_cases-buildable : (head : Head) (blocks : List PairCases) (k l : Kind) → is_buildable head blocks ≡ true →
    are_valid_cases (compares_chars k l) (cases_in blocks k l) ≡ true
are_valid_cases-buildable head blocks k l buildable =
    are_valid_cases-valid (function_from head blocks) k l (is_valid-buildable head blocks buildable)

-- each of valid cases is valid
pub is_valid_case-at : (chars : Bool) (cases : List Case) (i : ℕ) (d : Case) → are_valid_cases chars (map case_of cases)
    ≡ true → i < length cases → is_valid_case chars (case_of (get_or cases i d)) ≡ true
is_valid_case-at chars cases i d valid below =
    each_true (λ c. is_valid_case chars (case_of c)) cases i d
    (rw list_all-map at ((and_parts (nat_le (length (map case_of cases)) MAX_CASES)
    (list_all (is_valid_case chars) (map case_of cases)) valid).1)) below

-- an atom over characters needs leave to compare them
chars_in_atom : (chars : Bool) (sort : Sort) (k : ℤ) → is_offset_for chars sort k ≡ true
    → is_char sort ≡ true → chars ≡ true
chars_in_atom chars sorts.Pos k valid here = cc
chars_in_atom chars sorts.Site k valid here = cc
chars_in_atom chars sorts.Char k valid here = (and_parts chars (int_eq k (pos 0)) valid).0

-- a valid guard compares characters only where it may
pub may_compare : (chars : Bool) (g : Formula) → has_valid_atoms chars g ≡ true → has_char_atoms g ≡ true → chars ≡ true
may_compare chars Always valid here = cc
may_compare chars (Compare atom) valid here = chars_in_atom chars atom.sort atom.k valid here
may_compare chars (And g h) valid here =
    elim (or_cases (has_char_atoms g) (has_char_atoms h) here) [
      | inl in_g ↦ may_compare chars g ((and_parts (has_valid_atoms chars g) (has_valid_atoms chars h) valid).0) in_g
      | inr in_h ↦ may_compare chars h ((and_parts (has_valid_atoms chars g) (has_valid_atoms chars h) valid).1) in_h
    ]
may_compare chars (Or g h) valid here =
    elim (or_cases (has_char_atoms g) (has_char_atoms h) here) [
      | inl in_g ↦ may_compare chars g ((and_parts (has_valid_atoms chars g) (has_valid_atoms chars h) valid).0) in_g
      | inr in_h ↦ may_compare chars h ((and_parts (has_valid_atoms chars g) (has_valid_atoms chars h) valid).1) in_h
    ]
may_compare chars (Not g) valid here = may_compare chars g valid here

pub nat_le-true : (x y : ℕ) → nat_le x y ≡ true → x ≤ y
nat_le-true x y e = grind (arith, nat_tests)

-- what validity says of a case
pub case_parts :
    (chars : Bool) (c : GuardedCase) → is_valid_case chars c ≡ true
    → (has_valid_atoms chars c.guard ≡ true) × (atoms_of c.guard ≤ 16) × (is_valid_res c.res ≡ true)
case_parts chars c e =
    let atoms = has_valid_atoms chars c.guard in
    let few = nat_le (atoms_of c.guard) MAX_ATOMS in
    let flat = nat_le (nesting_of Loose c.guard) MAX_NESTING in
    let res = and_parts (atoms && few && flat) (is_valid_res c.res) e in
    let both = and_parts atoms few (and_parts (atoms && few) flat res.0).0 in
    (both.0, nat_le-true (atoms_of c.guard) 16 both.1, res.1)

-- a valid case compares characters only where its block may
pub may_compare-case : (chars : Bool) (c : GuardedCase) → is_valid_case chars c ≡ true
    → has_char_atoms c.guard ≡ true → chars ≡ true
may_compare-case chars c valid = may_compare chars c.guard (case_parts chars c valid).0

-- the guard of a valid case may be judged at operations that have what it compares
pub IsReadyFor-valid : (c : GuardedCase) (a b : Op)
    → is_valid_case (both_have_chars a b) c ≡ true → IsReadyFor c.guard a b
IsReadyFor-valid c a b valid = may_compare-case (both_have_chars a b) c valid
