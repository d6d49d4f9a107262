-- How many atoms the blocks of a function have.
use Rattle.std.proofs.Common.{◌≡◌, ◌+◌, ◌*◌, ◌≤◌, Bool, true, List, [], ◌∷◌, length, nat_le, subst, arith}
use Rattle.std.specs.List.{list_all}
use Rattle.std.proofs.lemmas.Bool.{and_parts}
use Rattle.std.proofs.lemmas.List.Sums.{sum_by-cons, get_or-le-sum_by}
use Rattle.ot_model.specs.declared.op.Kind.{Kind}
use Rattle.ot_model.specs.Kinds.{kind_pairs}
use Rattle.ot_model.proofs.KindRows.{Contains-pair}
use Rattle.fn_rules.specs.declared.limits.TheConstants.{MAX_CASES}
use Rattle.fn_rules.specs.Formulas.{Formula, Always, Compare, And, Or, Not}
use Rattle.fn_rules.specs.Functions.{Function, GuardedCase, cases_of}
use Rattle.fn_rules.specs.Validity.{atoms_of, is_valid_case, compares_chars, is_valid}
use Rattle.fn_rules.specs.Atoms.{guard_atoms, block_atoms, function_atoms}
use Rattle.fn_rules.proofs.LimitsKept.{are_valid_cases-valid, nat_le-true, case_parts}

-- no block has more than the function
pub block_atoms-function : (f : Function) (k l : Kind) → block_atoms (cases_of f k l) ≤ function_atoms f
block_atoms-function f k l =
    let listed = Contains-pair k l in
    subst (λ (kinds : Kind × Kind). block_atoms (cases_of f kinds.0 kinds.1) ≤ function_atoms f) listed.2
    (get_or-le-sum_by (λ (kinds : Kind × Kind). block_atoms (cases_of f kinds.0 kinds.1)) kind_pairs
    listed.0 (k, l) listed.1)

-- those of the first case and those of the others
pub block_atoms-cons :
    (c : GuardedCase) (cs : List GuardedCase) → block_atoms (c ∷ cs) ≡ guard_atoms c.guard + block_atoms cs
block_atoms-cons c cs = sum_by-cons (λ (d : GuardedCase). guard_atoms d.guard) c cs

-- `true` counts for the limit of a case alone
guard_atoms-atoms_of : (g : Formula) → guard_atoms g ≤ atoms_of g
guard_atoms-atoms_of Always = omega arith
guard_atoms-atoms_of (Compare atom) = omega arith
guard_atoms-atoms_of (And g h) = omega (arith, guard_atoms-atoms_of g, guard_atoms-atoms_of h)
guard_atoms-atoms_of (Or g h) = omega (arith, guard_atoms-atoms_of g, guard_atoms-atoms_of h)
guard_atoms-atoms_of (Not g) = guard_atoms-atoms_of g

guard_atoms-valid : (chars : Bool) (c : GuardedCase) → is_valid_case chars c ≡ true → guard_atoms c.guard ≤ 16
guard_atoms-valid chars c valid = let most = (case_parts chars c valid).1 in omega (arith, guard_atoms-atoms_of c.guard)

block_atoms-length :
    (chars : Bool) (cs : List GuardedCase) → list_all (is_valid_case chars) cs ≡ true → block_atoms cs ≤ 16 * length cs
block_atoms-length chars [] valid = omega arith
block_atoms-length chars (c ∷ cs) valid =
    let both = and_parts (is_valid_case chars c) (list_all (is_valid_case chars) cs) valid in
    omega (arith, block_atoms-cons c cs, guard_atoms-valid chars c both.0, block_atoms-length chars cs both.1)

-- a block has at most 64 cases of 16 atoms
pub block_atoms-valid : (f : Function) (k l : Kind) → is_valid f ≡ true → block_atoms (cases_of f k l) ≤ 1024
block_atoms-valid f k l valid =
    let both = and_parts (nat_le (length (cases_of f k l)) MAX_CASES)
    (list_all (is_valid_case (compares_chars k l)) (cases_of f k l)) (are_valid_cases-valid f k l valid) in
    let few = nat_le-true (length (cases_of f k l)) 64 both.0 in
    omega (arith, block_atoms-length (compares_chars k l) (cases_of f k l) both.1)
