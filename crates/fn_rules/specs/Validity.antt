-- Which functions are within the limits: tests that compute.
use Rattle.std.specs.Prelude.{ℕ, ◌+◌, ℤ, pos, neg_ℤ, Bool, true, ◌&&◌, ◌||◌, max, nat_le, nat_eq, int_le, List, length}
use Rattle.std.specs.List.{list_all, list_any}
use Rattle.std.specs.Ordering.{int_eq}
use Rattle.ot_model.specs.declared.op.Kind.{Kind}
use Rattle.ot_model.specs.declared.op.TheConstants.{KINDS}
use Rattle.ot_model.specs.Kinds.{has_char, each_pair}
use Rattle.fn_rules.specs.declared.guard.Sort.{Sort}
use Rattle.fn_rules.specs.declared.guard.Sort.TheVariants.{Pos, Site, Char}
use Rattle.fn_rules.specs.declared.guard.Tightness.{Tightness}
use Rattle.fn_rules.specs.declared.guard.Tightness.TheVariants.{Loose, Joined, Tight}
use Rattle.fn_rules.specs.declared.function.Res.{Res}
use Rattle.fn_rules.specs.declared.function.Res.TheVariants as results
use Rattle.fn_rules.specs.declared.limits.TheConstants.{MAX_CASES, MAX_ATOMS, MAX_NESTING, MAX_OFFSET}
use Rattle.fn_rules.specs.Formulas.{Formula, Always, Compare, And, Or, Not}
use Rattle.fn_rules.specs.Functions.{Function, GuardedCase, cases_of, is_declared, is_declared_pair}

-- an offset that a function may use
abbrev pub is_offset : ℤ → Bool
is_offset k = int_le (neg_ℤ MAX_OFFSET) k && int_le k MAX_OFFSET

-- an offset that an atom over these things may have, in a block that may compare characters or may not
abbrev pub is_offset_for : Bool → Sort → ℤ → Bool
is_offset_for chars Pos k = is_offset k
is_offset_for chars Site k = int_eq k (pos 0)
is_offset_for chars Char k = chars && int_eq k (pos 0)

-- each atom of the guard has such an offset
abbrev pub has_valid_atoms : Bool → Formula → Bool
has_valid_atoms chars Always = true
has_valid_atoms chars (Compare atom) = is_offset_for chars atom.sort atom.k
has_valid_atoms chars (And g h) = has_valid_atoms chars g && has_valid_atoms chars h
has_valid_atoms chars (Or g h) = has_valid_atoms chars g && has_valid_atoms chars h
has_valid_atoms chars (Not g) = has_valid_atoms chars g

-- the atoms of a guard and its `true`, counted together
abbrev pub atoms_of : Formula → ℕ
atoms_of Always = 1
atoms_of (Compare atom) = 1
atoms_of (And g h) = atoms_of g + atoms_of h
atoms_of (Or g h) = atoms_of g + atoms_of h
atoms_of (Not g) = atoms_of g

-- the pairs of parentheses that an `or` needs at a place
abbrev pub parentheses_of_or : Tightness → ℕ
parentheses_of_or Loose = 0
parentheses_of_or Joined = 1
parentheses_of_or Tight = 1

-- the pairs of parentheses that an `and` needs at a place
abbrev pub parentheses_of_and : Tightness → ℕ
parentheses_of_and Loose = 0
parentheses_of_and Joined = 0
parentheses_of_and Tight = 1

-- the greatest number of `(` and `not` that stand around one place of the guard's canonical print,
-- where the guard stands at a place of that tightness
abbrev pub nesting_of : Tightness → Formula → ℕ
nesting_of at Always = 0
nesting_of at (Compare atom) = 0
nesting_of at (And g h) = parentheses_of_and at + max (nesting_of Joined g) (nesting_of Tight h)
nesting_of at (Or g h) = parentheses_of_or at + max (nesting_of Loose g) (nesting_of Joined h)
nesting_of at (Not g) = 1 + nesting_of Tight g

-- a result's offset may be used
abbrev pub is_valid_res : Res → Bool
is_valid_res (results.Keep base k) = is_offset k
is_valid_res results.Nop = true

-- a case that may stand in a block that may compare characters or may not
abbrev pub is_valid_case : Bool → GuardedCase → Bool
is_valid_case chars c =
    has_valid_atoms chars c.guard && nat_le (atoms_of c.guard) MAX_ATOMS && nat_le (nesting_of Loose c.guard)
    MAX_NESTING && is_valid_res c.res

-- the cases of a block: not too many, and each may stand there
abbrev pub are_valid_cases : Bool → List GuardedCase → Bool
are_valid_cases chars cs = nat_le (length cs) MAX_CASES && list_all (is_valid_case chars) cs

-- a block may compare characters where both kinds have one
abbrev pub compares_chars : Kind → Kind → Bool
compares_chars k l = has_char k && has_char l

-- the function's cases for a pair of kinds: valid, and none where the pair is not declared
abbrev pub is_valid_block : Function → Kind → Kind → Bool
is_valid_block f k l =
    are_valid_cases (compares_chars k l) (cases_of f k l) &&
    (is_declared_pair f.head k l || nat_eq (length (cases_of f k l)) 0)

-- a function within the limits, for operations of at least one kind
abbrev pub is_valid : Function → Bool
is_valid f = list_any (is_declared f.head) KINDS && each_pair (is_valid_block f)
