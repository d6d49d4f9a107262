-- How many atoms a function has: the comparisons in its guards.
use Rattle.std.specs.Prelude.{ℕ, ◌+◌, List}
use Rattle.std.specs.List.{sum_by}
use Rattle.ot_model.specs.Kinds.{kind_pairs}
use Rattle.fn_rules.specs.Formulas.{Formula, Always, Compare, And, Or, Not}
use Rattle.fn_rules.specs.Functions.{Function, GuardedCase, cases_of}

-- the atoms of a guard; `true` is none
abbrev pub guard_atoms : Formula → ℕ
guard_atoms Always = 0
guard_atoms (Compare atom) = 1
guard_atoms (And g h) = guard_atoms g + guard_atoms h
guard_atoms (Or g h) = guard_atoms g + guard_atoms h
guard_atoms (Not g) = guard_atoms g

-- the atoms of the guards of a block's cases
abbrev pub block_atoms : List GuardedCase → ℕ
block_atoms cs = sum_by (λ c. guard_atoms c.guard) cs

-- the atoms of all guards of all cases of all blocks of the function
abbrev pub function_atoms : Function → ℕ
function_atoms f = sum_by (λ kinds. block_atoms (cases_of f kinds.0 kinds.1)) kind_pairs
