-- The function of a generated workload: `ttf`, with cases that are never wanted.
use Rattle.std.specs.Prelude.{ℕ, zero, suc, pos, negsuc, List, [], ◌∷◌, ◌++◌, length, map, sum, if◌then◌else◌}
use Rattle.ot_model.specs.declared.op.Kind.{Kind}
use Rattle.ot_model.specs.declared.op.Kind.TheVariants.{Ins, Del}
use Rattle.ot_model.specs.declared.op.TheConstants.{KINDS}
use Rattle.ot_model.specs.declared.op.Mode.TheVariants.{Tomb}
use Rattle.fn_rules.specs.declared.guard.Cmp.TheVariants.{Lt}
use Rattle.fn_rules.specs.Functions.{Function, GuardedCase, cases_of, is_declared_pair}
use Rattle.fn_rules.specs.Building.{PairCases, function_from}
use Rattle.fn_rules.specs.Shipped.{p1_to_p2, p1_plus, when, block, by_sites, smaller_stays, moved_up, stays}

-- of two insertions: one that stands more than so many cells in front of the other stays, then one that stands more
-- than one cell less in front of it, and so on down to more than one
abbrev pub further_cases : ℕ → List GuardedCase
further_cases zero = []
further_cases (suc k) = when (p1_to_p2 Lt (negsuc k)) (p1_plus (pos 0)) ∷ further_cases k

-- the blocks of `ttf`, with further cases at the front of the first
abbrev pub drill_blocks : ℕ → List PairCases
drill_blocks n =
    block Ins Ins (further_cases n ++ smaller_stays) ∷ block Ins Del stays ∷ block Del Ins moved_up
    ∷ block Del Del stays ∷ []

-- `ttf` with so many cases more, each of which the case behind them implies
abbrev pub drill_function : ℕ → Function
drill_function n = function_from (by_sites Tomb) (drill_blocks n)

-- how many cases a function has for a pair of kinds, which are of account where both are declared
abbrev pub cases_for : Function → Kind → Kind → ℕ
cases_for f k l = if is_declared_pair f.head k l then length (cases_of f k l) else 0

-- how many it has for pairs with this first kind
abbrev pub cases_with : Function → Kind → ℕ
cases_with f k = sum (map (cases_for f k) KINDS)

-- how many it has
abbrev pub case_count : Function → ℕ
case_count f = sum (map (cases_with f) KINDS)
