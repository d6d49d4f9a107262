-- Blocks as plain data, the function that a head and blocks stand for, and which of them stand for one
-- within the limits.
use Rattle.std.specs.Prelude.{Bool, ◌&&◌, if◌then◌else◌, nat_eq, List, [], ◌∷◌, map, count_by}
use Rattle.ot_model.specs.declared.op.Kind.{Kind}
use Rattle.ot_model.specs.Kinds.{is_same_kind, each_pair}
use Rattle.fn_rules.specs.declared.function.Block.{Block}
use Rattle.fn_rules.specs.declared.function.Head.{Head}
use Rattle.fn_rules.specs.Functions.{Function, GuardedCase, case_of, is_declared_pair}
use Rattle.fn_rules.specs.Validity.{is_valid}

-- the cases for an ordered pair of kinds
pub record PairCases : Type 0 where
  pub first : Kind
  pub second : Kind
  pub cases : List GuardedCase

-- the plain data that a block stands for
abbrev pub block_of : Block → PairCases
block_of block = record { first = block.first; second = block.second; cases = map case_of block.cases.items }

-- the block is for this pair of kinds
abbrev pub is_for : Kind → Kind → PairCases → Bool
is_for k l block = is_same_kind block.first k && is_same_kind block.second l

-- the cases of the first block for a pair of kinds, none where there is no such block
abbrev pub cases_in : List PairCases → Kind → Kind → List GuardedCase
cases_in [] k l = []
cases_in (block ∷ others) k l = if is_for k l block then block.cases else cases_in others k l

-- the function that a head and blocks stand for
abbrev pub function_from : Head → List PairCases → Function
function_from head blocks = record { head = head; cases = cases_in blocks }

-- there is one block for the pair if it is declared, and otherwise none
abbrev pub has_own_block : Head → List PairCases → Kind → Kind → Bool
has_own_block head blocks k l = nat_eq (count_by (is_for k l) blocks) (if is_declared_pair head k l then 1 else 0)

-- there is one block for each ordered pair of declared kinds, and no other
abbrev pub has_own_blocks : Head → List PairCases → Bool
has_own_blocks head blocks = each_pair (has_own_block head blocks)

-- a head and blocks that make a function within the limits
abbrev pub is_buildable : Head → List PairCases → Bool
is_buildable head blocks = has_own_blocks head blocks && is_valid (function_from head blocks)
