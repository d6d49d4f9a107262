use Rattle.std.proofs.Common.{◌≡◌, map, take}
use Rattle.fn_rules.specs.Building.{block_of}
use Rattle.fn_rules.proofs.rules.copy_blocks.Given as goal

abbrev pub invariant-loop-block : goal.invariant-loop-block
invariant-loop-block l = map block_of l.copy.items ≡ map block_of (take l.block-index l.blocks)
