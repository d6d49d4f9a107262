use Rattle.std.proofs.Common.{◌≡◌, map, drop}
use Rattle.fn_rules.specs.Building.{block_of, cases_in}
use Rattle.fn_rules.proofs.rules.find_cases.Given as goal

abbrev pub invariant-loop-block : goal.invariant-loop-block
invariant-loop-block l =
    cases_in (map block_of (drop l.block-index l.blocks)) l.first l.second
    ≡ cases_in (map block_of l.blocks) l.first l.second
