use Rattle.std.proofs.Common.{map}
use Rattle.fn_rules.specs.Building.{block_of}
use Rattle.fn_rules.specs.Rules.{function_of}
use Rattle.fn_rules.proofs.LimitsKept.{is_valid-buildable}
use Rattle.fn_rules.proofs.laws.rules_are_valid.Goals as goal

pub returns : goal.returns
unfolding function_of
returns c =
    is_valid-buildable c.args.rules.now.head (map block_of c.args.rules.now.blocks.items) c.args.rules.now.within_limits
