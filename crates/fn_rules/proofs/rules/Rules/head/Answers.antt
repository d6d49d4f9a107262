use Rattle.std.proofs.Common.{map}
use Rattle.fn_rules.specs.Building.{block_of}
use Rattle.fn_rules.specs.Rules.{function_of}
use Rattle.fn_rules.proofs.LimitsKept.{is_valid-buildable}
use Rattle.fn_rules.proofs.rules.Rules.head.Goals as goal

pub returns-clause-valid : goal.returns-clause-valid
unfolding function_of
returns-clause-valid c =
    is_valid-buildable c.args.self.now.head (map block_of c.args.self.now.blocks.items) c.args.self.now.within_limits
