use Rattle.std.proofs.Common.{map}
use Rattle.fn_rules.specs.Building.{block_of}
use Rattle.fn_rules.proofs.LimitsKept.{are_valid_cases-buildable}
use Rattle.fn_rules.proofs.rules.Rules.cases.Goals as goal

pub returns-clause-valid : goal.returns-clause-valid
returns-clause-valid c =
    rw (c.find_cases.ensures, c.deref.ensures.value)
    (are_valid_cases-buildable c.args.self.now.head (map block_of c.args.self.now.blocks.items) c.args.first
    c.args.second c.args.self.now.within_limits)
