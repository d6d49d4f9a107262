use Rattle.std.proofs.Common.{rules}
use Rattle.fn_rules.specs.Rules.{function_of}
use Rattle.ot_integrate.specs.Ends.{outcome_of}
use Rattle.ot_commands.proofs.OneEnd.{lacks_tp1}
use Rattle.ot_commands.proofs.found.is_broken_by.Goals as goal

pub returns : goal.returns
returns c =
    λ test. lacks_tp1 (function_of c.args.rules.now) c.args.doc.now c.args.a c.args.b
    (outcome_of c.in_ok-left.left) (outcome_of c.in_ok-right.right)
    (λ n o. (c.tests_decide_their_facts.ensures.enabled n o).1)
    c.in_ok-left.ensures.outcome c.in_ok-right.ensures.outcome
    (search rules) (search rules)
