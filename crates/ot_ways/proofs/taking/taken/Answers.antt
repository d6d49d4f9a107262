use Rattle.fn_rules.specs.Rules.{function_of}
use Rattle.ot_ways.proofs.FirstCases.{told_some, told_none}
use Rattle.ot_ways.proofs.taking.taken.Goals as goal

pub returns-clause-some : goal.returns-clause-some
returns-clause-some c =
    told_some (function_of c.args.rules.now) c.args.a.now c.args.b.now c.taken_case.result c.taken_case.ensures

pub returns-clause-none : goal.returns-clause-none
returns-clause-none c =
    told_none (function_of c.args.rules.now) c.args.a.now c.args.b.now c.taken_case.result c.taken_case.ensures
