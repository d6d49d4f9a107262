use Rattle.fn_rules.specs.Rules.{function_of}
use Rattle.ot_paths.proofs.LaidTrials.{choosable, trials}
use Rattle.ot_paths.proofs.laying.trial.Goals as goal

pub next_case-requires : goal.next_case-requires
next_case-requires c =
    choosable (function_of c.args.rules.now) c.requires.0 c.args.case c.args.ops.now.a c.args.ops.now.b
    c.args.progress.now c.requires.1

pub returns : goal.returns
returns c =
    trials (function_of c.args.rules.now) c.requires.0 c.args.case c.args.ops.now.a c.args.ops.now.b c.args.progress.now
    c.requires.1 c.next_case.result c.next_case.ensures.tries c.next_case.ensures.near
