use Rattle.std.proofs.lemmas.Result.{IfOk-weaker}
use Rattle.fn_rules.specs.Rules.{function_of}
use Rattle.ot_rewrite.specs.Steps.{front_tree}
use Rattle.ot_rewrite.proofs.Ready.{ready}
use Rattle.ot_rewrite.proofs.Stepped.{step_kept}
use Rattle.ot_rewrite.proofs.stepping.step_front.Goals as goal

pub rewrite-requires : goal.rewrite-requires
rewrite-requires c = ready (function_of c.args.rules.now) c.requires.0 (front_tree c.args.front) c.requires.1

pub returns : goal.returns
returns c =
    IfOk-weaker c.rewrite.result _ _
    (step_kept (function_of c.args.rules.now) c.requires.0 c.rules_are_valid.ensures (front_tree c.args.front)
    c.requires.1 front_tree) c.rewrite.ensures
