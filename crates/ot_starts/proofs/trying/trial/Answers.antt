use Rattle.fn_rules.specs.Rules.{function_of}
use Rattle.ot_terms.specs.Goals.{Choose}
use Rattle.ot_starts.proofs.Trials.{trials}
use Rattle.ot_starts.proofs.trying.trial.Goals as goal

pub returns : goal.returns
returns c =
    let f = function_of c.args.rules.now in
    let old = Choose c.args.case c.args.ops.now.a c.args.ops.now.b c.args.plan.now in
    let is_goal = c.requires.goal.1 in
    let valid = c.rules_are_valid.ensures in
    trials f old c.args.ops.now.a c.args.ops.now.b
    (λ g rule. c.rules_keep_starts.ensures.kept f c.requires.goal.0 old g valid is_goal rule c.requires.later)
    (λ other g of rule. c.rules_keep_what_is_asked.ensures.belongs f other old g valid of rule)
    (λ g rule. c.rules_keep_what_is_asked.ensures.lighter f c.requires.goal.0 old g valid is_goal rule)
    c.trial.result c.trial.ensures
