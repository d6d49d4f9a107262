-- The counterexample breaks the property, so both ways of it can be gone.
use Rattle.fn_rules.specs.Rules.{function_of}
use Rattle.ot_prove.specs.Outcomes.{answered_by}
use Rattle.ot_questions.specs.Obligation.{plan_of}
use Rattle.ot_prove.proofs.Leads.{literals_lead}
use Rattle.ot_commands.proofs.explain.breaks.Goals as goal

pub write_explained-requires : goal.write_explained-requires
write_explained-requires c =
    let f = function_of c.args.rules.now in
    let ob = c.args.ob in
    let is = c.in_ok-counter.ensures in
    let leads = literals_lead c.args.why (plan_of f ob) c.args.answers.now c.requires.leads in
    rw (is.read.level, is.read.doc, is.read.ops)
    (c.failing_ends_have_counterexamples.ensures.broken f ob (answered_by c.args.answers.now) c.args.why is.values
    c.rules_are_valid.ensures c.requires.declared leads is.least)
