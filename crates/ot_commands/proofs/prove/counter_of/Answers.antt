-- The answers lead to the end, and so do the literals that they stand for.
use Rattle.std.proofs.Common.{List, sym, subst, ◌∙◌}
use Rattle.diff_graph.specs.declared.lit.Lit.{Lit}
use Rattle.fn_rules.specs.Rules.{function_of}
use Rattle.ask_core.specs.Leading.{LeadTo}
use Rattle.ot_questions.specs.Obligation.{plan_of}
use Rattle.ot_prove.proofs.Leads.{literals_lead}
use Rattle.ot_commands.proofs.prove.counter_of.Goals as goal

pub build-requires-clause-leads : goal.build-requires-clause-leads
build-requires-clause-leads c =
    let plan = plan_of (function_of c.args.rules.now) c.args.ob in
    subst (λ (w : List Lit). LeadTo c.args.why plan w) (sym (c.deref.ensures.value ∙ c.in_ok-literals.ensures))
    (literals_lead c.args.why plan c.args.answers.now c.requires.leads)
