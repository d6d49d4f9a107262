use Rattle.std.proofs.Common.{◌≡◌, List, sym, subst, ap, ◌∙◌}
use Rattle.diff_graph.specs.declared.lit.Lit.{Lit}
use Rattle.fn_rules.specs.Rules.{function_of}
use Rattle.ask_core.specs.Leading.{LeadTo}
use Rattle.ot_prove.specs.declared.outcome.Answer.{Answer}
use Rattle.ot_prove.specs.Outcomes.{answered_by}
use Rattle.ot_prove.proofs.Leads.{literals_lead}
use Rattle.ot_questions.specs.Obligation.{plan_of}
use Rattle.ot_least.proofs.ending.ending_at.Goals as goal

pub cells_of-requires-clause-leads : goal.cells_of-requires-clause-leads
cells_of-requires-clause-leads c =
    let plan = plan_of (function_of c.args.rules.now) c.args.ob in
    let are : c.deref-2.result.now ≡ answered_by c.args.answers.items =
    c.deref-2.ensures.value ∙ c.in_ok-literals.ensures
    ∙ ap (λ (l : List Answer). answered_by l) c.deref.ensures.value in
    subst (λ (w : List Lit). LeadTo c.args.why plan w) (sym are)
    (literals_lead c.args.why plan c.args.answers.items c.requires.way)
