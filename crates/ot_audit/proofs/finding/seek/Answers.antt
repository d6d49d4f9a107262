-- The answers at which the search stops are as the least values want them.
use Rattle.std.proofs.Common.{List, ap, sym, subst, ◌∙◌}
use Rattle.diff_graph.specs.declared.lit.Lit.{Lit}
use Rattle.fn_rules.specs.Rules.{function_of}
use Rattle.ask_core.specs.Plans.{Plan}
use Rattle.ot_prove.specs.declared.outcome.Answer.{Answer}
use Rattle.ot_prove.specs.Outcomes.{answered_by, IsDecided}
use Rattle.ot_questions.specs.declared.why.Why.{Why}
use Rattle.ot_terms.specs.Goals.{goal_tree}
use Rattle.ot_audit.proofs.Wanted.{AreWanted, stopped_wanted}
use Rattle.ot_audit.proofs.finding.seek.Goals as goal

-- the answers to the failing end are what the least values want
pub least_instance-requires : goal.least_instance-requires
least_instance-requires c =
    let law = c.answers_lead_to_ends.ensures in
    let decided =
    subst (λ (p : Plan Why). IsDecided p c.args.budget c.in_ok-prove.field-0) c.over-asker.ensures.root
    c.in_ok-prove.ensures.decides in
    let stopped =
    stopped_wanted c.plans_compare_like_with_like.ensures.answers law.few law.named
    law.small (function_of c.args.rules.now) c.args.first c.args.second (goal_tree c.args.goal.now) c.args.budget _
    c.in-No.answers c.in-No.why c.requires decided c.in-No.is in
    let wanted : AreWanted c.args.first c.args.second c.deref-in-No.result.now =
    subst (λ (w : List Lit). AreWanted c.args.first c.args.second w)
    (sym (c.deref-in-No.ensures.value ∙ c.in_ok-literals-in-No.ensures
    ∙ ap (λ (a : List Answer). answered_by a) c.deref.ensures.value)) stopped in
    record {
      like = wanted.like;
      named = wanted.named;
      small = wanted.small;
      few = wanted.few;
      possible = wanted.possible;
    }
