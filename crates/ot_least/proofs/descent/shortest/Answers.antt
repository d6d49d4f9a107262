-- The first search: both properties hold, or one is broken.
use Rattle.std.proofs.Common.{sym, ap, subst, ◌∙◌}
use Rattle.fn_rules.specs.declared.function.Level.TheVariants.{Tp2}
use Rattle.fn_rules.specs.declared.function.ObName.{ObName}
use Rattle.fn_rules.specs.Obligations.{level_of, obligations_of}
use Rattle.fn_rules.specs.Rules.{function_of}
use Rattle.ask_core.specs.Questions.{FailingEnd}
use Rattle.ot_prove.specs.Outcomes.{answered_by}
use Rattle.ot_questions.specs.declared.why.Why.{Why}
use Rattle.ot_decide.specs.declared.verdict.Verdict.{Verdict}
use Rattle.ot_decide.specs.Verdicts.{IsDecidedAs}
use Rattle.ot_least.proofs.Descents.{answers_hold, breaks_at, broken_at, first_holds}
use Rattle.ot_least.proofs.descent.shortest.Goals as goal

pub returns-in-Yes-clause-holds : goal.returns-in-Yes-clause-holds
returns-in-Yes-clause-holds c =
    let f = function_of c.args.rules.now in
    let decided = subst (λ (v : Verdict). IsDecidedAs f Tp2 c.args.budget v) c.in-Yes.is
    c.in_ok-prove_all.ensures.decides in
    let proof = decided.2.2 in
    c.triple_plans_mean_tp2.ensures.whole_shown f
    (answers_hold c.fitting_trees_hold.ensures.whole f (obligations_of f.head Tp2) proof.trees proof.fit)

-- the property of the first failing end is broken
pub descend_from-requires-clause-broken : goal.descend_from-requires-clause-broken
descend_from-requires-clause-broken c =
    let f = function_of c.args.rules.now in
    let end = c.in_ok-end-in-No.end in
    let decided = subst (λ (v : Verdict). IsDecidedAs f Tp2 c.args.budget v) c.in-No.is
    c.in_ok-prove_all.ensures.decides in
    let failing : FailingEnd Why = record { answers = answered_by c.in-No.answers.items; why = c.in-No.why } in
    broken_at f (level_of end.ob) end.cells
    (λ second.
    first_holds f decided.0 c.in-No.ob failing
    (λ k l m. c.failing_triples_show_tp1.ensures f decided.0 k l m failing)
    decided.1 decided.2.1.first (ap (λ (o : ObName). level_of o) (sym c.in_ok-end-in-No.ensures.ob) ∙ second))
    (breaks_at f (λ ob why w cells. c.failing_ends_break_at_their_length.ensures.instance f ob why w cells
    c.rules_are_valid.ensures) end c.in_ok-end-in-No.ensures.ending)
