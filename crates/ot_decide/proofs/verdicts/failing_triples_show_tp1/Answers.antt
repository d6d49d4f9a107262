use Rattle.std.proofs.Common.{Option, MatchOption, subst}
use Rattle.ask_core.specs.Questions.{FailingEnd}
use Rattle.ot_prove.specs.Outcomes.{FailsAt, HoldsEverywhere}
use Rattle.ot_questions.specs.declared.why.Why.{Why}
use Rattle.ot_decide.proofs.FirstTriples.{ListsShow, all_pairs_hold}
use Rattle.ot_decide.proofs.verdicts.failing_triples_show_tp1.Goals as goal

pub returns : goal.returns
returns c =
    let show : ListsShow =
    λ p q listed none.
    subst (λ (o : Option (FailingEnd Why)). MatchOption o (HoldsEverywhere p) (λ e. FailsAt p e)) none
    (c.question_lists_tell_where_plans_fail.ensures p q listed) in
    λ f lists k l m end asked first.
    c.pair_plans_mean_tp1.ensures.whole_shown f (all_pairs_hold show f k l m end lists asked first)
