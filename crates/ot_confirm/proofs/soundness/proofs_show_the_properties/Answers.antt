use Rattle.fn_rules.specs.declared.function.Level.TheVariants.{Tp1, Tp2}
use Rattle.ot_confirm.proofs.Showing.{proof_shows}
use Rattle.ot_confirm.proofs.soundness.proofs_show_the_properties.Goals as goal

pub returns-clause-tp1 : goal.returns-clause-tp1
returns-clause-tp1 c f bytes judged =
    c.pair_plans_mean_tp1.ensures.whole_shown f
    (proof_shows f (c.marked_plans_are_plans.ensures.obligations f) c.accepted_proofs_hold.ensures
    (c.starts_have_one_value.ensures f)
    (c.marked_plans_are_plans.ensures.whole f) Tp1
    (c.obligations_are_those_of_the_kinds.ensures.declared f.head Tp1) bytes judged)

pub returns-clause-tp2 : goal.returns-clause-tp2
returns-clause-tp2 c f bytes judged =
    c.triple_plans_mean_tp2.ensures.whole_shown f
    (proof_shows f (c.marked_plans_are_plans.ensures.obligations f) c.accepted_proofs_hold.ensures
    (c.starts_have_one_value.ensures f)
    (c.marked_plans_are_plans.ensures.whole f) Tp2
    (c.obligations_are_those_of_the_kinds.ensures.declared f.head Tp2) bytes judged)

pub returns-clause-one_outcome : goal.returns-clause-one_outcome
returns-clause-one_outcome c f bytes judged =
    let both = c.triple_plans_mean_tp2.ensures.whole_shown f
    (proof_shows f (c.marked_plans_are_plans.ensures.obligations f) c.accepted_proofs_hold.ensures
    (c.starts_have_one_value.ensures f)
    (c.marked_plans_are_plans.ensures.whole f) Tp2
    (c.obligations_are_those_of_the_kinds.ensures.declared f.head Tp2) bytes judged) in
    c.both_properties_give_one_outcome.ensures f both.0 both.1
