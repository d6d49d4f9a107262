use Rattle.fn_rules.specs.declared.function.Level.TheVariants.{Tp1, Tp2}
use Rattle.fn_rules.specs.Obligations.{obligations_of}
use Rattle.ot_judge.proofs.Showing.{answers_hold}
use Rattle.ot_judge.proofs.soundness.certificates_show_the_properties.Goals as goal

pub returns-clause-tp1 : goal.returns-clause-tp1
returns-clause-tp1 c =
    λ bytes f certificate.
    c.pair_plans_mean_tp1.ensures.whole_shown f
    (answers_hold (c.fitting_trees_hold.ensures.whole) f (obligations_of f.head Tp1) certificate.0 certificate.1)

pub returns-clause-tp2 : goal.returns-clause-tp2
returns-clause-tp2 c =
    λ bytes f certificate.
    c.triple_plans_mean_tp2.ensures.whole_shown f
    (answers_hold (c.fitting_trees_hold.ensures.whole) f (obligations_of f.head Tp2) certificate.0 certificate.1)

pub returns-clause-one_outcome : goal.returns-clause-one_outcome
returns-clause-one_outcome c =
    λ bytes f certificate.
    let both = c.triple_plans_mean_tp2.ensures.whole_shown f
    (answers_hold (c.fitting_trees_hold.ensures.whole) f (obligations_of f.head Tp2) certificate.0 certificate.1) in
    c.both_properties_give_one_outcome.ensures f both.0 both.1
