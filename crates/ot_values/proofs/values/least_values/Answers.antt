use Rattle.ot_values.proofs.values.least_values.Goals as goal

pub returns-clause-small : goal.returns-clause-small
returns-clause-small c =
    λ who. c.answers_have_least_values.ensures.small c.args.ob c.args.answers.now c.in_ok-values.values.items who
    c.requires.like c.in_ok-values.ensures
