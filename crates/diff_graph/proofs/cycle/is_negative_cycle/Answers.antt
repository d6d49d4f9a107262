use Rattle.std.proofs.Common.{arith, sym, ◌∙◌}
use Rattle.std.proofs.lemmas.Int.{ints}
use Rattle.diff_graph.specs.Cycles.{named_by}
use Rattle.diff_graph.proofs.Walks.{pick_verdict-named_by, open_verdict, high_verdict, negative_verdict}
use Rattle.diff_graph.proofs.Walks.{no_values_on_picks}
use Rattle.diff_graph.proofs.cycle.is_negative_cycle.Goals as goal

pub returns-then-not-chain_into_a_cycle-clause-verdict : goal.returns-then-not-chain_into_a_cycle-clause-verdict
returns-then-not-chain_into_a_cycle-clause-verdict c =
    sym (pick_verdict-named_by c.args.lits.now c.args.picks.now (cc)
    ∙ open_verdict (named_by c.args.lits.now c.args.picks.now) (cc))

pub returns-then-sum_of-ge0-clause-verdict : goal.returns-then-sum_of-ge0-clause-verdict
returns-then-sum_of-ge0-clause-verdict c =
    sym (pick_verdict-named_by c.args.lits.now c.args.picks.now (cc)
    ∙ high_verdict (named_by c.args.lits.now c.args.picks.now) (cc) (grind (arith, ints)))

pub returns-clause-verdict : goal.returns-clause-verdict
returns-clause-verdict c =
    sym (pick_verdict-named_by c.args.lits.now c.args.picks.now (cc)
    ∙ negative_verdict (named_by c.args.lits.now c.args.picks.now) (cc) (grind (arith, ints)))

pub returns-clause-sound : goal.returns-clause-sound
returns-clause-sound c ok v met = no_values_on_picks v _ _ (sym (returns-clause-verdict c)) met
