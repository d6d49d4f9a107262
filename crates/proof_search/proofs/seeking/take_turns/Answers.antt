use Rattle.proof_search.proofs.Counting.{none_asked, HasAsked-trans}
use Rattle.proof_search.proofs.Keeping.{KeepsStarts-refl, KeepsStarts-trans}
use Rattle.proof_search.proofs.seeking.take_turns.Goals as goal

pub turns-init : goal.turns-init
turns-init g c = record {
  within = c.requires.within;
  own = c.requires.own;
  same = KeepsStarts-refl (g.A.Asker.is_own c.args.asker.now) (g.A.Starter.starts c.args.asker.now);
  asked = none_asked;
}

pub step-requires-clause-within : goal.step-requires-clause-within
step-requires-clause-within g c = c.turns.invariant.within

pub step-requires-clause-own : goal.step-requires-clause-own
step-requires-clause-own g c = c.turns.invariant.own

pub turns-preserved : goal.turns-preserved
turns-preserved g c = record {
  within = c.in_ok-ending.ensures.within;
  own = c.in_ok-ending.ensures.own;
  same = KeepsStarts-trans c.turns.invariant.same c.step.ensures.same;
  asked = HasAsked-trans c.turns.invariant.asked (rw c.in_default.is at c.in_ok-ending.ensures.asked);
}

pub returns-in_err-ending-clause-same : goal.returns-in_err-ending-clause-same
returns-in_err-ending-clause-same g c = KeepsStarts-trans c.turns.invariant.same c.step.ensures.same

pub returns-in-Some-clause-within : goal.returns-in-Some-clause-within
returns-in-Some-clause-within g c = c.in_ok-ending.ensures.within

pub returns-in-Some-clause-own : goal.returns-in-Some-clause-own
returns-in-Some-clause-own g c = c.in_ok-ending.ensures.own

pub returns-in-Some-clause-same : goal.returns-in-Some-clause-same
returns-in-Some-clause-same g c = KeepsStarts-trans c.turns.invariant.same c.step.ensures.same

pub returns-clause-within : goal.returns-clause-within
returns-clause-within g c = c.turns.invariant.within

pub returns-clause-own : goal.returns-clause-own
returns-clause-own g c = c.turns.invariant.own

pub returns-clause-same : goal.returns-clause-same
returns-clause-same g c = c.turns.invariant.same
