use Rattle.std.proofs.Common.{arith}
use Rattle.proof_search.proofs.Keeping.{KeepsStarts-trans}
use Rattle.proof_search.proofs.Beginning.{own_begun}
use Rattle.proof_search.proofs.seeking.seek.Goals as goal

pub returns-in_err-first-clause-same : goal.returns-in_err-first-clause-same
returns-in_err-first-clause-same g c = c.first.ensures.same

pub take_turns-requires-clause-within : goal.take_turns-requires-clause-within
take_turns-requires-clause-within g c = rw c.begin-search.ensures.asked (omega arith)

pub take_turns-requires-clause-own : goal.take_turns-requires-clause-own
take_turns-requires-clause-own g c =
    let begun = c.begin-search.ensures in
    own_begun (g.A.Asker.is_own c.first.new.self) c.begin-search.result c.in_ok-first.first begun.open begun.levels
    begun.waiting begun.lemmas c.in_ok-first.ensures.begins.0

pub returns-in_err-ending-clause-same : goal.returns-in_err-ending-clause-same
returns-in_err-ending-clause-same g c = KeepsStarts-trans c.first.ensures.same c.take_turns.ensures.same

pub returns-clause-within : goal.returns-clause-within
returns-clause-within g c = rw c.ended.ensures.asked c.in_ok-ending.ensures.within

pub returns-clause-own : goal.returns-clause-own
returns-clause-own g c = rw c.ended.ensures.lemmas c.in_ok-ending.ensures.own.lemmas

pub returns-clause-same : goal.returns-clause-same
returns-clause-same g c = KeepsStarts-trans c.first.ensures.same c.take_turns.ensures.same
