use Rattle.std.proofs.Common.{◌≡◌, take}
use Rattle.ot_prove.specs.Outcomes.{answered_by}
use Rattle.ot_prove.proofs.answers.literals_of.Given as goal

-- the literals of the answers so far
abbrev pub invariant-loop-answer : goal.invariant-loop-answer
invariant-loop-answer l = l.literals.items ≡ answered_by (take l.answer-index l.answers)
