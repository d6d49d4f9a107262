use Rattle.std.proofs.Common.{◌≡◌, ◌-◌, ◌<◌, ◌≤◌, None, length, drop}
use Rattle.proof_check.specs.Judging.{standing_at}
use Rattle.proof_sections.specs.Judgement.{opened_tree, tree_judged}
use Rattle.proof_sections.proofs.tree.judge_tree.Given as goal

-- what is left is judged as the whole tree is
abbrev pub invariant-loop-len : goal.invariant-loop-len
invariant-loop-len g l =
    let starts = g.A.Starter.starts in
    (l.at ≤ length l.bytes) × (0 < length l.checker.places.wanted) × (l.checker.refusal ≡ None)
    × ((starts l.checker.asker).compare ≡ (starts l.fn.asker).compare)
    × (tree_judged (starts l.fn.asker).compare (length l.bytes)
    (opened_tree (starts l.fn.asker).root) (drop l.start l.bytes)
    ≡ tree_judged (starts l.fn.asker).compare (length l.bytes) (standing_at starts l.checker) (drop l.at l.bytes))

abbrev pub decreases-loop-len : goal.decreases-loop-len
decreases-loop-len g l = length l.bytes - l.at
