use Rattle.std.proofs.Common.{◌≡◌, ◌≤◌, ◌+◌, ◌-◌, length, take}
use Rattle.cert_check.specs.Judging.{open_branches}
use Rattle.ot_sections.specs.Taking.{AreTaken}
use Rattle.ot_sections.proofs.tree.take_tokens.Given as goal

abbrev pub invariant-tokens : goal.invariant-tokens
invariant-tokens g l = record {
  within : l.at ≤ length l.bytes;
  taken :
      AreTaken (take l.at l.bytes) (open_branches g.A.Asker.plan l.fn.checker) (open_branches g.A.Asker.plan l.checker);
  count : l.left ≡ length (open_branches g.A.Asker.plan l.checker);
  few : l.left ≤ l.fn.branches + l.at;
  refusal : l.checker.refusal ≡ l.fn.checker.refusal;
}

abbrev pub decreases-tokens : goal.decreases-tokens
decreases-tokens g l = length l.bytes - l.at
