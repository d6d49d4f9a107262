use Rattle.std.proofs.Common.{◌+◌, take, drop, take-add, length-drop, arith, ◌∙◌}
use Rattle.cert_check.specs.Judging.{open_branches}
use Rattle.ot_sections.proofs.Numbers.{bytes_from}
use Rattle.ot_sections.proofs.Taking.{more_taken}
use Rattle.ot_sections.proofs.tree.take_tokens.Goals as goal

-- further tokens were taken at the front of what was left
pub tokens-preserved : goal.tokens-preserved
tokens-preserved g c =
    let bytes = c.args.bytes.now in
    let at = c.tokens.at in
    let front = rw (bytes_from bytes at) at c.in-Some.ensures.taken in
    let was = open_branches g.A.Asker.plan c.tokens.checker in
    let now = open_branches g.A.Asker.plan c.take_front.new.checker in
    record {
      within = omega (arith, front.0, length-drop at bytes, c.tokens.invariant.within);
      taken =
          more_taken (take at bytes) (drop at bytes) (take (at + c.in-Some.len) bytes) c.in-Some.len
          (open_branches g.A.Asker.plan c.args.checker.now) was now c.tokens.invariant.taken front
          (take-add at c.in-Some.len bytes);
      count = c.in-Some.ensures.count;
      few = omega (arith, c.in-Some.ensures.few, c.tokens.invariant.few);
      refusal = c.take_front.ensures.refusal ∙ c.tokens.invariant.refusal;
    }
