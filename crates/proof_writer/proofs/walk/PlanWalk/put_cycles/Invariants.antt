use Rattle.std.proofs.Common.{◌≡◌}
use Rattle.proof_writer.specs.Texts.{ExtendsText}
use Rattle.proof_writer.proofs.walk.PlanWalk.put_cycles.Given as goal

abbrev pub invariant-literals : goal.invariant-literals
invariant-literals g l = record {
  front : ExtendsText l.fn.out.items l.out.items;
  present : l.self.present ≡ l.fn.self.present;
  waiting : l.self.waiting.items ≡ l.fn.self.waiting.items;
  left : l.self.left ≡ l.fn.self.left;
}
