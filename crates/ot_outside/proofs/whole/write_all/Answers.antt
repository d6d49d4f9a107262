use Rattle.std.proofs.Common.{arith, length-drop}
use Rattle.std.proofs.lemmas.List.{take_rest}
use Rattle.ot_outside.proofs.Appended.{append-take}
use Rattle.ot_outside.proofs.whole.write_all.Goals as goal

pub loop-done-preserved : goal.loop-done-preserved
loop-done-preserved g c =
    let given = rw (take_rest c.args.bytes.now c.loop-done.done) at c.in_ok-done.ensures.ok in
    let count = rw (take_rest c.args.bytes.now c.loop-done.done, length-drop) at c.in_ok-done.ensures.count in
    record {
      in_range = omega arith;
      appended = append-take _ _ _ _ _ _ c.loop-done.invariant.appended given;
      faults = omega (arith, c.in_ok-done.ensures.faults);
    }
