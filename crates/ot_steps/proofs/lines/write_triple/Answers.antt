use Rattle.std.proofs.Common.{codes}
use Rattle.std.proofs.lemmas.Result.{on_ok_weaker}
use Rattle.fn_rules.specs.Rules.{function_of}
use Rattle.ot_steps.specs.StepTexts.{last_result, one_end_line, operation_way_text, operations_line, side_line}
use Rattle.ot_steps.proofs.Repeated.{appended6}
use Rattle.ot_steps.proofs.lines.write_triple.Goals as goal

pub returns : goal.returns
returns c =
    let f = function_of c.args.rules.now in
    let left = c.args.left.now in
    let right = c.args.right.now in
    on_ok_weaker c.write_one_end.result
    (λ last. appended6 c.args.out.now.items c.append_bytes.new.out.items c.write_operation_way.new.out.items
    c.append_bytes-2.new.out.items c.write_operation_way-2.new.out.items c.write_last.new.out.items
    c.write_one_end.new.out.items (side_line (codes "left")) (operation_way_text f 1 2 left) (side_line (codes "right"))
    (operation_way_text f 2 1 right) (operations_line (last_result left.both) (last_result right.both))
    (one_end_line c.args.end.now) c.in_ok-append_bytes.ensures c.in_ok-write_operation_way.ensures
    c.in_ok-append_bytes-2.ensures c.in_ok-write_operation_way-2.ensures c.in_ok-write_last.ensures last)
    c.write_one_end.ensures
