use Rattle.std.proofs.lemmas.Result.{on_ok_weaker}
use Rattle.fn_rules.specs.Rules.{function_of}
use Rattle.ot_steps.specs.declared.lines.Label.TheVariants.{After}
use Rattle.ot_steps.specs.StepTexts.{both_line, step_line}
use Rattle.ot_steps.proofs.Repeated.{appended3}
use Rattle.ot_steps.proofs.lines.write_operation_way.Goals as goal

pub returns : goal.returns
returns c =
    let way = c.args.way.now in
    let f = function_of c.args.rules.now in
    on_ok_weaker c.write_both_line.result
    (λ last. appended3 c.args.out.now.items c.write_step_line.new.out.items c.write_step_line-2.new.out.items
    c.write_both_line.new.out.items (step_line f (After c.args.other c.args.first) way.second)
    (step_line f (After 3 c.args.first) way.third) (both_line f way.both) c.in_ok-write_step_line.ensures
    c.in_ok-write_step_line-2.ensures last)
    c.write_both_line.ensures
