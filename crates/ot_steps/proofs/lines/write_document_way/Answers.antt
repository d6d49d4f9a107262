use Rattle.std.proofs.lemmas.Result.{on_ok_weaker}
use Rattle.fn_rules.specs.Rules.{function_of}
use Rattle.ot_steps.specs.declared.lines.Label.TheVariants.{Made, After}
use Rattle.ot_steps.specs.StepTexts.{executed_line, made_line}
use Rattle.ot_steps.proofs.Repeated.{appended2}
use Rattle.ot_steps.proofs.lines.write_document_way.Goals as goal

pub returns : goal.returns
returns c =
    let way = c.args.way.now in
    on_ok_weaker c.write_executed_line.result
    (λ last. appended2 c.args.out.now.items c.write_made_line.new.out.items c.write_executed_line.new.out.items
    (made_line (Made c.args.first) way.first way.doc)
    (executed_line (function_of c.args.rules.now) (After c.args.other c.args.first) way.other way.end)
    c.in_ok-write_made_line.ensures last)
    c.write_executed_line.ensures
