use Rattle.std.proofs.Common.{codes}
use Rattle.std.proofs.lemmas.Result.{on_ok_weaker}
use Rattle.fn_rules.specs.Rules.{function_of}
use Rattle.ot_steps.specs.StepTexts.{document_way_text, documents_line, side_line}
use Rattle.ot_steps.proofs.Repeated.{appended5}
use Rattle.ot_steps.proofs.lines.write_pair.Goals as goal

pub returns : goal.returns
returns c =
    let f = function_of c.args.rules.now in
    let left = c.args.left.now in
    let right = c.args.right.now in
    on_ok_weaker c.write_documents.result
    (λ last. appended5 c.args.out.now.items c.append_bytes.new.out.items c.write_document_way.new.out.items
    c.append_bytes-2.new.out.items c.write_document_way-2.new.out.items c.write_documents.new.out.items
    (side_line (codes "left")) (document_way_text f 1 2 left) (side_line (codes "right")) (document_way_text f 2 1
    right) (documents_line left.end right.end) c.in_ok-append_bytes.ensures c.in_ok-write_document_way.ensures
    c.in_ok-append_bytes-2.ensures c.in_ok-write_document_way-2.ensures last)
    c.write_documents.ensures
