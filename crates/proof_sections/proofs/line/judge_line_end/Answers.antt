use Rattle.proof_text.specs.Lines.{line_end_front}
use Rattle.proof_sections.proofs.Trees.{line_found, line_unread}
use Rattle.proof_sections.proofs.line.judge_line_end.Goals as goal

pub returns-in-Ok : goal.returns-in-Ok
returns-in-Ok c = line_found line_end_front c.args.bytes.now c.args.at c.in-Ok.next c.in-Ok.ensures

pub returns-in-Err : goal.returns-in-Err
returns-in-Err c =
    rw c.unread_part.ensures
    (line_unread line_end_front c.args.bytes.now c.args.at c.in-Err.unread c.requires c.in-Err.ensures)
