use Rattle.std.proofs.Common.{codes, ◌∷◌, []}
use Rattle.std.proofs.lemmas.Result.{on_ok_weaker}
use Rattle.ot_steps.specs.ShortDocuments.{short_document}
use Rattle.ot_steps.proofs.Repeated.{appended3}
use Rattle.ot_steps.proofs.lines.write_end_line.Goals as goal

pub returns : goal.returns
returns c =
    on_ok_weaker c.append_bytes-2.result
    (λ last. appended3 c.args.out.now.items c.append_bytes.new.out.items c.write_short_document.new.out.items
    c.append_bytes-2.new.out.items (codes "on this document both orders end with ") (short_document 0 c.args.doc.now)
    (10 ∷ []) c.in_ok-append_bytes.ensures c.in_ok-write_short_document.ensures last)
    c.append_bytes-2.ensures
