-- Where the first end is a document, all are one document exactly where all are this one.
use Rattle.std.proofs.Common.{sym, ap}
use Rattle.ot_integrate.specs.Ends.{outcome_of}
use Rattle.ot_commands.proofs.Ends.{one_end, first_end}
use Rattle.ot_commands.proofs.integrate.have_one_end.Goals as goal

pub returns-in-Some-Doc : goal.returns-in-Some-Doc
returns-in-Some-Doc c =
    let first = first_end c.args.ends.now c.in-Some-Doc.field-0.now c.in-Some-Doc.doc
    (sym c.in-Some-Doc.ensures.value) (ap (λ e. outcome_of e) c.in-Some-Doc.field-0-is) in
    let one = one_end c.args.ends.now c.in-Some-Doc.doc first in
    (λ all. one.0 (c.are_document.ensures.0 all), λ h. c.are_document.ensures.1 (one.1 h))
