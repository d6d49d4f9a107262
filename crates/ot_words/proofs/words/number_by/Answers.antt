-- What is read as a number is one within the bounds exactly where clap takes it.
use Rattle.ot_words.proofs.Bounds.{is_refused, is_taken}
use Rattle.ot_words.proofs.words.number_by.Goals as goal

pub returns-in-Ok-clause-number : goal.returns-in-Ok-clause-number
returns-in-Ok-clause-number c =
    let read = c.in-Ok.ensures.value.0 in
    is_taken c.args.most c.args.text.now c.in-Ok.number read.0.0 read.0.1 read.1
    c.if-number-ge1.true c.if-number-most.true

pub returns-in_default-3-clause-number : goal.returns-in_default-3-clause-number
returns-in_default-3-clause-number c =
    is_refused c.args.most c.args.text.now (λ numeral small. c.in_default.ensures.value.0 (numeral, small))
