use Rattle.fn_rules.specs.declared.function.Level.TheVariants.{Tp1, Tp2}
use Rattle.cert_text.proofs.StepLemmas.{header_front, no_header}
use Rattle.cert_text.proofs.step.header_step.Goals as goal

pub returns-in-Front : goal.returns-in-Front
returns-in-Front c = (header_front c.args.tp1.now c.args.tp2.now Tp1 c.push.new.self c.in-Front.ensures, c.push.ensures)

pub returns-in-Front-header_fit : goal.returns-in-Front-header_fit
returns-in-Front-header_fit c =
    (header_front c.args.tp1.now c.args.tp2.now Tp2 c.push.new.self c.in-Front-header_fit.ensures, c.push.ensures)

pub returns-in-Other-header_fit : goal.returns-in-Other-header_fit
returns-in-Other-header_fit c =
    no_header c.args.tp1.now c.args.tp2.now c.args.begun c.push.new.self c.args.byte c.push.ensures c.in-Other.ensures
    c.in-Other-header_fit.ensures
