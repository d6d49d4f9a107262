use Rattle.ot_session.specs.Views.{view_of}
use Rattle.ot_commands.proofs.Refusing.{halt_of, not_taken-steady}
use Rattle.ot_commands.proofs.replay.take.Goals as goal

pub returns-clause-refused : goal.returns-clause-refused
returns-clause-refused c r same =
    (c.in-Err.why, view_of c.take.new.self, c.in-Err.ensures.taken, c.not_taken.ensures r (halt_of _ _ same))

pub returns-clause-steady : goal.returns-clause-steady
returns-clause-steady c f r same =
    not_taken-steady c.args.number c.in-Err.why r (c.in-Err.ensures.never_stuck f.tp1 f.tp2 f.chars)
    (c.not_taken.ensures r (halt_of _ _ same))
