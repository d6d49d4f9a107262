use Rattle.ot_hub.specs.Views.{hub_view_of}
use Rattle.ot_commands.proofs.HubStatus.{not_moved-steady}
use Rattle.ot_commands.proofs.Refusing.{halt_of}
use Rattle.ot_commands.proofs.hub.up.Goals as goal

pub returns-in-Err-clause-refused : goal.returns-in-Err-clause-refused
returns-in-Err-clause-refused c r same =
    (c.in-Err.why, hub_view_of c.up.new.self, c.in-Err.ensures.moved, c.not_moved.ensures r (halt_of _ _ same))

pub returns-in-Err-clause-steady : goal.returns-in-Err-clause-steady
returns-in-Err-clause-steady c f r same =
    not_moved-steady c.args.number c.in-Err.why r (c.in-Err.ensures.never_stuck f.tp1 f.chars)
    (c.not_moved.ensures r (halt_of _ _ same))
