use Rattle.ot_hub.specs.Views.{hub_view_of}
use Rattle.ot_commands.proofs.HubStatus.{not_edited-steady}
use Rattle.ot_commands.proofs.Refusing.{halt_of}
use Rattle.ot_commands.proofs.hub.edit.Goals as goal

pub returns-in-Err-clause-refused : goal.returns-in-Err-clause-refused
returns-in-Err-clause-refused c r same =
    (c.in-Err.why, hub_view_of c.edit.new.self, c.in-Err.ensures.edited, c.not_edited.ensures r (halt_of _ _ same))

pub returns-in-Err-clause-steady : goal.returns-in-Err-clause-steady
returns-in-Err-clause-steady c r same =
    not_edited-steady c.args.number c.in-Err.why r (c.not_edited.ensures r (halt_of _ _ same))
