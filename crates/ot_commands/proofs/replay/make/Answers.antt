use Rattle.ot_session.specs.Views.{view_of}
use Rattle.ot_commands.proofs.Refusing.{halt_of, not_made, not_made-steady}
use Rattle.ot_commands.proofs.replay.make.Goals as goal

pub returns-in-Err-clause-refused : goal.returns-in-Err-clause-refused
returns-in-Err-clause-refused c r same =
    let told = c.in-Err.ensures in
    not_made (view_of c.args.session.now) c.args.number c.args.site c.args.op c.in-Err.why r told.no_site
    told.wrong_site told.wrong_kind told.not_enabled told.full (c.not_made.ensures r (halt_of _ _ same))

pub returns-in-Err-clause-steady : goal.returns-in-Err-clause-steady
returns-in-Err-clause-steady c r same =
    not_made-steady c.args.number c.in-Err.why r (c.not_made.ensures r (halt_of _ _ same))
