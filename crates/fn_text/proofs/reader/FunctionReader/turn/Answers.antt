use Rattle.std.proofs.Common.{sym}
use Rattle.fn_text.proofs.ReadIsWritten.Room.{move_fits}
use Rattle.fn_text.proofs.reader.FunctionReader.turn.Goals as goal

pub apply-requires : goal.apply-requires
apply-requires c =
    let control = c.args.self.now.control in
    let at = c.args.at.now in
    move_fits control at control.want at.token c.in-Some.move_ (sym c.in-Some.ensures)
