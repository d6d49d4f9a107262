use Rattle.pick_digits.proofs.TwoDigits.{digits_at}
use Rattle.pick_digits.proofs.tens.units_of.Goals as goal

pub returns : goal.returns
returns c = (digits_at c.args.number c.requires).1
