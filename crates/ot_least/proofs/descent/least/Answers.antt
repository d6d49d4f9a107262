use Rattle.std.proofs.Common.{refl}
use Rattle.ot_least.proofs.descent.least.Goals as goal

pub returns : goal.returns
returns c = (c.write_end.new.out, c.in_ok-write_end.ensures.ok, refl)
