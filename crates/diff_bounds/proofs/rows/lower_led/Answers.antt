use Rattle.std.proofs.Common.{rules}
use Rattle.diff_bounds.proofs.Led.{IsLowered-led}
use Rattle.diff_bounds.proofs.rows.lower_led.Goals as goal

pub returns-else-goes_lower : goal.returns-else-goes_lower
returns-else-goes_lower c =
    IsLowered-led c.args.ways.now c.args.first c.args.from c.args.row.now c.requires.led (search rules)
