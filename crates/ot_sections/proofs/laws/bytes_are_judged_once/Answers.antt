use Rattle.ot_sections.proofs.Only.{judged_once}
use Rattle.ot_sections.proofs.laws.bytes_are_judged_once.Goals as goal

pub returns : goal.returns
returns g c plan point bytes parts others one other fit fits =
    judged_once c.parts_are_told_apart.ensures.one_part c.parts_are_told_apart.ensures.some_bytes
    plan parts others point bytes one other fit fits
