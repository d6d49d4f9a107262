use Rattle.std.proofs.Common.{◌∙◌}
use Rattle.open_places.proofs.PlaceLemmas.{last_part}
use Rattle.open_places.proofs.places.innermost.Goals as goal

pub returns : goal.returns
returns g c = last_part c.args.waiting.now c.copied.result (c.copied.ensures ∙ c.last.ensures.value)
