use Rattle.ot_heads.proofs.Buildable.{templates_are_buildable}
use Rattle.ot_heads.proofs.function.template.Goals as goal

pub build-requires : goal.build-requires
build-requires c = rw c.in_ok-blocks.ensures (templates_are_buildable c.args.head c.requires)
