use Rattle.ot_drill.proofs.Generated.{blocks_are_buildable}
use Rattle.ot_drill.proofs.function.rules.Goals as goal

pub build-requires : goal.build-requires
build-requires c =
    rw (c.head.ensures, c.in_ok-blocks.ensures) (blocks_are_buildable c.args.n c.requires)
