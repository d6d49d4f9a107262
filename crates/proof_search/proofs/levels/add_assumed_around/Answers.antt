use Rattle.std.proofs.Common.{refl}
use Rattle.proof_search.proofs.Owning.{node_set}
use Rattle.proof_search.proofs.levels.add_assumed_around.Goals as goal

pub returns : goal.returns
returns g c = node_set c.args.levels.now c.args.number _ c.index-levels-number-2.result c.requires refl
