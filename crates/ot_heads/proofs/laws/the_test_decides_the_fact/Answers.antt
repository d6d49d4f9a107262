use Rattle.ot_heads.proofs.Tests.{passed, passes}
use Rattle.ot_heads.proofs.laws.the_test_decides_the_fact.Goals as goal

pub returns : goal.returns
returns c = λ head. (passed head, passes head)
