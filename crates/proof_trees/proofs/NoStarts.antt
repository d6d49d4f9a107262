-- A plan without starts has none at its first place.
use Rattle.std.proofs.Common.{◌≡◌, false, refl}
use Rattle.std.specs.Option.{is_some}
use Rattle.ask_core.specs.Plans.{Plan, Ask, Holds, Fails}
use Rattle.proof_trees.specs.Starts.{start_of}
use Rattle.proof_trees.specs.Startless.{startless}

pub start_of-startless : {W : Type 0} (S : Type 0) (p : Plan W) → false ≡ is_some (start_of (startless {S = S} p))
start_of-startless S (Ask l on_yes on_no) = refl
start_of-startless S Holds = refl
start_of-startless S (Fails why) = refl
