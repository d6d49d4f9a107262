-- Questions at the first of some open places, and what taking them leaves.
use Rattle.std.specs.Prelude.{◌≡◌, ℕ, List, Some}
use Rattle.cert_check.specs.declared.question.Question.{Question}
use Rattle.proof_trees.specs.declared.token.ProofTok.TheVariants as token
use Rattle.proof_trees.specs.Starts.{MarkedPlan, Ask, start_of, Comparison}
use Rattle.open_places.specs.Places.{OpenProof, first_node}
use Rattle.proof_check.specs.Steps.{Standing, IsTaken}

-- a tree of a node is wanted at the first place, whose plan asks the question and goes on as its two nodes say, which
-- are own ones
pub record IsAskedHere {N S W : Type 0} (is_own : N → Type 0) (marked : N → MarkedPlan S W) (q : Question N)
    (p : OpenProof N) : Type 0 where
  pub node : N
  pub first : first_node p.wanted ≡ Some node
  pub own_yes : is_own q.yes
  pub own_no : is_own q.no
  pub asks : marked node ≡ Ask (start_of (marked node)) q.lit (marked q.yes) (marked q.no)

-- `?` is taken, then the cycle that the picks name, and they leave this of what was known and wanted
abbrev pub SkipsTo : {S W : Type 0} → Comparison S → List ℕ → Standing S W → Standing S W → Type 0
SkipsTo {S} {W} compare picks old new =
    (next : Standing S W) × IsTaken compare token.Ask old next × IsTaken compare (token.Cycle picks) next new
