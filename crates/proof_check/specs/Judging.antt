-- A judge of proofs, seen as its asker, the open places and its refusal.
use Rattle.std.specs.Prelude.{◌≡◌, ◌⊎◌, ◌↔◌, List, [], ◌∷◌, Option, Some, None, Err}
use Rattle.cert_check.specs.declared.verdict.CheckError.TheVariants as check
use Rattle.cert_check.specs.declared.verdict.Progress.{Progress}
use Rattle.cert_check.specs.declared.verdict.Progress.TheVariants.{More, Done}
use Rattle.proof_trees.specs.declared.token.ProofTok.{ProofTok}
use Rattle.proof_trees.specs.Starts.{unmarked, Comparison}
use Rattle.proof_trees.specs.Starters.{Starts}
use Rattle.proof_trees.specs.Tokens.{CompletesWanted}
use Rattle.proof_trees.specs.Truth.{HoldsUnder}
use Rattle.proof_check.specs.declared.verdict.ProofError.{ProofError}
use Rattle.proof_check.specs.declared.verdict.ProofError.TheVariants as error
use Rattle.proof_check.specs.Steps.{Standing, after_proof_token}
use Rattle.open_places.specs.Places.{OpenProof, AreOwnPlaces}
use Rattle.proof_check.specs.Standings.{standing_of}

pub record ProofJudging (A N : Type 0) : Type 0 where
  pub asker : A
  pub places : OpenProof N
  pub refusal : Option ProofError

-- what is known and wanted at open places, given the plans of the nodes
abbrev pub standing_over : {N S W : Type 0} → Starts N S W → OpenProof N → Standing S W
standing_over starts p = standing_of starts.marked p

-- the same of a judge
abbrev pub standing_at : {A N S W : Type 0} → (A → Starts N S W) → ProofJudging A N → Standing S W
standing_at starts j = standing_over (starts j.asker) j.places

-- the tokens complete what is known and wanted
abbrev pub AreCompleted : {S W : Type 0} → Comparison S → List ProofTok → Standing S W → Type 0
AreCompleted compare tokens at = CompletesWanted compare tokens at.wanted at.known

-- the places are the asker's own, and tokens that complete them show that the asker's plan holds
pub record IsProofUnderWay {N S W : Type 0} (is_own : N → Type 0) (starts : Starts N S W)
    (p : OpenProof N) : Type 0 where
  pub own : AreOwnPlaces is_own p
  pub follows :
      (tokens : List ProofTok) → AreCompleted starts.compare tokens (standing_over starts p)
      → HoldsUnder [] (unmarked starts.root)

-- a judge that has refused judges nothing any more
abbrev pub IsUnderWayUnless :
    {N S W : Type 0} → Option ProofError → (N → Type 0) → Starts N S W → OpenProof N → Type 0
IsUnderWayUnless None is_own starts p = IsProofUnderWay is_own starts p
IsUnderWayUnless (Some refusal) is_own starts p = Unit {0}

-- the tokens complete what is still open after More, and there are none after Done
abbrev pub LeavesWanted : {S W : Type 0} → Comparison S → Progress → List ProofTok → Standing S W → Type 0
LeavesWanted compare More tokens at = AreCompleted compare tokens at
LeavesWanted compare Done tokens at = tokens ≡ []

-- the token followed by any tokens completes what was wanted exactly where those leave nothing of it open now
abbrev pub IsProofStep : {S W : Type 0} → Comparison S → Progress → ProofTok → Standing S W → Standing S W → Type 0
IsProofStep compare p tok old new =
    (tokens : List ProofTok) → AreCompleted compare (tok ∷ tokens) old ↔ LeavesWanted compare p tokens new

-- the token begins no tokens that complete what is wanted
abbrev pub BeginsNothingWanted : {S W : Type 0} → Comparison S → ProofTok → Standing S W → Type 0
BeginsNothingWanted compare tok at = (tokens : List ProofTok) → ¬ AreCompleted compare (tok ∷ tokens) at

-- the error is want of memory
abbrev pub IsWantOfMemory : ProofError → Type 0
IsWantOfMemory e = e ≡ error.Tree check.NoMemory

-- the token is refused so
abbrev pub IsRefusedBy : {S W : Type 0} → Comparison S → ProofError → ProofTok → Standing S W → Type 0
IsRefusedBy compare e tok at = after_proof_token compare tok at.known at.wanted ≡ Err e

-- the error is want of memory, or the refusal of the token
abbrev pub IsProofCauseOf : {S W : Type 0} → Comparison S → ProofError → ProofTok → Standing S W → Type 0
IsProofCauseOf compare e tok at = IsWantOfMemory e ⊎ IsRefusedBy compare e tok at
