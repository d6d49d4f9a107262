-- A checker, seen as its asker, the open places and its refusal.
use Rattle.std.specs.Prelude.{◌≡◌, ℕ, ℤ, true, List, [], ◌∷◌, Option, Err, ◌↔◌, ◌⊎◌}
use Rattle.ask_core.specs.Plans.{Plan, value}
use Rattle.ask_core.specs.declared.tree.Tok.{Tok}
use Rattle.ask_core.specs.Trees.{Branch, Completes}
use Rattle.ask_core.specs.Paths.{OpenPlace, AreOwn, branches_at}
use Rattle.cert_check.specs.declared.verdict.CheckError.{CheckError}
use Rattle.cert_check.specs.declared.verdict.CheckError.TheVariants.{NoMemory}
use Rattle.cert_check.specs.declared.verdict.Progress.{Progress}
use Rattle.cert_check.specs.declared.verdict.Progress.TheVariants.{More, Done}
use Rattle.cert_check.specs.Steps.{after}

pub record Judging (A N : Type 0) : Type 0 where
  pub asker : A
  pub places : List (OpenPlace N)
  pub refusal : Option CheckError

-- the open branches, given what an asker's nodes stand for
abbrev pub open_branches : {A N W : Type 0} → (A → N → Plan W) → Judging A N → List (Branch W)
open_branches plan c = branches_at (plan c.asker) c.places

-- the places are the asker's own, and tokens that complete them show that the asker's plan holds
pub record IsUnderWay {N W : Type 0} (is_own : N → Type 0) (plan : N → Plan W) (root : Plan W)
    (places : List (OpenPlace N)) : Type 0 where
  pub own : AreOwn is_own places
  pub follows : (tokens : List Tok) → Completes tokens (branches_at plan places) → (v : ℕ → ℤ) → value root v ≡ true

-- the tokens complete what is still open after More, and there are none after Done
abbrev pub LeavesOpen : {W : Type 0} → Progress → List Tok → List (Branch W) → Type 0
LeavesOpen More tokens branches = Completes tokens branches
LeavesOpen Done tokens branches = tokens ≡ []

-- the token followed by any tokens completes the old branches exactly where those leave nothing of the
-- new ones open
abbrev pub IsCheckStep : {W : Type 0} → Progress → Tok → List (Branch W) → List (Branch W) → Type 0
IsCheckStep p tok old new = (tokens : List Tok) → Completes (tok ∷ tokens) old ↔ LeavesOpen p tokens new

-- the token begins no tokens that complete the branches
abbrev pub BeginsNothing : {W : Type 0} → Tok → List (Branch W) → Type 0
BeginsNothing tok branches = (tokens : List Tok) → ¬ Completes (tok ∷ tokens) branches

-- the refusal is want of memory, or that of the token at the branches
abbrev pub IsCauseOf : {W : Type 0} → CheckError → Tok → List (Branch W) → Type 0
IsCauseOf e tok branches = (e ≡ NoMemory) ⊎ (after tok branches ≡ Err e)
