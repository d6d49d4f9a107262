-- What a search says of what was searched, why it says nothing, and how many questions it asks.
use Rattle.std.specs.Prelude.{◌≡◌, ◌⊎◌, ℕ, ◌<◌, ◌≤◌, Bool, false, IsTrue}
use Rattle.plan_proofs.specs.declared.ended.Ended.{Ended}
use Rattle.plan_proofs.specs.declared.ended.Ended.TheVariants.{Shown, Fails, Spent}
use Rattle.plan_proofs.specs.declared.ended.Questions.{Questions}
use Rattle.plan_proofs.specs.declared.ended.SpentCause.{SpentCause}
use Rattle.plan_proofs.specs.declared.ended.SpentCause.TheVariants.{Budget, Bytes, NoWay}
use Rattle.plan_proofs.specs.declared.planning.TheConstants.{MAX_BYTES}

-- where it fails, it fails so
abbrev pub FailsOnlySo : {E : Type 0} → (E → Type 0) → Ended E → Type 0
FailsOnlySo FailsSo Shown = Unit {0}
FailsOnlySo FailsSo (Fails e) = FailsSo e
FailsOnlySo FailsSo (Spent cause) = Unit {0}

-- no more was asked than may be, and no more again
pub record IsWithin (questions budget : Questions) : Type 0 where
  pub asked : questions.asked ≤ budget.asked
  pub again : questions.again ≤ budget.again

-- the cause is so: a question was met that is more than may be asked, where all that searches, or the walks that write,
-- may ask was asked; or none was met, and the text has more bytes than a proof may have; or none was met, and what
-- keeps a search from finding a way on is not told
abbrev pub MaySpend : Questions → Questions → Bool → ℕ → SpentCause → Type 0
MaySpend budget asked over count Budget =
    IsTrue over × ((asked.asked ≡ budget.asked) ⊎ (asked.again ≡ budget.again))
MaySpend budget asked over count Bytes = (over ≡ false) × (MAX_BYTES < count)
MaySpend budget asked over count NoWay = over ≡ false

-- nothing is said only for a cause that is so
abbrev pub SpendsOnlySo : {E : Type 0} → (SpentCause → Type 0) → Ended E → Type 0
SpendsOnlySo SpendsSo Shown = Unit {0}
SpendsOnlySo SpendsSo (Fails e) = Unit {0}
SpendsOnlySo SpendsSo (Spent cause) = SpendsSo cause

-- the questions that were told and not asked: one where the budget is spent
abbrev pub unasked : {E : Type 0} → Ended E → ℕ
unasked Shown = 0
unasked (Fails e) = 0
unasked (Spent Budget) = 1
unasked (Spent Bytes) = 0
unasked (Spent NoWay) = 0
