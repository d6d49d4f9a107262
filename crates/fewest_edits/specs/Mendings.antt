-- What mending a function by so many edits at the most comes to.
use Rattle.std.specs.Prelude.{◌⊎◌, ℕ, suc, ◌<◌, ◌≤◌, length, Option, Some}
use Rattle.std.specs.Prelude.{None as NoAnswer}
use Rattle.fn_rules.specs.Functions.{Function}
use Rattle.fn_rules.specs.Rules.{function_of}
use Rattle.ot_mend.specs.Members.{Member, layer, member}
use Rattle.fewest_edits.specs.declared.decision.Decision.{Decision}
use Rattle.fewest_edits.specs.declared.decision.Decision.TheVariants as decision
use Rattle.fewest_edits.specs.declared.mending.Mending.{Mending}
use Rattle.fewest_edits.specs.declared.mending.Mending.TheVariants.{Found, None, Spent}
use Rattle.fewest_edits.specs.Firsts.{AreRefused, IsFirst}

-- so many edits lead to no more members than the budget allows, and each of them is refused
abbrev pub IsPassed : (Function → Decision → Type 0) → Function → ℕ → ℕ → Type 0
IsPassed decides f budget n = (length (layer f n) ≤ budget) × AreRefused decides (layer f n)

-- so it is with each number of edits below this one
abbrev pub ArePassed : (Function → Decision → Type 0) → Function → ℕ → ℕ → Type 0
ArePassed decides f budget n = (fewer : ℕ) → fewer < n → IsPassed decides f budget fewer

-- the member that comes first of those to which so many edits lead, within the budget, is decided so
abbrev pub IsAnsweredBy : (Function → Decision → Type 0) → Function → ℕ → ℕ → Member → Decision → Type 0
IsAnsweredBy decides f budget n m d =
    (length (layer f n) ≤ budget) × IsFirst decides (layer f n) m × decides m.function d

-- so many edits lead to more members than the budget allows, or of the one that comes first nothing is known
abbrev pub IsSpentAt : (Function → Decision → Type 0) → Function → ℕ → ℕ → Type 0
IsSpentAt decides f budget n =
    (budget < length (layer f n)) ⊎ ((m : Member) × IsAnsweredBy decides f budget n m decision.Spent)

-- what so many edits come to: all members are refused, or the first of the others is found, or nothing is known
abbrev pub IsAnswerAt : (Function → Decision → Type 0) → Function → ℕ → ℕ → Option Mending → Type 0
IsAnswerAt decides f budget n NoAnswer = IsPassed decides f budget n
IsAnswerAt decides f budget n (Some (Found rules edits)) =
    IsAnsweredBy decides f budget n (member edits.items (function_of rules)) decision.Yes
IsAnswerAt decides f budget n (Some None) = ⊥
IsAnswerAt decides f budget n (Some Spent) = IsSpentAt decides f budget n

-- what mending the function comes to: the first member of the lowest layer that has one which is not refused is found,
-- or nothing is known of it, or the budget ends before; or all members of all layers are refused
abbrev pub IsMendedBy : (Function → Decision → Type 0) → Function → ℕ → ℕ → Mending → Type 0
IsMendedBy decides f most budget (Found rules edits) =
    (n : ℕ) × (n ≤ most) × ArePassed decides f budget n
    × IsAnsweredBy decides f budget n (member edits.items (function_of rules)) decision.Yes
IsMendedBy decides f most budget None = ArePassed decides f budget (suc most)
IsMendedBy decides f most budget Spent =
    (n : ℕ) × (n ≤ most) × ArePassed decides f budget n × IsSpentAt decides f budget n
