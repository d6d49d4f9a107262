-- The scan of members one after another: the one that comes first so far, and how many the budget still allows.
use Rattle.std.specs.Prelude.{◌≡◌, ◌+◌, ◌<◌, Bool, true, false, if◌then◌else◌, List, ◌++◌, length}
use Rattle.std.specs.Prelude.{Option, Some, None}
use Rattle.fn_rules.specs.Functions.{Function}
use Rattle.fn_rules.specs.Rules.{function_of}
use Rattle.ot_mend.specs.Members.{Member, member}
use Rattle.ot_mend.specs.declared.rank.Rank.{Rank}
use Rattle.ot_mend.specs.Ranks.{comes_before, rank_of}
use Rattle.fewest_edits.specs.declared.decision.Decision.{Decision}
use Rattle.fewest_edits.specs.declared.decision.Decision.TheVariants.{Yes, Spent}
use Rattle.fewest_edits.specs.declared.mending.Mending.{Mending}
use Rattle.fewest_edits.specs.declared.mending.Mending.TheVariants as mendings
use Rattle.fewest_edits.specs.declared.scanning.Best.{Best}
use Rattle.fewest_edits.specs.declared.scanning.Scan.{Scan}
use Rattle.fewest_edits.specs.Candidates.{member_of}
use Rattle.fewest_edits.specs.Firsts.{AreRefused, IsFirst}

-- what was decided of the best one
abbrev pub decision_of : Best → Decision
decision_of b = if b.proved then Yes else Spent

-- a member of this rank would come first
abbrev pub may_be_first : Option Best → Rank → Bool
may_be_first None rank = true
may_be_first (Some b) rank = comes_before rank b.rank

-- of these members all are refused, or this is the first of those that are not
abbrev pub IsBestOf : (Function → Decision → Type 0) → List Member → Option Best → Type 0
IsBestOf decides seen None = AreRefused decides seen
IsBestOf decides seen (Some b) =
    IsFirst decides seen (member_of b.candidate)
    × (b.rank ≡ rank_of b.candidate.edits.items (member_of b.candidate).function)
    × decides (member_of b.candidate).function (decision_of b)

-- whatever members were seen before, the best one of them becomes the best one of them and of these
abbrev pub Improves : (Function → Decision → Type 0) → List Member → Option Best → Option Best → Type 0
Improves decides ms before after =
    (seen : List Member) → IsBestOf decides seen before → IsBestOf decides (seen ++ ms) after

-- the scan goes over all these members
abbrev pub GoesOver : (Function → Decision → Type 0) → List Member → Scan → Scan → Type 0
GoesOver decides ms before after =
    (after.left + length ms ≡ before.left) × Improves decides ms before.best after.best

-- it does, or the budget ends before
abbrev pub IsScanOf : (Function → Decision → Type 0) → List Member → Scan → Scan → Bool → Type 0
IsScanOf decides ms before after true = GoesOver decides ms before after
IsScanOf decides ms before after false = before.left < length ms

-- what the best one of a layer tells
abbrev pub Tells : Option Best → Option Mending → Type 0
Tells None None = Unit {0}
Tells None (Some m) = ⊥
Tells (Some b) None = ⊥
Tells (Some b) (Some (mendings.Found rules edits)) =
    (b.proved ≡ true) × (member edits.items (function_of rules) ≡ member_of b.candidate)
Tells (Some b) (Some mendings.None) = ⊥
Tells (Some b) (Some mendings.Spent) = b.proved ≡ false
