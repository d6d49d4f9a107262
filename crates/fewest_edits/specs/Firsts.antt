-- Which of the functions that edits lead to comes first, of those that are not refused.
use Rattle.std.specs.Prelude.{◌≡◌, ◌⊎◌, IsTrue, Bool, false, List, ◌∷◌, ◌++◌}
use Rattle.std.specs.List.{AllByRecursion}
use Rattle.fn_rules.specs.Functions.{Function}
use Rattle.ot_mend.specs.Members.{Member}
use Rattle.ot_mend.specs.Ranks.{comes_before, rank_of}
use Rattle.fewest_edits.specs.declared.decision.Decision.{Decision}
use Rattle.fewest_edits.specs.declared.decision.Decision.TheVariants.{No}

-- it is decided that the member lacks what is asked
abbrev pub IsRefused : (Function → Decision → Type 0) → Member → Type 0
IsRefused decides m = decides m.function No

-- all of them do
abbrev pub AreRefused : (Function → Decision → Type 0) → List Member → Type 0
AreRefused decides ms = AllByRecursion (IsRefused decides) ms

-- the one member comes before the other by its rank
abbrev pub is_before : Member → Member → Bool
is_before m other = comes_before (rank_of m.edits m.function) (rank_of other.edits other.function)

-- a member is refused, or comes behind this one
abbrev pub IsRefusedOrBehind : (Function → Decision → Type 0) → Member → Member → Type 0
IsRefusedOrBehind decides m other = IsRefused decides other ⊎ IsTrue (is_before m other)

-- a member is refused, or does not come before this one
abbrev pub IsRefusedOrNotBefore : (Function → Decision → Type 0) → Member → Member → Type 0
IsRefusedOrNotBefore decides m other = IsRefused decides other ⊎ (is_before other m ≡ false)

-- of those members that are not refused this one comes first, by its rank and then by its place
pub record IsFirst (decides : Function → Decision → Type 0) (ms : List Member) (m : Member) : Type 0 where
  pub earlier : List Member
  pub later : List Member
  pub listed : ms ≡ earlier ++ m ∷ later
  pub behind : AllByRecursion (IsRefusedOrBehind decides m) earlier
  pub not_before : AllByRecursion (IsRefusedOrNotBefore decides m) later
