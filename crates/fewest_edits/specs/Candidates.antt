-- What candidates stand for.
use Rattle.std.specs.Prelude.{◌≡◌, ℕ, true, false, Option, Some, None}
use Rattle.fn_rules.specs.Rules.{function_of}
use Rattle.ot_mend.specs.declared.edit.Edit.{Edit}
use Rattle.ot_mend.specs.Members.{Member, and_then, is_next, member}
use Rattle.fewest_edits.specs.declared.candidate.Candidate.{Candidate}

-- the member that a candidate stands for
abbrev pub member_of : Candidate → Member
member_of c = member c.edits.items (function_of c.rules)

-- one edit more leads to this candidate, or it is not made in this stage
abbrev pub IsNextOf : ℕ → Member → Edit → Option Candidate → Type 0
IsNextOf stage m edit None = is_next stage m.function edit ≡ false
IsNextOf stage m edit (Some c) = (is_next stage m.function edit ≡ true) × (member_of c ≡ and_then m edit)
