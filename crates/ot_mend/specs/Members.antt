-- The functions that so many edits of a function lead to, each with its edits, in layers by the number of edits.
use Rattle.std.specs.Prelude.{◌≡◌, ℕ, zero, suc, ◌+◌, ◌*◌, Bool, true, false, ◌&&◌, if◌then◌else◌, nat_le}
use Rattle.std.specs.Prelude.{List, [], ◌∷◌, ◌++◌, Option, Some, None}
use Rattle.std.specs.List.{flat_map}
use Rattle.ot_model.specs.Kinds.{kind_rank}
use Rattle.fn_rules.specs.Functions.{Function}
use Rattle.fn_rules.specs.declared.rules.Rules.{Rules}
use Rattle.fn_rules.specs.Rules.{function_of}
use Rattle.fn_rules.specs.Validity.{is_valid}
use Rattle.ot_mend.specs.declared.edit.Edit.{Edit}
use Rattle.ot_mend.specs.declared.edit.Edit.TheVariants.{InBlock, AssumeSites, AssumeChars}
use Rattle.ot_mend.specs.Edits.{edited_of}
use Rattle.ot_mend.specs.Offers.{edits_of}

-- edits, and the function that they lead to
pub record Member : Type 0 where
  pub edits : List Edit
  pub function : Function

abbrev pub member : List Edit → Function → Member
member edits f = record { edits = edits; function = f }

-- edits are made in stages: block by block in canonical order, and then the assumptions
abbrev pub stage_of : Edit → ℕ
stage_of (InBlock k l change) = 3 * kind_rank k + kind_rank l
stage_of AssumeSites = 9
stage_of AssumeChars = 10

-- one edit more
abbrev pub and_then : Member → Edit → Member
and_then m edit = member (m.edits ++ edit ∷ []) (edited_of edit m.function)

-- the edit is made in this stage or later, and leaves a function within the limits
abbrev pub is_next : ℕ → Function → Edit → Bool
is_next stage f edit = nat_le stage (stage_of edit) && is_valid (edited_of edit f)

-- the function that it leaves, none where it is not so made
abbrev pub IsNext : ℕ → Function → Edit → Option Rules → Type 0
IsNext stage f edit None = is_next stage f edit ≡ false
IsNext stage f edit (Some rules) = (is_next stage f edit ≡ true) × (function_of rules ≡ edited_of edit f)

-- the members that this edit and further ones lead to, where it is so made
abbrev pub next_members : (ℕ → Member → List Member) → ℕ → Member → Edit → List Member
next_members further stage m edit =
    if is_next stage m.function edit then further (stage_of edit) (and_then m edit) else []

-- the members that so many further edits lead to, from a stage on
abbrev pub members_after : ℕ → ℕ → Member → List Member
members_after zero stage m = m ∷ []
members_after (suc n) stage m = flat_map (next_members (members_after n) stage m) (edits_of m.function)

-- the members that exactly so many edits of a function lead to
abbrev pub layer : Function → ℕ → List Member
layer f n = members_after n 0 (member [] f)

-- the function that edits lead to, one after another
abbrev pub function_after : List Edit → Function → Function
function_after [] f = f
function_after (edit ∷ edits) f = function_after edits (edited_of edit f)
