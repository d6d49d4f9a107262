-- The edits that mending a function came to are made one after another.
use Rattle.std.proofs.Common.{◌≡◌, ℕ, subst, Vec, Global}
use Rattle.ot_mend.specs.declared.edit.Edit.{Edit}
use Rattle.fn_rules.specs.declared.rules.Rules.{Rules}
use Rattle.fn_rules.specs.Functions.{Function}
use Rattle.fn_rules.specs.Rules.{function_of}
use Rattle.ot_mend.specs.Members.{function_after, member}
use Rattle.mend_texts.specs.Made.{AreMade, MembersAreMade}
use Rattle.fewest_edits.specs.declared.decision.Decision.{Decision}
use Rattle.fewest_edits.specs.declared.mending.Mending.{Mending}
use Rattle.fewest_edits.specs.declared.mending.Mending.TheVariants.{Found}
use Rattle.fewest_edits.specs.Mendings.{IsMendedBy}

module _ (are_made : MembersAreMade) (D : Function → Decision → Type 0) (f : Function) (most budget : ℕ) where
  pub found_are_made :
      (mending : Mending) (rules : Rules) (edits : Vec Edit Global) → mending ≡ Found rules edits
      → IsMendedBy D f most budget mending
      → AreMade f edits.items × (function_after edits.items f ≡ function_of rules)
  found_are_made mending rules edits is mended =
      let found : IsMendedBy D f most budget (Found rules edits) =
      subst (λ (m : Mending). IsMendedBy D f most budget m) is mended in
      let first = found.3.1 in
      are_made f found.0 (member edits.items (function_of rules)) first.earlier first.later first.listed
