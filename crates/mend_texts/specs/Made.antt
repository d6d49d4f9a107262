-- Edits that are made one after another.
use Rattle.std.specs.Prelude.{◌≡◌, ℕ, Bool, true, IsTrue, List, [], ◌∷◌, ◌++◌}
use Rattle.fn_rules.specs.declared.function.Head.{Head}
use Rattle.fn_rules.specs.Functions.{Function, is_declared_pair}
use Rattle.fn_rules.specs.Validity.{is_valid}
use Rattle.ot_mend.specs.declared.edit.Edit.{Edit}
use Rattle.ot_mend.specs.declared.edit.Edit.TheVariants.{InBlock, AssumeSites, AssumeChars}
use Rattle.ot_mend.specs.Edits.{edited_of}
use Rattle.ot_mend.specs.Members.{Member, function_after, layer}

-- the edit changes a block that a function of this head has, or none
abbrev pub has_block : Head → Edit → Bool
has_block head (InBlock k l change) = is_declared_pair head k l
has_block head AssumeSites = true
has_block head AssumeChars = true

-- each edit changes what is there, and leaves a function within the limits
abbrev pub AreMade : Function → List Edit → Type 0
AreMade f [] = Unit {0}
AreMade f (edit ∷ edits) =
    IsTrue (has_block f.head edit) × IsTrue (is_valid (edited_of edit f)) × AreMade (edited_of edit f) edits

-- the edits of each member of each layer are made one after another, and lead to its function
abbrev pub MembersAreMade : Type 0
MembersAreMade =
    (f : Function) (n : ℕ) (m : Member) (earlier later : List Member) → layer f n ≡ earlier ++ m ∷ later
    → AreMade f m.edits × (function_after m.edits f ≡ m.function)
