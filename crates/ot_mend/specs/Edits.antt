-- What an edit makes of a function.
use Rattle.std.specs.Prelude.{ℕ, ◌-◌, pos, true, ◌&&◌, if◌then◌else◌, nat_eq, nat_lt, List, [], ◌∷◌, ◌++◌}
use Rattle.std.specs.Prelude.{map, take, drop, reverse}
use Rattle.std.specs.List.{flat_map}
use Rattle.ot_model.specs.declared.op.Kind.{Kind}
use Rattle.ot_model.specs.Kinds.{is_same_kind, kind_pairs}
use Rattle.fn_rules.specs.declared.guard.Atom.{Atom}
use Rattle.fn_rules.specs.declared.guard.Cmp.TheVariants.{Eq}
use Rattle.fn_rules.specs.declared.function.Head.{Head}
use Rattle.fn_rules.specs.Atoms.{guard_atoms}
use Rattle.fn_rules.specs.Building.{PairCases, function_from}
use Rattle.fn_rules.specs.Formulas.{Formula, Always, Compare, And, Or, Not}
use Rattle.fn_rules.specs.Functions.{Function, GuardedCase, cases_of, is_declared_of}
use Rattle.fn_rules.specs.Shipped.{block, p1_to_p2, when}
use Rattle.ot_mend.specs.declared.change.Change.{Change}
use Rattle.ot_mend.specs.declared.change.Change.TheVariants.{NewAtom, NewResult, TakeOut, Exchange, PutIn}
use Rattle.ot_mend.specs.declared.change.NewGuard.{NewGuard}
use Rattle.ot_mend.specs.declared.change.NewGuard.TheVariants as new
use Rattle.ot_mend.specs.declared.edit.Edit.{Edit}
use Rattle.ot_mend.specs.declared.edit.Edit.TheVariants.{InBlock, AssumeSites, AssumeChars}

-- the guard with this atom in place of the one of that number, counted from 0 from left to right
abbrev pub with_atom : Atom → ℕ → Formula → Formula
with_atom to n Always = Always
with_atom to n (Compare atom) = Compare (if nat_eq n 0 then to else atom)
with_atom to n (And g h) =
    if nat_lt n (guard_atoms g) then And (with_atom to n g) h else And g (with_atom to (n - guard_atoms g) h)
with_atom to n (Or g h) =
    if nat_lt n (guard_atoms g) then Or (with_atom to n g) h else Or g (with_atom to (n - guard_atoms g) h)
with_atom to n (Not g) = Not (with_atom to n g)

-- the guard of a case that is put in
abbrev pub new_guard_of : NewGuard → Formula
new_guard_of (new.Tie atom) = And (p1_to_p2 Eq (pos 0)) (Compare atom)
new_guard_of (new.Compare atom) = Compare atom
new_guard_of new.Always = Always

-- the number of the first case that a change concerns
abbrev pub place_of : Change → ℕ
place_of (NewAtom i n from to) = i
place_of (NewResult i from to) = i
place_of (TakeOut i) = i
place_of (Exchange i) = i
place_of (PutIn i guard res) = i

-- how many cases it concerns
abbrev pub width_of : Change → ℕ
width_of (NewAtom i n from to) = 1
width_of (NewResult i from to) = 1
width_of (TakeOut i) = 1
width_of (Exchange i) = 2
width_of (PutIn i guard res) = 0

-- what it makes of these
abbrev pub part_after : Change → List GuardedCase → List GuardedCase
part_after (NewAtom i n from to) cs = map (λ c. when (with_atom to n c.guard) c.res) cs
part_after (NewResult i from to) cs = map (λ c. when c.guard to) cs
part_after (TakeOut i) cs = []
part_after (Exchange i) cs = reverse cs
part_after (PutIn i guard res) cs = when (new_guard_of guard) res ∷ []

-- the cases with what becomes of those from a place on
abbrev pub with_part : ℕ → (List GuardedCase → List GuardedCase) → List GuardedCase → List GuardedCase
with_part width after cs = after (take width cs) ++ drop width cs

-- what a change makes of a block's cases
abbrev pub cases_after : Change → List GuardedCase → List GuardedCase
cases_after change cs =
    take (place_of change) cs ++ with_part (width_of change) (part_after change) (drop (place_of change) cs)

-- what an edit makes of the cases of a pair of kinds
abbrev pub block_after : Edit → Kind → Kind → List GuardedCase → List GuardedCase
block_after (InBlock k l change) m n cs = if is_same_kind k m && is_same_kind l n then cases_after change cs else cs
block_after AssumeSites m n cs = cs
block_after AssumeChars m n cs = cs

-- what it makes of the head
abbrev pub head_after : Edit → Head → Head
head_after (InBlock k l change) head = head
head_after AssumeSites head = record head { sites_differ = true }
head_after AssumeChars head = record head { chars_differ = true }

-- the block of a pair of kinds after an edit, where the function is for both
abbrev pub declared_block_after : Edit → Function → Kind × Kind → List PairCases
declared_block_after edit f pair =
    if is_declared_of f.head pair
    then block pair.0 pair.1 (block_after edit pair.0 pair.1 (cases_of f pair.0 pair.1)) ∷ []
    else []

-- the blocks after an edit, in canonical order
abbrev pub blocks_after : Edit → Function → List PairCases
blocks_after edit f = flat_map (declared_block_after edit f) kind_pairs

-- the function that an edit makes of a function
abbrev pub edited_of : Edit → Function → Function
edited_of edit f = function_from (head_after edit f.head) (blocks_after edit f)
