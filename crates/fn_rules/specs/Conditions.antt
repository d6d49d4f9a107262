-- What the calls on guards and rules ask of operations, and what they keep of them.
use Rattle.std.specs.Prelude.{◌≡◌, ℕ, pos, ◌+ℤ◌, ◌≤ℤ◌, Bool, true, false, ◌&&◌, ◌||◌, is_some, ◌⊎◌}
use Rattle.ot_model.specs.declared.op.Op.{Op}
use Rattle.ot_model.specs.declared.op.Op.TheVariants.{Nop}
use Rattle.ot_model.specs.Operations.{kind_of, at_of, site_of, char_of}
use Rattle.ot_model.specs.Effect.{IsEnabled, is_enabled}
use Rattle.fn_rules.specs.declared.guard.Sort.{Sort}
use Rattle.fn_rules.specs.declared.guard.Sort.TheVariants.{Pos, Site, Char}
use Rattle.fn_rules.specs.Formulas.{Formula, Always, Compare, And, Or, Not}
use Rattle.fn_rules.specs.Functions.{Function, is_for_kind, IsForKind}

-- the operation's position is at most so far from 0
abbrev pub IsWithin : ℕ → Op → Type 0
IsWithin m o = (pos 0 ≤ℤ (at_of o +ℤ pos m)) × (at_of o ≤ℤ pos m)

-- a position that can be calculated with: from -2^40 to 2^40
abbrev pub IsInRange : Op → Type 0
IsInRange o = IsWithin 1099511627776 o

abbrev pub is_char : Sort → Bool
is_char Pos = false
is_char Site = false
is_char Char = true

-- the guard has an atom over characters
abbrev pub has_char_atoms : Formula → Bool
has_char_atoms Always = false
has_char_atoms (Compare atom) = is_char atom.sort
has_char_atoms (And g h) = has_char_atoms g || has_char_atoms h
has_char_atoms (Or g h) = has_char_atoms g || has_char_atoms h
has_char_atoms (Not g) = has_char_atoms g

-- both operations have a character
abbrev pub both_have_chars : Op → Op → Bool
both_have_chars a b = is_some (char_of a) && is_some (char_of b)

-- where the guard compares characters, both operations have one
abbrev pub IsReadyFor : Formula → Op → Op → Type 0
IsReadyFor g a b = has_char_atoms g ≡ true → both_have_chars a b ≡ true

-- the operation may be integrated into a document of so many cells: it is nop or of a kind that the
-- function is for, and it is enabled there
abbrev pub is_integrable : Function → ℕ → Op → Bool
is_integrable f cells o = is_for_kind f.head (kind_of o) && is_enabled o cells

-- the same as a fact
pub record IsIntegrable (f : Function) (cells : ℕ) (o : Op) : Type 0 where
  pub declared : IsForKind f.head (kind_of o)
  pub enabled : IsEnabled o cells

-- the two operations have the same kind, site and character
pub record IsMovedFrom (a moved : Op) : Type 0 where
  pub kind : kind_of moved ≡ kind_of a
  pub site : site_of moved ≡ site_of a
  pub char : char_of moved ≡ char_of a

-- what a transformation may make of the first operation: nop, or the same at some position
abbrev pub IsFormOf : Op → Op → Type 0
IsFormOf a form = (form ≡ Nop) ⊎ IsMovedFrom a form
