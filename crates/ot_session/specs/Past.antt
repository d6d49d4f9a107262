-- The operations that were made, seen as the past that the definitions of sessions speak of, and what code on
-- them asks.
use Rattle.std.specs.Prelude.{◌≡◌, ◌<◌, ◌≤◌, ◌+◌, ℕ, Bool, true, false, List, length, Option, Some, None, slice_get}
use Rattle.std.specs.Prelude.{slice_index_or}
use Rattle.ot_model.specs.declared.limits.TheConstants.{MAX_CELLS}
use Rattle.ot_model.specs.declared.op.Op.{Op}
use Rattle.ot_model.specs.declared.op.Op.TheVariants.{Nop}
use Rattle.ot_model.specs.Operations.{kind_of}
use Rattle.fn_rules.specs.Functions.{Function, IsForKind}
use Rattle.fn_rules.specs.Conditions.{IsWithin}
use Rattle.ot_causal.specs.Past.{Past, maker}
use Rattle.ot_session.specs.declared.limits.TheConstants.{MAX_MADE, MAX_SITES}
use Rattle.ot_session.specs.declared.made.Made.{Made}

-- the number is marked; those behind the end are not
abbrev pub is_marked : List Bool → ℕ → Bool
is_marked marks x = slice_index_or marks x false

-- the operation; nop where none was made
abbrev pub made_operation : Option Made → Op
made_operation None = Nop
made_operation (Some one) = one.op

-- what its site had integrated
abbrev pub known_in : Option Made → ℕ → Bool
known_in None x = false
known_in (Some one) x = is_marked one.known x

abbrev pub past_of : List Made → Past
past_of made = record {
  count = length made;
  operation = λ o. made_operation (slice_get made o);
  before = λ x o. known_in (slice_get made o) x;
}

-- all that the first marks mark, the second ones mark too
pub record AreMarkedToo (first second : ℕ → Bool) : Type 0 where
  pub at : (x : ℕ) → first x ≡ true → second x ≡ true

-- the greatest number of cells of a document that can occur: each operation puts in one at most
abbrev pub most_session_cells : ℕ
most_session_cells = MAX_CELLS + MAX_MADE

-- each operation is of a kind that the function is for, or nop, at a position of the documents that can occur,
-- and was made by a site
pub record IsUsablePast (f : Function) (past : Past) : Type 0 where
  pub declared : (o : ℕ) → IsForKind f.head (kind_of (past.operation o))
  pub near : (o : ℕ) → IsWithin most_session_cells (past.operation o)
  pub makers : (o : ℕ) → o < past.count → (1 ≤ maker past o) × (maker past o ≤ MAX_SITES)
