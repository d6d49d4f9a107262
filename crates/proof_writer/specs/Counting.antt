-- How many questions were told to a walk that writes, beside those that it asked, and how long its text is.
use Rattle.std.specs.Prelude.{◌≡◌, ℕ, ◌+◌, ◌-◌, ◌<◌, ◌≤◌, Option, Some, None}
use Rattle.proof_trees.specs.Starters.{HasCounted}
use Rattle.proof_writer.specs.declared.place.WriterStep.{WriterStep}
use Rattle.proof_writer.specs.declared.place.WriterStep.TheVariants as steps
use Rattle.proof_writer.specs.declared.place.TreeEnd.{TreeEnd}
use Rattle.proof_writer.specs.declared.place.TreeEnd.TheVariants.{Whole, Spent, TooLong, Stuck}

-- the questions that were told and not asked: one where no more may be asked
abbrev pub unasked : TreeEnd → ℕ
unasked Whole = 0
unasked Spent = 1
unasked TooLong = 0
unasked Stuck = 0

-- the same where a step came to this
abbrev pub unasked_at : WriterStep → ℕ
unasked_at steps.More = 0
unasked_at steps.Done = 0
unasked_at steps.Spent = 1
unasked_at steps.Stuck = 0

-- the same where the walk may go on
abbrev pub unasked_after : Option TreeEnd → ℕ
unasked_after None = 0
unasked_after (Some ending) = unasked ending

-- a question was told: one fewer may be asked now, or none might
abbrev pub TakesOne : WriterStep → ℕ → ℕ → Type 0
TakesOne steps.More was_left left = was_left ≡ left + 1
TakesOne steps.Done was_left left = was_left ≡ left + 1
TakesOne steps.Spent was_left left = (was_left ≡ 0) × (left ≡ 0)
TakesOne steps.Stuck was_left left = was_left ≡ left + 1

-- no question was told, and as many may be asked as before
abbrev pub TakesNone : WriterStep → ℕ → ℕ → Type 0
TakesNone step was_left left = (unasked_at step ≡ 0) × (left ≡ was_left)

-- between two counts of questions that may still be asked, an asker told as many, and so many besides; these only
-- where none may be asked any more
pub record HasTaken (was_left left was_told told besides : ℕ) : Type 0 where
  pub falls : left ≤ was_left
  pub counted : HasCounted was_told (was_left - left + besides) told
  pub spent : 0 < besides → left ≡ 0

-- a text of so many bytes keeps the limit where the tree is whole, and has passed it where it is too long
abbrev pub IsOfLength : ℕ → TreeEnd → ℕ → Type 0
IsOfLength most Whole count = count ≤ most
IsOfLength most Spent count = Unit {0}
IsOfLength most TooLong count = most < count
IsOfLength most Stuck count = Unit {0}
