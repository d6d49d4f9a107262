-- How many questions were told to a search, beside those that it asked.
use Rattle.std.specs.Prelude.{◌≡◌, ℕ, ◌+◌, ◌-◌, ◌<◌, ◌≤◌, Option, Some, None}
use Rattle.proof_trees.specs.Starters.{HasCounted}
use Rattle.proof_search.specs.declared.turns.SearchEnd.{SearchEnd}
use Rattle.proof_search.specs.declared.turns.SearchEnd.TheVariants as ends
use Rattle.proof_search.specs.declared.seeking.SearchOutcome.{SearchOutcome}
use Rattle.proof_search.specs.declared.seeking.SearchOutcome.TheVariants as outcomes

-- the questions that were told and not asked: one where the budget was spent
abbrev pub unasked : SearchOutcome → ℕ
unasked outcomes.Shown = 0
unasked (outcomes.Failing answers) = 0
unasked outcomes.Spent = 1
unasked outcomes.Stuck = 0

-- the same where a search has ended so
abbrev pub unasked_at : SearchEnd → ℕ
unasked_at ends.Shown = 0
unasked_at ends.Failing = 0
unasked_at ends.Spent = 1
unasked_at ends.Stuck = 0

-- the same where it may go on
abbrev pub unasked_after : Option SearchEnd → ℕ
unasked_after None = 0
unasked_after (Some ending) = unasked_at ending

-- between two counts of questions asked, an asker told as many, and so many besides; these only where all that the
-- budget allows were asked
pub record HasAsked (budget was_asked asked was_told told besides : ℕ) : Type 0 where
  pub rises : was_asked ≤ asked
  pub counted : HasCounted was_told (asked - was_asked + besides) told
  pub spent : 0 < besides → asked ≡ budget
