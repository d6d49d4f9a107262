-- What comes of events that are all done, one after the other.
use Rattle.std.specs.Prelude.{◌≡◌, ℕ, ◌+◌, ◌*◌, ◌≤◌, List, [], ◌∷◌, ◌++◌, length, Ok}
use Rattle.case_json.specs.declared.script.Event.{Event}
use Rattle.case_json.specs.declared.script.Event.TheVariants.{Make, Take}
use Rattle.ot_causal.specs.Counting.{counted}
use Rattle.ot_causal.specs.Sessions.{IsSite}
use Rattle.ot_session.specs.declared.answer.Took.{Took}
use Rattle.ot_session.specs.declared.answer.Took.TheVariants.{Done, Held, Repeat}
use Rattle.ot_session.specs.Views.{View, data_in, view_of, IsBegun, HasMade, HasTaken}
use Rattle.ot_drill.specs.declared.limits.TheConstants.{SITES}
use Rattle.ot_drill.specs.declared.playing.Played.{Played}
use Rattle.ot_drill.specs.declared.tally.Tally.{Tally}
use Rattle.ot_drill.specs.Workload.{drill_function}
use Rattle.ot_drill.specs.Events.{drill_events}

-- nothing was counted
abbrev pub nothing_done : Tally
nothing_done = record { made = 0; held = 0; repeated = 0 }

-- the count behind an operation that was made
abbrev pub with_made : Tally → Tally
with_made tally = record tally { made = tally.made + 1 }

-- the count behind the answer to one that was taken
abbrev pub tally_with_answer : Tally → Took → Tally
tally_with_answer tally Held = record tally { held = tally.held + 1 }
tally_with_answer tally Repeat = record tally { repeated = tally.repeated + 1 }
tally_with_answer tally (Done numbers) = tally

-- the event is done and counted
abbrev pub IsPlayed : View → Tally → Event → View → Tally → Type 0
IsPlayed v tally (Make site op) new new_tally = (number : ℕ) × HasMade v new site op number
    × (new_tally ≡ with_made tally)
IsPlayed v tally (Take site number) new new_tally =
    (took : Took) × HasTaken v new site number (Ok took) × (new_tally ≡ tally_with_answer tally took)

-- the events are done one after the other from a session on, which is this one in the end, and this was counted
pub data ArePlayed (begun : View) : List Event → View → Tally → Type 0 where
  start : ArePlayed begun [] begun nothing_done
  then : (events : List Event) (mid new : View) (tally new_tally : Tally) (event : Event)
      → ArePlayed begun events mid tally
      → IsPlayed mid tally event new new_tally → ArePlayed begun (events ++ event ∷ []) new new_tally

-- no site has counted more forms than the operations of so many rounds can have
pub record CountsFewForms (v : View) : Type 0 where
  pub at : (s : ℕ) → IsSite SITES s → length (counted (data_in v).past ((data_in v).seen s)) ≤ 48 * 17 * 17

-- all events of the workload were done in a new session of three sites without cells
pub record HasPlayed (rounds : ℕ) (played : Played) : Type 0 where
  pub begun : View
  pub is_begun : IsBegun (drill_function rounds) [] SITES begun
  pub all : ArePlayed begun (drill_events rounds) (view_of played.session) played.tally
  pub sites : length (view_of played.session).sites ≡ SITES
  pub function : (view_of played.session).function ≡ drill_function rounds
  pub few : CountsFewForms (view_of played.session)
