-- A session in which the first of some events were done.
use Rattle.std.proofs.Common.{◌≡◌, ◌<◌, ◌≤◌, ◌+◌, ℕ, true, List, length, take, drop, get_or, refl, sym, ap, ◌∙◌, subst}
use Rattle.std.proofs.Common.{arith}
use Rattle.std.proofs.lemmas.Bool.{and_parts}
use Rattle.std.proofs.lemmas.List.{drop_more, take_more}
use Rattle.case_json.specs.declared.script.Event.{Event}
use Rattle.case_json.specs.declared.script.Event.TheVariants.{Make, Take}
use Rattle.ot_session.specs.declared.answer.Took.{Took}
use Rattle.ot_session.specs.declared.answer.Took.TheVariants.{Done, Held, Repeat}
use Rattle.ot_session.specs.Views.{View}
use Rattle.ot_drill.specs.declared.tally.Tally.{Tally}
use Rattle.ot_drill.specs.FineEvents.{CanBeDone, MadeCounts, IsDrillFunction, SessionStands, are_fine, counts_behind}
use Rattle.ot_drill.specs.FineEvents.{is_fine, none_made}
use Rattle.ot_drill.specs.Playing.{ArePlayed, IsPlayed, nothing_done, tally_with_answer}
use Rattle.ot_drill.specs.Playing.ArePlayed.{start, then}
use Rattle.ot_drill.proofs.Standing.{can_be_done, function_behind, stands_behind}

-- so many of the events were done, and the others are not refused
pub record InPlay (begun v : View) (tally : Tally) (events : List Event) (i : ℕ) : Type 0 where
  pub counts : MadeCounts
  pub stands : SessionStands v counts
  pub fine : are_fine counts (drop i events) ≡ true
  pub function : v.function ≡ begun.function
  pub played : ArePlayed begun (take i events) v tally
  pub made : tally.made ≤ i
  pub held : tally.held ≤ i
  pub repeated : tally.repeated ≤ i

-- before the first event
pub in_play-begun : (begun : View) (events : List Event) → SessionStands begun none_made
    → are_fine none_made events ≡ true
    → InPlay begun begun nothing_done events 0
in_play-begun begun events stands fine = record {
  counts = none_made;
  stands = stands;
  fine = fine;
  function = refl;
  played = start;
  made = omega arith;
  held = omega arith;
  repeated = omega arith;
}

-- an event counts once at the most
record CountsOnce (old new : Tally) : Type 0 where
  made : new.made ≤ old.made + 1
  held : new.held ≤ old.held + 1
  repeated : new.repeated ≤ old.repeated + 1

counts_answer : (tally : Tally) (took : Took) → CountsOnce tally (tally_with_answer tally took)
counts_answer tally Held = record { made = omega arith; held = omega arith; repeated = omega arith }
counts_answer tally Repeat = record { made = omega arith; held = omega arith; repeated = omega arith }
counts_answer tally (Done numbers) = record { made = omega arith; held = omega arith; repeated = omega arith }

counts_once : (v new : View) (tally new_tally : Tally) (event : Event) → IsPlayed v tally event new new_tally
    → CountsOnce tally new_tally
counts_once v new tally new_tally (Make s o) played =
    rw played.2 (record { made = omega arith; held = omega arith; repeated = omega arith })
counts_once v new tally new_tally (Take s n) played = rw played.2 (counts_answer tally played.0)

-- the function stays that of a workload
pub is_drill : (begun v : View) → IsDrillFunction begun.function → v.function ≡ begun.function
    → IsDrillFunction v.function
is_drill begun v is same = (is.0, same ∙ is.1)

module _ (begun v : View) (tally : Tally) (events : List Event) (i : ℕ) (d : Event) (within : i < length events)
    (is : IsDrillFunction begun.function) (play : InPlay begun v tally events i) where
  parts : (is_fine play.counts (get_or events i d) ≡ true)
      × (are_fine (counts_behind play.counts (get_or events i d)) (drop (i + 1) events) ≡ true)
  parts =
      and_parts (is_fine play.counts (get_or events i d)) (are_fine (counts_behind play.counts (get_or events i d))
      (drop (i + 1) events)) (sym (ap (λ l. are_fine play.counts l) (drop_more events i d within)) ∙ play.fine)

  pub next_can_be_done : CanBeDone v (get_or events i d)
  next_can_be_done =
      can_be_done v play.counts play.stands (get_or events i d) (is_drill begun v is play.function) parts.0

  -- one event more was done, and the session is in play
  pub in_play-next : (new : View) (new_tally : Tally) → IsPlayed v tally (get_or events i d) new new_tally
      → InPlay begun new new_tally events (i + 1)
  in_play-next new new_tally played =
      let once = counts_once v new tally new_tally (get_or events i d) played in
      record {
        counts = counts_behind play.counts (get_or events i d);
        stands = stands_behind v new play.counts tally new_tally (get_or events i d) play.stands
            (is_drill begun v is play.function) parts.0 played;
        fine = parts.1;
        function = function_behind v new tally new_tally (get_or events i d) played ∙ play.function;
        played = subst (λ (l : List Event). ArePlayed begun l new new_tally) (sym (take_more events i d within))
            (then (take i events) v new tally new_tally (get_or events i d) play.played played);
        made = let more = once.made in let few = play.made in omega arith;
        held = let more = once.held in let few = play.held in omega arith;
        repeated = let more = once.repeated in let few = play.repeated in omega arith;
      }
