use Rattle.std.proofs.Common.{◌≤◌, ℕ, List, length, subst, sym, arith}
use Rattle.std.proofs.lemmas.List.{take_all}
use Rattle.case_json.specs.declared.script.Event.{Event}
use Rattle.ot_session.specs.Views.{view_of}
use Rattle.ot_drill.specs.declared.tally.Tally.{Tally}
use Rattle.ot_drill.specs.Playing.{ArePlayed}
use Rattle.ot_drill.proofs.InPlay.{InPlay, in_play-begun, in_play-next, is_drill, next_can_be_done}
use Rattle.ot_drill.proofs.Standing.{has_few_forms}
use Rattle.ot_drill.proofs.playing.play_all.Goals as goal

pub loop-event-init : goal.loop-event-init
loop-event-init c =
    let begun = view_of c.args.session.now in
    subst (λ (t : Tally). InPlay begun begun t c.args.events.now 0) (sym c.new-tally.ensures)
    (in_play-begun begun c.args.events.now c.requires.stands c.requires.fine)

pub loop-event-preserved : goal.loop-event-preserved
loop-event-preserved c =
    in_play-next (view_of c.args.session.now) (view_of c.loop-event.session) c.loop-event.tally c.args.events.now
    c.loop-event.event-index _ c.loop-event-test.true c.requires.function c.loop-event.invariant
    (view_of c.play_event.new.session) c.in_ok-tally.tally c.in_ok-tally.ensures

-- the next event can be done, and few were done before
pub play_event-requires : goal.play_event-requires
play_event-requires c =
    let begun = view_of c.args.session.now in
    let v = view_of c.loop-event.session in
    let i : ℕ = c.loop-event.event-index in
    let play = c.loop-event.invariant in record {
      is_open = play.stands.is_open;
      function = is_drill begun v c.requires.function play.function;
      may = next_can_be_done begun v c.loop-event.tally c.args.events.now i _ c.loop-event-test.true
          c.requires.function play;
      made = let few = play.made in omega arith;
      held = let few = play.held in omega arith;
      repeated = let few = play.repeated in omega arith;
    }

pub returns : goal.returns
returns c =
    let play = c.loop-event.invariant in
    let all : length c.args.events.now ≤ c.loop-event.event-index = omega arith in record {
      played = subst (λ (l : List Event). ArePlayed (view_of c.args.session.now) l (view_of c.loop-event.session)
          c.loop-event.tally) (take_all c.loop-event.event-index c.args.events.now all) play.played;
      sites = play.stands.sites;
      function = play.function;
      few = has_few_forms (view_of c.loop-event.session) play.counts play.stands;
    }
