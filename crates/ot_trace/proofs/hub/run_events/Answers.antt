use Rattle.std.proofs.Common.{List, ℕ, refl, sym, subst, ◌∙◌}
use Rattle.std.proofs.lemmas.List.{drop_all, drop_more}
use Rattle.case_json.specs.declared.hub.HubEvent.{HubEvent}
use Rattle.ot_hub.specs.Views.{hub_view_of}
use Rattle.ot_trace.specs.HubTexts.{StopsHubEvent, TellsHubEvent, TracesHub}
use Rattle.ot_trace.proofs.HubKeeping.{told_keeps}
use Rattle.ot_trace.proofs.Telling.{goes_on, stops, told_done, told_stopped}
use Rattle.ot_trace.proofs.hub.run_events.Goals as goal

-- one event more was done
pub loop-number-preserved : goal.loop-number-preserved
loop-number-preserved c =
    let old = hub_view_of c.loop-number.hub in
    let new = hub_view_of c.run_event.new.hub in
    let events : List HubEvent = c.args.events.now in
    let i : ℕ = c.loop-number.number in
    let out : List ℕ = c.loop-number.out.items in
    let mid : List ℕ = c.run_event.new.out.items in
    let told = told_done TellsHubEvent StopsHubEvent old new i _ c.in_ok-run_event.field-0 out mid c.if-not-branch.false
    c.in_ok-run_event.ensures in
    let kept = told_keeps old new i _ told.0 told.1 in
    record {
      is_open = kept.is_open ∙ c.loop-number.invariant.is_open;
      function = kept.function ∙ c.loop-number.invariant.function;
      rest = λ after traces. c.loop-number.invariant.rest after
          (goes_on TellsHubEvent StopsHubEvent old new i events _ out mid after
          (drop_more events i _ c.loop-number-test.true) told traces);
    }

-- no event is left
pub returns : goal.returns
returns c =
    let hub = hub_view_of c.loop-number.hub in
    let i : ℕ = c.loop-number.number in
    let out : List ℕ = c.loop-number.out.items in
    c.loop-number.invariant.rest out
    (subst (λ (l : List HubEvent). TracesHub hub i l out out)
    (sym (drop_all i c.args.events.now c.loop-number-test.false)) refl)

-- an event was refused
pub returns-then-not-branch : goal.returns-then-not-branch
returns-then-not-branch c =
    let old = hub_view_of c.loop-number.hub in
    let new = hub_view_of c.run_event.new.hub in
    let events : List HubEvent = c.args.events.now in
    let i : ℕ = c.loop-number.number in
    let out : List ℕ = c.loop-number.out.items in
    let mid : List ℕ = c.run_event.new.out.items in
    c.loop-number.invariant.rest mid
    (stops TellsHubEvent StopsHubEvent old new i events _ out mid (drop_more events i _ c.loop-number-test.true)
    (told_stopped TellsHubEvent StopsHubEvent old new i _ c.in_ok-run_event.field-0 out mid c.if-not-branch.true
    c.in_ok-run_event.ensures))
