use Rattle.std.proofs.Common.{List, ℕ, refl, sym, subst}
use Rattle.std.proofs.lemmas.List.{drop_all, drop_more}
use Rattle.case_json.specs.declared.script.Event.{Event}
use Rattle.ot_session.specs.Views.{view_of}
use Rattle.ot_trace.specs.SessionTexts.{StopsEvent, TellsEvent, TracesSession}
use Rattle.ot_trace.proofs.SessionKeeping.{told_is_open}
use Rattle.ot_trace.proofs.Telling.{goes_on, told_done}
use Rattle.ot_trace.proofs.session.run_events.Goals as goal

-- one event more was done
pub loop-number-preserved : goal.loop-number-preserved
loop-number-preserved c =
    let old = view_of c.loop-number.session in
    let new = view_of c.run_event.new.session in
    let events : List Event = c.args.events.now in
    let i : ℕ = c.loop-number.number in
    let out : List ℕ = c.loop-number.out.items in
    let mid : List ℕ = c.run_event.new.out.items in
    let told = told_done TellsEvent StopsEvent old new i _ c.in_ok-run_event.field-0 out mid c.if-not-branch.false
    c.in_ok-run_event.ensures in
    record {
      is_open = told_is_open old new i _ told.0 told.1 c.loop-number.invariant.is_open;
      rest = λ after traces. c.loop-number.invariant.rest after
          (goes_on TellsEvent StopsEvent old new i events _ out mid after
          (drop_more events i _ c.loop-number-test.true) told traces);
    }

-- no event is left
pub returns : goal.returns
returns c =
    let v = view_of c.loop-number.session in
    let i : ℕ = c.loop-number.number in
    let out : List ℕ = c.loop-number.out.items in
    c.loop-number.invariant.rest out
    (subst (λ (l : List Event). TracesSession v i l out out)
    (sym (drop_all i c.args.events.now c.loop-number-test.false)) refl)
