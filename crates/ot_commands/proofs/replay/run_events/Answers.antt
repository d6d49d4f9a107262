use Rattle.std.proofs.Common.{refl, ◌∙◌, List, sym, subst}
use Rattle.std.proofs.lemmas.List.{drop_all, drop_more}
use Rattle.case_json.specs.declared.script.Event.{Event}
use Rattle.fn_rules.specs.Functions.{Function}
use Rattle.ot_session.specs.Views.{view_of}
use Rattle.ot_commands.specs.Replay.{IsDone, IsRefusedEvent, MakesSitesAgree, Runs, TellsSites}
use Rattle.ot_commands.specs.declared.halt.Halt.TheVariants.{Refused}
use Rattle.ot_commands.proofs.PassedOn.{passed_on}
use Rattle.ot_commands.proofs.RunsBy.{goes_on, stops}
use Rattle.ot_commands.proofs.Running.{done_is_open, done_keeps_function, done_keeps_sites}
use Rattle.ot_commands.proofs.replay.run_events.Goals as goal

pub loop-number-init : goal.loop-number-init
loop-number-init c = record { is_open = c.requires.is_open; rest = λ r runs. runs; sites = refl; function = refl }

pub run_event-requires : goal.run_event-requires
run_event-requires c = c.loop-number.invariant.is_open

-- an event was refused behind those that were done
pub returns-in_err-run_event-clause-refused : goal.returns-in_err-run_event-clause-refused
returns-in_err-run_event-clause-refused c r is =
    c.loop-number.invariant.rest r
    (stops TellsSites IsRefusedEvent IsDone (view_of c.loop-number.session) c.loop-number.number c.args.events.now _ r
    (drop_more c.args.events.now c.loop-number.number _ c.loop-number-test.true)
    (c.in_err-run_event.ensures.refused r
    (passed_on c.from_residual.result c.in_err-run_event.field-0.0 (Refused r) c.from_residual.ensures.1 is)))

pub returns-in_err-run_event-clause-steady : goal.returns-in_err-run_event-clause-steady
returns-in_err-run_event-clause-steady c agree r is =
    c.in_err-run_event.ensures.steady (subst (λ (f : Function). MakesSitesAgree f)
    (sym c.loop-number.invariant.function) agree) r
    (passed_on c.from_residual.result c.in_err-run_event.field-0.0 (Refused r) c.from_residual.ensures.1 is)

-- one event more was done
pub loop-number-preserved : goal.loop-number-preserved
loop-number-preserved c =
    let old = view_of c.loop-number.session in
    let new = view_of c.run_event.new.session in
    let done = c.in_ok-run_event.ensures.ok in record {
      is_open = done_is_open old new _ done c.loop-number.invariant.is_open;
      rest = λ r runs. c.loop-number.invariant.rest r
          (goes_on TellsSites IsRefusedEvent IsDone old new c.loop-number.number c.args.events.now _ r
          (drop_more c.args.events.now c.loop-number.number _ c.loop-number-test.true) done runs);
      sites = done_keeps_sites old new _ done ∙ c.loop-number.invariant.sites;
      function = done_keeps_function old new _ done ∙ c.loop-number.invariant.function;
    }

-- no event is left
pub returns-clause-ok : goal.returns-clause-ok
returns-clause-ok c r tells =
    let v = view_of c.loop-number.session in
    let i = c.loop-number.number in
    c.loop-number.invariant.rest r
    (subst (λ (l : List Event). Runs v i l r) (sym (drop_all i c.args.events.now c.loop-number-test.false)) tells)

pub returns-clause-sites : goal.returns-clause-sites
returns-clause-sites c = c.loop-number.invariant.sites

pub returns-clause-function : goal.returns-clause-function
returns-clause-function c = c.loop-number.invariant.function
