-- What running the events comes to is the reply to the script, from the new hub on.
use Rattle.std.proofs.Common.{◌≤◌, List, length, Ok, Err, sym, ap, ◌∙◌, subst}
use Rattle.std.proofs.lemmas.List.{length-replicate}
use Rattle.std.proofs.lemmas.Result.{IfOk-weaker}
use Rattle.case_json.specs.declared.hub.HubEvent.{HubEvent}
use Rattle.case_json.specs.declared.limits.TheConstants.{MAX_EVENTS}
use Rattle.fn_rules.specs.Functions.{Function}
use Rattle.fn_rules.specs.Rules.{function_of}
use Rattle.ot_hub.specs.Views.{HubData, hub_view_of}
use Rattle.ot_commands.specs.Hub.{IsReplyToHubScript, MakesClientsAgree, Runs, TellsHub}
use Rattle.ot_commands.specs.declared.halt.Halt.{Halt}
use Rattle.ot_commands.proofs.hub.run_script.Goals as goal

pub new-requires-clause-clients : goal.new-requires-clause-clients
new-requires-clause-clients c = (c.requires.some_sites, c.requires.few_sites)

pub new-requires-clause-cells : goal.new-requires-clause-cells
new-requires-clause-cells c = c.requires.few_cells

pub run_events-requires-clause-is_open : goal.run_events-requires-clause-is_open
run_events-requires-clause-is_open c = ap (λ (h : HubData). h.is_open) c.in_ok-hub.ensures

pub run_events-requires-clause-few : goal.run_events-requires-clause-few
run_events-requires-clause-few c =
    subst (λ (l : List HubEvent). length l ≤ MAX_EVENTS) (sym c.as_slice.ensures) c.requires.few_events

-- the clients are as many as at the start
pub ended-requires-clause-clients : goal.ended-requires-clause-clients
ended-requires-clause-clients c =
    c.in-Ok.ensures.clients ∙ ap (λ (h : HubData). length h.clients) c.in_ok-hub.ensures ∙ length-replicate _ _

pub ended-requires-clause-few : goal.ended-requires-clause-few
ended-requires-clause-few c = c.requires.few_sites

pub returns-in-Ok-clause-reply : goal.returns-in-Ok-clause-reply
returns-in-Ok-clause-reply c =
    let f = function_of c.args.rules.now in
    let script = c.args.script.now in
    IfOk-weaker c.ended.result (TellsHub (hub_view_of c.run_events.new.hub)) (IsReplyToHubScript f (Ok script))
    (λ r tells. subst (λ (h : HubData). Runs h 0 script.events r) c.in_ok-hub.ensures
    (subst (λ (l : List HubEvent). Runs (hub_view_of c.in_ok-hub.hub) 0 l r) c.as_slice.ensures
    (c.in-Ok.ensures.ok r tells))) c.ended.ensures.tells

pub returns-in-Ok-clause-steady : goal.returns-in-Ok-clause-steady
returns-in-Ok-clause-steady c agree =
    c.ended.ensures.steady
    (subst (λ (f : Function). MakesClientsAgree f)
    (sym (c.in-Ok.ensures.function ∙ ap (λ (h : HubData). h.function) c.in_ok-hub.ensures)) agree)

pub returns-in-Err-Refused-clause-reply : goal.returns-in-Err-Refused-clause-reply
returns-in-Err-Refused-clause-reply c =
    let r = c.in-Err-Refused.reply in
    rw c.in-Err-Refused.field-0-is
    (subst (λ (h : HubData). Runs h 0 c.args.script.now.events r) c.in_ok-hub.ensures
    (subst (λ (l : List HubEvent). Runs (hub_view_of c.in_ok-hub.hub) 0 l r) c.as_slice.ensures
    (c.in-Err-Refused.ensures.refused r (ap (λ (h : Halt). Err h) c.in-Err-Refused.field-0-is))))

pub returns-in-Err-Refused-clause-steady : goal.returns-in-Err-Refused-clause-steady
returns-in-Err-Refused-clause-steady c agree =
    rw c.in-Err-Refused.field-0-is
    (c.in-Err-Refused.ensures.steady
    (subst (λ (f : Function). MakesClientsAgree f) (sym (ap (λ (h : HubData). h.function) c.in_ok-hub.ensures)) agree)
    c.in-Err-Refused.reply (ap (λ (h : Halt). Err h) c.in-Err-Refused.field-0-is))
