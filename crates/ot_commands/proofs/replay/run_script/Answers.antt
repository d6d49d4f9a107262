-- What running the events comes to is the reply to the script, from the new session on.
use Rattle.std.proofs.Common.{ℕ, ◌≤◌, List, length, Ok, Err, sym, ap, ◌∙◌, subst}
use Rattle.std.proofs.lemmas.Result.{IfOk-weaker}
use Rattle.case_json.specs.declared.limits.TheConstants.{MAX_EVENTS, MAX_SITES}
use Rattle.case_json.specs.declared.script.Event.{Event}
use Rattle.fn_rules.specs.Functions.{Function}
use Rattle.fn_rules.specs.Rules.{function_of}
use Rattle.ot_session.specs.Views.{view_of}
use Rattle.ot_commands.specs.Replay.{IsReplyToScript, MakesSitesAgree, Runs, TellsSites}
use Rattle.ot_commands.specs.declared.halt.Halt.{Halt}
use Rattle.ot_commands.proofs.replay.run_script.Goals as goal

pub new-requires-clause-sites : goal.new-requires-clause-sites
new-requires-clause-sites c = (c.requires.some_sites, c.requires.few_sites)

pub new-requires-clause-cells : goal.new-requires-clause-cells
new-requires-clause-cells c = c.requires.few_cells

pub run_events-requires-clause-is_open : goal.run_events-requires-clause-is_open
run_events-requires-clause-is_open c = c.in_ok-session.ensures.is_open

pub run_events-requires-clause-few : goal.run_events-requires-clause-few
run_events-requires-clause-few c =
    subst (λ (l : List Event). length l ≤ MAX_EVENTS) (sym c.as_slice.ensures) c.requires.few_events

-- the sites are as many as at the start
pub ended-requires : goal.ended-requires
ended-requires c =
    subst (λ (n : ℕ). n ≤ MAX_SITES) (sym (c.in-Ok.ensures.sites ∙ c.in_ok-session.ensures.count)) c.requires.few_sites

-- the reply is that to the script, run from a new session
pub returns-in-Ok-clause-reply : goal.returns-in-Ok-clause-reply
returns-in-Ok-clause-reply c =
    let begun = view_of c.in_ok-session.session in
    IfOk-weaker c.ended.result (TellsSites (view_of c.run_events.new.session))
    (IsReplyToScript (function_of c.args.rules.now) (Ok c.args.script.now))
    (λ r tells. (
      begun,
      c.in_ok-session.ensures,
      subst (λ (l : List Event). Runs begun 0 l r) c.as_slice.ensures (c.in-Ok.ensures.ok r tells),
    ))
    c.ended.ensures.tells

pub returns-in-Ok-clause-steady : goal.returns-in-Ok-clause-steady
returns-in-Ok-clause-steady c agree =
    c.ended.ensures.steady
    (subst (λ (f : Function). MakesSitesAgree f)
    (sym (c.in-Ok.ensures.function ∙ c.in_ok-session.ensures.function)) agree)

pub returns-in-Err-Refused-clause-reply : goal.returns-in-Err-Refused-clause-reply
returns-in-Err-Refused-clause-reply c =
    let begun = view_of c.in_ok-session.session in
    let r = c.in-Err-Refused.reply in (
      begun,
      c.in_ok-session.ensures,
      subst (λ (l : List Event). Runs begun 0 l r) c.as_slice.ensures
          (c.in-Err-Refused.ensures.refused r (ap (λ (h : Halt). Err h) c.in-Err-Refused.field-0-is)),
    )

pub returns-in-Err-Refused-clause-steady : goal.returns-in-Err-Refused-clause-steady
returns-in-Err-Refused-clause-steady c agree =
    c.in-Err-Refused.ensures.steady (subst (λ (f : Function). MakesSitesAgree f) (sym c.in_ok-session.ensures.function)
    agree) c.in-Err-Refused.reply (ap (λ (h : Halt). Err h) c.in-Err-Refused.field-0-is)
