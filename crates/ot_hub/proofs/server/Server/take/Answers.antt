use Rattle.std.proofs.Common.{◌≡◌, ◌-◌, ℕ, true, length, refl, sym, ap, ◌∙◌, subst}
use Rattle.std.specs.Prelude.{unwrap_or, []}
use Rattle.ot_model.specs.Effect.{IsEnabled, is_enabled}
use Rattle.fn_rules.specs.Rules.{function_of}
use Rattle.ot_hub.specs.declared.server.Server.{Server}
use Rattle.ot_hub.specs.Steps.{Step, ahead_of, server_step, HasStepped}
use Rattle.ot_hub.specs.Usable.{CanBeCarried}
use Rattle.ot_hub.proofs.Kept.{CanBeCarried-ahead}
use Rattle.ot_hub.proofs.Stepping.{HasStepped-lacked, carried_some, server_step-none, server_step-refused}
use Rattle.ot_hub.proofs.Stepping.{server_step-leads, server_step-done}
use Rattle.ot_hub.proofs.server.Server.take.Goals.{After-as_slice-ahead, After-carry_list}
use Rattle.ot_hub.proofs.server.Server.take.Goals as goal

-- the list for the client is read
there : (c : After-as_slice-ahead) → ahead_of c.args.self.now c.args.client ≡ c.as_slice-ahead.result.now
there c = ap (λ found. unwrap_or found []) c.index.ensures ∙ sym c.as_slice-ahead.ensures

-- the message can be carried over it
can_be_carried : (c : After-as_slice-ahead)
    → CanBeCarried (function_of c.args.rules.now) c.args.message.now.op c.as_slice-ahead.result.now
can_be_carried c =
    rw c.as_slice-ahead.ensures
    (CanBeCarried-ahead c.enabled_operations_are_near.ensures.wider (function_of c.args.rules.now) c.args.self.now
    c.requires.kept (c.args.client - 1) c.index.result.now c.index.ensures c.args.message.now.op c.requires.usable)

-- what it becomes is enabled
enabled : (c : After-carry_list) → is_enabled c.in-Some.form (length c.args.self.now.doc) ≡ true
enabled c = ap (is_enabled c.in-Some.form) (sym c.len.ensures) ∙ sym c.if-not-enabled.ensures.test

pub carried-requires : goal.carried-requires
carried-requires c = can_be_carried (goal.at.carried-requires c).After-as_slice-ahead

pub carry_list-requires-clause-usable : goal.carry_list-requires-clause-usable
carry_list-requires-clause-usable c = can_be_carried (goal.at.carry_list-requires-clause-usable c).After-as_slice-ahead

pub carry_list-requires-clause-carried : goal.carry_list-requires-clause-carried
carry_list-requires-clause-carried c = carried_some _ c.in-Some.form c.in-Some.ensures

-- the message can't be carried
pub returns-in_default : goal.returns-in_default
returns-in_default c = (
  server_step-none (function_of c.args.rules.now) c.args.client c.args.message.now c.args.self.now
      c.as_slice-ahead.result.now (there (goal.at.returns-in_default c).After-as_slice-ahead) c.in_default.ensures,
  refl,
)

-- what it becomes is not enabled
pub returns-then-not-enabled : goal.returns-then-not-enabled
returns-then-not-enabled c = (
  server_step-refused (function_of c.args.rules.now) c.args.client c.args.message.now c.args.self.now
      c.as_slice-ahead.result.now (there (goal.at.returns-then-not-enabled c).After-as_slice-ahead) c.in-Some.form
      c.in-Some.ensures (ap (is_enabled c.in-Some.form) (sym c.len.ensures) ∙ sym c.if-not-enabled.ensures.test),
  refl,
)

pub returns-in_err-own : goal.returns-in_err-own
returns-in_err-own c =
    let at = goal.at.returns-in_err-own c in
    let server : Server = c.args.self.now in
    let step : Step Server = server_step (function_of c.args.rules.now) c.args.client c.args.message.now server in
    HasStepped-lacked server server step c.from_residual.result c.from_residual.ensures.1
    (server_step-leads (function_of c.args.rules.now) c.args.client c.args.message.now server
    c.as_slice-ahead.result.now
    (there at.After-as_slice-ahead) c.in-Some.form c.in-Some.ensures (enabled at.After-carry_list)) refl

pub take_carried-requires-clause-enabled : goal.take_carried-requires-clause-enabled
take_carried-requires-clause-enabled c =
    subst (λ (n : ℕ). IsEnabled c.in-Some.form n) c.len.ensures (c.if-not-enabled.ensures.fact.0 refl)

-- what it became is taken
pub returns : goal.returns
returns c =
    let at = goal.at.returns c in
    let server : Server = c.args.self.now in
    subst (λ (step : Step Server). HasStepped server c.take_carried.new.self step c.take_carried.result)
    (sym (server_step-done (function_of c.args.rules.now) c.args.client c.args.message.now server
    c.as_slice-ahead.result.now (there at.After-as_slice-ahead) c.in-Some.form c.in_ok-own.own c.in-Some.ensures
    c.in_ok-own.ensures (enabled at.After-carry_list))) c.take_carried.ensures
