use Rattle.std.proofs.Common.{◌≡◌, ◌+◌, List, length, Some, refl, sym, ap, ◌∙◌}
use Rattle.ot_model.specs.declared.cell.Cell.{Cell}
use Rattle.ot_model.specs.Effect.{is_enabled}
use Rattle.fn_rules.specs.Functions.{Function}
use Rattle.fn_rules.specs.Rules.{function_of}
use Rattle.ot_hub.specs.declared.client.Client.{Client}
use Rattle.ot_hub.specs.declared.placed.Entry.{Entry}
use Rattle.ot_hub.specs.declared.placed.PlacedOp.{PlacedOp}
use Rattle.ot_hub.specs.Carry.{carry, from_place, carried_op, carried_list}
use Rattle.ot_hub.specs.Steps.{IsTo, To, client_step, client_after}
use Rattle.ot_hub.proofs.Stepping.{HasStepped-lacked, carried_some, client_step-own, goes_on-none, goes_on-refused}
use Rattle.ot_hub.proofs.Stepping.{goes_on-leads, goes_on-done, client_step-other}
use Rattle.ot_hub.proofs.client.Client.take.Goals as goal

pub carried-requires : goal.carried-requires
carried-requires c = rw c.as_slice.ensures c.requires.usable

pub carry_list-requires-clause-usable : goal.carry_list-requires-clause-usable
carry_list-requires-clause-usable c = rw c.as_slice-2.ensures c.requires.usable

pub carry_list-requires-clause-carried : goal.carry_list-requires-clause-carried
carry_list-requires-clause-carried c =
    let f : Function = function_of c.args.rules.now in
    let pending : List PlacedOp = c.args.self.now.pending in
    rw c.as_slice-2.ensures (carried_some (carry f c.args.entry.now.op (from_place 0 pending)) c.in-Some.form
    (rw (← c.as_slice.ensures) c.in-Some.ensures))

-- its own entry is the oldest that is pending
pub returns-then-entry-number : goal.returns-then-entry-number
returns-then-entry-number c =
    let client : Client = c.args.self.now in
    client_step-own (function_of c.args.rules.now) c.args.number c.args.entry.now client c.if-entry-number.true
    ∙ ap (λ (pending : List PlacedOp). To (record client { received = client.received + 1; pending = pending }))
    (sym c.drop_first.ensures)

pub returns-in_default : goal.returns-in_default
returns-in_default c =
    let f : Function = function_of c.args.rules.now in
    let client : Client = c.args.self.now in
    let entry : Entry = c.args.entry.now in (
      client_step-other f c.args.number entry client c.if-entry-number.false
          ∙ goes_on-none (carry f entry.op (from_place 0 client.pending)) (length client.doc)
          (λ carried. client_after f.head.mode carried client) (rw (← c.as_slice.ensures) c.in_default.ensures),
      refl,
    )

pub returns-then-not-enabled : goal.returns-then-not-enabled
returns-then-not-enabled c =
    let f : Function = function_of c.args.rules.now in
    let client : Client = c.args.self.now in
    let entry : Entry = c.args.entry.now in (
      client_step-other f c.args.number entry client c.if-entry-number.false
          ∙ goes_on-refused (carry f entry.op (from_place 0 client.pending)) c.in-Some.form (length client.doc)
          (λ carried. client_after f.head.mode carried client)
          (rw (← c.as_slice.ensures) c.in-Some.ensures) (ap (is_enabled c.in-Some.form) (sym c.len.ensures)
          ∙ sym c.if-not-enabled.ensures.test),
      refl,
    )

pub returns-in_err-pending : goal.returns-in_err-pending
returns-in_err-pending c =
    let f : Function = function_of c.args.rules.now in
    let client : Client = c.args.self.now in
    let entry : Entry = c.args.entry.now in
    let leads : IsTo (client_step f c.args.number entry client) =
    rw (client_step-other f c.args.number entry client c.if-entry-number.false)
    (goes_on-leads (carry f entry.op (from_place 0 client.pending)) c.in-Some.form (length client.doc)
    (λ carried. client_after f.head.mode carried client)
    (rw (← c.as_slice.ensures) c.in-Some.ensures) (ap (is_enabled c.in-Some.form) (sym c.len.ensures)
    ∙ sym c.if-not-enabled.ensures.test)) in
    HasStepped-lacked client client (client_step f c.args.number entry client) c.from_residual.result
    c.from_residual.ensures.1 leads refl

pub returns-in_err-execute : goal.returns-in_err-execute
returns-in_err-execute c =
    let f : Function = function_of c.args.rules.now in
    let client : Client = c.args.self.now in
    let entry : Entry = c.args.entry.now in
    let leads : IsTo (client_step f c.args.number entry client) =
    rw (client_step-other f c.args.number entry client c.if-entry-number.false)
    (goes_on-leads (carry f entry.op (from_place 0 client.pending)) c.in-Some.form (length client.doc)
    (λ carried. client_after f.head.mode carried client)
    (rw (← c.as_slice.ensures) c.in-Some.ensures) (ap (is_enabled c.in-Some.form) (sym c.len.ensures)
    ∙ sym c.if-not-enabled.ensures.test)) in
    HasStepped-lacked client (record client { doc = c.execute.new.doc }) (client_step f c.args.number entry client)
    c.from_residual-in_err-execute.result
    c.from_residual-in_err-execute.ensures.1 leads
    (ap (λ (d : List Cell). record client { doc = d }) c.in_err-execute.ensures.err)

-- another client's entry: its form was executed, and what is pending was carried over it
pub returns : goal.returns
returns c =
    let f : Function = function_of c.args.rules.now in
    let client : Client = c.args.self.now in
    let entry : Entry = c.args.entry.now in
    let op : Some c.in-Some.form ≡ carried_op (carry f entry.op (from_place 0 client.pending)) =
    rw (← c.as_slice.ensures) c.in-Some.ensures in
    let list : carried_list (carry f entry.op (from_place 0 client.pending))
    ≡ Some c.in_ok-pending.pending = rw (← c.as_slice-2.ensures) c.in_ok-pending.ensures in
    rw c.in_ok-execute.ensures.ok
    (client_step-other f c.args.number entry client c.if-entry-number.false
    ∙ goes_on-done (carry f entry.op (from_place 0 client.pending)) c.in-Some.form
    c.in_ok-pending.pending (length client.doc)
    (λ carried. client_after f.head.mode carried client) op list (ap (is_enabled c.in-Some.form) (sym c.len.ensures)
    ∙ sym c.if-not-enabled.ensures.test))
