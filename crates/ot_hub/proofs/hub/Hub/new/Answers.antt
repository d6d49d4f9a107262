use Rattle.std.proofs.Common.{refl}
use Rattle.fn_rules.specs.Rules.{function_of}
use Rattle.ot_hub.proofs.Beginning.{AreCountedEdits-begun, AreInStep-begun_hub, IsHubKept-begun}
use Rattle.ot_hub.proofs.hub.Hub.new.Goals as goal

pub invariant_of-result-clause-kept : goal.invariant_of-result-clause-kept
invariant_of-result-clause-kept c =
    rw (c.in_ok-fresh_server.ensures, c.in_ok-fresh_clients.ensures)
    (IsHubKept-begun c.args.doc.now c.args.clients (function_of c.in_ok-try_clone.field-0)
    c.requires.clients.1 c.requires.cells)

pub invariant_of-result-clause-followed : goal.invariant_of-result-clause-followed
invariant_of-result-clause-followed c =
    rw (c.in_ok-try_clone-2.ensures, c.in_ok-fresh_server.ensures) refl

pub invariant_of-result-clause-counted : goal.invariant_of-result-clause-counted
invariant_of-result-clause-counted c =
    rw (c.in_ok-fresh_server.ensures, c.in_ok-fresh_clients.ensures)
    (AreCountedEdits-begun c.args.doc.now c.args.clients)

pub invariant_of-result-clause-in_step : goal.invariant_of-result-clause-in_step
invariant_of-result-clause-in_step c tp1 chars =
    rw (c.in_ok-try_clone-2.ensures, c.in_ok-fresh_server.ensures, c.in_ok-fresh_clients.ensures)
    (∣ AreInStep-begun_hub c.args.doc.now c.args.clients (function_of c.in_ok-try_clone.field-0) ∣₁)

pub returns : goal.returns
returns c = rw (
  c.in_ok-try_clone.ensures,
  c.in_ok-try_clone-2.ensures,
  c.in_ok-fresh_server.ensures,
  c.in_ok-fresh_clients.ensures,
) refl
