use Rattle.std.proofs.Common.{◌≡◌, ◌-◌, ◌<◌, ℕ, true, false, List, [], ◌∷◌, length, Some, refl, sym, ap, ◌∙◌, subst}
use Rattle.std.proofs.Common.{arith, length-append}
use Rattle.std.proofs.Math.Logic.{∥∥₁_map}
use Rattle.std.specs.Prelude.{slice_set}
use Rattle.std.specs.Vec.{with_items}
use Rattle.ot_model.specs.Operations.{kind_of}
use Rattle.ot_model.specs.Effect.{IsEnabled}
use Rattle.fn_rules.specs.Functions.{Function, IsForKind}
use Rattle.fn_rules.specs.Rules.{function_of}
use Rattle.ot_hub.specs.declared.client.Client.{Client}
use Rattle.ot_hub.specs.declared.limits.TheConstants.{MAX_EDITS}
use Rattle.ot_hub.specs.Clients.{client_at}
use Rattle.ot_hub.specs.Steps.{edited}
use Rattle.ot_hub.specs.Views.{IsClient, hub_view_of}
use Rattle.ot_hub.proofs.Keeping.{CanEdit-kept, IsHubKept-edited, IsForKind-declared}
use Rattle.ot_hub.proofs.Acting.{inside_of, items_same, items_set}
use Rattle.ot_hub.proofs.Together.{AreCountedEdits-set, AreInStep-edited}
use Rattle.ot_hub.proofs.hub.Hub.edit.Goals as goal

pub edit_at-requires-clause-client : goal.edit_at-requires-clause-client
edit_at-requires-clause-client c =
    let s = c.args.self.now in
    let all : List Client = s.clients.items in
    let there : IsClient (length all) c.args.client = c.if-not-has_client.ensures.0 refl in
    let enabled : IsEnabled c.args.op (length (client_at all (c.args.client - 1)).doc) =
    subst (λ (n : ℕ). IsEnabled c.args.op n) (c.len.ensures ∙ ap length c.client.ensures)
    (c.if-not-enabled.ensures.fact.0 refl) in
    rw c.deref_mut.ensures.value
    (CanEdit-kept (function_of s.rules) s.made s.server all s.kept (c.args.client - 1)
    (omega (arith, there.low, there.high)) c.args.op enabled (omega (arith, s.kept.few, c.if-self-eq-MAX_EDITS.false)))

-- the hub stays kept, counted and in step where the client made the operation
pub invariant_of-self-in-Ok : goal.invariant_of-self-in-Ok
invariant_of-self-in-Ok c =
    let s = c.args.self.now in
    let f : Function = function_of s.rules in
    let all : List Client = s.clients.items in
    let place : ℕ = c.args.client - 1 in
    let one : Client = client_at all place in
    let there : IsClient (length all) c.args.client = c.if-not-has_client.ensures.0 refl in
    let inside : place < length all = inside_of all c.args.client there in
    let few : s.made < MAX_EDITS = omega (arith, s.kept.few, c.if-self-eq-MAX_EDITS.false) in
    let enabled : IsEnabled c.args.op (length one.doc) =
    subst (λ (n : ℕ). IsEnabled c.args.op n) (c.len.ensures ∙ ap length c.client.ensures)
    (c.if-not-enabled.ensures.fact.0 refl) in
    let declared : IsForKind f.head (kind_of c.args.op) =
    IsForKind-declared f.head (kind_of c.args.op) (c.if-not-has_declared_kind.ensures.0 refl) in
    let new : List Client = c.edit_at.new.clients in
    let is : new ≡ slice_set all place (edited f.head.mode c.args.op one) =
    rw (← c.deref_mut.ensures.value) c.in-Ok.ensures.ok in
    let items : (with_items s.clients new).items ≡ slice_set all place (edited f.head.mode c.args.op one) =
    items_set s.clients place (edited f.head.mode c.args.op one) new is in
    record {
      small = s.small;
      kept = rw items (IsHubKept-edited f s.made s.server all s.kept place inside
          c.enabled_operations_are_near.ensures.wider c.enabled_operations_are_near.ensures.enabled
          c.documents_grow_by_one_cell_at_most.ensures f.head.mode c.args.op
          (CanEdit-kept f s.made s.server all s.kept place inside c.args.op enabled few) declared few);
      followed = s.followed;
      counted = rw items
          (AreCountedEdits-set s.server.log all s.counted c.args.client there (edited f.head.mode c.args.op one)
          (omega (arith, length-append one.messages (record { place = one.received; op = c.args.op } ∷ []))));
      in_step = λ tp1 chars.
          rw items (∥∥₁_map (s.in_step tp1 chars) (λ k. AreInStep-edited f (c.functions_keep_forms.ensures f)
          (c.tp1_holds_of_forms.ensures f tp1) chars (c.transform_keeps_all_but_the_position.ensures f) s.first s.server
          all k c.args.client there c.args.op
          (record { declared = declared; enabled = enabled })
          (λ site has. let both : Some site ≡ Some c.args.client = sym has
          ∙ c.if-not-is_made_at.ensures.0 refl in cc)));
    }

-- there is no such client
pub returns-then-not-has_client-clause-edited : goal.returns-then-not-has_client-clause-edited
returns-then-not-has_client-clause-edited c =
    (λ there. let wrong : false ≡ true = c.if-not-has_client.ensures.1 there in cc, refl)

-- the operation is another client's
pub returns-then-not-is_made_at-clause-edited : goal.returns-then-not-is_made_at-clause-edited
returns-then-not-is_made_at-clause-edited c = (
  c.if-not-has_client.ensures.0 refl,
  λ own. let wrong : false ≡ true = c.if-not-is_made_at.ensures.1 own in cc,
  refl,
)

pub returns-then-not-has_declared_kind-clause-edited : goal.returns-then-not-has_declared_kind-clause-edited
returns-then-not-has_declared_kind-clause-edited c = (
  record { there = c.if-not-has_client.ensures.0 refl; own = c.if-not-is_made_at.ensures.0 refl },
  λ declared. let wrong : false ≡ true = c.if-not-has_declared_kind.ensures.1 declared in cc,
  refl,
)

pub returns-then-not-enabled-clause-edited : goal.returns-then-not-enabled-clause-edited
returns-then-not-enabled-clause-edited c = (
  record {
    site = record { there = c.if-not-has_client.ensures.0 refl; own = c.if-not-is_made_at.ensures.0 refl };
    declared = c.if-not-has_declared_kind.ensures.0 refl;
  },
  λ enabled.
      let wrong : false ≡ true =
      c.if-not-enabled.ensures.fact.1 (subst (λ (n : ℕ). IsEnabled c.args.op n)
      (sym (c.len.ensures ∙ ap length c.client.ensures)) enabled) in cc,
  refl,
)

-- as many operations were made as are allowed
pub returns-then-self-eq-MAX_EDITS-clause-edited : goal.returns-then-self-eq-MAX_EDITS-clause-edited
returns-then-self-eq-MAX_EDITS-clause-edited c = (
  record {
    kind = record {
      site = record { there = c.if-not-has_client.ensures.0 refl; own = c.if-not-is_made_at.ensures.0 refl };
      declared = c.if-not-has_declared_kind.ensures.0 refl;
    };
    enabled = subst (λ (n : ℕ). IsEnabled c.args.op n) (c.len.ensures ∙ ap length c.client.ensures)
        (c.if-not-enabled.ensures.fact.0 refl);
  },
  omega (arith, c.args.self.now.kept.made, c.if-self-eq-MAX_EDITS.true),
  refl,
)

-- the client made the operation
pub returns-in-Ok-clause-edited : goal.returns-in-Ok-clause-edited
returns-in-Ok-clause-edited c =
    let s = c.args.self.now in
    let all : List Client = s.clients.items in
    let place : ℕ = c.args.client - 1 in
    let after : Client = edited (function_of s.rules).head.mode c.args.op (client_at all place) in
    let new : List Client = c.edit_at.new.clients in
    let is : new ≡ slice_set all place after = rw (← c.deref_mut.ensures.value) c.in-Ok.ensures.ok in (
      record {
        kind = record {
          site = record { there = c.if-not-has_client.ensures.0 refl; own = c.if-not-is_made_at.ensures.0 refl };
          declared = c.if-not-has_declared_kind.ensures.0 refl;
        };
        enabled = subst (λ (n : ℕ). IsEnabled c.args.op n) (c.len.ensures ∙ ap length c.client.ensures)
            (c.if-not-enabled.ensures.fact.0 refl);
      },
      λ full. absurd (omega (arith, full, s.kept.made, c.if-self-eq-MAX_EDITS.false)),
      ap (λ (clients : List Client). record (hub_view_of s) { clients = clients })
          (items_set s.clients place after new is),
    )

-- there was no memory: the hub is closed, and otherwise as it was
pub invariant_of-self-in-Err : goal.invariant_of-self-in-Err
invariant_of-self-in-Err c =
    let s = c.args.self.now in
    let items = items_same s.clients c.edit_at.new.clients (c.in-Err.ensures.err ∙ c.deref_mut.ensures.value) in
    record {
      small = s.small;
      kept = rw items s.kept;
      followed = s.followed;
      counted = rw items s.counted;
      in_step = rw items s.in_step;
    }

pub returns-in-Err-clause-edited : goal.returns-in-Err-clause-edited
returns-in-Err-clause-edited c =
    let s = c.args.self.now in (
      record {
        kind = record {
          site = record { there = c.if-not-has_client.ensures.0 refl; own = c.if-not-is_made_at.ensures.0 refl };
          declared = c.if-not-has_declared_kind.ensures.0 refl;
        };
        enabled = subst (λ (n : ℕ). IsEnabled c.args.op n) (c.len.ensures ∙ ap length c.client.ensures)
            (c.if-not-enabled.ensures.fact.0 refl);
      },
      λ full. absurd (omega (arith, full, s.kept.made, c.if-self-eq-MAX_EDITS.false)),
      ap (λ (clients : List Client). record (hub_view_of s) { clients = clients; is_open = false })
          (items_same s.clients c.edit_at.new.clients (c.in-Err.ensures.err ∙ c.deref_mut.ensures.value)),
    )
