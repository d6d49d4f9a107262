-- A new hub is kept and in step, and nothing is counted.
use Rattle.std.proofs.Common.{◌≡◌, ◌<◌, ◌≤◌, ◌-◌, ℕ, List, [], length, refl, sym, ◌∙◌, subst, arith}
use Rattle.std.specs.Prelude.{replicate}
use Rattle.std.proofs.lemmas.Option.{unwrap_or-slice_get}
use Rattle.std.proofs.lemmas.List.{get_or-replicate, length-replicate}
use Rattle.std.proofs.lemmas.List.Elements.{All-replicate}
use Rattle.std.proofs.lemmas.List.Folds.{sum_by-replicate}
use Rattle.ot_model.specs.declared.limits.TheConstants.{MAX_CELLS}
use Rattle.ot_model.specs.declared.cell.Cell.{Cell}
use Rattle.fn_rules.specs.Functions.{Function}
use Rattle.ot_hub.specs.declared.client.Client.{Client}
use Rattle.ot_hub.specs.declared.limits.TheConstants.{MAX_CLIENTS}
use Rattle.ot_hub.specs.declared.placed.PlacedOp.{PlacedOp}
use Rattle.ot_hub.specs.declared.server.Server.{Server}
use Rattle.ot_hub.specs.Clients.{IsClient, nobody, client_at}
use Rattle.ot_hub.specs.InStep.{IsClientInStep, AreInStep, AreCountedEdits}
use Rattle.ot_hub.specs.Kept.{IsClientKept, IsHubKept}
use Rattle.ot_hub.specs.Steps.{ahead_of}
use Rattle.ot_hub.specs.Usable.{AreUsable, reach}
use Rattle.ot_hub.proofs.Keeping.{client_at-get_or}

module _ (d : List Cell) (n : ℕ) where
  abbrev fresh : Client
  fresh = record { edits = 0; received = 0; pending = []; messages = []; doc = d }

  abbrev server : Server
  server = record { log = []; doc = d; ahead = replicate n [] }

  inside : (c : ℕ) → IsClient (length (replicate n fresh)) c → c - 1 < n
  inside c there = omega (arith, there.low, there.high, length-replicate n fresh)

  fresh_at : (c : ℕ) → IsClient (length (replicate n fresh)) c → client_at (replicate n fresh) (c - 1) ≡ fresh
  fresh_at c there = client_at-get_or (replicate n fresh) (c - 1)
      ∙ get_or-replicate n (c - 1) fresh nobody (inside c there)

  nothing_ahead : (c : ℕ) → IsClient (length (replicate n fresh)) c → ahead_of server c ≡ []
  nothing_ahead c there = unwrap_or-slice_get server.ahead (c - 1) []
      ∙ get_or-replicate n (c - 1) [] [] (inside c there)

  pub AreCountedEdits-begun : AreCountedEdits [] (replicate n fresh)
  AreCountedEdits-begun = record { each = λ c there. rw (fresh_at c there) refl }

  pub IsHubKept-begun : (f : Function) → n ≤ MAX_CLIENTS → length d ≤ MAX_CELLS
      → IsHubKept f 0 server (replicate n fresh)
  IsHubKept-begun f most cells = record {
    server = record {
      few = omega arith;
      log = λ k other inside. absurd (omega arith);
      ahead = All-replicate (λ list. AreUsable f (reach 0) list) n [] (λ k other inside. absurd (omega arith));
      short = All-replicate (λ (list : List PlacedOp). length list ≤ 0) n [] (omega arith);
      cells = omega (arith, cells);
    };
    clients = All-replicate (IsClientKept f 0) n fresh (record {
      few = omega arith;
      received = omega arith;
      pending = λ k other inside. absurd (omega arith);
      short = omega arith;
      messages = λ k other inside. absurd (omega arith);
      cells = omega (arith, cells);
    });
    sides = length-replicate n [] ∙ sym (length-replicate n fresh);
    most = omega (arith, length-replicate n fresh, most);
    few = omega arith;
    made = omega (arith, sum_by-replicate (λ (client : Client). client.edits) n fresh);
    moved = omega (arith, sum_by-replicate (λ (client : Client). length client.messages) n fresh);
  }

  pub AreInStep-begun_hub : (f : Function) → AreInStep f d server (replicate n fresh)
  AreInStep-begun_hub f = record {
    log = record { chain = tt; own = tt; doc = refl };
    each = λ c there. subst (λ (x : Client). IsClientInStep f d server c x (ahead_of server c)) (sym (fresh_at c there))
        (subst (IsClientInStep f d server c fresh) (sym (nothing_ahead c there)) (begun c));
  }
    where
      -- a fresh client is in step: it received and made nothing
      begun : (c : ℕ) → IsClientInStep f d server c fresh []
      begun c = record {
        forms = [];
        kept = [];
        taken = [];
        ups = refl;
        downs = (refl, refl);
        kept_is = refl;
        received = omega arith;
        made = tt;
        doc = refl;
        pending = tt;
        forms_chain = tt;
        taken_chain = tt;
        one_document = refl;
        own = tt;
        own_forms = tt;
        others = tt;
      }
