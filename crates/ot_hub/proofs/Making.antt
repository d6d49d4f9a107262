-- A client that makes an operation stays in step with the server.
use Rattle.std.proofs.Common.{◌≡◌, ◌≤◌, ℕ, false, List, [], ◌∷◌, ◌++◌, length, take, drop, Some, sym, ap, ◌∙◌, subst}
use Rattle.std.proofs.Common.{arith}
use Rattle.ot_model.specs.declared.cell.Cell.{Cell}
use Rattle.ot_model.specs.declared.op.Mode.{Mode}
use Rattle.ot_model.specs.declared.op.Op.{Op}
use Rattle.ot_model.specs.Effect.{document_after}
use Rattle.fn_rules.specs.Functions.{Function}
use Rattle.fn_rules.specs.Transformation.{transform_of}
use Rattle.fn_rules.specs.Conditions.{IsIntegrable, IsFormOf}
use Rattle.fn_rules.specs.Forms.{KeepsForms, ConvergesOnForms}
use Rattle.ot_hub.specs.declared.client.Client.{Client}
use Rattle.ot_hub.specs.declared.placed.PlacedOp.{PlacedOp}
use Rattle.ot_hub.specs.declared.server.Server.{Server}
use Rattle.ot_hub.specs.Carry.{Carried, carry}
use Rattle.ot_hub.specs.Chains.{document_after_all, CarriesAcross}
use Rattle.ot_hub.specs.InStep.{IsOf, IsOfOthers, operations, IsClientInStep}
use Rattle.ot_hub.specs.Meeting.{Downs}
use Rattle.ot_hub.specs.Steps.{edited}
use Rattle.ot_hub.proofs.Across.{CarriesAcross-tp1}
use Rattle.ot_hub.proofs.Carrying.{op-kept, list-kept}
use Rattle.ot_hub.proofs.Meetings.{item, all-push, from_place-same, ups-more_messages, downs-more_pending, downs-places}
use Rattle.ot_hub.proofs.Ways.{document_after_all-push, IsChain-push, of-kept, others-kept, allowed_with_others}

module _ (f : Function) (keeps : KeepsForms f) (converging : ConvergesOnForms f)
    (any_chars : f.head.chars_differ ≡ false)
    (is_form : (a b form : Op) → transform_of f a b ≡ Some form → IsFormOf a form) (first : List Cell) where
  abbrev mode : Mode
  mode = f.head.mode

  -- the client makes an operation
  module _ (server : Server) (c : ℕ) (client : Client) (ahead : List PlacedOp)
      (s : IsClientInStep f first server c client ahead)
      (o : Op) (integrable : IsIntegrable f (length client.doc) o) (of : IsOf c o) where
    across : CarriesAcross f client.doc o s.taken
    across = CarriesAcross-tp1 f keeps converging client.doc o s.taken integrable s.taken_chain
        (allowed_with_others f keeps any_chars is_form c o s.taken of s.others)

    abbrev k : Carried
    k = across.carried

    abbrev base : List Cell
    base = document_after_all mode (operations (take client.received server.log)) first

    downs : Downs f c client.received (edited mode o client).pending (drop client.received server.log)
        (s.forms ++ item client.received k.op ∷ []) k.list
    downs = downs-more_pending f c o client.received client.received client.pending (drop client.received server.log)
        s.forms s.taken k s.downs across.is

    -- it stays in step: its message is at the end of what it sends and of what is pending
    pub IsClientInStep-edited : IsClientInStep f first server c (edited mode o client) ahead
    IsClientInStep-edited = record {
      forms = s.forms ++ item client.received k.op ∷ [];
      kept = k.list;
      taken = k.list;
      ups = ups-more_messages f o client.received client.messages ahead s.forms s.kept k s.ups
          (subst (λ (l : List PlacedOp). carry f o l ≡ Some k) (sym s.kept_is) across.is);
      downs = downs;
      kept_is = from_place-same client.received k.list
          (downs-places f c client.received (edited mode o client).pending (drop client.received server.log)
          (s.forms ++ item client.received k.op ∷ []) k.list downs);
      received = s.received;
      made = all-push (λ message. message.place ≤ client.received) client.messages
          (item client.received o) s.made (omega arith);
      doc = ap (document_after mode o) s.doc
          ∙ sym (document_after_all-push mode client.pending (item client.received o) base);
      pending = IsChain-push f base client.pending (item client.received o) s.pending
          (subst (λ (d : List Cell). IsIntegrable f (length d) o) s.doc integrable);
      forms_chain = IsChain-push f server.doc s.forms (item client.received k.op) s.forms_chain
          (subst (λ (d : List Cell). IsIntegrable f (length d) k.op) s.one_document across.op);
      taken_chain = across.list;
      one_document = across.one_document ∙ ap (document_after mode k.op) s.one_document
          ∙ sym (document_after_all-push mode s.forms (item client.received k.op) server.doc);
      own = all-push (λ b. IsOf c b.op) client.pending (item client.received o) s.own of;
      own_forms = all-push (λ b. IsOf c b.op) s.forms (item client.received k.op) s.own_forms
          (op-kept f (IsOf c) (of-kept f keeps any_chars is_form c) o s.taken k across.is of);
      others = list-kept f (IsOfOthers c) (others-kept f keeps any_chars is_form c) o s.taken k across.is s.others;
    }
