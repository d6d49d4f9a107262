-- Where the server executes what a message became, each client stays in step with it.
use Rattle.std.proofs.Common.{◌≡◌, ◌≢◌, ◌≤◌, ℕ, false, List, [], ◌∷◌, ◌++◌, length, take, drop, Some, refl, sym, ap}
use Rattle.std.proofs.Common.{◌∙◌, subst, arith, length-append, length-drop}
use Rattle.std.specs.List.{AllByRecursion}
use Rattle.std.proofs.lemmas.List.{map-append, take-append-le, drop-append-le}
use Rattle.ot_model.specs.declared.cell.Cell.{Cell}
use Rattle.ot_model.specs.declared.op.Mode.{Mode}
use Rattle.ot_model.specs.declared.op.Op.{Op}
use Rattle.ot_model.specs.Effect.{document_after}
use Rattle.fn_rules.specs.Functions.{Function}
use Rattle.fn_rules.specs.Transformation.{transform_of}
use Rattle.fn_rules.specs.Conditions.{IsIntegrable, IsFormOf}
use Rattle.fn_rules.specs.Forms.{KeepsForms, ConvergesOnForms}
use Rattle.ot_hub.specs.declared.client.Client.{Client}
use Rattle.ot_hub.specs.declared.placed.PlacedOp.{PlacedOp}
use Rattle.ot_hub.specs.declared.placed.Entry.{Entry}
use Rattle.ot_hub.specs.declared.server.Server.{Server}
use Rattle.ot_hub.specs.Carry.{Carried}
use Rattle.ot_hub.specs.Chains.{document_after_all, IsChain, CarriesAcross}
use Rattle.ot_hub.specs.InStep.{IsOf, IsOfOthers, operations, IsServerInStep, IsClientInStep}
use Rattle.ot_hub.specs.Meeting.{Ups, Downs}
use Rattle.ot_hub.specs.Clients.{sent}
use Rattle.ot_hub.specs.Steps.{To, ahead_of, server_after, server_step}
use Rattle.ot_hub.proofs.Across.{CarriesAcross-tp1}
use Rattle.ot_hub.proofs.Carrying.{op-kept, list-kept}
use Rattle.ot_hub.proofs.Meetings.{item, all-push, all-weaker, from_place-push, ups-more_ahead, downs-more_own}
use Rattle.ot_hub.proofs.Meetings.{downs-more_others}
use Rattle.ot_hub.proofs.Ways.{document_after_all-push, IsChain-push, own-push, FirstUp, of_other, of-kept, others-kept}
use Rattle.ot_hub.proofs.Ways.{allowed_with_own}

-- the operation at the end of a list of entries
operations-push : (log : List Entry) (entry : Entry)
    → operations (log ++ entry ∷ []) ≡ operations log ++ item 0 entry.op ∷ []
operations-push log entry = map-append (λ (e : Entry). item 0 e.op) log (entry ∷ [])

-- where the server's document is the first one after the log, it is so after what a message became
pub follows-after : (mode : Mode) (first : List Cell) (c : ℕ) (k : Carried) (server : Server)
    → server.doc ≡ document_after_all mode (operations server.log) first
    → (server_after mode c k server).doc ≡ document_after_all mode (operations (server_after mode c k server).log) first
follows-after mode first c k server follows =
    ap (document_after mode k.op) follows
    ∙ sym (document_after_all-push mode (operations server.log) (item 0 k.op) first)
    ∙ ap (λ (l : List PlacedOp). document_after_all mode l first)
    (sym (operations-push server.log (record { client = c; op = k.op })))

module _ (f : Function) (keeps : KeepsForms f) (converging : ConvergesOnForms f)
    (any_chars : f.head.chars_differ ≡ false)
    (is_form : (a b form : Op) → transform_of f a b ≡ Some form → IsFormOf a form) (first : List Cell) where
  abbrev mode : Mode
  mode = f.head.mode

  -- the server executes what a message became
  module _ (server : Server) (in_step : IsServerInStep f first server) (c : ℕ) (k : Carried)
      (integrable : IsIntegrable f (length server.doc) k.op)
      (of : IsOf c k.op) where
    abbrev new : Server
    new = server_after mode c k server

    abbrev logged : Entry
    logged = record { client = c; op = k.op }

    abbrev entries : ℕ
    entries = length server.log

    pub IsServerInStep-after : IsServerInStep f first new
    IsServerInStep-after = record {
      chain = subst (IsChain f first) (sym (operations-push server.log logged))
          (IsChain-push f first (operations server.log) (item 0 k.op) in_step.chain
          (subst (λ (d : List Cell). IsIntegrable f (length d) k.op) in_step.doc integrable));
      own = own-push server.log logged in_step.own of;
      doc = follows-after mode first c k server in_step.doc;
    }

    module _ (d : ℕ) (client : Client) (ahead : List PlacedOp) (s : IsClientInStep f first server d client ahead) where
      abbrev r : ℕ
      r = client.received

      same_taken : take r (server.log ++ logged ∷ []) ≡ take r server.log
      same_taken = take-append-le r server.log (logged ∷ []) s.received

      more_dropped : drop r (server.log ++ logged ∷ []) ≡ drop r server.log ++ logged ∷ []
      more_dropped = drop-append-le r server.log (logged ∷ []) s.received

      within : r ≤ length (server.log ++ logged ∷ [])
      within = omega (arith, s.received, length-append server.log (logged ∷ []))

      doc : client.doc ≡ document_after_all mode client.pending
          (document_after_all mode (operations (take r (server.log ++ logged ∷ []))) first)
      doc = s.doc ∙ ap (λ (l : List Entry).
          document_after_all mode client.pending (document_after_all mode (operations l) first)) (sym same_taken)

      pending :
          IsChain f (document_after_all mode (operations (take r (server.log ++ logged ∷ []))) first) client.pending
      pending = subst (λ (l : List Entry). IsChain f (document_after_all mode (operations l) first) client.pending)
          (sym same_taken) s.pending

      -- where it was another client's
      module _ (other : c ≢ d) where
        is_others : IsOfOthers d k.op
        is_others = of_other d c k.op other of

        across : CarriesAcross f server.doc k.op s.forms
        across = CarriesAcross-tp1 f keeps converging server.doc k.op s.forms integrable s.forms_chain
            (allowed_with_own f keeps any_chars is_form d k.op s.forms is_others s.own_forms)

        abbrev next : PlacedOp
        next = item entries across.carried.op

        -- the entry comes after what the server keeps for the client, and crosses what it sends
        pub IsClientInStep-told : IsClientInStep f first new d client (ahead ++ item entries k.op ∷ [])
        IsClientInStep-told = record {
          forms = across.carried.list;
          kept = s.kept ++ next ∷ [];
          taken = s.taken ++ next ∷ [];
          ups = ups-more_ahead f k.op entries client.messages ahead s.forms s.kept across.carried s.ups
              (all-weaker (λ message. message.place ≤ r) (λ message. message.place ≤ entries)
              (λ message before. omega (arith, before, s.received)) client.messages s.made) across.is;
          downs = subst (λ (l : List Entry). Downs f d r client.pending l across.carried.list (s.taken ++ next ∷ []))
              (sym more_dropped) (downs-more_others f d logged entries r client.pending (drop r server.log) s.forms
              s.taken across.carried other across.is (omega (arith, s.received, length-drop r server.log)) s.downs);
          kept_is = from_place-push r s.kept next s.received ∙ ap (λ (l : List PlacedOp). l ++ next ∷ []) s.kept_is;
          received = within;
          made = s.made;
          doc = doc;
          pending = pending;
          forms_chain = across.list;
          taken_chain = IsChain-push f client.doc s.taken next s.taken_chain
              (subst (λ (x : List Cell). IsIntegrable f (length x) across.carried.op) (sym s.one_document) across.op);
          one_document = document_after_all-push mode s.taken next client.doc
              ∙ ap (document_after mode across.carried.op) s.one_document
              ∙ sym across.one_document;
          own = s.own;
          own_forms = list-kept f (IsOf d) (of-kept f keeps any_chars is_form d) k.op s.forms
              across.carried across.is s.own_forms;
          others = all-push (λ b. IsOfOthers d b.op) s.taken next s.others
              (op-kept f (IsOfOthers d) (others-kept f keeps any_chars is_form d) k.op s.forms
              across.carried across.is is_others);
        }

      -- where it was its own
      module _ (own : c ≡ d) (oldest : PlacedOp) (younger : List PlacedOp)
          (messages_is : client.messages ≡ oldest ∷ younger)
          (up : FirstUp f oldest younger ahead s.forms s.kept) (same : up.first.carried ≡ k) where
        form_op : up.form.op ≡ k.op
        form_op = ap (λ (b : PlacedOp). b.op) up.first.form_is ∙ ap (λ (x : Carried). x.op) same

        chain : IsChain f server.doc (up.form ∷ up.forms)
        chain = subst (IsChain f server.doc) up.is s.forms_chain

        younger_is : drop 1 client.messages ≡ younger
        younger_is = ap (drop 1) messages_is

        after : document_after mode up.form.op server.doc ≡ document_after mode k.op server.doc
        after = ap (λ (o : Op). document_after mode o server.doc) form_op

        -- its oldest message is an entry of the log now, and is on its way no more
        pub IsClientInStep-sent : IsClientInStep f first new d (sent client) k.list
        IsClientInStep-sent = record {
          forms = up.forms;
          kept = s.kept;
          taken = s.taken;
          ups = subst (λ (l : List PlacedOp). Ups f l k.list up.forms s.kept) (sym younger_is)
              (subst (λ (x : Carried). Ups f younger x.list up.forms s.kept) same up.first.rest);
          downs = subst (λ (l : List Entry). Downs f d r client.pending l up.forms s.taken) (sym more_dropped)
              (downs-more_own f d logged r client.pending (drop r server.log) up.form up.forms s.taken own form_op
              (subst (λ (l : List PlacedOp). Downs f d r client.pending (drop r server.log) l s.taken) up.is s.downs));
          kept_is = s.kept_is;
          received = within;
          made = subst (AllByRecursion (λ message. message.place ≤ r)) (sym younger_is)
              (subst (AllByRecursion (λ message. message.place ≤ r)) messages_is s.made).1;
          doc = doc;
          pending = pending;
          forms_chain = subst (λ (x : List Cell). IsChain f x up.forms) after chain.1;
          taken_chain = s.taken_chain;
          one_document = s.one_document ∙ ap (λ (l : List PlacedOp). document_after_all mode l server.doc) up.is
              ∙ ap (document_after_all mode up.forms) after;
          own = s.own;
          own_forms = (subst (AllByRecursion (λ b. IsOf d b.op)) up.is s.own_forms).1;
          others = s.others;
        }

  -- the step of the server leads on
  module _ (server : Server) (c : ℕ) (client : Client)
      (s : IsClientInStep f first server c client (ahead_of server c)) (oldest : PlacedOp)
      (younger : List PlacedOp)
      (up : FirstUp f oldest younger (ahead_of server c) s.forms s.kept) where
    abbrev became : Carried
    became = up.first.carried

    form_is : up.form.op ≡ became.op
    form_is = ap (λ (b : PlacedOp). b.op) up.first.form_is

    pub up-integrable : IsIntegrable f (length server.doc) became.op
    up-integrable =
        subst (IsIntegrable f (length server.doc)) form_is (subst (IsChain f server.doc) up.is s.forms_chain).0

    pub up-of : IsOf c became.op
    up-of = subst (IsOf c) form_is (subst (AllByRecursion (λ b. IsOf c b.op)) up.is s.own_forms).0

    pub up-step : server_step f c oldest server ≡ To (server_after mode c became server)
    up-step = rw (up.first.is, keeps.enabled_is_tested (length server.doc) became.op up-integrable.enabled) refl
