-- A client that takes an entry of the log stays in step with the server.
use Rattle.std.proofs.Common.{◌≡◌, ◌≤◌, ◌<◌, ◌+◌, ℕ, false, List, ◌∷◌, length, take, drop, Some, refl, sym, ap, ◌∙◌}
use Rattle.std.proofs.Common.{subst, arith, inl, inr, eqb-true}
use Rattle.std.specs.Prelude.{nat_eq, slice_get}
use Rattle.std.specs.List.{AllByRecursion}
use Rattle.std.proofs.lemmas.Bool.{false_from_ne_true}
use Rattle.std.proofs.lemmas.Option.{slice_get_within}
use Rattle.ot_model.specs.declared.cell.Cell.{Cell}
use Rattle.ot_model.specs.declared.op.Mode.{Mode}
use Rattle.ot_model.specs.declared.op.Op.{Op}
use Rattle.ot_model.specs.Effect.{document_after}
use Rattle.fn_rules.specs.Functions.{Function}
use Rattle.fn_rules.specs.Transformation.{transform_of}
use Rattle.fn_rules.specs.Conditions.{IsFormOf}
use Rattle.fn_rules.specs.Forms.{KeepsForms, ConvergesOnForms}
use Rattle.ot_hub.specs.declared.client.Client.{Client}
use Rattle.ot_hub.specs.declared.placed.PlacedOp.{PlacedOp}
use Rattle.ot_hub.specs.declared.placed.Entry.{Entry}
use Rattle.ot_hub.specs.declared.server.Server.{Server}
use Rattle.ot_hub.specs.Carry.{Carried, from_place}
use Rattle.ot_hub.specs.Chains.{document_after_all, IsChain, CarriesAcross}
use Rattle.ot_hub.specs.InStep.{IsOf, IsOfOthers, operations, IsServerInStep, IsClientInStep}
use Rattle.ot_hub.specs.Meeting.{IsConfirmedEntry, IsTakenEntry, Downs}
use Rattle.ot_hub.specs.Steps.{To, client_after, client_step, confirmed}
use Rattle.ot_hub.proofs.Across.{CarriesAcross-tp1}
use Rattle.ot_hub.proofs.Carrying.{from_false, list-kept}
use Rattle.ot_hub.proofs.Stepping.{client_step-own}
use Rattle.ot_hub.proofs.Meetings.{item, all-weaker, from_place-same, from_place-later, downs-places}
use Rattle.ot_hub.proofs.Ways.{integrable_next, after_next, own_next, drop_next, LeadsTo, of_other, of-kept}
use Rattle.ot_hub.proofs.Ways.{allowed_with_own}

module _ (f : Function) (keeps : KeepsForms f) (converging : ConvergesOnForms f)
    (any_chars : f.head.chars_differ ≡ false)
    (is_form : (a b form : Op) → transform_of f a b ≡ Some form → IsFormOf a form) (first : List Cell) where
  abbrev mode : Mode
  mode = f.head.mode

  -- the client takes the next entry of the log
  module _ (server : Server) (in_step : IsServerInStep f first server) (c : ℕ) (client : Client) (ahead : List PlacedOp)
      (s : IsClientInStep f first server c client ahead) (entry : Entry)
      (next : slice_get server.log client.received ≡ Some entry) where
    abbrev r : ℕ
    r = client.received

    abbrev before : List Cell
    before = document_after_all mode (operations (take r server.log)) first

    abbrev later : List Entry
    later = drop (r + 1) server.log

    inside : r < length server.log
    inside = slice_get_within server.log r entry next

    base_next : document_after_all mode (operations (take (r + 1) server.log)) first
        ≡ document_after mode entry.op before
    base_next = after_next f first server.log r entry next

    -- which of the two cases it is
    here : Downs f c r client.pending (entry ∷ later) s.forms s.taken
    here = subst (λ (entries : List Entry). Downs f c r client.pending entries s.forms s.taken)
        (drop_next server.log r entry next) s.downs

    made : AllByRecursion (λ message. message.place ≤ r + 1) client.messages
    made = all-weaker (λ message. message.place ≤ r) (λ message. message.place ≤ r + 1)
        (λ message within. omega (arith, within)) client.messages s.made

    kept_later : (list : List PlacedOp) → AllByRecursion (λ b. r + 1 ≤ b.place) list
        → from_place (r + 1) s.taken ≡ from_place (r + 1) list
        → from_place (r + 1) s.kept ≡ list
    kept_later list places same =
        from_place-later r (r + 1) s.kept (omega arith) ∙ ap (from_place (r + 1)) s.kept_is ∙ same
        ∙ from_place-same (r + 1) list places

    -- an own one
    confirmed-case : IsConfirmedEntry c entry client.pending
        (λ younger. Downs f c (r + 1) younger later s.forms s.taken)
        → IsClientInStep f first server c (confirmed client) ahead
    confirmed-case mine =
        let younger_is : drop 1 client.pending ≡ mine.younger = ap (drop 1) mine.pending_is in
        let chain : IsChain f before (mine.oldest ∷ mine.younger) =
        subst (IsChain f before) mine.pending_is s.pending in
        let own : AllByRecursion (λ b. IsOf c b.op) (mine.oldest ∷ mine.younger) =
        subst (AllByRecursion (λ b. IsOf c b.op)) mine.pending_is s.own in
        let base : document_after mode mine.oldest.op before
        ≡ document_after_all mode (operations (take (r + 1) server.log)) first =
        ap (λ (o : Op). document_after mode o before) mine.same ∙ sym base_next in
        record {
          forms = s.forms;
          kept = s.kept;
          taken = s.taken;
          ups = s.ups;
          downs = subst (λ (l : List PlacedOp). Downs f c (r + 1) l later s.forms s.taken) (sym younger_is) mine.rest;
          kept_is = kept_later s.taken (downs-places f c (r + 1) mine.younger later s.forms s.taken mine.rest) refl;
          received = omega (arith, inside);
          made = made;
          doc = s.doc ∙ ap (λ (l : List PlacedOp). document_after_all mode l before) mine.pending_is
              ∙ ap (document_after_all mode mine.younger) base
              ∙ ap (λ (l : List PlacedOp). document_after_all mode l
              (document_after_all mode (operations (take (r + 1) server.log)) first)) (sym younger_is);
          pending = subst (IsChain f (document_after_all mode (operations (take (r + 1) server.log)) first))
              (sym younger_is) (subst (λ (d : List Cell). IsChain f d mine.younger) base chain.1);
          forms_chain = s.forms_chain;
          taken_chain = s.taken_chain;
          one_document = s.one_document;
          own = subst (AllByRecursion (λ b. IsOf c b.op)) (sym younger_is) own.1;
          own_forms = s.own_forms;
          others = s.others;
        }

    -- one of another client
    module _ (theirs : IsTakenEntry f c r entry client.pending s.taken
        (λ behind rest. Downs f c (r + 1) behind later s.forms rest)) where
      abbrev form : Op
      form = theirs.carried.op

      chain : IsChain f client.doc (item r form ∷ theirs.later)
      chain = subst (IsChain f client.doc) theirs.taken_is s.taken_chain

      is_others : IsOfOthers c entry.op
      is_others = of_other c entry.client entry.op theirs.other (own_next server.log r entry next in_step.own)

      beside : CarriesAcross f before entry.op client.pending
      beside = CarriesAcross-tp1 f keeps converging before entry.op client.pending
          (integrable_next f first server.log r entry next in_step.chain) s.pending
          (allowed_with_own f keeps any_chars is_form c entry.op client.pending is_others s.own)

      one : beside.carried ≡ theirs.carried
      one = let both : Some beside.carried ≡ Some theirs.carried = sym beside.is ∙ theirs.is in cc

      -- the client stays in step: the entry crossed what is pending, and its form is executed
      taken-case : IsClientInStep f first server c (client_after mode theirs.carried client) ahead
      taken-case = record {
        forms = s.forms;
        kept = s.kept;
        taken = theirs.later;
        ups = s.ups;
        downs = theirs.rest;
        kept_is = kept_later theirs.later (downs-places f c (r + 1) theirs.carried.list later s.forms theirs.later
            theirs.rest) (ap (from_place (r + 1)) theirs.taken_is ∙ passed);
        received = omega (arith, inside);
        made = made;
        doc = ap (document_after mode form) s.doc
            ∙ ap (λ (x : Carried). document_after mode x.op (document_after_all mode client.pending before)) (sym one)
            ∙ sym beside.one_document
            ∙ ap (λ (x : Carried). document_after_all mode x.list (document_after mode entry.op before)) one
            ∙ ap (document_after_all mode theirs.carried.list) (sym base_next);
        pending = subst (λ (d : List Cell). IsChain f d theirs.carried.list) (sym base_next)
            (subst (λ (x : Carried). IsChain f (document_after mode entry.op before) x.list) one beside.list);
        forms_chain = s.forms_chain;
        taken_chain = chain.1;
        one_document =
            ap (λ (l : List PlacedOp). document_after_all mode l client.doc) (sym theirs.taken_is) ∙ s.one_document;
        own = list-kept f (IsOf c) (of-kept f keeps any_chars is_form c) entry.op client.pending
            theirs.carried theirs.is s.own;
        own_forms = s.own_forms;
        others = (subst (AllByRecursion (λ b. IsOfOthers c b.op)) theirs.taken_is s.others).1;
      }
        where
          passed : from_place (r + 1) (item r form ∷ theirs.later) ≡ from_place (r + 1) theirs.later
          passed = rw (from_false (r + 1) r (omega arith)) refl

      taken-step : client_step f c entry client ≡ To (client_after mode theirs.carried client)
      taken-step = rw (
        false_from_ne_true (nat_eq entry.client c) (λ is. theirs.other (eqb-true entry.client c is)),
        theirs.is,
        keeps.enabled_is_tested (length client.doc) form chain.0.enabled,
      ) refl

    -- the step leads on, and the client stays in step
    pub IsClientInStep-down : LeadsTo (λ new. IsClientInStep f first server c new ahead) (client_step f c entry client)
    IsClientInStep-down = elim here [
      | inl mine ↦
          record { to = confirmed client; is = client_step-own f c entry client mine.own; holds = confirmed-case mine }
      | inr theirs ↦
          record { to = client_after mode theirs.carried client; is = taken-step theirs; holds = taken-case theirs }
    ]
