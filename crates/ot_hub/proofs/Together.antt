-- All clients of a hub and its server stay in step, and what is in the log and on its way stays counted.
use Rattle.std.proofs.Common.{◌≡◌, ◌≢◌, ◌<◌, ◌+◌, ◌-◌, ℕ, false, List, [], ◌∷◌, ◌++◌, length, map, drop, Some, refl}
use Rattle.std.proofs.Common.{sym, ap, ◌∙◌, subst, arith, inl, inr, get_or, length-drop, eq-eqb, eqb-true}
use Rattle.std.proofs.Common.{get_or-set_same, get_or-set_other}
use Rattle.std.specs.Prelude.{nat_eq, slice_get, slice_set, count_by, if◌then◌else◌, Err}
use Rattle.std.proofs.lemmas.Bool.{cases_eq, false_from_ne_true}
use Rattle.std.proofs.lemmas.Option.{unwrap_or-slice_get}
use Rattle.std.proofs.lemmas.List.{length-set, length-map, get_or-map}
use Rattle.std.proofs.lemmas.List.Sums.{sum_by-append}
use Rattle.ot_model.specs.declared.cell.Cell.{Cell}
use Rattle.ot_model.specs.declared.op.Op.{Op}
use Rattle.fn_rules.specs.Functions.{Function}
use Rattle.fn_rules.specs.Transformation.{transform_of}
use Rattle.fn_rules.specs.Conditions.{IsIntegrable, IsFormOf}
use Rattle.fn_rules.specs.Forms.{KeepsForms, ConvergesOnForms}
use Rattle.ot_hub.specs.declared.answer.Move.{Move}
use Rattle.ot_hub.specs.declared.answer.Move.TheVariants as moves
use Rattle.ot_hub.specs.declared.client.Client.{Client}
use Rattle.ot_hub.specs.declared.placed.PlacedOp.{PlacedOp}
use Rattle.ot_hub.specs.declared.placed.Entry.{Entry}
use Rattle.ot_hub.specs.declared.server.Server.{Server}
use Rattle.ot_hub.specs.Carry.{Carried}
use Rattle.ot_hub.specs.Clients.{IsClient, nobody, client_at, sent}
use Rattle.ot_hub.specs.InStep.{IsOf, IsClientInStep, AreInStep, AreCountedEdits}
use Rattle.ot_hub.specs.Meeting.{Ups}
use Rattle.ot_hub.specs.Steps.{Step, To, Stuck, HasStepped, ahead_of, edited, client_step, server_after, server_step}
use Rattle.ot_hub.proofs.Keeping.{client_at-get_or}
use Rattle.ot_hub.proofs.Making.{IsClientInStep-edited}
use Rattle.ot_hub.proofs.Meetings.{item}
use Rattle.ot_hub.proofs.Receiving.{IsClientInStep-down}
use Rattle.ot_hub.proofs.Sending.{IsServerInStep-after, IsClientInStep-told, IsClientInStep-sent, up-integrable, up-of}
use Rattle.ot_hub.proofs.Sending.{up-step}
use Rattle.ot_hub.proofs.Ways.{LeadsTo, FirstUp, first_up}

-- a step that leads on leads to one place, and is not stuck
pub led_to : {X : Type 0} (P : X → Type 0) (step : Step X) (new : X) → LeadsTo P step → step ≡ To new → P new
led_to P step new leads is = let same : leads.to ≡ new = to_one (sym leads.is ∙ is) in subst P same leads.holds
  where
    to_one : {Y : Type 0} {x y : Y} → To x ≡ To y → x ≡ y
    to_one same = cc

pub not_stuck : {X : Type 0} (P : X → Type 0) (old new : X) (step : Step X) (r : Move) → LeadsTo P step
    → HasStepped {X = X} {R = Unit {0}} old new step (Err r)
    → r ≢ moves.Stuck
not_stuck P old new step moves.NoSite leads stepped is = absurd stepped
not_stuck P old new step moves.Stuck leads stepped is = let both : To leads.to ≡ Stuck = sym leads.is ∙ stepped.0 in cc
not_stuck P old new step moves.NoMemory leads stepped is = cc

-- the clients after one became another
module _ (all : List Client) (c : ℕ) (there : IsClient (length all) c) (new : Client) where
  abbrev after : List Client
  after = slice_set all (c - 1) new

  pub client_at-same : client_at after (c - 1) ≡ new
  client_at-same = client_at-get_or after (c - 1)
      ∙ get_or-set_same all (c - 1) new nobody (omega (arith, there.low, there.high))

  pub client_at-other : (d : ℕ) → IsClient (length after) d → d ≢ c → client_at after (d - 1) ≡ client_at all (d - 1)
  client_at-other d here other =
      let apart : d - 1 ≢ c - 1 = omega (arith, here.low, there.low, other) in
      client_at-get_or after (d - 1) ∙ get_or-set_other all (c - 1) (d - 1) new nobody apart
      ∙ sym (client_at-get_or all (d - 1))

  pub IsClient-before : (d : ℕ) → IsClient (length after) d → IsClient (length all) d
  IsClient-before d here = record { low = here.low; high = omega (arith, here.high, length-set all (c - 1) new) }

  -- a property of each with its number
  pub each-set : (P : ℕ → Client → Type 0) → P c new
      → ((d : ℕ) → d ≢ c → IsClient (length all) d → P d (client_at all (d - 1)))
      → (d : ℕ) → IsClient (length after) d → P d (client_at after (d - 1))
  each-set P own others d here = elim (cases_eq d c) [
    | inl is ↦ subst (λ (n : ℕ). P n (client_at after (n - 1))) (sym is) (subst (P c) (sym client_at-same) own)
    | inr other ↦ subst (P d) (sym (client_at-other d here other)) (others d other (IsClient-before d here))
  ]

-- what is counted
module _ (log : List Entry) (all : List Client) (counted : AreCountedEdits log all) (c : ℕ)
    (there : IsClient (length all) c) where
  abbrev one : Client
  one = client_at all (c - 1)

  abbrev entries_of : ℕ → List Entry → ℕ
  entries_of d entries = count_by (λ entry. nat_eq entry.client d) entries

  -- where as many messages came as edits
  pub AreCountedEdits-set : (new : Client) → length new.messages + one.edits ≡ length one.messages + new.edits
      → AreCountedEdits log (slice_set all (c - 1) new)
  AreCountedEdits-set new same = record {
    each = each-set all c there new (λ d client. entries_of d log + length client.messages ≡ client.edits)
        (omega (arith, same, counted.each c there)) (λ d other here. counted.each d here);
  }

  -- where neither changed
  pub AreCountedEdits-same : (new : Client) → new.edits ≡ one.edits → new.messages ≡ one.messages
      → AreCountedEdits log (slice_set all (c - 1) new)
  AreCountedEdits-same new edits messages = AreCountedEdits-set new (omega (arith, edits, ap length messages))

  -- where the oldest message went into the log
  pub AreCountedEdits-up : (o : Op) → 0 < length one.messages
      → AreCountedEdits (log ++ record { client = c; op = o } ∷ []) (slice_set all (c - 1) (sent one))
  AreCountedEdits-up o some = record {
    each = each-set all c there (sent one) (λ d client. entries_of d (log ++ logged ∷ []) + length client.messages
        ≡ client.edits) (omega (arith, some, counted.each c there, length-drop 1 one.messages, more c, own))
        (λ d other here. omega (arith, counted.each d here, more d, others d other));
  }
    where
      logged : Entry
      logged = record { client = c; op = o }

      more : (d : ℕ) → entries_of d (log ++ record { client = c; op = o } ∷ [])
          ≡ entries_of d log + entries_of d (record { client = c; op = o } ∷ [])
      more d = sum_by-append (λ entry. if nat_eq entry.client d then 1 else 0) log (record { client = c; op = o } ∷ [])

      own : entries_of c (record { client = c; op = o } ∷ []) ≡ 1
      own = rw (eq-eqb c c refl) refl

      others : (d : ℕ) → d ≢ c → entries_of d (record { client = c; op = o } ∷ []) ≡ 0
      others d other = rw (false_from_ne_true (nat_eq c d) (λ is. other (sym (eqb-true c d is)))) refl

-- what the server keeps for a client is a list of those that it keeps
ahead_of-get_or : (server : Server) (c : ℕ) → ahead_of server c ≡ get_or server.ahead (c - 1) []
ahead_of-get_or server c = unwrap_or-slice_get server.ahead (c - 1) []

module _ (f : Function) (keeps : KeepsForms f) (converging : ConvergesOnForms f)
    (any_chars : f.head.chars_differ ≡ false)
    (is_form : (a b form : Op) → transform_of f a b ≡ Some form → IsFormOf a form) (first : List Cell)
    (server : Server) (all : List Client)
    (s : AreInStep f first server all) (c : ℕ) (there : IsClient (length all) c) where
  abbrev client : Client
  client = client_at all (c - 1)

  AreInStep-set : (new : Client) → IsClientInStep f first server c new (ahead_of server c)
      → AreInStep f first server (slice_set all (c - 1) new)
  AreInStep-set new own = record {
    log = s.log;
    each = each-set all c there new (λ d x. IsClientInStep f first server d x (ahead_of server d)) own
        (λ d other here. s.each d here);
  }

  -- the client made an operation
  pub AreInStep-edited : (o : Op) → IsIntegrable f (length client.doc) o → IsOf c o
      → AreInStep f first server (slice_set all (c - 1) (edited f.head.mode o client))
  AreInStep-edited o integrable of = AreInStep-set (edited f.head.mode o client)
      (IsClientInStep-edited f keeps converging any_chars is_form first server c client (ahead_of server c)
      (s.each c there) o integrable of)

  -- it takes the next entry
  pub AreInStep-down : (entry : Entry) → slice_get server.log client.received ≡ Some entry
      → LeadsTo (λ new. AreInStep f first server (slice_set all (c - 1) new)) (client_step f c entry client)
  AreInStep-down entry next =
      let leads : LeadsTo (λ new. IsClientInStep f first server c new (ahead_of server c))
      (client_step f c entry client) =
      IsClientInStep-down f keeps converging any_chars is_form first server s.log c client (ahead_of server c)
      (s.each c there) entry next in
      record { to = leads.to; is = leads.is; holds = AreInStep-set leads.to leads.holds }

  -- the server takes its oldest message
  module _ (message : PlacedOp) (first_is : Some message ≡ slice_get client.messages 0)
      (sides : length server.ahead ≡ length all) where
    abbrev mine : IsClientInStep f first server c client (ahead_of server c)
    mine = s.each c there

    abbrev younger : List PlacedOp
    younger = drop 1 client.messages

    messages_are : (list : List PlacedOp) → Some message ≡ slice_get list 0 → list ≡ message ∷ drop 1 list
    messages_are [] is = cc
    messages_are (b ∷ bs) is = let same : message ≡ b = cc in ap (λ (x : PlacedOp). x ∷ bs) (sym same)

    messages_is : client.messages ≡ message ∷ younger
    messages_is = messages_are client.messages first_is

    up : FirstUp f message younger (ahead_of server c) mine.forms mine.kept
    up = first_up f message younger (ahead_of server c) mine.forms mine.kept
        (subst (λ (l : List PlacedOp). Ups f l (ahead_of server c) mine.forms mine.kept) messages_is mine.ups)

    abbrev became : Carried
    became = up.first.carried

    abbrev told : List (List PlacedOp)
    told = map (λ list. list ++ item (length server.log) became.op ∷ []) server.ahead

    abbrev new : Server
    new = server_after f.head.mode c became server

    inside : c - 1 < length server.ahead
    inside = omega (arith, sides, there.low, there.high)

    told_inside : c - 1 < length told
    told_inside =
        omega (arith, inside, length-map server.ahead (λ list. list ++ item (length server.log) became.op ∷ []))

    ahead-own : ahead_of new c ≡ became.list
    ahead-own = ahead_of-get_or new c ∙ get_or-set_same told (c - 1) became.list [] told_inside

    ahead-other : (d : ℕ) → d ≢ c → IsClient (length all) d
        → ahead_of new d ≡ ahead_of server d ++ item (length server.log) became.op ∷ []
    ahead-other d other here =
        let apart : d - 1 ≢ c - 1 = omega (arith, here.low, there.low, other) in
        let within : d - 1 < length server.ahead = omega (arith, sides, here.low, here.high) in
        ahead_of-get_or new d ∙ get_or-set_other told (c - 1) (d - 1) became.list [] apart
        ∙ get_or-map (λ list. list ++ item (length server.log) became.op ∷ []) server.ahead (d - 1) [] [] within
        ∙ ap (λ (l : List PlacedOp). l ++ item (length server.log) became.op ∷ []) (sym (ahead_of-get_or server d))

    integrable : IsIntegrable f (length server.doc) became.op
    integrable = up-integrable f keeps converging any_chars is_form first server c client mine message younger up

    of : IsOf c became.op
    of = up-of f keeps converging any_chars is_form first server c client mine message younger up

    -- the step leads to a hub in step: the client that sent it, and each other one
    pub AreInStep-up : LeadsTo (λ after. AreInStep f first after (slice_set all (c - 1) (sent client)))
        (server_step f c message server)
    AreInStep-up = record {
      to = new;
      is = up-step f keeps converging any_chars is_form first server c client mine message younger up;
      holds = record {
        log = IsServerInStep-after f keeps converging any_chars is_form first server s.log c became integrable of;
        each = each-set all c there (sent client) (λ d x. IsClientInStep f first new d x (ahead_of new d))
            (subst (IsClientInStep f first new c (sent client)) (sym ahead-own)
            (IsClientInStep-sent f keeps converging any_chars is_form first server s.log c became integrable of c client
            (ahead_of server c) mine refl message younger messages_is up refl))
            (λ d other here. subst (IsClientInStep f first new d (client_at all (d - 1))) (sym (ahead-other d other
            here)) (IsClientInStep-told f keeps converging any_chars is_form first server s.log c became integrable of d
            (client_at all (d - 1)) (ahead_of server d) (s.each d here) (λ is. other (sym is))));
      };
    }
