-- Each step keeps what is kept of a hub.
use Rattle.std.proofs.Common.{◌≡◌, ℕ, ◌+◌, ◌*◌, ◌-◌, ◌<◌, ◌≤◌, List, [], ◌∷◌, ◌++◌, length, drop, map, Option, Some}
use Rattle.std.proofs.Common.{None, refl, sym, ap, ◌∙◌, subst, get_or, arith, length-append, length-drop, inl, inr}
use Rattle.std.specs.Prelude.{slice_set, nat_eq, nat_le}
use Rattle.std.proofs.lemmas.Bool.{cases_Bool}
use Rattle.std.specs.List.{All, sum_by}
use Rattle.std.proofs.lemmas.Option.{unwrap_or-slice_get}
use Rattle.std.proofs.lemmas.List.{length-set}
use Rattle.std.proofs.lemmas.List.Sums.{sum_by-set, get_or-le-sum_by, length-filter, count_by-le-length}
use Rattle.std.proofs.lemmas.List.Elements.{All-get_or, All-set, All-push, All-drop, All-weaker, All-map, All-filter}
use Rattle.ot_model.specs.declared.cell.Cell.{Cell}
use Rattle.ot_model.specs.declared.op.Mode.{Mode}
use Rattle.ot_model.specs.declared.op.Op.{Op}
use Rattle.ot_model.specs.Operations.{kind_of}
use Rattle.ot_model.specs.Effect.{IsEnabled, is_enabled, document_after}
use Rattle.fn_rules.specs.Functions.{Function, IsForKind, HasDeclaredKind}
use Rattle.fn_rules.specs.declared.function.Head.{Head}
use Rattle.ot_model.specs.declared.op.Kind.{Kind}
use Rattle.fn_rules.specs.Conditions.{IsWithin}
use Rattle.ot_hub.specs.declared.client.Client.{Client}
use Rattle.ot_hub.specs.declared.limits.TheConstants.{MAX_EDITS}
use Rattle.ot_hub.specs.declared.placed.PlacedOp.{PlacedOp}
use Rattle.ot_hub.specs.declared.placed.Entry.{Entry}
use Rattle.ot_hub.specs.declared.server.Server.{Server}
use Rattle.ot_hub.specs.Clients.{nobody, client_at, sent, CanEdit, CanTakeEntry}
use Rattle.ot_hub.specs.Kept.{IsServerKept, IsClientKept, IsHubKept}
use Rattle.ot_hub.specs.Carry.{Carried, carry, from_place}
use Rattle.ot_hub.specs.Steps.{Step, Nothing, Stuck, To, step_map, client_step, edited, goes_on, ahead_of, server_after}
use Rattle.ot_hub.specs.Steps.{client_after, confirmed}
use Rattle.ot_hub.specs.Usable.{IsUsable, AreUsable, most_hub_cells, reach}
use Rattle.ot_hub.proofs.Kept.{CanBeCarried-near}
use Rattle.ot_hub.proofs.Near.{Wider, KeepsNear, IsUsable-wider, AreUsable-wider, IsCarriedNear, carry-near}

-- a kind that the function is for is there or not
pub IsForKind-declared : (head : Head) (k : Option Kind) → HasDeclaredKind head k → IsForKind head k
IsForKind-declared head None declared = cc
IsForKind-declared head (Some k) declared = declared

-- no operation makes a document longer by more than one cell
abbrev pub Grows : Type 0
Grows = (mode : Mode) (o : Op) (d : List Cell) → length (document_after mode o d) ≤ length d + 1

-- the client at a place
pub client_at-get_or : (all : List Client) (i : ℕ) → client_at all i ≡ get_or all i nobody
client_at-get_or all i = unwrap_or-slice_get all i nobody

module _ (f : Function) (count : ℕ) (s : Server) (all : List Client) (kept : IsHubKept f count s all) (i : ℕ)
    (inside : i < length all) where
  abbrev one : Client
  one = client_at all i

  pub one-kept : IsClientKept f (length s.log) one
  one-kept = rw (client_at-get_or all i) (All-get_or (IsClientKept f (length s.log)) all i nobody inside kept.clients)

  -- nobody made more than all
  one-edits : one.edits ≤ count
  one-edits = rw (client_at-get_or all i)
      (omega (arith, kept.made, get_or-le-sum_by (λ client. client.edits) all i nobody inside))

  -- what is on its way is not in the log
  pub one-messages : length s.log + length one.messages ≤ count
  one-messages = rw (client_at-get_or all i)
      (omega (arith, kept.moved, get_or-le-sum_by (λ client. length client.messages) all i nobody inside))

  pub CanEdit-kept : (o : Op) → IsEnabled o (length one.doc) → count < MAX_EDITS → CanEdit o one
  CanEdit-kept o enabled few = record { enabled = enabled; few = omega (arith, few, one-edits) }

  -- a sum after one client became another
  sum-set : (of : Client → ℕ) (new : Client) → sum_by of (slice_set all i new) + of one ≡ sum_by of all + of new
  sum-set of new = rw (client_at-get_or all i) (sum_by-set of all i new nobody inside)

  module _ (wider : Wider) (near : (n : ℕ) (o : Op) → IsEnabled o n → IsWithin n o) (grows : Grows) (mode : Mode) where
    -- a client made an operation
    pub IsHubKept-edited : (o : Op) → CanEdit o one → IsForKind f.head (kind_of o) → count < MAX_EDITS
        → IsHubKept f (count + 1) s (slice_set all i (edited mode o one))
    IsHubKept-edited o can declared few = record {
      server = kept.server;
      clients = All-set (IsClientKept f (length s.log)) all i (edited mode o one) edited-kept kept.clients;
      sides = kept.sides ∙ sym (length-set all i (edited mode o one));
      most = omega (arith, kept.most, length-set all i (edited mode o one));
      few = omega (arith, few);
      made = omega (arith, kept.made, sum-set (λ client. client.edits) (edited mode o one));
      moved = omega (arith, kept.moved, sum-set (λ client. length client.messages) (edited mode o one), longer);
    }
      where
        made_here : PlacedOp
        made_here = record { place = one.received; op = o }

        longer : length (one.messages ++ made_here ∷ []) ≡ length one.messages + 1
        longer = length-append one.messages (made_here ∷ [])

        usable : IsUsable f most_hub_cells o
        usable = record {
          declared = declared;
          near = wider (length one.doc) most_hub_cells o
              (omega (arith, one-kept.cells, one-kept.received, can.few, kept.server.few))
              (near (length one.doc) o can.enabled);
        }

        edited-kept : IsClientKept f (length s.log) (edited mode o one)
        edited-kept = record {
          few = omega (arith, can.few);
          received = one-kept.received;
          pending = All-push (λ b. IsUsable f (reach (length s.log + one.received)) b.op) one.pending
              made_here one-kept.pending
              (IsUsable-wider wider f most_hub_cells (reach (length s.log + one.received)) o (omega arith) usable);
          short = omega (arith, one-kept.short, length-append one.pending (made_here ∷ []));
          messages = All-push (λ b. IsUsable f most_hub_cells b.op) one.messages made_here one-kept.messages usable;
          cells = omega (arith, one-kept.cells, grows mode o one.doc);
        }

-- a step that leads on was carried, and what it became is enabled
pub record WentOn {X : Type 0} (carried : Option Carried) (cells : ℕ) (go : Carried → X) (new : X) : Type 0 where
  pub it : Carried
  pub is : carried ≡ Some it
  pub new_is : go it ≡ new

pub goes_on-to : {X : Type 0} (carried : Option Carried) (cells : ℕ) (go : Carried → X) (new : X)
    → goes_on carried cells go ≡ To new
    → WentOn carried cells go new
goes_on-to None cells go new is = cc
goes_on-to {X} (Some it) cells go new is = elim (cases_Bool (is_enabled it.op cells)) [
  | inl enabled ↦
      (let led : To (go it) ≡ To new = rw enabled at is in record { it = it; is = refl; new_is = to_one led })
  | inr refused ↦ absurd (let stuck : Stuck ≡ To new = rw refused at is in cc)
]
  where
    to_one : {Y : Type 0} {x y : Y} → To x ≡ To y → x ≡ y
    to_one same = cc

module _ (f : Function) (has : KeepsNear f) (grows : Grows) (mode : Mode) (c : ℕ) (carried : Carried) (s : Server)
    (kept : IsServerKept f s)
    (few : length s.log < MAX_EDITS) (place : ℕ) (message : Op) (usable : IsUsable f most_hub_cells message)
    (inside : c - 1 < length s.ahead) (is : carry f message (from_place place (ahead_of s c)) ≡ Some carried) where
  abbrev entries : ℕ
  entries = length s.log

  abbrev list : List PlacedOp
  list = from_place place (ahead_of s c)

  abbrev item : PlacedOp
  item = record { place = entries; op = carried.op }

  there : ahead_of s c ≡ get_or s.ahead (c - 1) []
  there = unwrap_or-slice_get s.ahead (c - 1) []

  short : length list ≤ entries
  short = omega (
    arith,
    length-filter (λ b. nat_le place b.place) (ahead_of s c),
    count_by-le-length (λ b. nat_le place b.place) (ahead_of s c),
    ap length there,
    All-get_or (λ one. length one ≤ entries) s.ahead (c - 1) [] inside kept.short,
  )

  near : IsCarriedNear f (reach entries + 99 * length list) (length list) carried
  near = carry-near f has (reach entries) message list carried
      (IsUsable-wider has.wider f most_hub_cells (reach entries) message (omega arith) usable)
      (All-filter (λ b. nat_le place b.place) (λ b. IsUsable f (reach entries) b.op) (ahead_of s c)
      (rw there (All-get_or (λ one. AreUsable f (reach entries) one) s.ahead (c - 1) [] inside kept.ahead))) is

  further : reach entries + 99 * length list ≤ reach (entries + 1)
  further = omega (arith, short, few)

  op_near : IsUsable f (reach (entries + 1)) carried.op
  op_near =
      IsUsable-wider has.wider f (reach entries + 99 * length list) (reach (entries + 1)) carried.op further near.op

  abbrev after : Server
  after = server_after mode c carried s

  longer : length (s.log ++ record { client = c; op = carried.op } ∷ []) ≡ entries + 1
  longer = length-append s.log (record { client = c; op = carried.op } ∷ [])

  -- so all that is kept of the server is kept of the one after the message
  pub IsServerKept-after : IsServerKept f (server_after mode c carried s)
  IsServerKept-after = record {
    few = omega (arith, longer, few);
    log = subst (λ (n : ℕ). All (λ entry. IsUsable f (reach n) entry.op) after.log) (sym longer)
        (All-push (λ entry. IsUsable f (reach (entries + 1)) entry.op) s.log (record { client = c; op = carried.op })
        (All-weaker (λ entry. IsUsable f (reach entries) entry.op) (λ entry. IsUsable f (reach (entries + 1)) entry.op)
        (λ entry. IsUsable-wider has.wider f (reach entries) (reach (entries + 1)) entry.op (omega arith))
        s.log kept.log) op_near);
    ahead = subst (λ (n : ℕ). All (λ one. AreUsable f (reach n) one) after.ahead) (sym longer)
        (All-set (λ one. AreUsable f (reach (entries + 1)) one) (map (λ one. one ++ item ∷ []) s.ahead) (c - 1)
        carried.list (AreUsable-wider has.wider f (reach entries + 99 * length list) (reach (entries + 1)) carried.list
        further near.list) (All-map (λ one. AreUsable f (reach (entries + 1)) one) (λ one. one ++ item ∷ []) s.ahead
        (All-weaker (λ one. AreUsable f (reach entries) one)
        (λ one. AreUsable f (reach (entries + 1)) (one ++ item ∷ []))
        (λ one all. All-push (λ b. IsUsable f (reach (entries + 1)) b.op) one item
        (AreUsable-wider has.wider f (reach entries) (reach (entries + 1)) one (omega arith) all) op_near) s.ahead
        kept.ahead)));
    short = subst (λ (n : ℕ). All (λ one. length one ≤ n) after.ahead) (sym longer)
        (All-set (λ one. length one ≤ entries + 1) (map (λ one. one ++ item ∷ []) s.ahead) (c - 1) carried.list
        (omega (arith, near.length, short))
        (All-map (λ one. length one ≤ entries + 1) (λ one. one ++ item ∷ []) s.ahead
        (All-weaker (λ one. length one ≤ entries) (λ one. length (one ++ item ∷ []) ≤ entries + 1)
        (λ one few_one. omega (arith, few_one, length-append one (item ∷ []))) s.ahead kept.short)));
    cells = omega (arith, longer, kept.cells, grows mode carried.op s.doc);
  }

-- a client as the log grows
pub IsClientKept-later : (wider : Wider) (f : Function) (n m : ℕ) (client : Client) → n ≤ m → IsClientKept f n client
    → IsClientKept f m client
IsClientKept-later wider f n m client later kept = record {
  few = kept.few;
  received = omega (arith, later, kept.received);
  pending = AreUsable-wider wider f (reach (n + client.received)) (reach (m + client.received)) client.pending
      (omega (arith, later)) kept.pending;
  short = kept.short;
  messages = kept.messages;
  cells = kept.cells;
}

-- the server took the oldest message of a client
pub IsHubKept-up : (f : Function) (wider : Wider) (count : ℕ) (s new : Server) (all : List Client)
    (kept : IsHubKept f count s all) (i : ℕ)
    → i < length all → 0 < length (client_at all i).messages → IsServerKept f new → length new.log ≡ length s.log + 1
    → length new.ahead ≡ length s.ahead → IsHubKept f count new (slice_set all i (sent (client_at all i)))
IsHubKept-up f wider count s new all kept i inside some new_kept longer sides = record {
  server = new_kept;
  clients = All-set (IsClientKept f (length new.log)) all i (sent (client_at all i)) sent_kept
      (All-weaker (IsClientKept f (length s.log)) (IsClientKept f (length new.log))
      (λ client. IsClientKept-later wider f (length s.log) (length new.log) client (omega (arith, longer))) all
      kept.clients);
  sides = sides ∙ kept.sides ∙ sym (length-set all i (sent (client_at all i)));
  most = omega (arith, kept.most, length-set all i (sent (client_at all i)));
  few = kept.few;
  made =
      omega (arith, kept.made, sum-set f count s all kept i inside (λ client. client.edits) (sent (client_at all i)));
  moved = omega (
    arith,
    kept.moved,
    longer,
    some,
    length-drop 1 (client_at all i).messages,
    sum-set f count s all kept i inside (λ client. length client.messages) (sent (client_at all i)),
  );
}
  where
    was : IsClientKept f (length s.log) (client_at all i)
    was = one-kept f count s all kept i inside

    sent_kept : IsClientKept f (length new.log) (sent (client_at all i))
    sent_kept = IsClientKept-later wider f (length s.log) (length new.log) (sent (client_at all i))
        (omega (arith, longer)) (record {
          few = was.few;
          received = was.received;
          pending = was.pending;
          short = was.short;
          messages = All-drop (λ b. IsUsable f most_hub_cells b.op) 1 (client_at all i).messages was.messages;
          cells = was.cells;
        })

-- a client took an entry
module _ (f : Function) (has : KeepsNear f) (grows : Grows) (mode : Mode) (n : ℕ) (client : Client)
    (kept : IsClientKept f n client) (few : n ≤ MAX_EDITS)
    (more : client.received < n) where
  pub IsClientKept-confirmed : IsClientKept f n (confirmed client)
  IsClientKept-confirmed = record {
    few = kept.few;
    received = omega (arith, more);
    pending = AreUsable-wider has.wider f (reach (n + client.received)) (reach (n + (client.received + 1)))
        (drop 1 client.pending) (omega arith)
        (All-drop (λ b. IsUsable f (reach (n + client.received)) b.op) 1 client.pending kept.pending);
    short = omega (arith, kept.short, length-drop 1 client.pending);
    messages = kept.messages;
    cells = omega (arith, kept.cells);
  }

  module _ (o : Op) (usable : IsUsable f (reach n) o) where
    pub CanTakeEntry-kept : CanTakeEntry f o client
    CanTakeEntry-kept = record {
      usable = CanBeCarried-near has.wider f (reach (n + client.received)) o client.pending
          (omega (arith, kept.short, kept.few)) (omega (arith, kept.short, kept.few, few, more))
          (IsUsable-wider has.wider f (reach n) (reach (n + client.received)) o (omega arith) usable) kept.pending;
      few = omega (arith, more, few);
    }

    pub IsClientKept-after : (carried : Carried) → carry f o client.pending ≡ Some carried
        → IsClientKept f n (client_after mode carried client)
    IsClientKept-after carried is = record {
      few = kept.few;
      received = omega (arith, more);
      pending = AreUsable-wider has.wider f (reach (n + client.received) + 99 * length client.pending)
          (reach (n + (client.received + 1))) carried.list (omega (arith, kept.short, kept.few)) near.list;
      short = omega (arith, near.length, kept.short);
      messages = kept.messages;
      cells = omega (arith, kept.cells, grows mode carried.op client.doc);
    }
      where
        near : IsCarriedNear f (reach (n + client.received) + 99 * length client.pending)
            (length client.pending) carried
        near = carry-near f has (reach (n + client.received)) o client.pending carried
            (IsUsable-wider has.wider f (reach n) (reach (n + client.received)) o (omega arith) usable) kept.pending is

-- a client received what comes next
pub IsHubKept-down : (f : Function) (count : ℕ) (s : Server) (all : List Client) (kept : IsHubKept f count s all)
    (i : ℕ) (inside : i < length all)
    (new : Client) → IsClientKept f (length s.log) new → new.edits ≡ (client_at all i).edits
    → new.messages ≡ (client_at all i).messages
    → IsHubKept f count s (slice_set all i new)
IsHubKept-down f count s all kept i inside new new_kept edits messages = record {
  server = kept.server;
  clients = All-set (IsClientKept f (length s.log)) all i new new_kept kept.clients;
  sides = kept.sides ∙ sym (length-set all i new);
  most = omega (arith, kept.most, length-set all i new);
  few = kept.few;
  made = omega (arith, kept.made, edits, sum-set f count s all kept i inside (λ client. client.edits) new);
  moved = omega (
    arith,
    kept.moved,
    ap length messages,
    sum-set f count s all kept i inside (λ client. length client.messages) new,
  );
}

-- the step of one client, told by the list
pub record SteppedTo (all : List Client) (i : ℕ) (step : Step Client) (new : List Client) : Type 0 where
  pub client : Client
  pub is : step ≡ To client
  pub new_is : new ≡ slice_set all i client

pub stepped_to : (all : List Client) (i : ℕ) (step : Step Client) (new : List Client)
    → step_map (slice_set all i) step ≡ To new → SteppedTo all i step new
stepped_to all i Nothing new is = cc
stepped_to all i Stuck new is = cc
stepped_to all i (To client) new is = let same : slice_set all i client ≡ new = cc in
    record { client = client; is = refl; new_is = sym same }

-- what is the same of a client that took an entry
pub record IsClientStepped (f : Function) (n : ℕ) (old new : Client) : Type 0 where
  pub kept : IsClientKept f n new
  pub edits : new.edits ≡ old.edits
  pub messages : new.messages ≡ old.messages

-- a client that takes an entry keeps what is kept of it, and its edits and messages stay
pub IsClientKept-stepped : (f : Function) → KeepsNear f → Grows → (n c : ℕ) (client new : Client)
    → IsClientKept f n client → n ≤ MAX_EDITS
    → client.received < n
    → (entry : Entry) → IsUsable f (reach n) entry.op → client_step f c entry client ≡ To new
    → IsClientStepped f n client new
IsClientKept-stepped f has grows n c client new kept few more entry usable is =
    elim (cases_Bool (nat_eq entry.client c)) [
      | inl own ↦
          (let led : To (confirmed client) ≡ To new = rw own at is in
          let same : confirmed client ≡ new = cc in
          subst (λ (x : Client). IsClientStepped f n client x) same
          (record {
            kept = IsClientKept-confirmed f has grows f.head.mode n client kept few more;
            edits = refl;
            messages = refl;
          }))
      | inr other ↦
          (let led : goes_on (carry f entry.op client.pending) (length client.doc)
          (λ carried. client_after f.head.mode carried client) ≡ To new = rw other at is in
          let went : WentOn (carry f entry.op client.pending) (length client.doc)
          (λ carried. client_after f.head.mode carried client) new =
          goes_on-to (carry f entry.op client.pending) (length client.doc)
          (λ carried. client_after f.head.mode carried client) new led in
          subst (λ (x : Client). IsClientStepped f n client x) went.new_is (record {
            kept = IsClientKept-after f has grows f.head.mode n client kept few more entry.op usable went.it went.is;
            edits = refl;
            messages = refl;
          }))
    ]
