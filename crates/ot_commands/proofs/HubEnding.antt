-- What the clients of a hub hold, one after the other, and that none is apart where each follows the log.
use Rattle.std.proofs.Common.{◌≡◌, ℕ, zero, suc, ◌+◌, ◌-◌, ◌<◌, List, [], ◌∷◌, ◌++◌, length, map, take, Option, Some}
use Rattle.std.proofs.Common.{None, ap, refl, ◌∙◌, subst, inl, inr, arith}
use Rattle.std.specs.Prelude.{slice_get, unwrap_or}
use Rattle.std.proofs.lemmas.Option.{slice_get_within}
use Rattle.ot_model.specs.declared.cell.Cell.{Cell}
use Rattle.ot_hub.specs.declared.client.Client.{Client}
use Rattle.ot_hub.specs.Clients.{client_at, nobody}
use Rattle.ot_hub.specs.Views.{HubData, IsClient, client_of}
use Rattle.ot_replies.specs.declared.reply.ClientEnd.{ClientEnd}
use Rattle.ot_commands.specs.Hub.{IsFirstApart, client_end}

pub end_is : (client : Client) (end : ClientEnd) → end.received ≡ client.received
    → end.pending ≡ length client.pending → end.doc ≡ client.doc
    → end ≡ client_end client
end_is client end received pending doc =
    ap (λ (n : ℕ). record { received = n; pending = end.pending; doc = end.doc }) received
    ∙ ap (λ (n : ℕ). record { received = client.received; pending = n; doc = end.doc }) pending
    ∙ ap (λ (d : List Cell). record { received = client.received; pending = length client.pending; doc = d }) doc

next : (clients : List Client) (i : ℕ) → i < length clients
    → map client_end (take i clients) ++ client_end (client_at clients i) ∷ [] ≡ map client_end (take (suc i) clients)
next [] i inside = absurd (omega (arith, inside))
next (client ∷ clients) zero inside = refl
next (client ∷ clients) (suc i) inside =
    ap (λ (l : List ClientEnd). client_end client ∷ l) (next clients i (omega (arith, inside)))

-- the end of the next client stands after those of the clients before it
pub next_end : (clients : List Client) (i : ℕ) (end : ClientEnd) → i < length clients
    → end ≡ client_end (client_at clients (i + 1 - 1))
    → map client_end (take i clients) ++ end ∷ [] ≡ map client_end (take (i + 1) clients)
next_end clients i end inside is =
    let same : i + 1 - 1 ≡ i = omega arith in
    let one_more : suc i ≡ i + 1 = omega arith in
    ap (λ (e : ClientEnd). map client_end (take i clients) ++ e ∷ []) (is
    ∙ ap (λ (n : ℕ). client_end (client_at clients n)) same)
    ∙ next clients i inside
    ∙ ap (λ (n : ℕ). map client_end (take n clients)) one_more

-- a client that has received so many entries and has nothing pending holds the document
abbrev IsNear : ℕ → List Cell → Client → Type 0
IsNear n d client = client.received ≡ n → client.pending ≡ [] → client.doc ≡ d

empty : {X : Type 0} → (l : List X) → length l ≡ 0 → l ≡ []
empty [] none = refl
empty (x ∷ l) none = absurd (omega (arith, none))

all_near : (n : ℕ) (d : List Cell) (c : ℕ) (clients : List Client) (found : Option ℕ)
    → ((i : ℕ) (client : Client) → slice_get clients i ≡ Some client → IsNear n d client)
    → IsFirstApart n d c (map client_end clients) found → found ≡ None
all_near n d c [] found near is = is
all_near n d c (client ∷ clients) found near (inl (apart, is)) =
    absurd (apart.document (near zero client refl apart.received (empty client.pending apart.settled)))
all_near n d c (client ∷ clients) found near (inr (not_apart, rest)) =
    all_near n d (c + 1) clients found (λ i other is. near (suc i) other is) rest

there : (clients : List Client) (i : ℕ) (client : Client) → slice_get clients i ≡ Some client
    → client_at clients (i + 1 - 1) ≡ client
there clients i client is =
    let same : i + 1 - 1 ≡ i = omega arith in
    ap (λ (n : ℕ). client_at clients n) same ∙ ap (λ (o : Option Client). unwrap_or o nobody) is

is_client : (clients : List Client) (i : ℕ) (client : Client) → slice_get clients i ≡ Some client
    → IsClient (length clients) (i + 1)
is_client clients i client is =
    let inside : i < length clients = slice_get_within clients i client is in
    record { low = omega arith; high = omega (arith, inside) }

-- no client is apart from the server where each that has received all and has nothing pending holds its document
pub none_apart : (hub : HubData) (n : ℕ) (d : List Cell) (found : Option ℕ)
    → ((c : ℕ) → IsClient (length hub.clients) c → (client_of hub c).received ≡ n → (client_of hub c).pending ≡ []
    → (client_of hub c).doc ≡ d)
    → IsFirstApart n d 1 (map client_end hub.clients) found → found ≡ None
none_apart hub n d found follows is =
    all_near n d 1 hub.clients found
    (λ i client at. subst (λ (x : Client). IsNear n d x) (there hub.clients i client at)
    (follows (i + 1) (is_client hub.clients i client at))) is
