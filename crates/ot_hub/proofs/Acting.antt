-- The client that a call speaks of, and the clients of the hub behind the call.
use Rattle.std.proofs.Common.{◌≡◌, ◌≢◌, ◌<◌, ◌-◌, ℕ, List, length, Vec, Global, Result, Ok, Err, refl, sym, ap, ◌∙◌}
use Rattle.std.proofs.Common.{get_or, arith}
use Rattle.std.specs.Prelude.{slice_set, unwrap_or}
use Rattle.std.specs.Vec.{with_items}
use Rattle.std.proofs.lemmas.List.{length-set, with_items_is}
use Rattle.std.proofs.lemmas.Option.{slice_get_read}
use Rattle.ot_hub.specs.declared.answer.Move.{Move}
use Rattle.ot_hub.specs.declared.answer.Move.TheVariants as moves
use Rattle.ot_hub.specs.declared.answer.Moved.{Moved}
use Rattle.ot_hub.specs.declared.client.Client.{Client}
use Rattle.ot_hub.specs.Clients.{IsClient, nobody, client_at}

pub inside_of : (all : List Client) (c : ℕ) → IsClient (length all) c → c - 1 < length all
inside_of all c there = omega (arith, there.low, there.high)

-- what is read at the client's place is the client
pub client_read : (all : List Client) (c : ℕ) (found : Client) → IsClient (length all) c
    → found ≡ get_or all (c - 1) found
    → client_at all (c - 1) ≡ found
client_read all c found there is =
    ap (λ x. unwrap_or x nobody) (slice_get_read all (length all) (c - 1) found refl (inside_of all c there) is)

-- the same of a client that is read at a place to be changed there
pub client_at-read : (all : List Client) (i : ℕ) (found : Client) → i < length all → found ≡ get_or all i found
    → client_at all i ≡ get_or all i found
client_at-read all i found inside is =
    ap (λ x. unwrap_or x nobody) (slice_get_read all (length all) i found refl inside is) ∙ is

-- where one became another, and where none did
pub items_set : (all : Vec Client Global) (i : ℕ) (x : Client) (new : List Client) → new ≡ slice_set all.items i x
    → (with_items all new).items ≡ slice_set all.items i x
items_set all i x new is = with_items_is all new (ap length is ∙ length-set all.items i x ∙ sym all.ok.0) ∙ is

pub items_same : (all : Vec Client Global) (new : List Client) → new ≡ all.items
    → (with_items all new).items ≡ all.items
items_same all new is = with_items_is all new (ap length is ∙ sym all.ok.0) ∙ is

-- what is not stuck
pub done-not_stuck : (moved : Moved) → ◌≢◌ {A = Result Moved Move} (Ok moved) (Err moves.Stuck)
done-not_stuck moved is = cc

pub no_site-not_stuck : ◌≢◌ {A = Result Moved Move} (Err moves.NoSite) (Err moves.Stuck)
no_site-not_stuck is = cc

pub refusal-stuck : (refusal : Move)
    → ◌≡◌ {A = Result Moved Move} (Err refusal) (Err moves.Stuck) → refusal ≡ moves.Stuck
refusal-stuck refusal is = cc
