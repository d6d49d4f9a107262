-- Where what a client sends meets what it receives: its messages are carried over the entries that the server keeps for
-- it, and the entries that it did not receive yet over what is pending. The two ways are told apart here, each as a
-- relation; that they meet is what is kept of a hub.
use Rattle.std.specs.Prelude.{◌≡◌, ◌≢◌, ◌⊎◌, ◌+◌, ℕ, List, [], ◌∷◌, Some}
use Rattle.fn_rules.specs.Functions.{Function}
use Rattle.ot_hub.specs.declared.placed.PlacedOp.{PlacedOp}
use Rattle.ot_hub.specs.declared.placed.Entry.{Entry}
use Rattle.ot_hub.specs.Carry.{Carried, carry, from_place}

-- a message becomes a form: it is carried over the entries behind it, and the rest goes on with what these become
pub record BecomesForm (f : Function) (message : PlacedOp) (ahead : List PlacedOp) (form : PlacedOp)
    (Rest : List PlacedOp → Type 0) : Type 0 where
  pub carried : Carried
  pub is : carry f message.op (from_place message.place ahead) ≡ Some carried
  pub form_is : form ≡ record message { op = carried.op }
  pub rest : Rest carried.list

-- the messages, sent one after the other, become the forms, and the entries ahead become those that are kept then
abbrev pub Ups : Function → List PlacedOp → List PlacedOp → List PlacedOp → List PlacedOp → Type 0
Ups f [] ahead [] kept = ahead ≡ kept
Ups f [] ahead (form ∷ forms) kept = ⊥
Ups f (message ∷ messages) ahead [] kept = ⊥
Ups f (message ∷ messages) ahead (form ∷ forms) kept =
    BecomesForm f message ahead form (λ behind. Ups f messages behind forms kept)

-- an entry is the client's own: it is the oldest that is pending, and the rest goes on with the younger ones
pub record IsConfirmedEntry (c : ℕ) (entry : Entry) (pending : List PlacedOp)
    (Rest : List PlacedOp → Type 0) : Type 0 where
  pub own : entry.client ≡ c
  pub oldest : PlacedOp
  pub younger : List PlacedOp
  pub pending_is : pending ≡ oldest ∷ younger
  pub same : oldest.op ≡ entry.op
  pub rest : Rest younger

-- an entry is another client's: carried over what is pending it is the first that is taken, and the rest goes on with
-- what these became
pub record IsTakenEntry (f : Function) (c place : ℕ) (entry : Entry) (pending taken : List PlacedOp)
    (Rest : List PlacedOp → List PlacedOp → Type 0) : Type 0 where
  pub other : entry.client ≢ c
  pub carried : Carried
  pub later : List PlacedOp
  pub is : carry f entry.op pending ≡ Some carried
  pub taken_is : taken ≡ record { place = place; op = carried.op } ∷ later
  pub rest : Rest carried.list later

-- where the client receives the entries, of which the first stands at the place, what is pending becomes the forms, and
-- those of other clients become what is taken
abbrev pub Downs : Function → ℕ → ℕ → List PlacedOp → List Entry → List PlacedOp → List PlacedOp → Type 0
Downs f c place pending [] forms taken = (pending ≡ forms) × (taken ≡ [])
Downs f c place pending (entry ∷ entries) forms taken =
    IsConfirmedEntry c entry pending (λ younger. Downs f c (place + 1) younger entries forms taken)
    ⊎ IsTakenEntry f c place entry pending taken (λ behind later. Downs f c (place + 1) behind entries forms later)
