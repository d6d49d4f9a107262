-- Integrating operations that were made on one document, in an order.
use Rattle.std.specs.Prelude.{◌≡◌, ℕ, zero, suc, Bool, true, ◌&&◌, nat_eq, ◌+◌, ◌<◌, List, [], ◌∷◌, ◌++◌, length, map}
use Rattle.std.specs.Prelude.{Option, Some, None, unwrap_or, slice_get, Contains, if◌then◌else◌}
use Rattle.std.specs.List.{list_any}
use Rattle.std.specs.Option.{option_and_then}
use Rattle.ot_model.specs.declared.cell.Cell.{Cell}
use Rattle.ot_model.specs.declared.op.Op.{Op}
use Rattle.ot_model.specs.declared.op.Op.TheVariants.{Nop}
use Rattle.ot_model.specs.Effect.{is_enabled, document_after}
use Rattle.fn_rules.specs.Functions.{Function}
use Rattle.fn_rules.specs.Transformation.{transform_of}
use Rattle.fn_rules.specs.Properties.{AreConcurrent}

-- how integrating in an order ends: with a document, or at the first place, counted from 0, where the
-- operation has no form or its form is not enabled
pub data Outcome : Type 0 where
  Document : List Cell → Outcome
  StuckAt : ℕ → Outcome

-- an operation, transformed in turn by operations as they were executed; none where one of these
-- transformations has no result
abbrev pub through : Function → Op → List Op → Option Op
through f o [] = Some o
through f o (e ∷ es) = option_and_then (λ p. through f p es) (transform_of f o e)

-- goes on with a form that exists and is enabled on the document
abbrev pub with_form : Option Op → List Cell → (Op → Outcome) → Outcome → Outcome
with_form None d go stuck = stuck
with_form (Some p) d go stuck = if is_enabled p (length d) then go p else stuck

-- the outcome of integrating further operations in their order, where these forms were executed
-- before and so many places are done
abbrev pub outcome_from : Function → List Cell → List Op → ℕ → List Op → Outcome
outcome_from f d executed place [] = Document d
outcome_from f d executed place (o ∷ os) =
    with_form (through f o executed) d
    (λ p. outcome_from f (document_after f.head.mode p d) (executed ++ p ∷ []) (place + 1) os)
    (StuckAt place)

-- the operation that a number names
abbrev pub operation_at : List Op → ℕ → Op
operation_at ops i = unwrap_or (slice_get ops i) Nop

-- the outcome of integrating the operations in the order that the numbers say
abbrev pub integrated : Function → List Cell → List Op → List ℕ → Outcome
integrated f d ops order = outcome_from f d [] 0 (map (operation_at ops) order)

-- the order names this number
abbrev pub names : List ℕ → ℕ → Bool
names order i = list_any (λ number. nat_eq number i) order

-- the order names each number below this one
abbrev pub names_below : ℕ → List ℕ → Bool
names_below zero order = true
names_below (suc n) order = names_below n order && names order n

-- the order names each of so many operations once
abbrev pub names_each_once : ℕ → List ℕ → Bool
names_each_once n order = nat_eq (length order) n && names_below n order

-- the same as a fact
abbrev pub NamesEachOnce : ℕ → List ℕ → Type 0
NamesEachOnce n order = (length order ≡ n) × ((i : ℕ) → i < n → Contains order i)

-- any two orders of concurrent operations end with one document
abbrev pub HasOneOutcome : Function → Type 0
HasOneOutcome f =
    (d : List Cell) (ops : List Op) (order other : List ℕ) →
    AreConcurrent f d ops → NamesEachOnce (length ops) order → NamesEachOnce (length ops) other →
    (end : List Cell) × (integrated f d ops order ≡ Document end) × (integrated f d ops other ≡ Document end)
