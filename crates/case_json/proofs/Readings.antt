-- Readings one behind another, and what a trial that was read keeps.
use Rattle.std.proofs.Common.{◌≡◌, ◌⊎◌, ◌≤◌, ℕ, zero, suc, Bool, true, false, List, [], ◌∷◌, length, Option, Some, None}
use Rattle.std.proofs.Common.{Result, Ok, Err, refl, sym, ap, subst, inl, inr, arith, is_some, codes, if◌then◌else◌}
use Rattle.std.specs.Prelude.{IsUtf8, IsErrAnd}
use Rattle.std.specs.Option.{ok_or, option_and_then}
use Rattle.std.specs.Str.{is_utf8, chars}
use Rattle.std.proofs.lemmas.Str.{IsUtf8-from_is_utf8, is_utf8-from_IsUtf8}
use Rattle.serde_json.specs.Data.{Data}
use Rattle.serde_json.specs.Read.{read}
use Rattle.serde_json.specs.Find.{get, as_str}
use Rattle.serde_json.specs.Errors.{IsMemory}
use Rattle.serde_json.specs.View.{view}
use Rattle.serde_json.specs.declared.value.Value.{Value}
use Rattle.serde_json.specs.declared.error.Error.{Error}
use Rattle.serde_json.specs.declared.error.Code.{Code}
use Rattle.serde_json.specs.declared.error.Code.TheVariants.{Invalid, NumberOutOfRange, OutOfMemory}
use Rattle.ot_model.specs.declared.limits.TheConstants.{MAX_CELLS, MAX_OPERATIONS}
use Rattle.ot_model.specs.declared.cell.Cell.{Cell}
use Rattle.ot_model.specs.declared.op.Op.{Op}
use Rattle.fn_rules.specs.Functions.{Function}
use Rattle.case_json.specs.declared.limits.TheConstants.{MAX_ORDERS}
use Rattle.case_json.specs.declared.fault.CaseFault.{CaseFault}
use Rattle.case_json.specs.declared.fault.CaseFault.TheVariants.{Json, Field, Limit}
use Rattle.case_json.specs.declared.fault.Name.TheVariants.{Doc, Ops, Orders, Cells}
use Rattle.case_json.specs.declared.stop.CaseError.{CaseError}
use Rattle.case_json.specs.declared.stop.CaseError.TheVariants.{Fault, NoMemory}
use Rattle.case_json.specs.declared.trial.Trial.{Trial}
use Rattle.case_json.specs.Faults.{CaseReads, StopsAt, and_then_read, seen_as}
use Rattle.case_json.specs.DocText.{cells_within, no_cells, with_first, with_cells_behind, cell_at}
use Rattle.case_json.specs.Json.{json_in, elements_of}
use Rattle.case_json.specs.Operations.{operation_in}
use Rattle.case_json.specs.Tests.{case_fault_of, IsReadyTrial}
use Rattle.case_json.specs.Cases.{document_from, document_in, operations_in, order_in, orders_in, parts_in, case_in}
use Rattle.case_json.specs.Cases.{tested, trial_in}
use Rattle.case_json.proofs.Elements.{elements_from-few}
use Rattle.case_json.proofs.FirstFault.{TestsDecide, faultless-ready}

-- what stops the first reading stops both
stops_first : {A B : Type 0} (error : CaseError) (reading : Result A CaseFault) (further : A → Result B CaseFault)
    → StopsAt error reading → StopsAt error (and_then_read reading further)
stops_first (Fault fault) reading further is = rw is refl
stops_first NoMemory reading further is = tt

-- the same of an answer that passes the error on
pub error_passed_on : {A B : Type 0} (answer : Result B CaseError) (error : CaseError) (reading : Result A CaseFault)
    (further : A → Result B CaseFault) → IsErrAnd answer (λ passed. passed ≡ error) → CaseReads (Err error) reading
    → CaseReads answer (and_then_read reading further)
error_passed_on {A} {B} (Ok value) error reading further passes reads = absurd passes
error_passed_on {A} {B} (Err passed) error reading further passes reads =
    rw passes (stops_first error reading further reads)

memory_or_not : (code : Code) → (code ≡ OutOfMemory) ⊎ (¬ (code ≡ OutOfMemory))
memory_or_not Invalid = inr (λ is. cc)
memory_or_not NumberOutOfRange = inr (λ is. cc)
memory_or_not OutOfMemory = inl refl

-- bytes that were read as a value
pub json_value : (bytes : List ℕ) (json : Data) → IsUtf8 bytes → read bytes ≡ Some json
    → ok_or (json_in bytes) Json ≡ Ok json
json_value bytes json utf8 is = rw (is_utf8-from_IsUtf8 bytes utf8, is) refl

-- bytes that were not
pub json_fault : (bytes : List ℕ) (error : Error) (answer : Result Value CaseError)
    → IsErrAnd answer (λ stop. (IsMemory error → stop ≡ NoMemory) × (¬ (IsMemory error) → stop ≡ Fault Json))
    → (¬ (IsMemory error) → IsUtf8 bytes → read bytes ≡ None)
    → CaseReads (seen_as view answer) (ok_or (json_in bytes) Json)
json_fault bytes error (Ok value) gives refuses = absurd gives
json_fault bytes error (Err stop) gives refuses = elim (memory_or_not error.code) [
  | inl memory ↦ rw (gives.0 memory) tt
  | inr other ↦ rw (gives.1 other) (unread (is_utf8 bytes) refl (refuses other))
]
  where
    unread : (utf8 : Bool) → is_utf8 bytes ≡ utf8 → (IsUtf8 bytes → read bytes ≡ None)
        → ok_or (if utf8 then read bytes else None) Json ≡ Err Json
    unread true is none = rw (none (IsUtf8-from_is_utf8 bytes is)) refl
    unread false is none = refl

with_first-ok : (cell : Cell) (reading : Result (List Cell) CaseFault) (doc : List Cell)
    → with_first cell reading ≡ Ok doc
    → (cells : List Cell) × (reading ≡ Ok cells) × (length doc ≡ suc (length cells))
with_first-ok cell (Ok cells) doc is = let same : cell ∷ cells ≡ doc = cc in (cells, refl, sym (ap length same))
with_first-ok cell (Err fault) doc is = cc

no_cells-few : (text : List ℕ) (doc : List Cell) → no_cells text ≡ Ok doc → length doc ≤ 0
no_cells-few [] doc is = let none : [] ≡ doc = cc in omega (arith, ap length none)
no_cells-few (c ∷ behind) doc is = by (is_some (cell_at (c ∷ behind))) is
  where
    by : (some : Bool) → (if some then Err (Limit Cells) else Err (Field Doc)) ≡ Ok doc → length doc ≤ 0
    by true is = cc
    by false is = cc

-- no more cells than are allowed
cells_within-few : (room : ℕ) (text : List ℕ) (doc : List Cell) → cells_within room text ≡ Ok doc → length doc ≤ room
unfolding cells_within
cells_within-few zero [] doc is = let none : [] ≡ doc = cc in omega (arith, ap length none)
cells_within-few zero (c ∷ behind) doc is = no_cells-few (c ∷ behind) doc is
cells_within-few (suc room) [] doc is = let none : [] ≡ doc = cc in omega (arith, ap length none)
cells_within-few (suc room) (c ∷ behind) doc is = by (cell_at (c ∷ behind)) (cells_within-few room) is
  where
    by : (first : Option (Cell × List ℕ))
        → ((text : List ℕ) (cells : List Cell) → cells_within room text ≡ Ok cells → length cells ≤ room)
        → with_cells_behind first (cells_within room) ≡ Ok doc → length doc ≤ suc room
    by None few is = cc
    by (Some first) few is =
        let parts = with_first-ok first.0 (cells_within room first.1) doc is in
        let bound : length parts.0 ≤ room = few first.1 parts.0 parts.1 in
        omega (arith, parts.2, bound)

pub document_from-few : (text : Option (List ℕ)) (doc : List Cell)
    → document_from text ≡ Ok doc → length doc ≤ MAX_CELLS
document_from-few None doc is = cc
document_from-few (Some text) doc is = cells_within-few MAX_CELLS (chars text) doc is

-- no more cells, operations and orders than are allowed
abbrev pub IsLimited : Trial → Type 0
IsLimited trial =
    (length trial.doc ≤ MAX_CELLS) × (length trial.ops ≤ MAX_OPERATIONS) × (length trial.orders ≤ MAX_ORDERS)

-- a trial of its parts
abbrev of_parts : List Cell → List Op → List (List ℕ) → Trial
of_parts doc ops orders = record { doc = doc; ops = ops; orders = orders }

-- a trial whose parts are within the limits is within them
parts-few : (doc : Result (List Cell) CaseFault) (ops : Result (List Op) CaseFault)
    (orders : Result (List (List ℕ)) CaseFault) (trial : Trial)
    → ((cells : List Cell) → doc ≡ Ok cells → length cells ≤ MAX_CELLS)
    → ((list : List Op) → ops ≡ Ok list → length list ≤ MAX_OPERATIONS)
    → ((list : List (List ℕ)) → orders ≡ Ok list → length list ≤ MAX_ORDERS)
    → and_then_read doc (λ d. and_then_read ops (λ os. and_then_read orders (λ lists. Ok (of_parts d os lists))))
    ≡ Ok trial
    → IsLimited trial
parts-few (Err fault) ops orders trial few_cells few_ops few_orders is = cc
parts-few (Ok d) (Err fault) orders trial few_cells few_ops few_orders is = cc
parts-few (Ok d) (Ok os) (Err fault) trial few_cells few_ops few_orders is = cc
parts-few (Ok d) (Ok os) (Ok lists) trial few_cells few_ops few_orders is =
    let same : of_parts d os lists ≡ trial = cc in
    subst IsLimited same (few_cells d refl, few_ops os refl, few_orders lists refl)

case_in-limited : (json : Result Data CaseFault) (trial : Trial)
    → and_then_read json parts_in ≡ Ok trial → IsLimited trial
case_in-limited (Err fault) trial is = cc
case_in-limited (Ok json) trial is =
    parts-few (document_in json) (operations_in json) (orders_in json) trial
    (document_from-few (option_and_then as_str (get (codes "doc") json)))
    (elements_from-few Ops MAX_OPERATIONS operation_in (option_and_then elements_of (get (codes "ops") json)))
    (elements_from-few Orders MAX_ORDERS order_in (option_and_then elements_of (get (codes "orders") json)))
    is

-- what was read is within the limits
pub case_in-few : (bytes : List ℕ) (trial : Trial) → case_in bytes ≡ Ok trial → IsLimited trial
case_in-few bytes trial is = case_in-limited (ok_or (json_in bytes) Json) trial is

module _ (decide : TestsDecide) (f : Function) where
  -- a trial that was read and has no fault is ready
  tested-ready : (reading : Result Trial CaseFault) (trial : Trial)
      → ((parts : Trial) → reading ≡ Ok parts → IsLimited parts)
      → and_then_read reading (λ parts. tested (case_fault_of f parts) parts) ≡ Ok trial → IsReadyTrial f trial
  tested-ready (Err fault) trial few is = cc
  tested-ready (Ok parts) trial few is = by (case_fault_of f parts) refl is
    where
      by : (fault : Option CaseFault) → case_fault_of f parts ≡ fault
          → tested fault parts ≡ Ok trial → IsReadyTrial f trial
      by (Some fault) none is = cc
      by None none is =
          let same : parts ≡ trial = cc in
          let limits : IsLimited parts = few parts refl in
          subst (IsReadyTrial f) same (faultless-ready decide f parts none limits.0 limits.1 limits.2)

  -- a trial that a case is read as for a function is ready
  pub read_trial_is_ready : (bytes : List ℕ) (trial : Trial) → trial_in f bytes ≡ Ok trial → IsReadyTrial f trial
  unfolding trial_in
  read_trial_is_ready bytes trial is = tested-ready (case_in bytes) trial (case_in-few bytes) is
