-- The reading of a case: what its bytes are read as, a trial or the first fault in the order of the tests.
use Rattle.std.specs.Prelude.{ℕ, nat_le, if◌then◌else◌, List, length, Option, Some, None, Result, Ok, Err, ok_or}
use Rattle.std.specs.Prelude.{option_and_then}
use Rattle.std.specs.Prelude.{codes, chars}
use Rattle.serde_json.specs.Data.{Data}
use Rattle.serde_json.specs.Find.{get, as_str}
use Rattle.ot_model.specs.declared.limits.TheConstants.{MAX_CELLS, MAX_OPERATIONS}
use Rattle.ot_model.specs.declared.cell.Cell.{Cell}
use Rattle.ot_model.specs.declared.op.Op.{Op}
use Rattle.fn_rules.specs.Functions.{Function}
use Rattle.case_json.specs.declared.limits.TheConstants.{MAX_ORDERS}
use Rattle.case_json.specs.declared.fault.CaseFault.{CaseFault}
use Rattle.case_json.specs.declared.fault.CaseFault.TheVariants.{Json, Field, Limit}
use Rattle.case_json.specs.declared.fault.Name.{Name}
use Rattle.case_json.specs.declared.fault.Name.TheVariants.{Doc, Ops, Orders}
use Rattle.case_json.specs.declared.trial.Trial.{Trial}
use Rattle.case_json.specs.Faults.{and_then_read}
use Rattle.case_json.specs.DocText.{cells_within}
use Rattle.case_json.specs.Json.{json_in, elements_of, each}
use Rattle.case_json.specs.Operations.{operation_in, number_in}
use Rattle.case_json.specs.Tests.{case_fault_of}

-- the document of a text, if there is one
abbrev pub document_from : Option (List ℕ) → Result (List Cell) CaseFault
document_from None = Err (Field Doc)
document_from (Some text) = cells_within MAX_CELLS (chars text)

-- the document under the key `doc`
abbrev pub document_in : Data → Result (List Cell) CaseFault
document_in json = document_from (option_and_then as_str (get (codes "doc") json))

-- at most so many elements, each as the reader has it: that there are too many is a fault before one that is none
abbrev pub elements_from : {A : Type 0} → Name → ℕ → (Data → Option A) → Option (List Data) → Result (List A) CaseFault
elements_from part most reader None = Err (Field part)
elements_from part most reader (Some elements) =
    if nat_le (length elements) most then ok_or (each reader elements) (Field part) else Err (Limit part)

-- the elements of the array under a key
abbrev pub elements_at : {A : Type 0} → List ℕ → Name → ℕ → (Data → Option A) → Data → Result (List A) CaseFault
elements_at key part most reader json = elements_from part most reader (option_and_then elements_of (get key json))

-- the operations under the key `ops`
abbrev pub operations_in : Data → Result (List Op) CaseFault
operations_in json = elements_at (codes "ops") Ops MAX_OPERATIONS operation_in json

-- an order: the numbers of operations
abbrev pub order_in : Data → Option (List ℕ)
order_in json = option_and_then (each number_in) (elements_of json)

-- the orders under the key `orders`
abbrev pub orders_in : Data → Result (List (List ℕ)) CaseFault
orders_in json = elements_at (codes "orders") Orders MAX_ORDERS order_in json

-- the parts of a case: its document, then its operations, then its orders
abbrev pub parts_in : Data → Result Trial CaseFault
parts_in json =
    and_then_read (document_in json) (λ doc.
    and_then_read (operations_in json) (λ ops.
    and_then_read (orders_in json) (λ orders.
    Ok (record { doc = doc; ops = ops; orders = orders }))))

-- the parts of the case that bytes hold
abbrev pub case_in : List ℕ → Result Trial CaseFault
case_in bytes = and_then_read (ok_or (json_in bytes) Json) parts_in

-- a trial that no test finds a fault in
abbrev pub tested : Option CaseFault → Trial → Result Trial CaseFault
tested None trial = Ok trial
tested (Some fault) trial = Err fault

-- what the bytes of a case are read as for a function
unfoldable pub trial_in : Function → List ℕ → Result Trial CaseFault
trial_in f bytes = and_then_read (case_in bytes) (λ trial. tested (case_fault_of f trial) trial)
