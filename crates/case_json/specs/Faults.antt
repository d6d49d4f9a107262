-- Readings, which give a value or the first fault, and what a call says of one: the reading itself, or
-- want of memory.
use Rattle.std.specs.Prelude.{◌≡◌, Result, Ok, Err}
use Rattle.case_json.specs.declared.fault.CaseFault.{CaseFault}
use Rattle.case_json.specs.declared.stop.CaseError.{CaseError}
use Rattle.case_json.specs.declared.stop.CaseError.TheVariants.{Fault, NoMemory}

-- the call stopped at the fault that the reading has, or for want of memory, which says nothing of it
abbrev pub StopsAt : {T : Type 0} → CaseError → Result T CaseFault → Type 0
StopsAt (Fault fault) reading = reading ≡ Err fault
StopsAt NoMemory reading = Unit {0}

-- the call answers what the reading is, a value or its first fault, unless memory was wanting
abbrev pub CaseReads : {T : Type 0} → Result T CaseError → Result T CaseFault → Type 0
CaseReads (Ok value) reading = reading ≡ Ok value
CaseReads (Err error) reading = StopsAt error reading

-- a reading, and then a further one of what it gave
abbrev pub and_then_read : {A B : Type 0} → Result A CaseFault → (A → Result B CaseFault) → Result B CaseFault
and_then_read (Ok value) further = further value
and_then_read (Err fault) further = Err fault

-- an answer whose value is seen as something else
abbrev pub seen_as : {A B E : Type 0} → (A → B) → Result A E → Result B E
seen_as view (Ok value) = Ok (view value)
seen_as view (Err error) = Err error
