-- The parts that each script has: a document, a number of sites, and events, of whatever kind; and what an event says
-- of an operation at a site.
use Rattle.std.specs.Prelude.{ℕ, ◌≤◌, nat_eq, nat_le, if◌then◌else◌, List, length, Option, Some, None, Result, Ok, Err}
use Rattle.std.specs.Prelude.{codes, ok_or, option_and_then}
use Rattle.std.specs.Option.{option_map}
use Rattle.serde_json.specs.Data.{Data}
use Rattle.serde_json.specs.Find.{get, as_number, as_u64}
use Rattle.ot_model.specs.declared.limits.TheConstants.{MAX_CELLS}
use Rattle.ot_model.specs.declared.cell.Cell.{Cell}
use Rattle.ot_model.specs.declared.op.Op.{Op}
use Rattle.case_json.specs.declared.limits.TheConstants.{MAX_SITES, MAX_EVENTS}
use Rattle.case_json.specs.declared.fault.CaseFault.{CaseFault}
use Rattle.case_json.specs.declared.fault.CaseFault.TheVariants.{Json, Field, Limit}
use Rattle.case_json.specs.declared.fault.Name.TheVariants.{Sites, Events}
use Rattle.case_json.specs.declared.parts.Parts.{Parts}
use Rattle.case_json.specs.Faults.{and_then_read}
use Rattle.case_json.specs.Json.{json_in}
use Rattle.case_json.specs.Operations.{operation_in, number_in}
use Rattle.case_json.specs.Cases.{document_in, elements_at}

-- a number of sites, of which there are some, but not too many
abbrev pub sites_from : Option ℕ → Result ℕ CaseFault
sites_from None = Err (Field Sites)
sites_from (Some n) =
    if nat_eq n 0 then Err (Field Sites) else (if nat_le n MAX_SITES then Ok n else Err (Limit Sites))

-- the number of sites under the key `sites`
abbrev pub sites_in : Data → Result ℕ CaseFault
sites_in json = sites_from (option_and_then as_u64 (option_and_then as_number (get (codes "sites") json)))

-- the parts of a script, each event as the reader has it: the document, then the number of sites, then the events
abbrev pub parts_from : {E : Type 0} → (Data → Option E) → Data → Result (Parts E) CaseFault
parts_from event json =
    and_then_read (document_in json) (λ doc.
    and_then_read (sites_in json) (λ sites.
    and_then_read (elements_at (codes "events") Events MAX_EVENTS event json) (λ events.
    Ok (record { doc = doc; sites = sites; events = events }))))

-- what bytes are read as, as the parts of a script
abbrev pub parts_in : {E : Type 0} → (Data → Option E) → List ℕ → Result (Parts E) CaseFault
parts_in event bytes = and_then_read (ok_or (json_in bytes) Json) (parts_from event)

-- an event that names a site and an operation
abbrev pub with_operation : {E : Type 0} → (ℕ → Op → E) → Data → Data → Option E
with_operation event site op = option_and_then (λ s. option_map (event s) (operation_in op)) (number_in site)

-- the parts of a script that can be played: within the limits
pub record AreWithinLimits {E : Type 0} (doc : List Cell) (sites : ℕ) (events : List E) : Type 0 where
  pub few_cells : length doc ≤ MAX_CELLS
  pub some_sites : 1 ≤ sites
  pub few_sites : sites ≤ MAX_SITES
  pub few_events : length events ≤ MAX_EVENTS
