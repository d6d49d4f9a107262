-- What the orders of a case come to, and which reply tells it.
use Rattle.std.specs.Prelude.{◌≡◌, ℕ, ◌↔◌, List, map, Option, Result, Ok, Err, IsTrue}
use Rattle.std.specs.List.{AllByRecursion}
use Rattle.ot_model.specs.declared.cell.Cell.{Cell}
use Rattle.fn_rules.specs.Functions.{Function}
use Rattle.fn_rules.specs.Orders.{Outcome, Document, integrated}
use Rattle.case_json.specs.declared.fault.CaseFault.{CaseFault}
use Rattle.case_json.specs.declared.trial.Trial.{Trial}
use Rattle.case_json.specs.Cases.{trial_in}
use Rattle.ot_integrate.specs.Ends.{outcome_of}
use Rattle.ot_replies.specs.declared.reply.FileKind.TheVariants as files
use Rattle.ot_replies.specs.declared.reply.Reply.{Reply}
use Rattle.ot_replies.specs.declared.reply.Reply.TheVariants.{CaseRefused, Integrated}
use Rattle.ot_commands.specs.Facts.{Facts, FunctionAnd, NothingMore}
use Rattle.ot_commands.specs.Load.{IsReplyToFile}

-- each outcome is one document
abbrev pub HaveOneEnd : List Outcome → Type 0
HaveOneEnd outcomes = (d : List Cell) × AllByRecursion (λ o. o ≡ Document d) outcomes

-- the outcomes of a case, an order each
abbrev pub outcomes_of : Function → Trial → List Outcome
outcomes_of f t = map (integrated f t.doc t.ops) t.orders

-- the reply tells how each order of a case ends, and whether all end with one document
abbrev pub TellsOutcomes : List Outcome → Reply → Type 0
TellsOutcomes outcomes (Integrated ends same) = (map outcome_of ends ≡ outcomes) × (IsTrue same ↔ HaveOneEnd outcomes)
TellsOutcomes outcomes r = ⊥

-- the reply to what a case is read as: its first fault, or the outcomes of its orders
abbrev pub IsReplyToTrial : Function → Result Trial CaseFault → Reply → Type 0
IsReplyToTrial f (Err fault) r = r ≡ CaseRefused fault
IsReplyToTrial f (Ok t) r = TellsOutcomes (outcomes_of f t) r

unfoldable pub IsReplyToCase : Function → List ℕ → Reply → Type 0
IsReplyToCase f bytes r = IsReplyToTrial f (trial_in f bytes) r

-- the reply to a case's file
abbrev pub IsReplyToCaseFile : Function → Option (List ℕ) → Reply → Type 0
IsReplyToCaseFile f told r = IsReplyToFile files.Case told (λ bytes. IsReplyToCase f bytes r) r

-- the facts of the command
abbrev pub integrate_facts : List ℕ → List ℕ → Facts
integrate_facts function case = record { opens = FunctionAnd function case IsReplyToCaseFile; steady = NothingMore }
