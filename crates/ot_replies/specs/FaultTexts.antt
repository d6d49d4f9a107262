-- The lines of faults: of the text of a function, of a certificate, of a proof, and of a case.
use Rattle.std.specs.Prelude.{ℕ, List, [], ◌∷◌, ◌++◌, codes}
use Rattle.std.specs.Fmt.{decimal}
use Rattle.fn_tokens.specs.declared.fault.FaultKind.{FaultKind}
use Rattle.fn_tokens.specs.declared.fault.FaultKind.TheVariants as kinds
use Rattle.fn_tokens.specs.declared.fault.TextFault.{TextFault}
use Rattle.refusals.specs.declared.refusal.Refusal.{Refusal}
use Rattle.refusals.specs.declared.refusal.Refusal.TheVariants as why
use Rattle.proof_sections.specs.declared.refusal.ProofRefusal.{ProofRefusal}
use Rattle.proof_sections.specs.declared.refusal.ProofRefusal.TheVariants as proof
use Rattle.case_json.specs.declared.fault.CaseFault.{CaseFault}
use Rattle.case_json.specs.declared.fault.CaseFault.TheVariants as faults
use Rattle.case_json.specs.declared.fault.Name.{Name}
use Rattle.case_json.specs.declared.fault.Name.TheVariants as names
use Rattle.ot_replies.specs.declared.reply.Subject.{Subject}
use Rattle.ot_replies.specs.declared.reply.Subject.TheVariants as subjects

abbrev pub kind_word : FaultKind → List ℕ
kind_word kinds.Byte = codes "byte"
kind_word kinds.Word = codes "word"
kind_word kinds.Expected = codes "expected"
kind_word kinds.Sort = codes "sort"
kind_word kinds.Offset = codes "offset"
kind_word kinds.Missing = codes "missing"
kind_word kinds.Double = codes "double"
kind_word kinds.Kind = codes "kind"
kind_word kinds.Cases = codes "cases"
kind_word kinds.Atoms = codes "atoms"
kind_word kinds.Nesting = codes "nesting"
kind_word kinds.Outcome = codes "result"
kind_word kinds.Version = codes "version"

abbrev pub name_word : Name → List ℕ
name_word names.Doc = codes "doc"
name_word names.Ops = codes "ops"
name_word names.Orders = codes "orders"
name_word names.Sites = codes "sites"
name_word names.Events = codes "events"
name_word names.Cells = codes "cells"

abbrev pub subject_word : Subject → List ℕ
subject_word subjects.First = codes "function"
subject_word subjects.Second = codes "second"

-- which function's text has a fault, the place and the cause
abbrev pub text_fault_text : Subject → TextFault → List ℕ
text_fault_text subject fault =
    subject_word subject ++ codes " " ++ decimal fault.line ++ codes ":" ++ decimal fault.column ++ codes " "
    ++ kind_word fault.kind ++ 10 ∷ []

abbrev pub refusal_word : Refusal → List ℕ
refusal_word why.Token = codes "token"
refusal_word why.Truncated = codes "truncated"
refusal_word why.Trailing = codes "trailing"
refusal_word why.NotAQuestion = codes "notaquestion"
refusal_word why.NotDone = codes "notdone"
refusal_word why.GoalFails = codes "fails"
refusal_word why.BadPick = codes "pick"
refusal_word why.NotACycle = codes "cycle"
refusal_word why.NotNegative = codes "notnegative"

-- the byte and the cause of a refusal
abbrev pub refusal_text : ℕ → Refusal → List ℕ
refusal_text offset why = codes "certificate " ++ decimal offset ++ codes " " ++ refusal_word why ++ 10 ∷ []

abbrev pub proof_refusal_word : ProofRefusal → List ℕ
proof_refusal_word proof.Token = codes "token"
proof_refusal_word proof.Truncated = codes "truncated"
proof_refusal_word proof.Trailing = codes "trailing"
proof_refusal_word proof.NotAQuestion = codes "notaquestion"
proof_refusal_word proof.NotDone = codes "notdone"
proof_refusal_word proof.GoalFails = codes "fails"
proof_refusal_word proof.BadPick = codes "pick"
proof_refusal_word proof.NotACycle = codes "cycle"
proof_refusal_word proof.NotNegative = codes "notnegative"
proof_refusal_word proof.NoStart = codes "nostart"
proof_refusal_word proof.TooManyLemmas = codes "lemmas"
proof_refusal_word proof.UnknownLemma = codes "lemma"
proof_refusal_word proof.OtherStart = codes "goal"

-- the byte and the cause of a proof's refusal
abbrev pub proof_refusal_text : ℕ → ProofRefusal → List ℕ
proof_refusal_text offset why = codes "proof " ++ decimal offset ++ codes " " ++ proof_refusal_word why ++ 10 ∷ []

abbrev pub case_text : CaseFault → List ℕ
case_text faults.Json = codes "case json"
case_text (faults.Field name) = codes "case field " ++ name_word name
case_text (faults.Kind i) = codes "case kind " ++ decimal i
case_text (faults.Enabled i) = codes "case enabled " ++ decimal i
case_text (faults.Pair i j) = codes "case pair " ++ decimal i ++ codes " " ++ decimal j
case_text (faults.Order i) = codes "case order " ++ decimal i
case_text (faults.Limit name) = codes "limit " ++ name_word name

abbrev pub case_fault_text : CaseFault → List ℕ
case_fault_text fault = case_text fault ++ 10 ∷ []
