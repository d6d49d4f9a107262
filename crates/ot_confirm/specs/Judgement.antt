-- What the judgement of bytes is: the level of a proof of a function, or where they are refused first, and why. It is
-- computed, so any bytes have exactly one.
use Rattle.std.specs.Prelude.{ℕ, List, Result}
use Rattle.fn_rules.specs.declared.function.Level.{Level}
use Rattle.fn_rules.specs.Functions.{Function}
use Rattle.fn_rules.specs.Obligations.{obligations_of}
use Rattle.start_laws.specs.Starts.{compare_starts}
use Rattle.start_laws.specs.Marking.{marked_plan}
use Rattle.proof_sections.specs.declared.refusal.ConfirmError.{ConfirmError}
use Rattle.proof_sections.specs.Judgement.{proof_judged}

-- a proof has a header, a tree for each obligation of its level, in order, and a last line
unfoldable pub judgement_of : Function → List ℕ → Result Level ConfirmError
judgement_of f bytes = proof_judged compare_starts (marked_plan f) (obligations_of f.head) bytes
