-- What a proof of a function is, told by the spelling of its trees.
use Rattle.std.specs.Prelude.{ℕ, List}
use Rattle.fn_rules.specs.declared.function.Level.{Level}
use Rattle.fn_rules.specs.Functions.{Function}
use Rattle.fn_rules.specs.Obligations.{obligations_of}
use Rattle.start_laws.specs.Starts.{compare_starts}
use Rattle.start_laws.specs.Marking.{marked_plan}
use Rattle.proof_sections.specs.Spelled as spelled

-- the bytes are a proof of the function at the level: the header, for each obligation in order its line, a tree that
-- shows its plan with its starts and a newline, and the last line
abbrev pub IsProofOf : List ℕ → Function → Level → Type 0
IsProofOf bytes f level = spelled.IsProof compare_starts (marked_plan f) (obligations_of f.head) bytes level
