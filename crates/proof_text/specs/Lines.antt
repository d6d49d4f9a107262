-- The lines of a proof, and the newline after a tree, at the front of some bytes.
use Rattle.std.specs.Prelude.{ℕ, List}
use Rattle.fn_rules.specs.declared.function.Level.{Level}
use Rattle.fn_rules.specs.declared.function.Level.TheVariants.{Tp1, Tp2}
use Rattle.fn_rules.specs.declared.function.ObName.{ObName}
use Rattle.cert_text.specs.Spelling.{ob_text, end_text}
use Rattle.proof_text.specs.Fronts.{Parsed, found_as, either_front, fixed_front}
use Rattle.proof_text.specs.Spelling.{proof_header_text, newline_text}

-- the first line, of either level
abbrev pub header_front : List ℕ → Parsed Level
header_front bytes =
    either_front (found_as (λ x. Tp1) (fixed_front (proof_header_text Tp1) bytes))
    (found_as (λ x. Tp2) (fixed_front (proof_header_text Tp2) bytes))

-- the line before the tree of an obligation
abbrev pub ob_front : ObName → List ℕ → Parsed (Unit {0})
ob_front name bytes = fixed_front (ob_text name) bytes

-- the newline after a tree
abbrev pub line_end_front : List ℕ → Parsed (Unit {0})
line_end_front bytes = fixed_front newline_text bytes

-- the last line
abbrev pub end_front : List ℕ → Parsed (Unit {0})
end_front bytes = fixed_front end_text bytes
