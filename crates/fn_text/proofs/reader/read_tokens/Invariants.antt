use Rattle.std.proofs.Common.{◌≡◌, length}
use Rattle.fn_tokens.specs.Meaning.{to_formulas}
use Rattle.fn_text.specs.Reader.{read_from, first_state}
use Rattle.fn_text.specs.Made.{state_of}
use Rattle.fn_text.proofs.reader.read_tokens.Given as goal

abbrev pub invariant-loop-at : goal.invariant-loop-at
invariant-loop-at l =
    read_from to_formulas (state_of l.reader) l.tokens ≡ read_from to_formulas (first_state to_formulas) l.fn.tokens

abbrev pub decreases-loop-at : goal.decreases-loop-at
decreases-loop-at l = length l.tokens
