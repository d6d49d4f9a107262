use Rattle.std.proofs.Common.{◌≡◌, length}
use Rattle.fn_tokens.specs.Meaning.{to_formulas}
use Rattle.fn_text.specs.Reader.{first_state}
use Rattle.fn_text.specs.Made.{state_of}
use Rattle.fn_text.specs.Wrong.{wrong_from}
use Rattle.fn_text.proofs.wrong.wrong_among.Given as goal

-- the first wrong token is among those that are left
abbrev pub invariant-loop-at : goal.invariant-loop-at
invariant-loop-at l =
    wrong_from to_formulas (state_of l.reader) l.tokens ≡ wrong_from to_formulas (first_state to_formulas) l.fn.tokens

abbrev pub decreases-loop-at : goal.decreases-loop-at
decreases-loop-at l = length l.tokens
