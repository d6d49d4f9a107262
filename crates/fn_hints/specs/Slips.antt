-- The usual slips: what was probably meant by a wrong token.
use Rattle.std.specs.Prelude.{ℕ, ◌-◌, ◌==◌, if◌then◌else◌, List, Option, Some, None, option_map}
use Rattle.std.specs.Prelude.{find, slice_index}
use Rattle.ot_model.specs.declared.op.Kind.{Kind}
use Rattle.ot_model.specs.declared.op.TheConstants.{KINDS}
use Rattle.fn_rules.specs.declared.guard.Sort.TheVariants.{Pos}
use Rattle.fn_rules.specs.declared.guard.Cmp.TheVariants.{Eq}
use Rattle.fn_tokens.specs.declared.token.Token.{Token}
use Rattle.fn_tokens.specs.declared.token.Token.TheVariants.{Byte, Known, Number, Comparison, Sign}
use Rattle.fn_tokens.specs.declared.token.Word.TheVariants as words
use Rattle.fn_tokens.specs.declared.control.Want.{Want}
use Rattle.fn_tokens.specs.declared.control.Want.TheVariants as wants
use Rattle.fn_tokens.specs.declared.control.Control.{Control}
use Rattle.fn_tokens.specs.Controls.{lacks, lacks_with}
use Rattle.fn_text.specs.declared.wrong.WrongToken.{WrongToken}
use Rattle.fn_hints.specs.declared.slip.Slip.{Slip}
use Rattle.fn_hints.specs.declared.slip.Slip.TheVariants as slips

-- a sign of other languages begins with these two bytes: `>` is 62, `=` is 61, `!` is 33, `&` is 38, and `|` is 124
abbrev pub greater_slip : ℕ → Slip
greater_slip second = if second == 61 then slips.GreaterEqual else slips.Greater

abbrev pub pair_slip : ℕ → ℕ → Option Slip
pair_slip first second =
    if first == 33 then (if second == 61 then Some slips.NotEqual else None) else
    (if first == 38 then (if second == 38 then Some slips.Ampersands else None) else
    (if first == 124 then (if second == 124 then Some slips.Bars else None) else None))

abbrev pub byte_slip : ℕ → ℕ → Option Slip
byte_slip first second = if first == 62 then Some (greater_slip second) else pair_slip first second

-- the first pair of kinds, by their order, that is declared and has no block
abbrev pub missing_with : Control → Kind → Option Slip
missing_with c k = option_map (λ l. slips.MissingBlock k l) (find (lacks c k) KINDS)

abbrev pub missing_block : Control → Option Slip
missing_block c = elim (find (lacks_with c) KINDS) [ Some k ↦ missing_with c k | None ↦ None ]

-- a token that is wrong where something is wanted: a second `=`, a sign behind the first side of a comparison of
-- positions, a number where a position stands, and `end` while a block is missing
abbrev pub token_slip : Control → Want → Token → Option Slip
token_slip c (wants.Right sort left Eq) (Comparison Eq) = Some slips.DoubledEquals
token_slip c (wants.Comparison Pos left) (Sign sign) = Some slips.SumOnTheLeft
token_slip c wants.Operand (Number n) = Some slips.LoneNumber
token_slip c (wants.Right sort left cmp) (Number n) = Some slips.LoneNumber
token_slip c wants.ResultPosition (Number n) = Some slips.LoneNumber
token_slip c wants.Line (Known words.End) = missing_block c
token_slip c want token = None

-- a wrong token, and the two bytes that stand at its place
abbrev pub slip_by : WrongToken → Token → ℕ → ℕ → Option Slip
slip_by wrong Byte first second = byte_slip first second
slip_by wrong token first second = token_slip wrong.control wrong.control.want token

-- the slip of a wrong token in its line, where there is one
abbrev pub slip_in : WrongToken → List ℕ → Option Slip
slip_in wrong line =
    slip_by wrong wrong.at.token (slice_index line (wrong.at.column - 1)) (slice_index line wrong.at.column)
