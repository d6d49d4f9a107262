-- What a token does, by what is wanted.
use Rattle.std.specs.Prelude.{◌<◌, Option}
use Rattle.fn_rules.specs.declared.limits.TheConstants.{MAX_CASES, MAX_ATOMS, MAX_NESTING}
use Rattle.fn_tokens.specs.declared.token.Token.{Token}
use Rattle.fn_tokens.specs.declared.token.Placed.{Placed}
use Rattle.fn_tokens.specs.declared.control.Want.{Want}
use Rattle.fn_tokens.specs.declared.control.Want.TheVariants as wants
use Rattle.fn_tokens.specs.declared.control.Control.{Control}
use Rattle.fn_tokens.specs.declared.control.TokenMove.{TokenMove}
use Rattle.fn_tokens.specs.declared.control.TokenMove.TheVariants as moves
use Rattle.fn_tokens.specs.Controls.{depth_of}
use Rattle.fn_tokens.specs.FixedMoves.{at_fixed}
use Rattle.fn_tokens.specs.LineMoves.{at_next_kind, at_line, at_assumed, at_block_first, at_block_second}
use Rattle.fn_tokens.specs.GuardMoves.{at_operand, at_operator, at_offset, at_result}

-- what a token does, none where it cannot go on
abbrev pub move_for : Control → Placed → Want → Token → Option TokenMove
move_for c at wants.Otfn token = at_fixed wants.Otfn token
move_for c at wants.Version token = at_fixed wants.Version token
move_for c at wants.Text token = at_fixed wants.Text token
move_for c at wants.Mode token = at_fixed wants.Mode token
move_for c at wants.Kinds token = at_fixed wants.Kinds token
move_for c at wants.NextKind token = at_next_kind c token
move_for c at (wants.LineEnd following) token = at_fixed (wants.LineEnd following) token
move_for c at wants.Line token = at_line c at token
move_for c at wants.Assumed token = at_assumed c token
move_for c at wants.Differ token = at_fixed wants.Differ token
move_for c at wants.BlockFirst token = at_block_first c token
move_for c at (wants.BlockSecond k) token = at_block_second c k token
move_for c at wants.BlockEnd token = at_fixed wants.BlockEnd token
move_for c at wants.Operand token = at_operand c token
move_for c at (wants.Comparison sort left) token = at_fixed (wants.Comparison sort left) token
move_for c at (wants.Right sort left cmp) token = at_fixed (wants.Right sort left cmp) token
move_for c at (wants.Offset left cmp) token = at_offset c left cmp token
move_for c at (wants.Number left cmp sign) token = at_fixed (wants.Number left cmp sign) token
move_for c at wants.Operator token = at_operator c token
move_for c at wants.Result token = at_result c token
move_for c at wants.ResultPosition token = at_fixed wants.ResultPosition token
move_for c at (wants.ResultOffset side) token = at_fixed (wants.ResultOffset side) token
move_for c at (wants.ResultNumber side sign) token = at_fixed (wants.ResultNumber side sign) token
move_for c at (wants.ResultEnd result) token = at_fixed (wants.ResultEnd result) token
move_for c at wants.FileEnd token = at_fixed wants.FileEnd token
move_for c at wants.Nothing token = at_fixed wants.Nothing token

-- what the tests of a move have told
abbrev pub HasRoom : Control → TokenMove → Type 0
HasRoom c moves.BeginCase = c.cases < MAX_CASES
HasRoom c moves.Open = depth_of c < MAX_NESTING
HasRoom c moves.Negate = depth_of c < MAX_NESTING
HasRoom c moves.Always = c.atoms < MAX_ATOMS
HasRoom c (moves.BeginAtom sort side) = c.atoms < MAX_ATOMS
HasRoom c _ = Unit {0}
