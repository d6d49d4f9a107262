-- Which tokens can go on in a case, and what each of them does.
use Rattle.std.specs.Prelude.{◌==◌, ◌&&◌, nat_lt, Option, Some, None}
use Rattle.fn_rules.specs.declared.guard.Side.{Side}
use Rattle.fn_rules.specs.declared.guard.Cmp.{Cmp}
use Rattle.ot_model.specs.Kinds.{is_same_kind}
use Rattle.fn_rules.specs.declared.limits.TheConstants.{MAX_ATOMS, MAX_NESTING}
use Rattle.fn_tokens.specs.declared.token.Token.{Token}
use Rattle.fn_tokens.specs.declared.token.Token.TheVariants.{Known, Number, Open, Close, Colon}
use Rattle.fn_tokens.specs.declared.token.Token.TheVariants as tokens
use Rattle.fn_tokens.specs.declared.token.Word.TheVariants as words
use Rattle.fn_tokens.specs.declared.control.Written.TheVariants as written
use Rattle.fn_tokens.specs.declared.control.Want.TheVariants as wants
use Rattle.fn_tokens.specs.declared.control.Control.{Control}
use Rattle.fn_tokens.specs.declared.control.TokenMove.{TokenMove}
use Rattle.fn_tokens.specs.declared.control.TokenMove.TheVariants as moves
use Rattle.fn_tokens.specs.Meaning.{may_compare}
use Rattle.fn_tokens.specs.Controls.{has_chars, depth_of, allowed}

-- `true`, `(`, `not`, or the first side of an atom
abbrev pub at_operand : Control → Token → Option TokenMove
at_operand c Open = allowed (nat_lt (depth_of c) MAX_NESTING) moves.Open
at_operand c (Known words.Not) = allowed (nat_lt (depth_of c) MAX_NESTING) moves.Negate
at_operand c (Known words.True) = allowed (nat_lt c.atoms MAX_ATOMS) moves.Always
at_operand c (Known (words.Thing sort side)) =
    allowed (nat_lt c.atoms MAX_ATOMS && may_compare (has_chars c) sort) (moves.BeginAtom sort side)
at_operand c _ = None

-- behind an operand; no parentheses are open exactly where nothing is around the innermost ones
abbrev pub at_operator : Control → Token → Option TokenMove
at_operator c (Known words.And) = Some moves.And
at_operator c (Known words.Or) = Some moves.Or
at_operator c Close = allowed (nat_lt 0 c.outside) moves.Close
at_operator c Colon = allowed (c.outside == 0) moves.Colon
at_operator c _ = None

abbrev pub at_offset : Control → Side → Cmp → Token → Option TokenMove
at_offset c left cmp (tokens.Sign sign) = Some (moves.Skip (wants.Number left cmp sign))
at_offset c left cmp token = at_operator c token

-- `nop`, or the kind of the operation that is transformed, which stays
abbrev pub at_result : Control → Token → Option TokenMove
at_result c (Known words.Nop) = Some (moves.Skip (wants.ResultEnd written.Nop))
at_result c (Known (words.Kind k)) = allowed (is_same_kind c.first k) (moves.Skip wants.ResultPosition)
at_result c _ = None
