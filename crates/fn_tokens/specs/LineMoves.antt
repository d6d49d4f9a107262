-- Which tokens can go on in the lines of the head, of blocks and of the end, and what each of them does.
use Rattle.std.specs.Prelude.{not, ◌&&◌, nat_lt, Option, Some, None}
use Rattle.ot_model.specs.declared.op.Kind.{Kind}
use Rattle.fn_rules.specs.Functions.{is_declared}
use Rattle.fn_rules.specs.declared.limits.TheConstants.{MAX_CASES}
use Rattle.fn_tokens.specs.declared.token.Token.{Token}
use Rattle.fn_tokens.specs.declared.token.Token.TheVariants.{Known, LineEnd}
use Rattle.fn_tokens.specs.declared.token.Word.TheVariants as words
use Rattle.fn_tokens.specs.declared.token.Placed.{Placed}
use Rattle.fn_tokens.specs.declared.control.Want.TheVariants as wants
use Rattle.fn_tokens.specs.declared.control.Control.{Control}
use Rattle.fn_tokens.specs.declared.control.TokenMove.{TokenMove}
use Rattle.fn_tokens.specs.declared.control.TokenMove.TheVariants as moves
use Rattle.fn_tokens.specs.Kinds.{has_seen, declares_some, comes_next}
use Rattle.fn_tokens.specs.Languages.{has_word}
use Rattle.fn_tokens.specs.Controls.{lacks_block, allowed}

-- a kind of the language behind those that are declared, or the line's end behind one at least
abbrev pub at_next_kind : Control → Token → Option TokenMove
at_next_kind c (Known (words.Kind k)) = allowed (has_word c.language k && comes_next c.head k) (moves.Declare k)
at_next_kind c LineEnd = allowed (declares_some c.head) (moves.Skip wants.Line)
at_next_kind c _ = None

-- a line behind the kinds: assumptions come before the first block, and that on characters is the last
abbrev pub at_line : Control → Placed → Token → Option TokenMove
at_line c at (Known words.Assume) = allowed (not c.begun && not c.head.chars_differ) (moves.Skip wants.Assumed)
at_line c at (Known words.Block) = Some (moves.BlockWord at.line at.column)
at_line c at (Known words.Case) = allowed (c.begun && nat_lt c.cases MAX_CASES) moves.BeginCase
at_line c at (Known words.End) = allowed (not (lacks_block c)) moves.End
at_line c at _ = None

abbrev pub at_assumed : Control → Token → Option TokenMove
at_assumed c (Known words.Sites) = allowed (not c.head.sites_differ) moves.AssumeSites
at_assumed c (Known words.Chars) = Some moves.AssumeChars
at_assumed c _ = None

-- a kind that is declared
abbrev pub at_block_first : Control → Token → Option TokenMove
at_block_first c (Known (words.Kind k)) = allowed (is_declared c.head k) (moves.Skip (wants.BlockSecond k))
at_block_first c _ = None

-- a kind that is declared, and makes a pair that has no block
abbrev pub at_block_second : Control → Kind → Token → Option TokenMove
at_block_second c k (Known (words.Kind l)) = allowed (is_declared c.head l && not (has_seen c.seen k l))
    (moves.BeginBlock k l)
at_block_second c k _ = None
