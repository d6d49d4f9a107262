-- Which tokens can go on where nothing but what is wanted matters, and what each of them does.
use Rattle.std.specs.Prelude.{not, ◌&&◌, Option, Some, None, option_map}
use Rattle.fn_rules.specs.declared.guard.Sort.TheVariants.{Pos}
use Rattle.fn_tokens.specs.declared.token.Token.{Token}
use Rattle.fn_tokens.specs.declared.token.Token.TheVariants.{Known, Number, Comparison, LineEnd, FileEnd}
use Rattle.fn_tokens.specs.declared.token.Token.TheVariants as tokens
use Rattle.fn_tokens.specs.declared.token.Word.TheVariants as words
use Rattle.fn_tokens.specs.declared.control.Written.TheVariants as written
use Rattle.fn_tokens.specs.declared.control.AfterLine.{AfterLine}
use Rattle.fn_tokens.specs.declared.control.AfterLine.TheVariants as nexts
use Rattle.fn_tokens.specs.declared.control.Want.{Want}
use Rattle.fn_tokens.specs.declared.control.Want.TheVariants as wants
use Rattle.fn_tokens.specs.declared.control.TokenMove.{TokenMove}
use Rattle.fn_tokens.specs.declared.control.TokenMove.TheVariants as moves
use Rattle.fn_tokens.specs.Meaning.{is_offset_number, is_same_sort, is_same_side}
use Rattle.fn_tokens.specs.Languages.{language_numbered}
use Rattle.fn_tokens.specs.Controls.{allowed}

-- what comes behind the end of a line
abbrev pub want_next : AfterLine → Want
want_next nexts.Text = wants.Text
want_next nexts.Kinds = wants.Kinds
want_next nexts.Line = wants.Line
want_next nexts.File = wants.FileEnd

-- what a token does there, none where it cannot go on
abbrev pub at_fixed : Want → Token → Option TokenMove
at_fixed wants.Otfn (Known words.Otfn) = Some (moves.Skip wants.Version)
at_fixed wants.Version (Number n) = option_map (λ language. moves.SetLanguage language) (language_numbered n)
at_fixed wants.Text (Known words.Text) = Some (moves.Skip wants.Mode)
at_fixed wants.Mode (Known (words.Mode mode)) = Some (moves.SetMode mode)
at_fixed wants.Kinds (Known words.Kinds) = Some (moves.Skip wants.NextKind)
at_fixed wants.Differ (Known words.Differ) = Some (moves.Skip (wants.LineEnd nexts.Line))
at_fixed (wants.LineEnd following) LineEnd = Some (moves.Skip (want_next following))
at_fixed wants.BlockEnd LineEnd = Some (moves.Skip wants.Line)
at_fixed (wants.Comparison sort left) (Comparison cmp) = Some (moves.Skip (wants.Right sort left cmp))
at_fixed (wants.Right sort left cmp) (Known (words.Thing other right)) =
    allowed (is_same_sort sort other && not (is_same_side left right)) (moves.Compare sort left cmp)
at_fixed (wants.Number left cmp sign) (Number n) = allowed (is_offset_number n) (moves.Shift left cmp sign n)
at_fixed wants.ResultPosition (Known (words.Thing Pos side)) = Some (moves.Skip (wants.ResultOffset side))
at_fixed (wants.ResultOffset side) (tokens.Sign sign) = Some (moves.Skip (wants.ResultNumber side sign))
at_fixed (wants.ResultOffset side) LineEnd = Some (moves.EndCase (written.At side))
at_fixed (wants.ResultNumber side sign) (Number n) =
    allowed (is_offset_number n) (moves.Skip (wants.ResultEnd (written.Moved side sign n)))
at_fixed (wants.ResultEnd result) LineEnd = Some (moves.EndCase result)
at_fixed wants.FileEnd FileEnd = Some (moves.Skip wants.Nothing)
at_fixed _ _ = None
