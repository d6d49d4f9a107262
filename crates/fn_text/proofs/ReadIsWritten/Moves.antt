-- Which tokens can go on, told backwards: a token that goes on is one of the table's, with its move.
use Rattle.std.proofs.Common.{◌≡◌, ℕ, ◌==◌, Bool, true, false, not, ◌&&◌, nat_lt, nat_le, Option, Some, None, refl}
use Rattle.std.proofs.Common.{subst}
use Rattle.std.specs.Prelude.{option_map}
use Rattle.std.proofs.lemmas.Bool.{and_parts}
use Rattle.ot_model.specs.declared.op.Kind.{Kind}
use Rattle.ot_model.specs.declared.op.Mode.{Mode}
use Rattle.fn_rules.specs.declared.guard.Sort.{Sort}
use Rattle.fn_rules.specs.declared.guard.Sort.TheVariants.{Pos, Site, Char}
use Rattle.fn_rules.specs.declared.guard.Side.{Side}
use Rattle.fn_rules.specs.declared.guard.Side.TheVariants.{First, Second}
use Rattle.fn_rules.specs.declared.guard.Cmp.{Cmp}
use Rattle.fn_rules.specs.Formulas.{other_side}
use Rattle.fn_rules.specs.Functions.{is_declared}
use Rattle.fn_tokens.specs.declared.token.Token.{Token}
use Rattle.fn_tokens.specs.declared.token.Token.TheVariants.{Known, Number, Open, Close, Colon, LineEnd, FileEnd}
use Rattle.fn_tokens.specs.declared.token.Token.TheVariants as tokens
use Rattle.fn_tokens.specs.declared.token.Word.TheVariants as words
use Rattle.fn_tokens.specs.declared.token.Placed.{Placed}
use Rattle.fn_tokens.specs.declared.token.Sign.{Sign}
use Rattle.fn_tokens.specs.declared.control.Written.{Written}
use Rattle.fn_tokens.specs.declared.control.Written.TheVariants as written
use Rattle.fn_tokens.specs.declared.control.AfterLine.{AfterLine}
use Rattle.fn_tokens.specs.declared.control.AfterLine.TheVariants as nexts
use Rattle.fn_tokens.specs.declared.control.Want.TheVariants as wants
use Rattle.fn_tokens.specs.declared.control.Control.{Control}
use Rattle.fn_tokens.specs.declared.control.TokenMove.{TokenMove}
use Rattle.fn_tokens.specs.declared.control.TokenMove.TheVariants as moves
use Rattle.fn_tokens.specs.declared.language.Language.{Language}
use Rattle.fn_tokens.specs.Languages.{language_numbered, number_of, has_word}
use Rattle.fn_tokens.specs.Kinds.{has_seen, declares_some, comes_next}
use Rattle.fn_tokens.specs.Meaning.{may_compare}
use Rattle.fn_tokens.specs.Controls.{has_chars, depth_of, lacks_block, allowed}
use Rattle.fn_tokens.specs.Meaning.{is_same_side, is_same_sort}
use Rattle.fn_tokens.specs.FixedMoves.{at_fixed, want_next}
use Rattle.fn_tokens.specs.LineMoves.{at_next_kind, at_line, at_assumed, at_block_first}
use Rattle.fn_tokens.specs.LineMoves.{at_block_second}
use Rattle.fn_tokens.specs.GuardMoves.{at_operand, at_operator, at_offset}
use Rattle.fn_tokens.specs.GuardMoves.{at_result}
use Rattle.fn_grammar.proofs.KindLists.{same_kind}
use Rattle.fn_text.proofs.Languages.{numbered_is}

-- the move that was told
told : (P : TokenMove → Type 0) (there move : TokenMove) → Some there ≡ Some move → P there → P move
told P there move h goes = let e : there ≡ move = cc in subst P e goes

-- a move behind a test
by_allowed : (P : TokenMove → Type 0) (test : Bool) (there move : TokenMove) → allowed test there ≡ Some move
    → (test ≡ true → P there) → P move
by_allowed P true there move h goes = told P there move h (goes refl)
by_allowed P false there move h goes = absurd (cc)

other_thing : (P : Sort → Side → Type 0) (sort other : Sort) (left right : Side) →
    (is_same_sort sort other && not (is_same_side left right)) ≡ true → P sort (other_side left) → P other right
other_thing P Pos Pos First Second h goes = goes
other_thing P Pos Pos Second First h goes = goes
other_thing P Site Site First Second h goes = goes
other_thing P Site Site Second First h goes = goes
other_thing P Char Char First Second h goes = goes
other_thing P Char Char Second First h goes = goes
other_thing P sort other left right h goes = absurd (cc)

module _ (P : Token → TokenMove → Type 0) where
  pub by_otfn : (t : Token) (move : TokenMove) → at_fixed wants.Otfn t ≡ Some move
      → P (Known words.Otfn) (moves.Skip wants.Version) → P t move
  by_otfn (Known words.Otfn) move h goes = told (P (Known words.Otfn)) _ move h goes
  by_otfn _ move h goes = absurd (cc)

  pub by_text : (t : Token) (move : TokenMove) → at_fixed wants.Text t ≡ Some move
      → P (Known words.Text) (moves.Skip wants.Mode) → P t move
  by_text (Known words.Text) move h goes = told (P (Known words.Text)) _ move h goes
  by_text _ move h goes = absurd (cc)

  pub by_kinds : (t : Token) (move : TokenMove) → at_fixed wants.Kinds t ≡ Some move
      → P (Known words.Kinds) (moves.Skip wants.NextKind) → P t move
  by_kinds (Known words.Kinds) move h goes = told (P (Known words.Kinds)) _ move h goes
  by_kinds _ move h goes = absurd (cc)

  pub by_differ : (t : Token) (move : TokenMove) → at_fixed wants.Differ t ≡ Some move →
      P (Known words.Differ) (moves.Skip (wants.LineEnd nexts.Line)) → P t move
  by_differ (Known words.Differ) move h goes = told (P (Known words.Differ)) _ move h goes
  by_differ _ move h goes = absurd (cc)

  pub by_line_end : (following : AfterLine) (t : Token) (move : TokenMove)
      → at_fixed (wants.LineEnd following) t ≡ Some move → P LineEnd (moves.Skip (want_next following)) → P t move
  by_line_end following LineEnd move h goes = told (P LineEnd) _ move h goes
  by_line_end following _ move h goes = absurd (cc)

  pub by_block_end : (t : Token) (move : TokenMove) → at_fixed wants.BlockEnd t ≡ Some move
      → P LineEnd (moves.Skip wants.Line) → P t move
  by_block_end LineEnd move h goes = told (P LineEnd) _ move h goes
  by_block_end _ move h goes = absurd (cc)

  pub by_result_end : (result : Written) (t : Token) (move : TokenMove)
      → at_fixed (wants.ResultEnd result) t ≡ Some move → P LineEnd (moves.EndCase result) → P t move
  by_result_end result LineEnd move h goes = told (P LineEnd) _ move h goes
  by_result_end result _ move h goes = absurd (cc)

  pub by_file_end : (t : Token) (move : TokenMove) → at_fixed wants.FileEnd t ≡ Some move
      → P FileEnd (moves.Skip wants.Nothing) → P t move
  by_file_end FileEnd move h goes = told (P FileEnd) _ move h goes
  by_file_end _ move h goes = absurd (cc)

  -- at the version: the number of a language
  pub by_version : (t : Token) (move : TokenMove) → at_fixed wants.Version t ≡ Some move →
      ((language : Language) → P (Number (number_of language)) (moves.SetLanguage language)) → P t move
  by_version (Number n) move h goes = by_language (language_numbered n) refl h
    where
      by_language : (found : Option Language) → language_numbered n ≡ found →
          option_map (λ language. moves.SetLanguage language) found ≡ Some move → P (Number n) move
      by_language None same e = absurd (cc)
      by_language (Some language) same e =
          told (P (Number n)) _ move e
          (subst (λ x. P (Number x) (moves.SetLanguage language)) (numbered_is n language same) (goes language))
  by_version _ move h goes = absurd (cc)

  pub by_mode : (t : Token) (move : TokenMove) → at_fixed wants.Mode t ≡ Some move →
      ((mode : Mode) → P (Known (words.Mode mode)) (moves.SetMode mode)) → P t move
  by_mode (Known (words.Mode mode)) move h goes = told (P (Known (words.Mode mode))) _ move h (goes mode)
  by_mode _ move h goes = absurd (cc)

  pub by_next_kind : (c : Control) (t : Token) (move : TokenMove) → at_next_kind c t ≡ Some move →
      ((k : Kind) → has_word c.language k ≡ true → comes_next c.head k ≡ true → P (Known (words.Kind k))
      (moves.Declare k)) → (declares_some c.head ≡ true → P LineEnd (moves.Skip wants.Line)) → P t move
  by_next_kind c (Known (words.Kind k)) move h declare ends =
      by_allowed (P (Known (words.Kind k))) _ _ move h (λ test. let parts = and_parts _ _ test in
      declare k parts.0 parts.1)
  by_next_kind c LineEnd move h declare ends = by_allowed (P LineEnd) _ _ move h ends
  by_next_kind c _ move h declare ends = absurd (cc)

  -- where a line begins: `assume`, `block`, `case` or `end`
  pub by_line : (c : Control) (at : Placed) (t : Token) (move : TokenMove) → at_line c at t ≡ Some move →
      ((not c.begun && not c.head.chars_differ) ≡ true → P (Known words.Assume) (moves.Skip wants.Assumed)) →
      P (Known words.Block) (moves.BlockWord at.line at.column) →
      ((c.begun && nat_lt c.cases 64) ≡ true → P (Known words.Case) moves.BeginCase) →
      (not (lacks_block c) ≡ true → P (Known words.End) moves.End) →
      P t move
  by_line c at (Known words.Assume) move h assume block case ends =
      by_allowed (P (Known words.Assume)) _ _ move h assume
  by_line c at (Known words.Block) move h assume block case ends = told (P (Known words.Block)) _ move h block
  by_line c at (Known words.Case) move h assume block case ends = by_allowed (P (Known words.Case)) _ _ move h case
  by_line c at (Known words.End) move h assume block case ends = by_allowed (P (Known words.End)) _ _ move h ends
  by_line c at _ move h assume block case ends = absurd (cc)

  pub by_assumed : (c : Control) (t : Token) (move : TokenMove) → at_assumed c t ≡ Some move →
      (not c.head.sites_differ ≡ true → P (Known words.Sites) moves.AssumeSites)
      → P (Known words.Chars) moves.AssumeChars → P t move
  by_assumed c (Known words.Sites) move h sites chars = by_allowed (P (Known words.Sites)) _ _ move h sites
  by_assumed c (Known words.Chars) move h sites chars = told (P (Known words.Chars)) _ move h chars
  by_assumed c _ move h sites chars = absurd (cc)

  pub by_block_first : (c : Control) (t : Token) (move : TokenMove) → at_block_first c t ≡ Some move →
      ((k : Kind) → is_declared c.head k ≡ true → P (Known (words.Kind k)) (moves.Skip (wants.BlockSecond k)))
      → P t move
  by_block_first c (Known (words.Kind k)) move h goes = by_allowed (P (Known (words.Kind k))) _ _ move h (goes k)
  by_block_first c _ move h goes = absurd (cc)

  pub by_block_second : (c : Control) (k : Kind) (t : Token) (move : TokenMove) → at_block_second c k t ≡ Some move →
      ((l : Kind) → is_declared c.head l ≡ true → not (has_seen c.seen k l) ≡ true
      → P (Known (words.Kind l)) (moves.BeginBlock k l)) → P t move
  by_block_second c k (Known (words.Kind l)) move h goes =
      by_allowed (P (Known (words.Kind l))) _ _ move h
      (λ test. let parts = and_parts _ _ test in goes l parts.0 parts.1)
  by_block_second c k _ move h goes = absurd (cc)

  -- at an operand: `(`, `not`, `true`, or what begins an atom
  pub by_operand : (c : Control) (t : Token) (move : TokenMove) → at_operand c t ≡ Some move →
      (nat_lt (depth_of c) 32 ≡ true → P Open moves.Open) →
      (nat_lt (depth_of c) 32 ≡ true → P (Known words.Not) moves.Negate) →
      (nat_lt c.atoms 16 ≡ true → P (Known words.True) moves.Always) →
      ((sort : Sort) (side : Side) → nat_lt c.atoms 16 ≡ true → may_compare (has_chars c) sort ≡ true →
      P (Known (words.Thing sort side)) (moves.BeginAtom sort side)) →
      P t move
  by_operand c Open move h round negate always atom = by_allowed (P Open) _ _ move h round
  by_operand c (Known words.Not) move h round negate always atom = by_allowed (P (Known words.Not)) _ _ move h negate
  by_operand c (Known words.True) move h round negate always atom = by_allowed (P (Known words.True)) _ _ move h always
  by_operand c (Known (words.Thing sort side)) move h round negate always atom =
      by_allowed (P (Known (words.Thing sort side))) _ _ move h (λ test. let parts = and_parts _ _ test in
      atom sort side parts.0 parts.1)
  by_operand c _ move h round negate always atom = absurd (cc)

  pub by_comparison : (sort : Sort) (left : Side) (t : Token) (move : TokenMove) → at_fixed (wants.Comparison sort left)
      t ≡ Some move → ((cmp : Cmp) → P (tokens.Comparison cmp) (moves.Skip (wants.Right sort left cmp))) → P t move
  by_comparison sort left (tokens.Comparison cmp) move h goes = told (P (tokens.Comparison cmp)) _ move h (goes cmp)
  by_comparison sort left _ move h goes = absurd (cc)

  pub by_right : (sort : Sort) (left : Side) (cmp : Cmp) (t : Token) (move : TokenMove) → at_fixed (wants.Right sort
      left cmp) t ≡ Some move → P (Known (words.Thing sort (other_side left))) (moves.Compare sort left cmp) → P t move
  by_right sort left cmp (Known (words.Thing other right)) move h goes =
      by_allowed (P (Known (words.Thing other right))) _ _ move h
      (λ test. other_thing (λ x y. P (Known (words.Thing x y)) (moves.Compare sort left cmp)) sort
      other left right test goes)
  by_right sort left cmp _ move h goes = absurd (cc)

  pub by_operator : (c : Control) (t : Token) (move : TokenMove) → at_operator c t ≡ Some move →
      P (Known words.And) moves.And → P (Known words.Or) moves.Or → (nat_lt 0 c.outside ≡ true → P Close moves.Close) →
      ((c.outside == 0) ≡ true → P Colon moves.Colon) → P t move
  by_operator c (Known words.And) move h both either close colon = told (P (Known words.And)) _ move h both
  by_operator c (Known words.Or) move h both either close colon = told (P (Known words.Or)) _ move h either
  by_operator c Close move h both either close colon = by_allowed (P Close) _ _ move h close
  by_operator c Colon move h both either close colon = by_allowed (P Colon) _ _ move h colon
  by_operator c _ move h both either close colon = absurd (cc)

  pub by_offset : (c : Control) (left : Side) (cmp : Cmp) (t : Token) (move : TokenMove)
      → at_offset c left cmp t ≡ Some move →
      ((sign : Sign) → P (tokens.Sign sign) (moves.Skip (wants.Number left cmp sign)))
      → (at_operator c t ≡ Some move → P t move) → P t move
  by_offset c left cmp (tokens.Sign sign) move h signed others = told (P (tokens.Sign sign)) _ move h (signed sign)
  by_offset c left cmp t move h signed others = others h

  pub by_number : (left : Side) (cmp : Cmp) (sign : Sign) (t : Token) (move : TokenMove) → at_fixed (wants.Number left
      cmp sign) t ≡ Some move → ((n : ℕ) → nat_le n 99 ≡ true → P (Number n) (moves.Shift left cmp sign n)) → P t move
  by_number left cmp sign (Number n) move h goes = by_allowed (P (Number n)) _ _ move h (goes n)
  by_number left cmp sign _ move h goes = absurd (cc)

  pub by_result : (c : Control) (t : Token) (move : TokenMove) → at_result c t ≡ Some move →
      P (Known words.Nop) (moves.Skip (wants.ResultEnd written.Nop)) →
      P (Known (words.Kind c.first)) (moves.Skip wants.ResultPosition) → P t move
  by_result c (Known words.Nop) move h nop kept = told (P (Known words.Nop)) _ move h nop
  by_result c (Known (words.Kind k)) move h nop kept =
      by_allowed (P (Known (words.Kind k))) _ _ move h
      (λ test. same_kind (λ x. P (Known (words.Kind x)) (moves.Skip wants.ResultPosition)) c.first k test kept)
  by_result c _ move h nop kept = absurd (cc)

  pub by_result_position : (t : Token) (move : TokenMove) → at_fixed wants.ResultPosition t ≡ Some move →
      ((side : Side) → P (Known (words.Thing Pos side)) (moves.Skip (wants.ResultOffset side))) → P t move
  by_result_position (Known (words.Thing Pos side)) move h goes =
      told (P (Known (words.Thing Pos side))) _ move h (goes side)
  by_result_position _ move h goes = absurd (cc)

  pub by_result_offset : (side : Side) (t : Token) (move : TokenMove) → at_fixed (wants.ResultOffset side) t ≡ Some move
      → ((sign : Sign) → P (tokens.Sign sign) (moves.Skip (wants.ResultNumber side sign))) →
      P LineEnd (moves.EndCase (written.At side)) → P t move
  by_result_offset side (tokens.Sign sign) move h signed ends = told (P (tokens.Sign sign)) _ move h (signed sign)
  by_result_offset side LineEnd move h signed ends = told (P LineEnd) _ move h ends
  by_result_offset side _ move h signed ends = absurd (cc)

  pub by_result_number : (side : Side) (sign : Sign) (t : Token) (move : TokenMove)
      → at_fixed (wants.ResultNumber side sign) t ≡ Some move →
      ((n : ℕ) → nat_le n 99 ≡ true → P (Number n) (moves.Skip (wants.ResultEnd (written.Moved side sign n))))
      → P t move
  by_result_number side sign (Number n) move h goes = by_allowed (P (Number n)) _ _ move h (goes n)
  by_result_number side sign _ move h goes = absurd (cc)
