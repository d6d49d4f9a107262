-- Which tokens may stand where one is wrong: what the reader takes, and what the list and the numbers tell.
use Rattle.std.proofs.Common.{◌≡◌, ◌↔◌, ℕ, Bool, true, false, is_some, IsTrue, Option, Some, None, option_map}
use Rattle.std.proofs.Common.{Contains, refl, sym, ◌∙◌, lit<, true≢false}
use Rattle.ot_model.specs.declared.op.Kind.TheVariants as ops
use Rattle.ot_model.specs.declared.op.Mode.TheVariants as modes
use Rattle.fn_rules.specs.declared.guard.Sort.TheVariants.{Pos, Site, Char}
use Rattle.fn_rules.specs.declared.guard.Side.TheVariants.{First, Second}
use Rattle.fn_rules.specs.declared.guard.Cmp.TheVariants.{Lt, Le, Eq}
use Rattle.fn_tokens.specs.declared.token.Sign.TheVariants.{Plus, Minus}
use Rattle.fn_tokens.specs.declared.token.Token.{Token}
use Rattle.fn_tokens.specs.declared.token.Token.TheVariants.{Byte, Unknown, Known, Number, Comparison, Open, Close}
use Rattle.fn_tokens.specs.declared.token.Token.TheVariants.{Colon, LineEnd, FileEnd}
use Rattle.fn_tokens.specs.declared.token.Token.TheVariants as tokens
use Rattle.fn_tokens.specs.declared.token.Word.TheVariants as words
use Rattle.fn_tokens.specs.declared.token.Placed.{Placed}
use Rattle.fn_tokens.specs.declared.control.Want.{Want}
use Rattle.fn_tokens.specs.declared.control.Want.TheVariants as wants
use Rattle.fn_tokens.specs.declared.control.Control.{Control}
use Rattle.fn_tokens.specs.declared.control.TokenMove.{TokenMove}
use Rattle.fn_tokens.specs.declared.language.Language.{Language}
use Rattle.fn_tokens.specs.Languages.{language_numbered}
use Rattle.fn_tokens.specs.Meaning.{is_offset_number}
use Rattle.fn_tokens.specs.Controls.{allowed}
use Rattle.fn_tokens.specs.Moves.{move_for}
use Rattle.fn_text.specs.declared.wrong.WrongToken.{WrongToken}
use Rattle.fn_hints.specs.declared.standing.TheConstants.{TOKENS}
use Rattle.fn_hints.specs.Standing.{can_stand, tokens_at, numbers_at, has_number, MayStand}
use Rattle.fn_hints.proofs.Kept.{is_kept, kept_passes}

-- what is allowed by a test is there where the test is true
allowed_told : (test : Bool) (move : TokenMove) → is_some (allowed test move) ≡ test
allowed_told true move = refl
allowed_told false move = refl

mapped_told : (language : Option Language) (f : Language → TokenMove) →
    is_some (option_map f language) ≡ is_some language
mapped_told (Some language) f = refl
mapped_told None f = refl

-- what no file has can go on nowhere, and numbers where the place has them
record OthersAreTold (c : Control) (at : Placed) (want : Want) : Type 0 where
  byte : is_some (move_for c at want Byte) ≡ false
  unknown : is_some (move_for c at want Unknown) ≡ false
  number : (n : ℕ) → is_some (move_for c at want (Number n)) ≡ has_number (numbers_at want) n

others_told : (c : Control) (at : Placed) (want : Want) → OthersAreTold c at want
others_told c at wants.Otfn = record { byte = refl; unknown = refl; number = λ n. refl }
others_told c at wants.Version =
    record { byte = refl; unknown = refl; number = λ n. mapped_told (language_numbered n) _ }
others_told c at wants.Text = record { byte = refl; unknown = refl; number = λ n. refl }
others_told c at wants.Mode = record { byte = refl; unknown = refl; number = λ n. refl }
others_told c at wants.Kinds = record { byte = refl; unknown = refl; number = λ n. refl }
others_told c at wants.NextKind = record { byte = refl; unknown = refl; number = λ n. refl }
others_told c at (wants.LineEnd following) = record { byte = refl; unknown = refl; number = λ n. refl }
others_told c at wants.Line = record { byte = refl; unknown = refl; number = λ n. refl }
others_told c at wants.Assumed = record { byte = refl; unknown = refl; number = λ n. refl }
others_told c at wants.Differ = record { byte = refl; unknown = refl; number = λ n. refl }
others_told c at wants.BlockFirst = record { byte = refl; unknown = refl; number = λ n. refl }
others_told c at (wants.BlockSecond k) = record { byte = refl; unknown = refl; number = λ n. refl }
others_told c at wants.BlockEnd = record { byte = refl; unknown = refl; number = λ n. refl }
others_told c at wants.Operand = record { byte = refl; unknown = refl; number = λ n. refl }
others_told c at (wants.Comparison sort left) = record { byte = refl; unknown = refl; number = λ n. refl }
others_told c at (wants.Right sort left cmp) = record { byte = refl; unknown = refl; number = λ n. refl }
others_told c at (wants.Offset left cmp) = record { byte = refl; unknown = refl; number = λ n. refl }
others_told c at (wants.Number left cmp sign) =
    record { byte = refl; unknown = refl; number = λ n. allowed_told (is_offset_number n) _ }
others_told c at wants.Operator = record { byte = refl; unknown = refl; number = λ n. refl }
others_told c at wants.Result = record { byte = refl; unknown = refl; number = λ n. refl }
others_told c at wants.ResultPosition = record { byte = refl; unknown = refl; number = λ n. refl }
others_told c at (wants.ResultOffset side) = record { byte = refl; unknown = refl; number = λ n. refl }
others_told c at (wants.ResultNumber side sign) =
    record { byte = refl; unknown = refl; number = λ n. allowed_told (is_offset_number n) _ }
others_told c at (wants.ResultEnd result) = record { byte = refl; unknown = refl; number = λ n. refl }
others_told c at wants.FileEnd = record { byte = refl; unknown = refl; number = λ n. refl }
others_told c at wants.Nothing = record { byte = refl; unknown = refl; number = λ n. refl }

number_told : (wrong : WrongToken) (n : ℕ) → can_stand wrong (Number n) ≡ has_number (numbers_at wrong.control.want) n
number_told wrong n =
    (others_told wrong.control (record wrong.at { token = Number n }) wrong.control.want).number n

-- a token that can stand, and one that is not among those that can
taken_of : (wrong : WrongToken) (t : Token) → Contains TOKENS t →
    Contains (tokens_at wrong) t ↔ IsTrue (can_stand wrong t)
taken_of wrong t held =
    (λ kept. kept_passes (can_stand wrong) TOKENS t kept, λ stands. is_kept (can_stand wrong) TOKENS t held stands)

never_of : (wrong : WrongToken) (t : Token) → can_stand wrong t ≡ false →
    Contains (tokens_at wrong) t ↔ IsTrue (can_stand wrong t)
never_of wrong t never =
    (λ kept. kept_passes (can_stand wrong) TOKENS t kept, λ stands. absurd (true≢false (sym stands ∙ never)))

-- the list and the numbers tell exactly the tokens that can stand
pub stands_told : (wrong : WrongToken) (token : Token) →
    MayStand (tokens_at wrong) (numbers_at wrong.control.want) token ↔ IsTrue (can_stand wrong token)
stands_told wrong Byte =
    never_of wrong Byte (others_told wrong.control (record wrong.at { token = Byte }) wrong.control.want).byte
stands_told wrong Unknown =
    never_of wrong Unknown (others_told wrong.control (record wrong.at { token = Unknown }) wrong.control.want).unknown
stands_told wrong (Number n) =
    (λ told. number_told wrong n ∙ told, λ stands. sym (number_told wrong n) ∙ stands)
stands_told wrong (Known words.Otfn) = taken_of wrong (Known words.Otfn) (0, lit< tt, refl)
stands_told wrong (Known words.Text) = taken_of wrong (Known words.Text) (1, lit< tt, refl)
stands_told wrong (Known (words.Mode modes.Plain)) = taken_of wrong (Known (words.Mode modes.Plain)) (2, lit< tt, refl)
stands_told wrong (Known (words.Mode modes.Tomb)) = taken_of wrong (Known (words.Mode modes.Tomb)) (3, lit< tt, refl)
stands_told wrong (Known words.Kinds) = taken_of wrong (Known words.Kinds) (4, lit< tt, refl)
stands_told wrong (Known (words.Kind ops.Ins)) = taken_of wrong (Known (words.Kind ops.Ins)) (5, lit< tt, refl)
stands_told wrong (Known (words.Kind ops.Del)) = taken_of wrong (Known (words.Kind ops.Del)) (6, lit< tt, refl)
stands_told wrong (Known (words.Kind ops.Upd)) = taken_of wrong (Known (words.Kind ops.Upd)) (7, lit< tt, refl)
stands_told wrong (Known words.Assume) = taken_of wrong (Known words.Assume) (8, lit< tt, refl)
stands_told wrong (Known words.Sites) = taken_of wrong (Known words.Sites) (9, lit< tt, refl)
stands_told wrong (Known words.Chars) = taken_of wrong (Known words.Chars) (10, lit< tt, refl)
stands_told wrong (Known words.Differ) = taken_of wrong (Known words.Differ) (11, lit< tt, refl)
stands_told wrong (Known words.Block) = taken_of wrong (Known words.Block) (12, lit< tt, refl)
stands_told wrong (Known words.Case) = taken_of wrong (Known words.Case) (13, lit< tt, refl)
stands_told wrong (Known words.Nop) = taken_of wrong (Known words.Nop) (14, lit< tt, refl)
stands_told wrong (Known words.End) = taken_of wrong (Known words.End) (15, lit< tt, refl)
stands_told wrong (Known (words.Thing Pos First)) = taken_of wrong (Known (words.Thing Pos First)) (16, lit< tt, refl)
stands_told wrong (Known (words.Thing Pos Second)) = taken_of wrong (Known (words.Thing Pos Second)) (17, lit< tt, refl)
stands_told wrong (Known (words.Thing Site First)) = taken_of wrong (Known (words.Thing Site First)) (18, lit< tt, refl)
stands_told wrong (Known (words.Thing Site Second)) =
    taken_of wrong (Known (words.Thing Site Second)) (19, lit< tt, refl)
stands_told wrong (Known (words.Thing Char First)) = taken_of wrong (Known (words.Thing Char First)) (20, lit< tt, refl)
stands_told wrong (Known (words.Thing Char Second)) =
    taken_of wrong (Known (words.Thing Char Second)) (21, lit< tt, refl)
stands_told wrong (Known words.True) = taken_of wrong (Known words.True) (22, lit< tt, refl)
stands_told wrong (Known words.Not) = taken_of wrong (Known words.Not) (23, lit< tt, refl)
stands_told wrong Open = taken_of wrong Open (24, lit< tt, refl)
stands_told wrong (Known words.And) = taken_of wrong (Known words.And) (25, lit< tt, refl)
stands_told wrong (Known words.Or) = taken_of wrong (Known words.Or) (26, lit< tt, refl)
stands_told wrong (Comparison Lt) = taken_of wrong (Comparison Lt) (27, lit< tt, refl)
stands_told wrong (Comparison Le) = taken_of wrong (Comparison Le) (28, lit< tt, refl)
stands_told wrong (Comparison Eq) = taken_of wrong (Comparison Eq) (29, lit< tt, refl)
stands_told wrong (tokens.Sign Plus) = taken_of wrong (tokens.Sign Plus) (30, lit< tt, refl)
stands_told wrong (tokens.Sign Minus) = taken_of wrong (tokens.Sign Minus) (31, lit< tt, refl)
stands_told wrong Close = taken_of wrong Close (32, lit< tt, refl)
stands_told wrong Colon = taken_of wrong Colon (33, lit< tt, refl)
stands_told wrong LineEnd = taken_of wrong LineEnd (34, lit< tt, refl)
stands_told wrong FileEnd = taken_of wrong FileEnd (35, lit< tt, refl)
