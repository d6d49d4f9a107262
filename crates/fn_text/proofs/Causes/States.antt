-- What the reader's state has to do with the tokens that it has read, nearest first.
use Rattle.std.proofs.Common.{◌≡◌, ℕ, zero, suc, ◌+◌, ◌||◌, Bool, true, false, List, [], ◌∷◌, Option, Some, None}
use Rattle.ot_model.specs.declared.op.Kind.{Kind}
use Rattle.fn_rules.specs.Functions.{is_declared}
use Rattle.fn_rules.specs.declared.guard.Sort.{Sort}
use Rattle.fn_rules.specs.declared.guard.Side.{Side}
use Rattle.fn_rules.specs.declared.guard.Tightness.{Tightness}
use Rattle.fn_tokens.specs.declared.token.Token.{Token}
use Rattle.fn_tokens.specs.declared.token.Token.TheVariants.{Known, Open}
use Rattle.fn_tokens.specs.declared.token.Word.TheVariants as words
use Rattle.fn_tokens.specs.declared.control.AfterLine.TheVariants as nexts
use Rattle.fn_tokens.specs.declared.control.Want.{Want}
use Rattle.fn_tokens.specs.declared.control.Want.TheVariants as wants
use Rattle.fn_tokens.specs.declared.control.Control.{Control}
use Rattle.fn_tokens.specs.Controls.{lacks_block}
use Rattle.fn_tokens.specs.Kinds.{has_seen}
use Rattle.fn_text.specs.Reader.{Nesting}
use Rattle.fn_text.specs.Counting.{language_before, is_behind_line_end, is_behind_sign, is_behind_otfn, is_behind_block}
use Rattle.fn_text.specs.Counting.{is_in_kinds, is_in_block_line, is_in_guard, is_in_result, declares, first_of_block}
use Rattle.fn_text.specs.Counting.{is_behind_pair, blocks_before, has_block, this_block, cases_before, atoms_before}
use Rattle.fn_text.specs.Counting.{is_before_operand, thing_before, thing_compared, is_behind_operand, opened_before}
use Rattle.fn_text.specs.Counting.{is_behind_result}

-- a fact that is told where a test is true
abbrev pub Where : Bool → Type 0 → Type 0
Where true Fact = Fact
Where false Fact = Unit {0}

abbrev pub wants_line : Want → Bool
wants_line wants.Text = true
wants_line wants.Kinds = true
wants_line wants.Line = true
wants_line wants.FileEnd = true
wants_line _ = false

abbrev pub wants_number : Want → Bool
wants_number (wants.Number left cmp sign) = true
wants_number (wants.ResultNumber side sign) = true
wants_number _ = false

abbrev pub wants_version : Want → Bool
wants_version wants.Version = true
wants_version _ = false

abbrev pub wants_block_first : Want → Bool
wants_block_first wants.BlockFirst = true
wants_block_first _ = false

abbrev pub wants_in_block_line : Want → Bool
wants_in_block_line wants.BlockFirst = true
wants_in_block_line (wants.BlockSecond k) = true
wants_in_block_line wants.BlockEnd = true
wants_in_block_line _ = false

abbrev pub first_for : Want → Option Kind
first_for (wants.BlockSecond k) = Some k
first_for _ = None

abbrev pub wants_block_end : Want → Bool
wants_block_end wants.BlockEnd = true
wants_block_end _ = false

abbrev pub wants_in_guard : Want → Bool
wants_in_guard wants.Operand = true
wants_in_guard (wants.Comparison sort left) = true
wants_in_guard (wants.Right sort left cmp) = true
wants_in_guard (wants.Offset left cmp) = true
wants_in_guard (wants.Number left cmp sign) = true
wants_in_guard wants.Operator = true
wants_in_guard _ = false

abbrev pub wants_in_result : Want → Bool
wants_in_result wants.Result = true
wants_in_result wants.ResultPosition = true
wants_in_result (wants.ResultOffset side) = true
wants_in_result (wants.ResultNumber side sign) = true
wants_in_result (wants.ResultEnd result) = true
wants_in_result _ = false

abbrev pub wants_operand : Want → Bool
wants_operand wants.Operand = true
wants_operand _ = false

abbrev pub wants_comparison : Want → Bool
wants_comparison (wants.Comparison sort left) = true
wants_comparison _ = false

abbrev pub thing_for : Want → Option (Sort × Side)
thing_for (wants.Comparison sort left) = Some (sort, left)
thing_for _ = None

abbrev pub compared_for : Want → Option (Sort × Side)
compared_for (wants.Right sort left cmp) = Some (sort, left)
compared_for _ = None

-- an operand or a result is whole
abbrev pub wants_behind_operand : Want → Bool
wants_behind_operand (wants.Offset left cmp) = true
wants_behind_operand wants.Operator = true
wants_behind_operand _ = false

abbrev pub wants_behind_result : Want → Bool
wants_behind_result (wants.ResultOffset side) = true
wants_behind_result (wants.ResultEnd result) = true
wants_behind_result _ = false

-- a kind may come next, and it declares that kind
abbrev pub wants_kind : Want → Bool
wants_kind wants.NextKind = true
wants_kind wants.BlockFirst = true
wants_kind (wants.BlockSecond k) = true
wants_kind wants.Result = true
wants_kind _ = false

abbrev pub wants_in_kinds : Want → Bool
wants_in_kinds wants.NextKind = true
wants_in_kinds _ = false

-- what is wanted tells which tokens are the nearest
pub record Near (want : Want) (before : List Token) : Type 0 where
  pub line_end : is_behind_line_end before ≡ wants_line want
  pub sign : is_behind_sign before ≡ wants_number want
  pub otfn : is_behind_otfn before ≡ wants_version want
  pub block_word : is_behind_block before ≡ wants_block_first want
  pub block_line : is_in_block_line before ≡ wants_in_block_line want
  pub first : first_of_block before ≡ first_for want
  pub pair : is_behind_pair before ≡ wants_block_end want
  pub guard : is_in_guard before ≡ wants_in_guard want
  pub result : is_in_result before ≡ wants_in_result want
  pub operand : is_before_operand before ≡ wants_operand want
  pub compared : thing_compared before ≡ compared_for want
  pub thing : Where (wants_comparison want) (thing_before before ≡ thing_for want)
  pub whole : Where (wants_in_guard want) (is_behind_operand before ≡ wants_behind_operand want)
  pub ended : Where (wants_in_result want) (is_behind_result before ≡ wants_behind_result want)
  pub kinds : Where (wants_kind want) (is_in_kinds before ≡ wants_in_kinds want)

-- the `not` before an operand, upon the tokens that are open around them
abbrev pub nots_upon : ℕ → List Token → List Token
nots_upon zero opened = opened
nots_upon (suc n) opened = Known words.Not ∷ nots_upon n opened

-- the `(` and `not` around the innermost parentheses, these counted
abbrev pub opened_by : {V : Tightness → Type 0} → List (Nesting V) → List Token
opened_by [] = []
opened_by (level ∷ levels) = Open ∷ nots_upon level.nots (opened_by levels)

-- so many `(` and `not` stand around each of the open parentheses as are told
abbrev pub AreAround : {V : Tightness → Type 0} → ℕ → List (Nesting V) → Type 0
AreAround outside [] = outside ≡ 0
AreAround outside (level ∷ levels) =
    (outside ≡ level.outside + level.nots + 1) × AreAround level.outside levels

-- an atom is counted at its first side by the reader, and by its comparison here
abbrev pub atoms_for : Want → ℕ → ℕ
atoms_for (wants.Comparison sort left) atoms = atoms + 1
atoms_for _ atoms = atoms

-- inside a block
abbrev pub wants_inside : Want → Bool
wants_inside want = wants_block_end want || wants_in_guard want || wants_in_result want

-- the cases of the block are told
abbrev pub wants_counted : Want → Bool
wants_counted wants.BlockFirst = false
wants_counted (wants.BlockSecond k) = false
wants_counted (wants.LineEnd nexts.File) = false
wants_counted wants.FileEnd = false
wants_counted wants.Nothing = false
wants_counted _ = true

-- no kind is declared yet
abbrev pub wants_head : Want → Bool
wants_head wants.Otfn = true
wants_head wants.Version = true
wants_head (wants.LineEnd nexts.Text) = true
wants_head wants.Text = true
wants_head wants.Mode = true
wants_head (wants.LineEnd nexts.Kinds) = true
wants_head wants.Kinds = true
wants_head _ = false

-- behind the word `end`
abbrev pub wants_end : Want → Bool
wants_end (wants.LineEnd nexts.File) = true
wants_end wants.FileEnd = true
wants_end _ = false

-- the block that may come has no cases yet, or there can be none
abbrev pub wants_fresh : Want → Bool
wants_fresh want = wants_head want || wants_in_block_line want || wants_end want

-- what the state tells, where something is wanted, of the tokens before, and of the place of their last word `block`
pub record Stands {V : Tightness → Type 0} (c : Control) (outer : List (Nesting V)) (want : Want) (before : List Token)
    (place : ℕ × ℕ) : Type 0 where
  pub near : Near want before
  pub line : c.line ≡ place.0
  pub column : c.column ≡ place.1
  pub language : language_before before ≡ c.language
  pub declared : (k : Kind) → declares before k ≡ is_declared c.head k
  pub seen : (k l : Kind) → has_block before k l ≡ has_seen c.seen k l
  pub block : c.begun ≡ true → this_block (blocks_before before) ≡ Some (c.first, c.second)
  pub inside : Where (wants_inside want) (c.begun ≡ true)
  pub cases : Where (wants_counted want) (c.cases ≡ cases_before before)
  pub fresh : Where (wants_fresh want) (0 ≡ cases_before before)
  pub no_cases : c.begun ≡ false → 0 ≡ cases_before before
  pub atoms : c.atoms ≡ atoms_for want (atoms_before before)
  pub opened : opened_before before ≡ nots_upon c.nots (opened_by outer)
  pub around : AreAround c.outside outer
  pub none : Where (wants_head want) ((k : Kind) → is_declared c.head k ≡ false)
  pub full : Where (wants_end want) (lacks_block c ≡ false)
