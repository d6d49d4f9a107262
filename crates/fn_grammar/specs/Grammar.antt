-- Function files as they are written: the phrases of the grammar, the tokens by which they are written,
-- and what they mean.
use Rattle.std.specs.Prelude.{◌≡◌, ℕ, ◌+◌, Bool, true, ◌&&◌, max, nat_le, IsTrue, List, [], ◌∷◌, ◌++◌, length, map}
use Rattle.std.specs.List.{flat_map, list_all}
use Rattle.ot_model.specs.declared.op.Kind.{Kind}
use Rattle.fn_rules.specs.declared.guard.Sort.{Sort}
use Rattle.fn_rules.specs.declared.guard.Sort.TheVariants.{Pos}
use Rattle.fn_rules.specs.declared.guard.Side.{Side}
use Rattle.fn_rules.specs.declared.guard.Cmp.{Cmp}
use Rattle.fn_rules.specs.declared.guard.Tightness.{Tightness}
use Rattle.fn_rules.specs.declared.guard.Tightness.TheVariants.{Loose, Joined, Tight}
use Rattle.fn_rules.specs.declared.function.Head.{Head}
use Rattle.fn_rules.specs.Formulas.{other_side}
use Rattle.fn_rules.specs.Functions.{Function}
use Rattle.fn_rules.specs.Validity.{compares_chars}
use Rattle.fn_rules.specs.Building.{function_from, has_own_blocks}
use Rattle.fn_rules.specs.declared.limits.TheConstants.{MAX_CASES, MAX_ATOMS, MAX_NESTING}
use Rattle.fn_tokens.specs.declared.token.Word.TheVariants as words
use Rattle.fn_tokens.specs.declared.token.Token.{Token}
use Rattle.fn_tokens.specs.declared.token.Token.TheVariants.{Known, Number, Comparison, Open, Close, Colon, LineEnd}
use Rattle.fn_tokens.specs.declared.token.Token.TheVariants.{FileEnd}
use Rattle.fn_tokens.specs.declared.token.Token.TheVariants as tokens
use Rattle.fn_tokens.specs.declared.token.Sign.{Sign}
use Rattle.fn_tokens.specs.declared.control.Written.{Written}
use Rattle.fn_tokens.specs.declared.control.Written.TheVariants as written
use Rattle.fn_tokens.specs.Tokens.{tokens_in, bare}
use Rattle.fn_tokens.specs.declared.language.Language.{Language}
use Rattle.fn_tokens.specs.Languages.{has_words}
use Rattle.fn_tokens.specs.Kinds.{declares_some}
use Rattle.fn_grammar.specs.Print.{head_tokens}
use Rattle.fn_tokens.specs.Meaning.{Maker, is_offset_number, may_compare, to_formulas}

-- a guard as it is written, by how tightly it holds together: tight phrases are operands of `not` and
-- `and`, joined ones are operands of `or`, and loose ones stand alone or in parentheses; operators group
-- from the left
pub data Phrase : Tightness → Type 0 where
  Always : Phrase Tight
  Compare : Sort → Side → Cmp → Phrase Tight
  Shifted : Side → Cmp → Sign → ℕ → Phrase Tight
  Negated : Phrase Tight → Phrase Tight
  Round : Phrase Loose → Phrase Tight
  One : Phrase Tight → Phrase Joined
  Both : Phrase Joined → Phrase Tight → Phrase Joined
  Single : Phrase Joined → Phrase Loose
  Either : Phrase Loose → Phrase Joined → Phrase Loose

-- the tokens of a phrase
abbrev pub written_as : {t : Tightness} → Phrase t → List Token
written_as Always = Known words.True ∷ []
written_as (Compare sort left cmp) =
    Known (words.Thing sort left) ∷ Comparison cmp ∷ Known (words.Thing sort (other_side left)) ∷ []
written_as (Shifted left cmp sign n) =
    Known (words.Thing Pos left) ∷ Comparison cmp ∷ Known (words.Thing Pos (other_side left)) ∷ tokens.Sign sign
    ∷ Number n ∷ []
written_as (Negated u) = Known words.Not ∷ written_as u
written_as (Round d) = Open ∷ (written_as d ++ Close ∷ [])
written_as (One u) = written_as u
written_as (Both c u) = written_as c ++ Known words.And ∷ written_as u
written_as (Single c) = written_as c
written_as (Either d c) = written_as d ++ Known words.Or ∷ written_as c

-- what a phrase is made into
abbrev pub made : {t : Tightness} {V : Tightness → Type 0} {K B : Type 0} → Maker V K B → Phrase t → V t
made m Always = m.always
made m (Compare sort left cmp) = m.compared sort left cmp
made m (Shifted left cmp sign n) = m.shifted left cmp sign n
made m (Negated u) = m.negated (made m u)
made m (Round d) = m.round (made m d)
made m (One u) = m.one (made m u)
made m (Both c u) = m.both (made m c) (made m u)
made m (Single c) = m.single (made m c)
made m (Either d c) = m.either (made m d) (made m c)

-- the atoms and `true` of a phrase
abbrev pub atoms_in : {t : Tightness} → Phrase t → ℕ
atoms_in Always = 1
atoms_in (Compare sort left cmp) = 1
atoms_in (Shifted left cmp sign n) = 1
atoms_in (Negated u) = atoms_in u
atoms_in (Round d) = atoms_in d
atoms_in (One u) = atoms_in u
atoms_in (Both c u) = atoms_in c + atoms_in u
atoms_in (Single c) = atoms_in c
atoms_in (Either d c) = atoms_in d + atoms_in c

-- the greatest number of `(` and `not` of a phrase around one place
abbrev pub nesting_in : {t : Tightness} → Phrase t → ℕ
nesting_in Always = 0
nesting_in (Compare sort left cmp) = 0
nesting_in (Shifted left cmp sign n) = 0
nesting_in (Negated u) = 1 + nesting_in u
nesting_in (Round d) = 1 + nesting_in d
nesting_in (One u) = nesting_in u
nesting_in (Both c u) = max (nesting_in c) (nesting_in u)
nesting_in (Single c) = nesting_in c
nesting_in (Either d c) = max (nesting_in d) (nesting_in c)

-- offsets are two digits, and characters are compared only where they may be
abbrev pub is_allowed_phrase : {t : Tightness} → Bool → Phrase t → Bool
is_allowed_phrase chars Always = true
is_allowed_phrase chars (Compare sort left cmp) = may_compare chars sort
is_allowed_phrase chars (Shifted left cmp sign n) = is_offset_number n
is_allowed_phrase chars (Negated u) = is_allowed_phrase chars u
is_allowed_phrase chars (Round d) = is_allowed_phrase chars d
is_allowed_phrase chars (One u) = is_allowed_phrase chars u
is_allowed_phrase chars (Both c u) = is_allowed_phrase chars c && is_allowed_phrase chars u
is_allowed_phrase chars (Single c) = is_allowed_phrase chars c
is_allowed_phrase chars (Either d c) = is_allowed_phrase chars d && is_allowed_phrase chars c

-- a case and a block as they are written
pub record WrittenCase : Type 0 where
  pub guard : Phrase Loose
  pub result : Written

pub record WrittenBlock : Type 0 where
  pub first : Kind
  pub second : Kind
  pub cases : List WrittenCase

-- the tokens of a result, where the operation that is transformed is of this kind
abbrev pub result_written_as : Kind → Written → List Token
result_written_as kind written.Nop = Known words.Nop ∷ []
result_written_as kind (written.At side) = Known (words.Kind kind) ∷ Known (words.Thing Pos side) ∷ []
result_written_as kind (written.Moved side sign n) =
    Known (words.Kind kind) ∷ Known (words.Thing Pos side) ∷ tokens.Sign sign ∷ Number n ∷ []

abbrev pub case_written_as : Kind → WrittenCase → List Token
case_written_as kind c =
    Known words.Case ∷ written_as c.guard ++ Colon ∷ result_written_as kind c.result ++ LineEnd ∷ []

abbrev pub block_written_as : WrittenBlock → List Token
block_written_as block =
    Known words.Block ∷ Known (words.Kind block.first) ∷ Known (words.Kind block.second) ∷ LineEnd
    ∷ flat_map (case_written_as block.first) block.cases

-- a file as it is written: its head, which has one spelling, and its blocks in their order
abbrev pub file_written_as : Language → Head → List WrittenBlock → List Token
file_written_as language head blocks =
    head_tokens language head ++ flat_map block_written_as blocks ++ Known words.End ∷ LineEnd ∷ FileEnd ∷ []

-- what a case and a block are made into
abbrev pub case_made : {V : Tightness → Type 0} {K B : Type 0} → Maker V K B → WrittenCase → K
case_made m c = m.cased (made m c.guard) c.result

abbrev pub block_made : {V : Tightness → Type 0} {K B : Type 0} → Maker V K B → WrittenBlock → B
block_made m block = m.blocked block.first block.second (map (case_made m) block.cases)

abbrev pub is_allowed_result : Written → Bool
is_allowed_result written.Nop = true
is_allowed_result (written.At side) = true
is_allowed_result (written.Moved side sign n) = is_offset_number n

abbrev pub is_allowed_case : Bool → WrittenCase → Bool
is_allowed_case chars c =
    is_allowed_phrase chars c.guard && nat_le (atoms_in c.guard) MAX_ATOMS && nat_le (nesting_in c.guard) MAX_NESTING &&
    is_allowed_result c.result

abbrev pub is_allowed_block : WrittenBlock → Bool
is_allowed_block block =
    nat_le (length block.cases) MAX_CASES && list_all (is_allowed_case (compares_chars block.first block.second))
    block.cases

-- at least one kind, one block for each ordered pair of kinds and no other, each within the limits, and a word of the
-- language for each kind
abbrev pub is_allowed_file : Language → Head → List WrittenBlock → Bool
is_allowed_file language head blocks =
    declares_some head && has_own_blocks head (map (block_made to_formulas) blocks) && list_all is_allowed_block blocks
    && has_words language head

-- the bytes are a file of the grammar in one of the languages, and its phrases mean the function
pub record IsTextOf (bytes : List ℕ) (f : Function) : Type 0 where
  pub language : Language
  pub head : Head
  pub blocks : List WrittenBlock
  pub allowed : IsTrue (is_allowed_file language head blocks)
  pub written : bare (tokens_in bytes) ≡ file_written_as language head blocks
  pub means : f ≡ function_from head (map (block_made to_formulas) blocks)
