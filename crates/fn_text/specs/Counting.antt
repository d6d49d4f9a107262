-- What is counted over the tokens before one. They stand nearest first, so that the token just before it comes first.
use Rattle.std.specs.Prelude.{ℕ, ◌+◌, Bool, true, false, not, ◌&&◌, if◌then◌else◌, List, [], ◌∷◌, drop, length, Option}
use Rattle.std.specs.Prelude.{Some, None}
use Rattle.std.specs.List.{list_any}
use Rattle.ot_model.specs.declared.op.Kind.{Kind}
use Rattle.ot_model.specs.declared.op.TheConstants.{KINDS}
use Rattle.ot_model.specs.Kinds.{is_same_kind}
use Rattle.fn_tokens.specs.declared.language.Language.{Language}
use Rattle.fn_tokens.specs.declared.language.Language.TheVariants.{One}
use Rattle.fn_tokens.specs.Languages.{language_numbered, has_word}
use Rattle.fn_rules.specs.declared.guard.Sort.{Sort}
use Rattle.fn_rules.specs.declared.guard.Side.{Side}
use Rattle.fn_rules.specs.Validity.{compares_chars}
use Rattle.fn_tokens.specs.declared.token.Token.{Token}
use Rattle.fn_tokens.specs.declared.token.Token.TheVariants.{Known, Number, Comparison, Open, Close, Colon, LineEnd}
use Rattle.fn_tokens.specs.declared.token.Token.TheVariants as tokens
use Rattle.fn_tokens.specs.declared.token.Word.TheVariants as words

-- just behind a line's end, a sign, the word `otfn`, the word `block`
abbrev pub is_behind_line_end : List Token → Bool
is_behind_line_end (LineEnd ∷ before) = true
is_behind_line_end _ = false

abbrev pub is_behind_sign : List Token → Bool
is_behind_sign (tokens.Sign sign ∷ before) = true
is_behind_sign _ = false

abbrev pub is_behind_otfn : List Token → Bool
is_behind_otfn (Known words.Otfn ∷ before) = true
is_behind_otfn _ = false

-- the language of the file: that of the number behind `otfn`, the first one before a number was read
abbrev pub language_before : List Token → Language
language_before [] = One
language_before (Number n ∷ before) =
    if is_behind_otfn before then elim (language_numbered n) [ Some language ↦ language | None ↦ One ]
    else language_before before
language_before (token ∷ before) = language_before before

-- the kind has a word in it
abbrev pub speaks : List Token → Kind → Bool
speaks before k = has_word (language_before before) k

abbrev pub is_behind_block : List Token → Bool
is_behind_block (Known words.Block ∷ before) = true
is_behind_block _ = false

-- behind the word `kinds` and perhaps kinds
abbrev pub is_in_kinds : List Token → Bool
is_in_kinds (Known words.Kinds ∷ before) = true
is_in_kinds (Known (words.Kind k) ∷ before) = is_in_kinds before
is_in_kinds _ = false

-- behind the word `block` and perhaps kinds
abbrev pub is_in_block_line : List Token → Bool
is_in_block_line (Known words.Block ∷ before) = true
is_in_block_line (Known (words.Kind k) ∷ before) = is_in_block_line before
is_in_block_line _ = false

-- behind the word `case`, in the guard
abbrev pub is_in_guard : List Token → Bool
is_in_guard [] = false
is_in_guard (LineEnd ∷ before) = false
is_in_guard (Colon ∷ before) = false
is_in_guard (Known words.Case ∷ before) = true
is_in_guard (token ∷ before) = is_in_guard before

-- behind the colon of a case, in the result
abbrev pub is_in_result : List Token → Bool
is_in_result [] = false
is_in_result (LineEnd ∷ before) = false
is_in_result (Colon ∷ before) = true
is_in_result (token ∷ before) = is_in_result before

-- the kinds that are declared
abbrev pub kinds_before : List Token → List Kind
kinds_before [] = []
kinds_before (Known (words.Kind k) ∷ before) =
    if is_in_kinds before then k ∷ kinds_before before else kinds_before before
kinds_before (token ∷ before) = kinds_before before

abbrev pub declares : List Token → Kind → Bool
declares before k = list_any (is_same_kind k) (kinds_before before)

-- the first kind of a block, where its second one comes next
abbrev pub first_of_block : List Token → Option Kind
first_of_block (Known (words.Kind k) ∷ before) = if is_behind_block before then Some k else None
first_of_block _ = None

-- both kinds of a block stand just before
abbrev pub is_behind_pair : List Token → Bool
is_behind_pair (Known (words.Kind l) ∷ before) = elim (first_of_block before) [ Some k ↦ true | None ↦ false ]
is_behind_pair _ = false

-- the blocks that are there, each by its two kinds
abbrev pub blocks_before : List Token → List (Kind × Kind)
blocks_before [] = []
blocks_before (Known (words.Kind l) ∷ before) =
    elim (first_of_block before) [ Some k ↦ (k, l) ∷ blocks_before before | None ↦ blocks_before before ]
blocks_before (token ∷ before) = blocks_before before

abbrev pub has_block : List Token → Kind → Kind → Bool
has_block before k l = list_any (λ pair. is_same_kind pair.0 k && is_same_kind pair.1 l) (blocks_before before)

-- the pair of kinds is declared and has no block
abbrev pub lacks_pair : List Token → Kind → Kind → Bool
lacks_pair before k l = declares before k && declares before l && not (has_block before k l)

abbrev pub lacks_pair_with : List Token → Kind → Bool
lacks_pair_with before k = list_any (lacks_pair before k) KINDS

abbrev pub lacks_some_pair : List Token → Bool
lacks_some_pair before = list_any (lacks_pair_with before) KINDS

-- the kinds of the block that goes on
abbrev pub this_block : List (Kind × Kind) → Option (Kind × Kind)
this_block [] = None
this_block (pair ∷ pairs) = Some pair

-- it may compare characters
abbrev pub may_name_chars : Option (Kind × Kind) → Bool
may_name_chars None = false
may_name_chars (Some pair) = compares_chars pair.0 pair.1

-- its operation that is transformed is of this kind
abbrev pub transforms : Option (Kind × Kind) → Kind → Bool
transforms None k = false
transforms (Some pair) k = is_same_kind pair.0 k

-- its cases so far
abbrev pub cases_before : List Token → ℕ
cases_before [] = 0
cases_before (Known words.Block ∷ before) = 0
cases_before (Known words.End ∷ before) = 0
cases_before (Known words.Case ∷ before) = cases_before before + 1
cases_before (token ∷ before) = cases_before before

-- the atoms of this case, each by its comparison, and its `true`
abbrev pub atoms_before : List Token → ℕ
atoms_before [] = 0
atoms_before (Known words.Case ∷ before) = 0
atoms_before (Known words.True ∷ before) = atoms_before before + 1
atoms_before (Comparison cmp ∷ before) = atoms_before before + 1
atoms_before (token ∷ before) = atoms_before before

-- an operand comes next
abbrev pub is_before_operand : List Token → Bool
is_before_operand (Known words.Case ∷ before) = true
is_before_operand (Known words.And ∷ before) = true
is_before_operand (Known words.Or ∷ before) = true
is_before_operand (Known words.Not ∷ before) = true
is_before_operand (Open ∷ before) = true
is_before_operand _ = false

-- the position, site or character that stands just before
abbrev pub thing_before : List Token → Option (Sort × Side)
thing_before (Known (words.Thing sort side) ∷ before) = Some (sort, side)
thing_before _ = None

-- the first side of an atom whose second side comes next
abbrev pub thing_compared : List Token → Option (Sort × Side)
thing_compared (Comparison cmp ∷ before) = thing_before before
thing_compared _ = None

-- an operand has just become whole: `true`, an atom, a number behind an atom, or parentheses
abbrev pub is_behind_operand : List Token → Bool
is_behind_operand (Known words.True ∷ before) = true
is_behind_operand (Known (words.Thing sort side) ∷ before) = elim (thing_compared before)
    [ Some first ↦ true | None ↦ false ]
is_behind_operand (Number n ∷ before) = true
is_behind_operand (Close ∷ before) = true
is_behind_operand _ = false

-- without the `not` before an operand that is whole: it has closed them
abbrev pub without_nots : List Token → List Token
without_nots (Known words.Not ∷ opened) = without_nots opened
without_nots opened = opened

-- the `(` and `not` that were opened and not closed when the last operand was begun, the innermost first; `and`, `or`
-- and `)` come behind a whole operand
abbrev pub opened_before : List Token → List Token
opened_before [] = []
opened_before (Open ∷ before) = Open ∷ opened_before before
opened_before (Known words.Not ∷ before) = Known words.Not ∷ opened_before before
opened_before (Known words.And ∷ before) = without_nots (opened_before before)
opened_before (Known words.Or ∷ before) = without_nots (opened_before before)
opened_before (Close ∷ before) = drop 1 (without_nots (opened_before before))
opened_before (Colon ∷ before) = []
opened_before (token ∷ before) = opened_before before

-- the `(` and `not` around the next token
abbrev pub nesting_before : List Token → ℕ
nesting_before before =
    length (if is_behind_operand before then without_nots (opened_before before) else opened_before before)

-- a result has just become whole: `nop`, a position, or a number behind one
abbrev pub is_behind_result : List Token → Bool
is_behind_result (Known words.Nop ∷ before) = true
is_behind_result (Known (words.Thing sort side) ∷ before) = true
is_behind_result (Number n ∷ before) = true
is_behind_result _ = false
