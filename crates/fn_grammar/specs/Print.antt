-- The canonical text of a function: the tokens of its lines, and the bytes of tokens.
use Rattle.std.specs.Prelude.{ℕ, zero, suc, ℤ, pos, negsuc, Bool, true, false, if◌then◌else◌, List, [], ◌∷◌, ◌++◌}
use Rattle.std.specs.List.{flat_map}
use Rattle.ot_model.specs.declared.op.Mode.{Mode}
use Rattle.ot_model.specs.declared.op.Kind.{Kind}
use Rattle.ot_model.specs.declared.op.TheConstants.{KINDS}
use Rattle.fn_rules.specs.declared.guard.Sort.TheVariants.{Pos}
use Rattle.fn_rules.specs.declared.guard.Atom.{Atom}
use Rattle.fn_rules.specs.declared.function.Res.{Res}
use Rattle.fn_rules.specs.declared.function.Res.TheVariants as results
use Rattle.fn_rules.specs.declared.function.Head.{Head}
use Rattle.fn_rules.specs.Formulas as formulas
use Rattle.fn_rules.specs.Formulas.{Formula, other_side}
use Rattle.fn_rules.specs.Functions.{GuardedCase, Function, cases_of, is_declared, is_declared_pair}
use Rattle.fn_tokens.specs.declared.token.Token.{Token}
use Rattle.fn_tokens.specs.declared.token.Sign.TheVariants.{Plus, Minus}
use Rattle.fn_tokens.specs.declared.token.Token.TheVariants.{Known, Number, Comparison, Sign, Open, Close, Colon}
use Rattle.fn_tokens.specs.declared.token.Token.TheVariants.{LineEnd}
use Rattle.fn_tokens.specs.declared.token.Word.{Word}
use Rattle.fn_tokens.specs.declared.token.Word.TheVariants as words
use Rattle.fn_tokens.specs.Spelling.{spelled}
use Rattle.fn_tokens.specs.declared.language.Language.{Language}
use Rattle.fn_tokens.specs.Languages.{number_of, language_for}
use Rattle.fn_rules.specs.declared.guard.Tightness.{Tightness}
use Rattle.fn_rules.specs.declared.guard.Tightness.TheVariants.{Loose, Joined, Tight}

-- an offset with its sign, and nothing for 0
abbrev pub offset_tokens : ℤ → List Token
offset_tokens (pos zero) = []
offset_tokens (pos (suc n)) = Sign Plus ∷ Number (suc n) ∷ []
offset_tokens (negsuc n) = Sign Minus ∷ Number (suc n) ∷ []

abbrev pub atom_tokens : Atom → List Token
atom_tokens a =
    Known (words.Thing a.sort a.left) ∷ Comparison a.cmp ∷ Known (words.Thing a.sort (other_side a.left))
    ∷ offset_tokens a.k

-- in parentheses, where they are needed
abbrev pub enclosed : Bool → List Token → List Token
enclosed true tokens = Open ∷ (tokens ++ Close ∷ [])
enclosed false tokens = tokens

-- an `and` needs parentheses as an operand of `not` and on the right of `and`
abbrev pub and_is_enclosed : Tightness → Bool
and_is_enclosed Loose = false
and_is_enclosed Joined = false
and_is_enclosed Tight = true

-- an `or` needs parentheses as an operand of `not` or `and` and on the right of `or`
abbrev pub or_is_enclosed : Tightness → Bool
or_is_enclosed Loose = false
or_is_enclosed Joined = true
or_is_enclosed Tight = true

-- a guard at a place of that tightness, with the fewest parentheses; operators group from the left
abbrev pub guard_tokens : Tightness → Formula → List Token
guard_tokens at formulas.Always = Known words.True ∷ []
guard_tokens at (formulas.Compare atom) = atom_tokens atom
guard_tokens at (formulas.And g h) =
    enclosed (and_is_enclosed at) (guard_tokens Joined g ++ Known words.And ∷ guard_tokens Tight h)
guard_tokens at (formulas.Or g h) =
    enclosed (or_is_enclosed at) (guard_tokens Loose g ++ Known words.Or ∷ guard_tokens Joined h)
guard_tokens at (formulas.Not g) = Known words.Not ∷ guard_tokens Tight g

-- what the first operation, which is of this kind, becomes
abbrev pub result_tokens : Kind → Res → List Token
result_tokens kind (results.Keep base k) = Known (words.Kind kind) ∷ Known (words.Thing Pos base) ∷ offset_tokens k
result_tokens kind results.Nop = Known words.Nop ∷ []

-- the line of a case whose first operation is of this kind
abbrev pub case_tokens : Kind → GuardedCase → List Token
case_tokens kind c = Known words.Case ∷ guard_tokens Loose c.guard ++ Colon ∷ result_tokens kind c.res ++ LineEnd ∷ []

-- a case in its line, whose first operation is of this kind, without the word `case` and the line's end
abbrev pub clause_tokens : Kind → GuardedCase → List Token
clause_tokens kind c = guard_tokens Loose c.guard ++ Colon ∷ result_tokens kind c.res

-- the lines of a block
abbrev pub block_tokens : Kind → Kind → List GuardedCase → List Token
block_tokens first second cases =
    Known words.Block ∷ Known (words.Kind first) ∷ Known (words.Kind second) ∷ LineEnd
    ∷ flat_map (case_tokens first) cases

-- tokens that are there if the test is true
abbrev pub present : Bool → List Token → List Token
present test tokens = if test then tokens else []

-- the line of what is assumed to differ
abbrev pub assumption_tokens : Bool → Word → List Token
assumption_tokens assumed what =
    present assumed (Known words.Assume ∷ Known what ∷ Known words.Differ ∷ LineEnd ∷ [])

-- the lines of the language and the mode
abbrev pub first_lines : Language → Mode → List Token
first_lines language mode =
    Known words.Otfn ∷ Number (number_of language) ∷ LineEnd ∷ Known words.Text ∷ Known (words.Mode mode) ∷ LineEnd ∷ []

-- a kind, if it is declared
abbrev pub kind_tokens : Head → Kind → List Token
kind_tokens head k = present (is_declared head k) (Known (words.Kind k) ∷ [])

-- the lines of a function before its blocks
unfoldable pub head_tokens : Language → Head → List Token
head_tokens language head =
    first_lines language head.mode
    ++ Known words.Kinds ∷ flat_map (kind_tokens head) KINDS
    ++ LineEnd ∷ []
    ++ assumption_tokens head.sites_differ words.Sites
    ++ assumption_tokens head.chars_differ words.Chars

-- the block of two kinds, if both are declared
unfoldable pub declared_block : Function → Kind → Kind → List Token
declared_block f first second =
    present (is_declared_pair f.head first second) (block_tokens first second (cases_of f first second))

-- the blocks whose first kind this is
abbrev pub blocks_with : Function → Kind → List Token
blocks_with f first = flat_map (declared_block f first) KINDS

-- the tokens of a function's canonical text
abbrev pub function_tokens : Function → List Token
function_tokens f =
    head_tokens (language_for f.head) f.head
    ++ flat_map (blocks_with f) KINDS
    ++ Known words.End ∷ LineEnd ∷ []

-- the canonical text of a function
abbrev pub printed : Function → List ℕ
printed f = spelled (function_tokens f)

-- the canonical text of a case whose first operation is of this kind, without the word `case` and the line's end
abbrev pub printed_case : Kind → GuardedCase → List ℕ
printed_case kind c = spelled (clause_tokens kind c)
