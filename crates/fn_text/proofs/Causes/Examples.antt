-- Causes by hand, from the table of docs/LANGUAGE.md: behind the tokens of a front, in the order in which they
-- are written, the next token is refused for this cause.
use Rattle.std.proofs.Common.{◌≡◌, ℕ, zero, suc, List, [], ◌∷◌, ◌++◌, map, reverse, refl}
use Rattle.ot_model.specs.declared.op.Kind.TheVariants.{Ins, Del, Upd}
use Rattle.ot_model.specs.declared.op.Mode.TheVariants.{Plain}
use Rattle.fn_rules.specs.declared.guard.Sort.TheVariants.{Pos, Site, Char}
use Rattle.fn_rules.specs.declared.guard.Side.TheVariants.{First, Second}
use Rattle.fn_rules.specs.declared.guard.Cmp.TheVariants.{Lt}
use Rattle.fn_tokens.specs.declared.token.Token.{Token}
use Rattle.fn_tokens.specs.declared.token.Token.TheVariants as tokens
use Rattle.fn_tokens.specs.declared.token.Token.TheVariants.{Number, Open, Close, Colon, LineEnd}
use Rattle.fn_tokens.specs.declared.token.Word.TheVariants as words
use Rattle.fn_tokens.specs.declared.token.Sign.TheVariants as signs
use Rattle.fn_tokens.specs.declared.fault.FaultKind.{FaultKind}
use Rattle.fn_tokens.specs.declared.fault.FaultKind.TheVariants as faults
use Rattle.fn_text.specs.Causes.{cause_of}

abbrev word_true : Token
word_true = tokens.Known words.True

abbrev word_and : Token
word_and = tokens.Known words.And

abbrev word_not : Token
word_not = tokens.Known words.Not

abbrev word_case : Token
word_case = tokens.Known words.Case

abbrev word_block : Token
word_block = tokens.Known words.Block

abbrev word_end : Token
word_end = tokens.Known words.End

abbrev ins : Token
ins = tokens.Known (words.Kind Ins)

abbrev del : Token
del = tokens.Known (words.Kind Del)

abbrev upd : Token
upd = tokens.Known (words.Kind Upd)

abbrev nop : Token
nop = tokens.Known words.Nop

abbrev p1 : Token
p1 = tokens.Known (words.Thing Pos First)

abbrev p2 : Token
p2 = tokens.Known (words.Thing Pos Second)

abbrev s1 : Token
s1 = tokens.Known (words.Thing Site First)

abbrev s2 : Token
s2 = tokens.Known (words.Thing Site Second)

abbrev c1 : Token
c1 = tokens.Known (words.Thing Char First)

abbrev c2 : Token
c2 = tokens.Known (words.Thing Char Second)

abbrev less : Token
less = tokens.Comparison Lt

abbrev plus : Token
plus = tokens.Sign signs.Plus

abbrev minus : Token
minus = tokens.Sign signs.Minus

abbrev version_line : List Token
version_line = tokens.Known words.Otfn ∷ Number 1 ∷ LineEnd ∷ []

-- the lines up to the kinds, for these kinds, in the language of this number, and in the first one
abbrev head_in : ℕ → List Token → List Token
head_in number names =
    tokens.Known words.Otfn ∷ Number number ∷ LineEnd
    ∷ tokens.Known words.Text ∷ tokens.Known (words.Mode Plain) ∷ LineEnd ∷ tokens.Known words.Kinds
    ∷ (names ++ LineEnd ∷ [])

abbrev head : List Token → List Token
head names = head_in 1 names

-- the first line of a block
abbrev block : Token → Token → List Token
block k l = word_block ∷ k ∷ l ∷ LineEnd ∷ []

-- the lines up to the first case of a block of insertions, of deletions, of one over the other
abbrev inserts : List Token
inserts = head (ins ∷ []) ++ block ins ins

abbrev deletes : List Token
deletes = head (del ∷ []) ++ block del del

abbrev both : List Token
both = head (ins ∷ del ∷ [])

abbrev over : List Token
over = both ++ block ins del

-- tokens again and again
abbrev times : ℕ → List Token → List Token
times zero ts = []
times (suc n) ts = ts ++ times n ts

-- a case up to the operand behind so many atoms and `true`
abbrev guard_of : ℕ → List Token
guard_of n = word_case ∷ times n (word_true ∷ word_and ∷ [])

-- a table: some tokens behind a front, the next one, and the cause for which it is refused
abbrev Told : List Token → List (List Token × Token × FaultKind) → Type 0
Told front rows = map (λ row. cause_of (reverse (front ++ row.0)) row.1) rows ≡ map (λ row. row.2) rows

-- byte and word, before anything else that could be said
byte_and_word : Told inserts
    (([], tokens.Byte, faults.Byte)
    ∷ ([], tokens.Unknown, faults.Word)
    ∷ (guard_of 16, tokens.Byte, faults.Byte)
    ∷ (guard_of 16, tokens.Unknown, faults.Word)
    ∷ (word_case ∷ times 32 (Open ∷ []), tokens.Byte, faults.Byte)
    ∷ (word_block ∷ ins ∷ [], tokens.Byte, faults.Byte)
    ∷ (word_block ∷ ins ∷ [], tokens.Unknown, faults.Word)
    ∷ [])
byte_and_word = refl

-- a character that may not be compared is `sort`, also as the first token of a 17th atom
sort_before_atoms : Told deletes
    ((guard_of 16, c1, faults.Sort)
    ∷ (guard_of 16, c2, faults.Sort)
    ∷ (guard_of 15 ++ word_true ∷ tokens.Known words.Or ∷ [], c1, faults.Sort)
    ∷ (guard_of 16 ++ word_not ∷ [], c2, faults.Sort)
    ∷ (guard_of 16 ++ Open ∷ [], c1, faults.Sort)
    ∷ (word_case ∷ times 16 (s1 ∷ less ∷ s2 ∷ word_and ∷ []), c1, faults.Sort)
    ∷ (guard_of 15, c1, faults.Sort)
    ∷ (guard_of 16, p1, faults.Atoms)
    ∷ (guard_of 16, s2, faults.Atoms)
    ∷ (guard_of 16, word_true, faults.Atoms)
    ∷ (guard_of 16 ++ word_not ∷ [], p2, faults.Atoms)
    ∷ (word_case ∷ times 16 (p1 ∷ less ∷ p2 ∷ word_and ∷ []), word_true, faults.Atoms)
    ∷ [])
sort_before_atoms = refl

-- one that may be compared is `atoms` there
atoms_of_characters : Told inserts
    ((guard_of 16, c1, faults.Atoms)
    ∷ (guard_of 16 ++ Open ∷ [], c2, faults.Atoms)
    ∷ (guard_of 15 ++ c1 ∷ less ∷ c2 ∷ word_and ∷ [], c1, faults.Atoms)
    ∷ (guard_of 15 ++ c1 ∷ less ∷ [], c1, faults.Sort)
    ∷ (guard_of 15 ++ c1 ∷ less ∷ [], s2, faults.Sort)
    ∷ (guard_of 15 ++ c1 ∷ less ∷ [], word_true, faults.Expected)
    ∷ (guard_of 15 ++ p1 ∷ [], p2, faults.Expected)
    ∷ [])
atoms_of_characters = refl

-- the second side of an atom, and where characters may not be named
sorts : Told over
    ((word_case ∷ p1 ∷ less ∷ [], p1, faults.Sort)
    ∷ (word_case ∷ p1 ∷ less ∷ [], s2, faults.Sort)
    ∷ (word_case ∷ s2 ∷ less ∷ [], s2, faults.Sort)
    ∷ (word_case ∷ p1 ∷ less ∷ [], c2, faults.Sort)
    ∷ (word_case ∷ p1 ∷ [], c1, faults.Sort)
    ∷ (guard_of 0 ++ word_true ∷ Colon ∷ [], c1, faults.Sort)
    ∷ (word_case ∷ word_true ∷ Colon ∷ ins ∷ [], c2, faults.Sort)
    ∷ (word_case ∷ word_true ∷ Colon ∷ nop ∷ [], c2, faults.Sort)
    ∷ ([], c1, faults.Expected)
    ∷ (word_case ∷ word_true ∷ Colon ∷ nop ∷ LineEnd ∷ [], c1, faults.Expected)
    ∷ (word_block ∷ [], c1, faults.Expected)
    ∷ (word_block ∷ del ∷ [], c1, faults.Expected)
    ∷ (word_block ∷ del ∷ del ∷ [], c1, faults.Sort)
    ∷ (word_block ∷ del ∷ del ∷ [], p1, faults.Expected)
    ∷ (word_case ∷ word_true ∷ [], s1, faults.Expected)
    ∷ [])
sorts = refl

-- the second kind of a block: not declared, there already, or no kind; a third one
double_and_kind : Told (head (ins ∷ []) ++ block ins ins)
    ((word_block ∷ ins ∷ [], ins, faults.Double)
    ∷ (word_block ∷ ins ∷ [], del, faults.Kind)
    ∷ (word_block ∷ [], del, faults.Kind)
    ∷ (word_block ∷ ins ∷ [], p1, faults.Expected)
    ∷ (word_block ∷ ins ∷ [], LineEnd, faults.Expected)
    ∷ (word_block ∷ ins ∷ [], tokens.Byte, faults.Byte)
    ∷ (guard_of 0 ++ word_true ∷ Colon ∷ nop ∷ LineEnd ∷ word_block ∷ ins ∷ [], ins, faults.Double)
    ∷ [])
double_and_kind = refl

double_of_both : Told (both ++ block ins del ++ block del ins)
    ((word_block ∷ ins ∷ [], del, faults.Double)
    ∷ (word_block ∷ del ∷ [], ins, faults.Double)
    ∷ (block del del ++ word_block ∷ del ∷ [], del, faults.Double)
    ∷ (block ins ins ++ word_block ∷ ins ∷ [], ins, faults.Double)
    ∷ (word_block ∷ del ∷ del ∷ [], ins, faults.Expected)
    ∷ (word_block ∷ ins ∷ ins ∷ [], del, faults.Expected)
    ∷ [])
double_of_both = refl

-- a third kind, and a kind of the line `kinds`
kinds_of_lines : Told (head (del ∷ []))
    ((word_block ∷ del ∷ del ∷ [], ins, faults.Kind)
    ∷ (word_block ∷ del ∷ del ∷ [], del, faults.Expected)
    ∷ (word_block ∷ [], ins, faults.Kind)
    ∷ (word_block ∷ del ∷ [], ins, faults.Kind)
    ∷ ([], ins, faults.Expected)
    ∷ (block del del, ins, faults.Expected)
    ∷ [])
kinds_of_lines = refl

-- a kind in a result: `result`, whether it is declared or not, until the result is whole
results : Told (over ++ guard_of 0 ++ word_true ∷ Colon ∷ [])
    (([], del, faults.Outcome)
    ∷ (ins ∷ [], del, faults.Outcome)
    ∷ (ins ∷ p1 ∷ plus ∷ [], del, faults.Outcome)
    ∷ (ins ∷ [], ins, faults.Expected)
    ∷ (ins ∷ p1 ∷ plus ∷ [], ins, faults.Expected)
    ∷ (nop ∷ [], del, faults.Expected)
    ∷ (ins ∷ p1 ∷ [], del, faults.Expected)
    ∷ (ins ∷ p1 ∷ minus ∷ Number 7 ∷ [], del, faults.Expected)
    ∷ (nop ∷ LineEnd ∷ [], del, faults.Expected)
    ∷ [])
results = refl

undeclared_results : Told (deletes ++ guard_of 0 ++ word_true ∷ Colon ∷ [])
    (([], ins, faults.Outcome)
    ∷ (del ∷ [], ins, faults.Outcome)
    ∷ (del ∷ p2 ∷ minus ∷ [], ins, faults.Outcome)
    ∷ (del ∷ p2 ∷ [], ins, faults.Expected)
    ∷ [])
undeclared_results = refl

-- `upd`: no word before the number was read, nor in the first language
updates : Told []
    (([], upd, faults.Word)
    ∷ (tokens.Known words.Otfn ∷ [], upd, faults.Word)
    ∷ (tokens.Known words.Otfn ∷ Number 1 ∷ [], upd, faults.Word)
    ∷ (tokens.Known words.Otfn ∷ Number 2 ∷ [], upd, faults.Expected)
    ∷ (head (ins ∷ del ∷ []) ++ word_block ∷ ins ∷ [], upd, faults.Word)
    ∷ (head_in 2 (ins ∷ del ∷ []) ++ word_block ∷ ins ∷ [], upd, faults.Kind)
    ∷ (inserts ++ guard_of 0 ++ word_true ∷ Colon ∷ [], upd, faults.Word)
    ∷ (head_in 2 (ins ∷ []) ++ block ins ins ++ guard_of 0 ++ word_true ∷ Colon ∷ [], upd, faults.Outcome)
    ∷ (head_in 2 (ins ∷ upd ∷ []) ++ word_block ∷ ins ∷ upd ∷ [], c1, faults.Expected)
    ∷ (head_in 2 (del ∷ upd ∷ []) ++ word_block ∷ upd ∷ del ∷ [], c1, faults.Sort)
    ∷ (head_in 2 (upd ∷ []) ++ block upd upd ++ word_block ∷ upd ∷ [], upd, faults.Double)
    ∷ (head_in 2 (ins ∷ upd ∷ []) ++ block ins ins, word_end, faults.Missing)
    ∷ [])
updates = refl

-- numbers: the version, offsets, and elsewhere
numbers : Told []
    ((tokens.Known words.Otfn ∷ [], Number 0, faults.Version)
    ∷ (tokens.Known words.Otfn ∷ [], Number 3, faults.Version)
    ∷ (tokens.Known words.Otfn ∷ [], Number 100, faults.Version)
    ∷ (tokens.Known words.Otfn ∷ Number 1 ∷ [], Number 100, faults.Expected)
    ∷ ([], Number 1, faults.Expected)
    ∷ (inserts ++ word_case ∷ p1 ∷ less ∷ p2 ∷ plus ∷ [], Number 100, faults.Offset)
    ∷ (inserts ++ word_case ∷ p1 ∷ less ∷ p2 ∷ minus ∷ [], Number 100, faults.Offset)
    ∷ (inserts ++ guard_of 0 ++ word_true ∷ Colon ∷ ins ∷ p1 ∷ plus ∷ [], Number 100, faults.Offset)
    ∷ (inserts ++ word_case ∷ p1 ∷ less ∷ p2 ∷ [], Number 100, faults.Expected)
    ∷ (inserts ++ word_case ∷ p1 ∷ less ∷ [], Number 100, faults.Expected)
    ∷ (inserts ++ guard_of 0 ++ word_true ∷ Colon ∷ ins ∷ [], Number 100, faults.Expected)
    ∷ [])
numbers = refl

-- the word `end` while a block is missing
ends : Told both
    (([], word_end, faults.Missing)
    ∷ (block ins ins ++ block ins del ++ block del ins, word_end, faults.Missing)
    ∷ (block ins ins, word_end, faults.Missing)
    ∷ (block ins ins ++ word_case ∷ [], word_end, faults.Expected)
    ∷ (word_block ∷ [], word_end, faults.Expected)
    ∷ (
      block ins ins ++ block ins del ++ block del ins ++ block del del ++ word_end ∷ LineEnd ∷ [],
      word_end,
      faults.Expected,
    )
    ∷ [])
ends = refl

-- the word `end` before the kinds are declared
early_ends : Told []
    (([], word_end, faults.Expected)
    ∷ (version_line, word_end, faults.Expected)
    ∷ (
      version_line ++ tokens.Known words.Text ∷ tokens.Known (words.Mode Plain) ∷ LineEnd ∷ [],
      word_end,
      faults.Expected,
    )
    ∷ [])
early_ends = refl

abbrev one_case : List Token
one_case = word_case ∷ word_true ∷ Colon ∷ nop ∷ LineEnd ∷ []

-- the word `case`
cases : Told (head (ins ∷ []))
    ((block ins ins ++ times 64 one_case, word_case, faults.Cases)
    ∷ ([], word_case, faults.Expected)
    ∷ (block ins ins ++ word_case ∷ [], word_case, faults.Expected)
    ∷ (block ins ins ++ times 64 one_case ++ word_end ∷ LineEnd ∷ [], word_case, faults.Expected)
    ∷ (word_block ∷ ins ∷ ins ∷ [], word_case, faults.Expected)
    ∷ (block ins ins ++ times 63 one_case ++ word_case ∷ [], word_case, faults.Expected)
    ∷ [])
cases = refl

abbrev nots : List Token
nots = word_case ∷ times 32 (word_not ∷ [])

-- `(` and `not` inside 32 others; a `not` is closed by a whole operand, and one that an offset goes on is not whole
nestings : Told inserts
    ((nots, Open, faults.Nesting)
    ∷ (nots, word_not, faults.Nesting)
    ∷ (word_case ∷ times 32 (Open ∷ []), Open, faults.Nesting)
    ∷ (nots ++ p1 ∷ [], Open, faults.Nesting)
    ∷ (nots ++ p1 ∷ less ∷ [], word_not, faults.Nesting)
    ∷ (nots ++ p1 ∷ less ∷ p2 ∷ [], Open, faults.Expected)
    ∷ (nots ++ p1 ∷ less ∷ p2 ∷ plus ∷ [], Open, faults.Nesting)
    ∷ (nots ++ p1 ∷ less ∷ p2 ∷ plus ∷ Number 7 ∷ [], Open, faults.Expected)
    ∷ (nots ++ word_true ∷ [], Open, faults.Expected)
    ∷ (word_case ∷ times 32 (Open ∷ []) ++ word_true ∷ [], Open, faults.Nesting)
    ∷ (word_case ∷ times 32 (Open ∷ []) ++ word_true ∷ Close ∷ [], Open, faults.Expected)
    ∷ (word_case ∷ times 16 (Open ∷ word_not ∷ []) ++ word_true ∷ word_and ∷ word_not ∷ [], word_not, faults.Nesting)
    ∷ (nots ++ word_true ∷ Colon ∷ [], Open, faults.Expected)
    ∷ (word_case ∷ times 31 (word_not ∷ []) ++ Open ∷ word_true ∷ Close ∷ [], Open, faults.Expected)
    ∷ [])
nestings = refl
