-- What is known of a state in which phrases themselves are kept: by which tokens it was reached, and
-- that what it keeps is within the limits.
use Rattle.fn_tokens.specs.declared.token.Token.TheVariants as tokens
use Rattle.std.proofs.Common.{◌≡◌, ℕ, zero, suc, ◌+◌, ◌≤◌, Bool, true, false, if◌then◌else◌, IsTrue, List, [], ◌∷◌}
use Rattle.std.proofs.Common.{◌++◌, length, map, count_by, Option, Some, None}
use Rattle.std.specs.List.{flat_map, list_all}
use Rattle.ot_model.specs.declared.op.Kind.{Kind}
use Rattle.ot_model.specs.declared.op.TheConstants.{KINDS}
use Rattle.ot_model.specs.declared.op.Mode.{Mode}
use Rattle.fn_rules.specs.declared.guard.Sort.TheVariants.{Pos}
use Rattle.fn_rules.specs.declared.guard.Tightness.{Tightness}
use Rattle.fn_rules.specs.declared.guard.Tightness.TheVariants.{Loose, Tight}
use Rattle.fn_rules.specs.declared.function.Head.{Head}
use Rattle.fn_rules.specs.Functions.{is_declared}
use Rattle.fn_rules.specs.Functions.{is_declared_pair}
use Rattle.fn_rules.specs.Building.{is_for}
use Rattle.fn_tokens.specs.declared.token.Token.{Token}
use Rattle.fn_tokens.specs.declared.token.Token.TheVariants.{Known, Number, Open, Colon, LineEnd, FileEnd}
use Rattle.fn_tokens.specs.declared.token.Word.TheVariants as words
use Rattle.fn_tokens.specs.declared.control.Written.TheVariants as written
use Rattle.fn_tokens.specs.declared.control.AfterLine.TheVariants as nexts
use Rattle.fn_tokens.specs.declared.control.Want.{Want}
use Rattle.fn_tokens.specs.declared.control.Want.TheVariants as wants
use Rattle.fn_tokens.specs.declared.control.Pairs.{Pairs}
use Rattle.fn_tokens.specs.declared.language.Language.{Language}
use Rattle.fn_tokens.specs.Kinds.{has_seen, declares_some}
use Rattle.fn_tokens.specs.Languages.{number_of, has_words}
use Rattle.fn_tokens.specs.Meaning.{Maker, may_compare, to_formulas}
use Rattle.fn_tokens.specs.Controls.{has_chars}
use Rattle.fn_grammar.specs.Print.{kind_tokens, head_tokens, first_lines}
use Rattle.fn_text.specs.Reader.{Nesting, State, blocks_of}
use Rattle.fn_grammar.specs.Grammar.{Phrase, Always, Compare, Shifted, Negated, Round, One, Both, Single, Either}
use Rattle.fn_grammar.specs.Grammar.{written_as, atoms_in, nesting_in, is_allowed_phrase, WrittenCase, WrittenBlock}
use Rattle.fn_grammar.specs.Grammar.{result_written_as, block_written_as, file_written_as, block_made}
use Rattle.fn_grammar.specs.Grammar.{is_allowed_result, is_allowed_block, is_allowed_file}

-- phrases are kept as they are
abbrev pub to_phrases : Maker Phrase WrittenCase WrittenBlock
to_phrases = record {
  always = Always;
  compared = λ sort left cmp. Compare sort left cmp;
  shifted = λ left cmp sign n. Shifted left cmp sign n;
  negated = λ u. Negated u;
  round = λ d. Round d;
  one = λ u. One u;
  both = λ c u. Both c u;
  single = λ c. Single c;
  either = λ d c. Either d c;
  cased = λ g result. record { guard = g; result = result };
  blocked = λ k l cases. record { first = k; second = l; cases = cases };
}

abbrev pub Phrases : Type 0
Phrases = State Phrase WrittenCase WrittenBlock

-- a phrase that may be missing: its tokens with the word behind it, its limits and its counts
abbrev pub front_of : {t : Tightness} → Token → Option (Phrase t) → List Token
front_of word None = []
front_of word (Some p) = written_as p ++ word ∷ []

abbrev pub allowed_part : {t : Tightness} → Bool → Option (Phrase t) → Bool
allowed_part chars None = true
allowed_part chars (Some p) = is_allowed_phrase chars p

abbrev pub atoms_part : {t : Tightness} → Option (Phrase t) → ℕ
atoms_part None = 0
atoms_part (Some p) = atoms_in p

abbrev pub nesting_part : {t : Tightness} → Option (Phrase t) → ℕ
nesting_part None = 0
nesting_part (Some p) = nesting_in p

abbrev pub nots_front : ℕ → List Token
nots_front zero = []
nots_front (suc n) = Known words.Not ∷ nots_front n

-- the tokens before an operand in its own parentheses, and with all that is around them
abbrev pub level_front : Nesting Phrase → List Token
level_front level =
    front_of (Known words.Or) level.any ++ front_of (Known words.And) level.all ++ nots_front level.nots

abbrev pub levels_front : List (Nesting Phrase) → List Token
levels_front [] = []
levels_front (level ∷ levels) = levels_front levels ++ level_front level ++ Open ∷ []

abbrev pub atoms_of_level : Nesting Phrase → ℕ
atoms_of_level level = atoms_part level.any + atoms_part level.all

abbrev pub atoms_of_levels : List (Nesting Phrase) → ℕ
atoms_of_levels [] = 0
atoms_of_levels (level ∷ levels) = atoms_of_levels levels + atoms_of_level level

-- the innermost parentheses
abbrev pub here : Phrases → Nesting Phrase
here s = record { outside = s.control.outside; nots = s.control.nots; any = s.any; all = s.all }

-- the tokens of a guard before its next operand
abbrev pub guard_front : Phrases → List Token
guard_front s = levels_front s.outer ++ level_front (here s)

-- the atoms before the next operand
abbrev pub atoms_before : Phrases → ℕ
atoms_before s = atoms_of_levels s.outer + atoms_of_level (here s)

-- what stands in parentheses is within the limits
pub record IsNesting (chars : Bool) (level : Nesting Phrase) : Type 0 where
  pub any_allowed : allowed_part chars level.any ≡ true
  pub all_allowed : allowed_part chars level.all ≡ true
  pub any_nested : level.outside + nesting_part level.any ≤ 32
  pub all_nested : level.outside + nesting_part level.all ≤ 32

-- as many `(` and `not` as are told stand around these parentheses
abbrev pub AreNestings : Bool → ℕ → List (Nesting Phrase) → Type 0
AreNestings chars outside [] = outside ≡ 0
AreNestings chars outside (level ∷ levels) =
    (outside ≡ level.outside + level.nots + 1) × IsNesting chars level × AreNestings chars level.outside levels

-- an open guard before its next operand
pub record IsGuard (chars : Bool) (level : Nesting Phrase) (outer : List (Nesting Phrase)) : Type 0 where
  pub inner : IsNesting chars level
  pub around : AreNestings chars level.outside outer
  pub depth : level.outside + level.nots ≤ 32

abbrev pub HasGuard : Phrases → Type 0
HasGuard s = IsGuard (has_chars s.control) (here s) s.outer

-- an operand behind that
pub record IsOperand (chars : Bool) (level : Nesting Phrase) (last : Phrase Tight) : Type 0 where
  pub last_allowed : is_allowed_phrase chars last ≡ true
  pub last_nested : level.outside + level.nots + nesting_in last ≤ 32

abbrev pub HasOperand : Phrases → Type 0
HasOperand s = IsOperand (has_chars s.control) (here s) s.last

-- no guard is open
pub record IsQuiet (level : Nesting Phrase) (outer : List (Nesting Phrase)) : Type 0 where
  pub any : level.any ≡ None
  pub all : level.all ≡ None
  pub nots : level.nots ≡ 0
  pub outside : level.outside ≡ 0
  pub outer_none : outer ≡ []

abbrev pub Rests : Phrases → Type 0
Rests s = IsQuiet (here s) s.outer

-- the head and blocks, of which each is for a pair of its own
pub record AreBlocks (language : Language) (head : Head) (begun : Bool) (seen : Pairs)
    (blocks : List WrittenBlock) : Type 0 where
  pub some_kind : declares_some head ≡ true
  pub speaks : has_words language head ≡ true
  pub counts : (k l : Kind)
      → count_by (is_for k l) (map (block_made to_formulas) blocks) ≡ (if has_seen seen k l then 1 else 0)
  pub declared : (k l : Kind) → has_seen seen k l ≡ true → is_declared_pair head k l ≡ true
  pub allowed : list_all is_allowed_block blocks ≡ true
  pub none : begun ≡ false → blocks ≡ []

abbrev pub HasBlocks : Phrases → Type 0
HasBlocks s = AreBlocks s.control.language s.control.head s.control.begun s.control.seen (blocks_of to_phrases s)

-- the tokens of the head and of the blocks with their cases
abbrev pub lines_of : Phrases → List Token
lines_of s = head_tokens s.control.language s.control.head ++ flat_map block_written_as (blocks_of to_phrases s)

-- before the kinds are declared
pub record IsUntold (begun : Bool) (seen : Pairs) (cases : List WrittenCase) (count : ℕ)
    (done : List WrittenBlock) : Type 0 where
  pub begun_not : begun ≡ false
  pub seen_none : (k l : Kind) → has_seen seen k l ≡ false
  pub done_none : done ≡ []
  pub counted : count ≡ length cases

abbrev pub NoBlocks : Phrases → Type 0
NoBlocks s = IsUntold s.control.begun s.control.seen s.cases s.control.cases s.done

-- a head that says its mode alone
abbrev pub head_for : Mode → Head
head_for mode =
    record { mode = mode; ins = false; del = false; upd = false; sites_differ = false; chars_differ = false }

-- the head without what is assumed
abbrev pub no_assumptions : Head → Head
no_assumptions head = record head { sites_differ = false; chars_differ = false }

abbrev pub Untold : Phrases → Type 0
Untold s = NoBlocks s × Rests s × (s.control.head ≡ head_for s.control.head.mode)

-- between lines, and in the line of a block
abbrev pub Between : Phrases → Type 0
Between s = HasBlocks s × Rests s × (s.control.cases ≡ length s.cases)

-- in the line of a case
pub record IsCase (begun : Bool) (cases : List WrittenCase) (count : ℕ) : Type 0 where
  pub begun_so : begun ≡ true
  pub counted : count ≡ length cases + 1
  pub room : count ≤ 64

abbrev pub InCase : Phrases → Type 0
InCase s = HasBlocks s × IsCase s.control.begun s.cases s.control.cases

-- in the guard of a case, with so many atoms of it told
abbrev pub InGuard : Phrases → ℕ → Type 0
InGuard s atoms = InCase s × HasGuard s × (s.control.atoms ≡ atoms) × (s.control.atoms ≤ 16)

-- behind an operand of a guard
abbrev pub BehindOperand : Phrases → Type 0
BehindOperand s = InGuard s (atoms_before s + atoms_in s.last) × HasOperand s

-- a guard that was read
pub record IsRead (chars : Bool) (guard : Phrase Loose) : Type 0 where
  pub allowed : is_allowed_phrase chars guard ≡ true
  pub few : atoms_in guard ≤ 16
  pub shallow : nesting_in guard ≤ 32

-- behind the colon of a case
abbrev pub BehindColon : Phrases → Type 0
BehindColon s = InCase s × Rests s × IsRead (has_chars s.control) s.guard

-- the tokens up to the guard of a case, and up to its result
abbrev pub case_front : Phrases → List Token → List Token
case_front s guard = lines_of s ++ Known words.Case ∷ guard

abbrev pub result_front : Phrases → List Token → List Token
result_front s result = case_front s (written_as s.guard ++ Colon ∷ result)

-- behind the word `end`
abbrev pub Ended : Phrases → List Token → Type 0
Ended s ts =
    IsTrue (is_allowed_file s.control.language s.control.head s.done)
    × (ts ≡ file_written_as s.control.language s.control.head s.done)

-- what is known of a state where something is wanted, behind some tokens
abbrev pub Reached : Phrases → Want → List Token → Type 0
Reached s wants.Otfn ts = Untold s × (ts ≡ [])
Reached s wants.Version ts = Untold s × (ts ≡ Known words.Otfn ∷ [])
Reached s (wants.LineEnd nexts.Text) ts =
    Untold s × (ts ≡ Known words.Otfn ∷ Number (number_of s.control.language) ∷ [])
Reached s wants.Text ts = Untold s × (ts ≡ Known words.Otfn ∷ Number (number_of s.control.language) ∷ LineEnd ∷ [])
Reached s wants.Mode ts =
    Untold s × (ts ≡ Known words.Otfn ∷ Number (number_of s.control.language) ∷ LineEnd ∷ Known words.Text ∷ [])
Reached s (wants.LineEnd nexts.Kinds) ts =
    Untold s
    × (ts ≡ Known words.Otfn ∷ Number (number_of s.control.language) ∷ LineEnd ∷ Known words.Text
    ∷ Known (words.Mode s.control.head.mode) ∷ [])
Reached s wants.Kinds ts = Untold s × (ts ≡ first_lines s.control.language s.control.head.mode)
Reached s wants.NextKind ts =
    NoBlocks s × Rests s × (s.control.head ≡ no_assumptions s.control.head)
    × (ts ≡ first_lines s.control.language s.control.head.mode ++ Known words.Kinds
    ∷ flat_map (kind_tokens s.control.head) KINDS)
    × (has_words s.control.language s.control.head ≡ true)
Reached s (wants.LineEnd nexts.Line) ts = Between s × (ts ++ LineEnd ∷ [] ≡ lines_of s)
Reached s (wants.LineEnd nexts.File) ts = Ended s (ts ++ LineEnd ∷ FileEnd ∷ [])
Reached s wants.Line ts = Between s × (ts ≡ lines_of s)
Reached s wants.Assumed ts =
    Between s × (s.control.begun ≡ false) × (s.control.head.chars_differ ≡ false)
    × (ts ≡ lines_of s ++ Known words.Assume ∷ [])
Reached s wants.Differ ts = Between s × (ts ++ Known words.Differ ∷ LineEnd ∷ [] ≡ lines_of s)
Reached s wants.BlockFirst ts = Between s × (ts ≡ lines_of s ++ Known words.Block ∷ [])
Reached s (wants.BlockSecond k) ts =
    Between s × (is_declared s.control.head k ≡ true)
    × (ts ≡ lines_of s ++ Known words.Block ∷ Known (words.Kind k) ∷ [])
Reached s wants.BlockEnd ts = Between s × (ts ++ LineEnd ∷ [] ≡ lines_of s)
Reached s wants.Operand ts = InGuard s (atoms_before s) × (ts ≡ case_front s (guard_front s))
Reached s (wants.Comparison sort left) ts =
    InGuard s (atoms_before s + 1) × (may_compare (has_chars s.control) sort ≡ true)
    × (ts ≡ case_front s (guard_front s ++ Known (words.Thing sort left) ∷ []))
Reached s (wants.Right sort left cmp) ts =
    InGuard s (atoms_before s + 1) × (may_compare (has_chars s.control) sort ≡ true)
    × (ts ≡ case_front s (guard_front s ++ Known (words.Thing sort left) ∷ tokens.Comparison cmp ∷ []))
Reached s (wants.Offset left cmp) ts =
    BehindOperand s × (s.last ≡ Compare Pos left cmp) × (ts ≡ case_front s (guard_front s ++ written_as s.last))
Reached s (wants.Number left cmp sign) ts =
    BehindOperand s × (s.last ≡ Compare Pos left cmp)
    × (ts ≡ case_front s (guard_front s ++ written_as s.last ++ tokens.Sign sign ∷ []))
Reached s wants.Operator ts = BehindOperand s × (ts ≡ case_front s (guard_front s ++ written_as s.last))
Reached s wants.Result ts = BehindColon s × (ts ≡ result_front s [])
Reached s wants.ResultPosition ts =
    BehindColon s × (ts ≡ result_front s (Known (words.Kind s.control.first) ∷ []))
Reached s (wants.ResultOffset side) ts =
    BehindColon s × (ts ≡ result_front s (result_written_as s.control.first (written.At side)))
Reached s (wants.ResultNumber side sign) ts =
    BehindColon s × (ts ≡ result_front s (result_written_as s.control.first (written.At side) ++ tokens.Sign sign ∷ []))
Reached s (wants.ResultEnd result) ts =
    BehindColon s × (is_allowed_result result ≡ true) × (ts ≡ result_front s (result_written_as s.control.first result))
Reached s wants.FileEnd ts = Ended s (ts ++ FileEnd ∷ [])
Reached s wants.Nothing ts = Ended s ts
