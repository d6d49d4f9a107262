-- Which tokens can go on: some file begins with them.
use Rattle.std.specs.Prelude.{◌≡◌, ℕ, ◌+◌, ◌≤◌, Bool, false, true, not, ◌&&◌, ◌||◌, if◌then◌else◌, nat_le, nat_lt}
use Rattle.std.specs.Prelude.{nat_eq, IsTrue}
use Rattle.std.specs.Prelude.{count_by, List, ◌++◌, length, map, Ok}
use Rattle.std.specs.List.{flat_map, list_all}
use Rattle.fn_rules.specs.declared.function.Head.{Head}
use Rattle.fn_rules.specs.Functions.{GuardedCase}
use Rattle.fn_rules.specs.Validity.{compares_chars}
use Rattle.fn_rules.specs.Building.{PairCases, has_own_blocks}
use Rattle.fn_rules.specs.declared.limits.TheConstants.{MAX_CASES, MAX_ATOMS, MAX_NESTING}
use Rattle.fn_tokens.specs.declared.token.Token.{Token}
use Rattle.fn_tokens.specs.declared.token.Placed.{Placed}
use Rattle.fn_tokens.specs.Tokens.{bare}
use Rattle.fn_tokens.specs.declared.control.Want.{Want}
use Rattle.fn_tokens.specs.declared.control.Want.TheVariants as wants
use Rattle.fn_tokens.specs.declared.control.Control.{Control}
use Rattle.fn_tokens.specs.declared.language.Language.{Language}
use Rattle.fn_tokens.specs.Languages.{has_words}
use Rattle.fn_tokens.specs.Meaning.{Formulas, to_formulas}
use Rattle.fn_tokens.specs.Kinds.{declares_some}
use Rattle.fn_tokens.specs.Controls.{lacks_with, lacks_block}
use Rattle.fn_text.specs.Reader.{State, first_state}
use Rattle.fn_text.specs.Theorems.{state_behind}
use Rattle.fn_grammar.specs.Grammar.{WrittenCase, WrittenBlock, atoms_in, nesting_in, is_allowed_phrase}
use Rattle.fn_grammar.specs.Grammar.{is_allowed_result}
use Rattle.fn_grammar.specs.Grammar.{file_written_as}
use Rattle.fn_grammar.specs.Grammar.{block_made}

-- the limits of the grammar, with so many atoms in a case
abbrev pub is_allowed_case_with : ℕ → Bool → WrittenCase → Bool
is_allowed_case_with atoms chars c =
    is_allowed_phrase chars c.guard && nat_le (atoms_in c.guard) atoms && nat_le (nesting_in c.guard) MAX_NESTING &&
    is_allowed_result c.result

abbrev pub is_allowed_block_with : ℕ → WrittenBlock → Bool
is_allowed_block_with atoms block =
    nat_le (length block.cases) MAX_CASES && list_all (is_allowed_case_with atoms
    (compares_chars block.first block.second)) block.cases

abbrev pub is_allowed_file_with : ℕ → Language → Head → List WrittenBlock → Bool
is_allowed_file_with atoms language head blocks =
    declares_some head && has_own_blocks head (map (block_made to_formulas) blocks) && list_all
    (is_allowed_block_with atoms) blocks
    && has_words language head

-- the cases of blocks that have more atoms than a case may have
abbrev pub cases_above : List WrittenBlock → ℕ
cases_above blocks = count_by (λ c. nat_lt MAX_ATOMS (atoms_in c.guard)) (flat_map (λ block. block.cases) blocks)

-- some file begins with these tokens, within the limits, but that so many cases have so many atoms more
pub record BeginsFileWithExtra (extra : ℕ) (front : List Token) : Type 0 where
  pub language : Language
  pub head : Head
  pub blocks : List WrittenBlock
  pub rest : List Token
  pub allowed : IsTrue (is_allowed_file_with (MAX_ATOMS + extra) language head blocks)
  pub few : cases_above blocks ≤ extra
  pub written : front ++ rest ≡ file_written_as language head blocks

-- an operand is wanted behind as many atoms as a case may have: `not` and `(` still go on, and what is
-- refused is the first token of the atom
abbrev pub wants_atom_more : Control → Want → Bool
wants_atom_more c wants.Operand = nat_eq c.atoms MAX_ATOMS
wants_atom_more c _ = false

-- the word `block` was read, and each block that its line can still begin is there: the kinds behind the
-- word are judged before it is
abbrev pub repeats_block : Control → Want → Bool
repeats_block c wants.BlockFirst = not (lacks_block c)
repeats_block c (wants.BlockSecond k) = not (lacks_with c k)
repeats_block c _ = false

-- some file begins with tokens that were all taken; one case has one atom more than it may have only
-- where an operand is wanted behind the last that it may have
abbrev pub TakenTokensGoOn : Type 0
TakenTokensGoOn =
    (front : List Placed) (s : State Formulas GuardedCase PairCases)
    → state_behind to_formulas (first_state to_formulas) front ≡ Ok s
    → repeats_block s.control s.control.want ≡ false
    → BeginsFileWithExtra (if wants_atom_more s.control s.control.want then 1 else 0) (bare front)

-- no file goes on there within the limits
abbrev pub ExceptionsAreDeadEnds : Type 0
ExceptionsAreDeadEnds =
    (front : List Placed) (s : State Formulas GuardedCase PairCases)
    → state_behind to_formulas (first_state to_formulas) front ≡ Ok s
    → (wants_atom_more s.control s.control.want || repeats_block s.control s.control.want) ≡ true
    → ¬ (BeginsFileWithExtra 0 (bare front))
