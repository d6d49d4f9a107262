-- The causes for which a token is refused, a definition for each row of the table: what the row says of the wrong token
-- and of the tokens before it, which stand nearest first.
use Rattle.std.specs.Prelude.{ℕ, Bool, true, false, not, ◌&&◌, ◌||◌, if◌then◌else◌, nat_le, List, [], ◌∷◌, map, Option}
use Rattle.std.specs.Prelude.{Some, None}
use Rattle.std.specs.Option.{is_none}
use Rattle.ot_model.specs.declared.op.Kind.{Kind}
use Rattle.fn_rules.specs.declared.guard.Sort.{Sort}
use Rattle.fn_rules.specs.declared.guard.Side.{Side}
use Rattle.fn_rules.specs.declared.limits.TheConstants.{MAX_CASES, MAX_ATOMS, MAX_NESTING}
use Rattle.fn_tokens.specs.declared.token.Token.{Token}
use Rattle.fn_tokens.specs.declared.token.Token.TheVariants.{Known, Number, Open}
use Rattle.fn_tokens.specs.declared.token.Token.TheVariants as tokens
use Rattle.fn_tokens.specs.declared.token.Word.TheVariants as words
use Rattle.fn_tokens.specs.declared.token.Placed.{Placed}
use Rattle.fn_tokens.specs.declared.fault.TextFault.{TextFault}
use Rattle.fn_tokens.specs.declared.fault.FaultKind.{FaultKind}
use Rattle.fn_tokens.specs.declared.fault.FaultKind.TheVariants as faults
use Rattle.fn_tokens.specs.Meaning.{is_offset_number, may_compare}
use Rattle.fn_tokens.specs.Meaning.{is_same_side, is_same_sort}
use Rattle.fn_tokens.specs.Languages.{language_numbered}
use Rattle.fn_text.specs.Counting.{speaks, is_behind_line_end, is_behind_sign, is_behind_otfn, is_in_block_line}
use Rattle.fn_text.specs.Counting.{is_in_guard, is_in_result}
use Rattle.fn_text.specs.Counting.{declares, first_of_block, is_behind_pair, blocks_before, has_block, lacks_some_pair}
use Rattle.fn_text.specs.Counting.{this_block}
use Rattle.fn_text.specs.Counting.{may_name_chars, transforms, cases_before, atoms_before, is_before_operand}
use Rattle.fn_text.specs.Counting.{thing_compared}
use Rattle.fn_text.specs.Counting.{nesting_before, is_behind_result}

-- byte: a byte that begins no token
abbrev pub is_byte : Token → Bool
is_byte tokens.Byte = true
is_byte _ = false

-- word: a word that is no word of the language
abbrev pub is_no_word : List Token → Token → Bool
is_no_word before tokens.Unknown = true
is_no_word before (Known (words.Kind k)) = not (speaks before k)
is_no_word before _ = false

-- the second side of an atom has another sort than the first one, or names the same operation
abbrev pub differs_from : Option (Sort × Side) → Sort → Side → Bool
differs_from None sort side = false
differs_from (Some first) sort side = not (is_same_sort first.0 sort && not (is_same_side first.1 side))

-- behind both kinds of a block's line, or behind the word `case`
abbrev pub is_inside_block : List Token → Bool
is_inside_block before = is_behind_pair before || is_in_guard before || is_in_result before

-- sort: the second side of an atom that does not fit its first one; a character in a block that may not compare them
abbrev pub is_wrong_sort : List Token → Token → Bool
is_wrong_sort before (Known (words.Thing sort side)) =
    differs_from (thing_compared before) sort side
    || (is_inside_block before && not (may_compare (may_name_chars (this_block (blocks_before before))) sort))
is_wrong_sort before _ = false

-- offset: a number above 99 behind `+` or `-`
abbrev pub is_great_offset : List Token → Token → Bool
is_great_offset before (Number n) = is_behind_sign before && not (is_offset_number n)
is_great_offset before _ = false

-- missing: `end` as the first token of a line, while a pair of declared kinds has no block
abbrev pub is_early_end : List Token → Token → Bool
is_early_end before (Known words.End) = is_behind_line_end before && lacks_some_pair before
is_early_end before _ = false

-- the block of these kinds is there
abbrev pub is_repeated : List Token → Option Kind → Kind → Bool
is_repeated before None l = false
is_repeated before (Some k) l = declares before l && has_block before k l

-- double: the second kind of a block that is there; the fault stands at the word `block`
abbrev pub is_second_block : List Token → Token → Bool
is_second_block before (Known (words.Kind l)) = is_repeated before (first_of_block before) l
is_second_block before _ = false

-- kind: a kind in a `block` line that is not declared
abbrev pub is_undeclared : List Token → Token → Bool
is_undeclared before (Known (words.Kind k)) = is_in_block_line before && not (declares before k)
is_undeclared before _ = false

-- cases: the word `case` as the first token of a line, behind 64 cases of the block
abbrev pub is_case_too_many : List Token → Token → Bool
is_case_too_many before (Known words.Case) = is_behind_line_end before && nat_le MAX_CASES (cases_before before)
is_case_too_many before _ = false

-- atoms: the first token of an atom, or `true`, where an operand comes behind 16 atoms and `true` of the case
abbrev pub is_atom_too_many : List Token → Token → Bool
is_atom_too_many before (Known words.True) = is_before_operand before && nat_le MAX_ATOMS (atoms_before before)
is_atom_too_many before (Known (words.Thing sort side)) =
    is_before_operand before && nat_le MAX_ATOMS (atoms_before before)
is_atom_too_many before _ = false

-- nesting: `(` or `not` in a guard, inside 32 others
abbrev pub is_too_deep : List Token → Token → Bool
is_too_deep before Open = is_in_guard before && nat_le MAX_NESTING (nesting_before before)
is_too_deep before (Known words.Not) = is_in_guard before && nat_le MAX_NESTING (nesting_before before)
is_too_deep before _ = false

-- result: a kind in a result that is not whole, and not the first kind of the block
abbrev pub is_other_kind : List Token → Token → Bool
is_other_kind before (Known (words.Kind k)) =
    is_in_result before && not (is_behind_result before) && not (transforms (this_block (blocks_before before)) k)
is_other_kind before _ = false

-- version: a number behind `otfn` that no language has
abbrev pub is_other_version : List Token → Token → Bool
is_other_version before (Number n) = is_behind_otfn before && is_none (language_numbered n)
is_other_version before _ = false

-- the first row that fits, `expected` where none does
abbrev pub first_row : List (Bool × FaultKind) → FaultKind
first_row [] = faults.Expected
first_row (row ∷ rows) = if row.0 then row.1 else first_row rows

-- the cause for which a token is refused behind tokens that all could go on, these nearest first
abbrev pub cause_of : List Token → Token → FaultKind
cause_of before wrong =
    first_row
    ((is_byte wrong, faults.Byte)
    ∷ (is_no_word before wrong, faults.Word)
    ∷ (is_wrong_sort before wrong, faults.Sort)
    ∷ (is_great_offset before wrong, faults.Offset)
    ∷ (is_early_end before wrong, faults.Missing)
    ∷ (is_second_block before wrong, faults.Double)
    ∷ (is_undeclared before wrong, faults.Kind)
    ∷ (is_case_too_many before wrong, faults.Cases)
    ∷ (is_atom_too_many before wrong, faults.Atoms)
    ∷ (is_too_deep before wrong, faults.Nesting)
    ∷ (is_other_kind before wrong, faults.Outcome)
    ∷ (is_other_version before wrong, faults.Version)
    ∷ [])

-- the line and column of the nearest word `block`
abbrev pub place_behind : Token → Placed → ℕ × ℕ → ℕ × ℕ
place_behind (Known words.Block) at place = (at.line, at.column)
place_behind token at place = place

abbrev pub block_place : List Placed → ℕ × ℕ
block_place [] = (0, 0)
block_place (at ∷ before) = place_behind at.token at (block_place before)

-- a fault stands at the wrong token, but `double` at the word `block`
abbrev pub placed_cause : List Placed → Placed → FaultKind → TextFault
placed_cause before wrong faults.Double =
    record { line = (block_place before).0; column = (block_place before).1; kind = faults.Double }
placed_cause before wrong kind = record { line = wrong.line; column = wrong.column; kind = kind }

-- the fault of a token that is refused behind tokens that all could go on, these nearest first
abbrev pub fault_behind : List Placed → Placed → TextFault
fault_behind before wrong = placed_cause before wrong (cause_of (map (λ at. at.token) before) wrong.token)
