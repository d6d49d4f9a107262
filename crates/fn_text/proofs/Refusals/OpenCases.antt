-- A guard, a case and a result that are read so far go on to a file: open parentheses are closed.
use Rattle.std.proofs.lemmas.Bool.{and_from, le-leb}
use Rattle.std.proofs.Common.{◌≡◌, ℕ, ◌+◌, ◌≤◌, Bool, true, List, [], ◌∷◌, ◌++◌, length, refl, sym, ap, ◌∙◌}
use Rattle.std.proofs.Common.{append_assoc, append-nil, arith}
use Rattle.fn_rules.specs.declared.guard.Tightness.TheVariants.{Loose, Tight}
use Rattle.fn_rules.specs.Validity.{compares_chars}
use Rattle.fn_tokens.specs.declared.token.Token.{Token}
use Rattle.fn_tokens.specs.declared.token.Token.TheVariants.{Known, Open, Close, Colon, LineEnd}
use Rattle.fn_tokens.specs.declared.token.Word.TheVariants as words
use Rattle.fn_tokens.specs.declared.control.Written.TheVariants as written
use Rattle.fn_tokens.specs.Controls.{has_chars}
use Rattle.fn_grammar.specs.Print.{head_tokens}
use Rattle.fn_text.specs.Reader.{Nesting, blocks_of}
use Rattle.fn_grammar.specs.Grammar.{Phrase, Round, written_as, atoms_in, nesting_in, WrittenCase}
use Rattle.fn_text.specs.Continuing.{is_allowed_case_with, BeginsFileWithExtra}
use Rattle.fn_text.proofs.ReadIsWritten.States.{to_phrases, Phrases, level_front, levels_front, atoms_of_level}
use Rattle.fn_text.proofs.ReadIsWritten.States.{atoms_of_levels, here, guard_front, atoms_before, AreNestings, HasGuard}
use Rattle.fn_text.proofs.ReadIsWritten.States.{IsOperand, HasBlocks, lines_of, InCase, case_front}
use Rattle.fn_text.proofs.ReadIsWritten.Guards.{disjunction_at, IsPhrase, disjunction_is, disjunction_written}
use Rattle.fn_text.proofs.ReadIsWritten.Blocks.{case_front_more}
use Rattle.fn_text.proofs.Refusals.MissingBlocks.{IsOpen, blocks_are_open, open_case, lines_begin}

-- all open parentheses are closed behind what stands in the innermost ones
abbrev closed_phrase : List (Nesting Phrase) → Phrase Loose → Phrase Loose
closed_phrase [] d = d
closed_phrase (level ∷ levels) d = closed_phrase levels (disjunction_at level (Round d))

abbrev closing : List (Nesting Phrase) → List Token
closing [] = []
closing (level ∷ levels) = Close ∷ closing levels

closed_written : (levels : List (Nesting Phrase)) (d : Phrase Loose) →
    levels_front levels ++ written_as d ++ closing levels ≡ written_as (closed_phrase levels d)
closed_written [] d = append-nil (written_as d)
closed_written (level ∷ levels) d =
    let inner = disjunction_at level (Round d) in
    regrouped (levels_front levels) (level_front level) (written_as d) (closing levels)
    ∙ (ap (λ x. levels_front levels ++ x ++ closing levels) (sym (disjunction_written level (Round d)))
    ∙ closed_written levels inner)
  where
    regrouped : (a b c d : List Token)
        → a ++ b ++ Open ∷ [] ++ c ++ Close ∷ d ≡ a ++ (b ++ Open ∷ (c ++ Close ∷ [])) ++ d
    regrouped a b c d = simp append_assoc

-- closing the open levels makes a phrase within the limits, with all their atoms
closed_is : (chars : Bool) (levels : List (Nesting Phrase)) (outside atoms : ℕ) (d : Phrase Loose)
    → AreNestings chars outside levels →
    IsPhrase chars outside atoms d → IsPhrase chars 0 (atoms_of_levels levels + atoms) (closed_phrase levels d)
closed_is chars [] outside atoms d around p =
    let nested = p.nested in
    let counted = p.counted in
    let none : outside ≡ 0 = around in
    record { allowed = p.allowed; nested = omega (arith, nested, none); counted = omega (arith, counted) }
closed_is chars (level ∷ levels) outside atoms d around p =
    let nested = p.nested in
    let count = p.counted in
    let same : outside ≡ level.outside + level.nots + 1 = around.0 in
    let operand : IsOperand chars level (Round d) =
    record { last_allowed = p.allowed; last_nested = omega (arith, nested, same) } in
    let inner = disjunction_is chars level (Round d) around.1 operand in
    let whole = closed_is chars levels level.outside (atoms_of_level level + atoms_in d)
    (disjunction_at level (Round d)) around.2 inner in
    let counted = whole.counted in
    record { allowed = whole.allowed; nested = whole.nested; counted = omega (arith, counted, count) }

-- the guard of a case, once its parentheses are closed
abbrev whole_guard : Phrases → Phrase Tight → Phrase Loose
whole_guard s last = closed_phrase s.outer (disjunction_at (here s) last)

guard_written : (s : Phrases) (last : Phrase Tight)
    → guard_front s ++ written_as last ++ closing s.outer ≡ written_as (whole_guard s last)
guard_written s last =
    regrouped (levels_front s.outer) (level_front (here s)) (written_as last) (closing s.outer)
    ∙ (ap (λ x. levels_front s.outer ++ x ++ closing s.outer) (sym (disjunction_written (here s) last))
    ∙ closed_written s.outer (disjunction_at (here s) last))
  where
    regrouped : (a b c d : List Token) → a ++ b ++ c ++ d ≡ a ++ (b ++ c) ++ d
    regrouped a b c d = simp append_assoc

guard_is : (s : Phrases) (last : Phrase Tight) → HasGuard s → IsOperand (has_chars s.control) (here s) last →
    IsPhrase (has_chars s.control) 0
    (atoms_of_levels s.outer + (atoms_of_level (here s) + atoms_in last)) (whole_guard s last)
guard_is s last guard operand =
    closed_is (has_chars s.control) s.outer s.control.outside (atoms_of_level (here s) + atoms_in last)
    (disjunction_at (here s) last) guard.around (disjunction_is (has_chars s.control) (here s) last guard.inner operand)

-- tokens that stop in a guard, its closing parentheses and `: nop` are the line of a case
case_line : (ts more lines guard last closes whole : List Token)
    → ts ++ more ≡ lines ++ Known words.Case ∷ (guard ++ last) → guard ++ last ++ closes ≡ whole →
    ts ++ (more ++ closes ++ Colon ∷ Known words.Nop ∷ LineEnd ∷ [])
    ≡ lines ++ (Known words.Case ∷ whole ++ Colon ∷ Known words.Nop ∷ [] ++ LineEnd ∷ [])
case_line ts more lines guard last closes whole e f =
    first ∙ (ap (λ x. x ++ closes ++ Colon ∷ Known words.Nop ∷ LineEnd ∷ []) e
    ∙ (second ∙ ap (λ x. lines ++ (Known words.Case ∷ x ++ Colon ∷ Known words.Nop ∷ [] ++ LineEnd ∷ [])) f))
  where
    first : ts ++ (more ++ closes ++ Colon ∷ Known words.Nop ∷ LineEnd ∷ [])
        ≡ (ts ++ more) ++ closes ++ Colon ∷ Known words.Nop ∷ LineEnd ∷ []
    first = simp append_assoc

    second : (lines ++ Known words.Case ∷ (guard ++ last)) ++ closes ++ Colon ∷ Known words.Nop ∷ LineEnd ∷ []
        ≡ lines ++ (Known words.Case ∷ (guard ++ last ++ closes) ++ Colon ∷ Known words.Nop ∷ [] ++ LineEnd ∷ [])
    second = simp append_assoc

-- a guard that some further tokens make end with an operand begins a file
pub guard_begins : (extra : ℕ) (s : Phrases) (last : Phrase Tight) (ts more : List Token) → InCase s → HasGuard s →
    IsOperand (has_chars s.control) (here s) last → atoms_before s + atoms_in last ≤ 16 + extra →
    IsOpen 0 s.control.language s.control.head s.control.seen (blocks_of to_phrases s) →
    ts ++ more ≡ case_front s (guard_front s ++ written_as last) →
    BeginsFileWithExtra extra ts
guard_begins extra s last ts more case guard operand few opened e =
    let c : WrittenCase = record { guard = whole_guard s last; result = written.Nop } in
    let whole = guard_is s last guard operand in
    let count = whole.counted in
    let nested = whole.nested in
    let within : atoms_in (whole_guard s last) ≤ 16 + extra = omega (arith, count, few) in
    let shallow : nesting_in (whole_guard s last) ≤ 32 = omega (arith, nested) in
    let counted = case.1.counted in
    let full = case.1.room in
    let room : length s.cases + 1 ≤ 64 = omega (arith, counted, full) in
    let valid : is_allowed_case_with (16 + extra) (compares_chars s.control.first s.control.second) c ≡ true =
    and_from _ _ (and_from _ _ (and_from _ _ whole.allowed (le-leb _ _ within)) (le-leb _ _ shallow)) refl in
    lines_begin extra ts _ s.control.language s.control.head s.control.seen _
    (open_case extra s.control.language s.control.head s.control.begun s.control.seen s.done s.control.first
    s.control.second s.cases c case.1.begun_so room valid within opened)
    (case_line ts more (lines_of s) (guard_front s) (written_as last) (closing s.outer) _ e (guard_written s last)
    ∙ case_front_more (head_tokens s.control.language s.control.head) s.control.begun s.done s.control.first
    s.control.second s.cases c case.1.begun_so)

-- lines begin a file
pub between_begins : (s : Phrases) (ts more : List Token) → HasBlocks s → ts ++ more ≡ lines_of s
    → BeginsFileWithExtra 0 ts
between_begins s ts more h e =
    lines_begin 0 ts more s.control.language s.control.head s.control.seen (blocks_of to_phrases s)
    (blocks_are_open s.control.language s.control.head s.control.begun s.control.seen _ h) e

-- what begins a file with more tokens behind it, begins one
pub begins_less : (extra : ℕ) (ts more : List Token) → BeginsFileWithExtra extra (ts ++ more)
    → BeginsFileWithExtra extra ts
begins_less extra ts more h = record {
  language = h.language;
  head = h.head;
  blocks = h.blocks;
  rest = more ++ h.rest;
  allowed = h.allowed;
  few = h.few;
  written = sym (append_assoc ts more h.rest) ∙ h.written;
}
