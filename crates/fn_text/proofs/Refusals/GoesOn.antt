-- Tokens that were all taken go on: some file begins with them.
use Rattle.fn_tokens.specs.declared.token.Token.TheVariants as tokens
use Rattle.std.proofs.Common.{◌≡◌, ◌<◌, Bool, true, false, nat_eq, cond, List, [], ◌∷◌, ◌++◌, Option, Some, None}
use Rattle.std.proofs.Common.{Result, Ok, Err, refl, sym, ap, ◌∙◌, subst, append_assoc, append-nil, arith, ◌&&◌, map}
use Rattle.std.proofs.lemmas.Bool.Decides.{nat_tests}
use Rattle.ot_model.specs.declared.op.Kind.{Kind}
use Rattle.ot_model.specs.declared.op.Kind.TheVariants as kinds
use Rattle.ot_model.specs.declared.op.TheConstants.{KINDS}
use Rattle.std.proofs.lemmas.Bool.{not-true, not-false, and_parts}
use Rattle.fn_tokens.specs.Kinds.{with_kind, declares_some}
use Rattle.ot_model.specs.declared.op.Mode.{Mode}
use Rattle.ot_model.specs.declared.op.Mode.TheVariants as modes
use Rattle.fn_rules.specs.declared.guard.Sort.{Sort}
use Rattle.fn_rules.specs.declared.guard.Sort.TheVariants.{Pos}
use Rattle.fn_rules.specs.declared.guard.Side.{Side}
use Rattle.fn_rules.specs.declared.guard.Side.TheVariants.{First}
use Rattle.fn_rules.specs.declared.guard.Cmp.{Cmp}
use Rattle.fn_rules.specs.declared.guard.Cmp.TheVariants.{Eq}
use Rattle.fn_rules.specs.declared.guard.Tightness.{Tightness}
use Rattle.fn_rules.specs.Formulas.{other_side}
use Rattle.fn_rules.specs.Functions.{is_declared, GuardedCase}
use Rattle.fn_rules.specs.Functions.{is_declared_pair}
use Rattle.fn_rules.specs.Building.{PairCases, has_own_blocks}
use Rattle.fn_tokens.specs.declared.fault.TextFault.{TextFault}
use Rattle.fn_tokens.specs.declared.token.Token.{Token}
use Rattle.fn_tokens.specs.declared.token.Token.TheVariants.{Known, Number, LineEnd, FileEnd}
use Rattle.fn_tokens.specs.declared.token.Word.TheVariants as words
use Rattle.fn_tokens.specs.declared.token.Placed.{Placed}
use Rattle.fn_tokens.specs.declared.token.Sign.{Sign}
use Rattle.fn_tokens.specs.declared.control.Written.{Written}
use Rattle.fn_tokens.specs.declared.control.Written.TheVariants as written
use Rattle.fn_tokens.specs.declared.control.AfterLine.TheVariants as nexts
use Rattle.fn_tokens.specs.declared.control.Want.{Want}
use Rattle.fn_tokens.specs.declared.control.Want.TheVariants as wants
use Rattle.fn_tokens.specs.declared.control.TokenMove.{TokenMove}
use Rattle.fn_tokens.specs.declared.control.TokenMove.TheVariants as moves
use Rattle.fn_tokens.specs.declared.language.Language.{Language}
use Rattle.fn_tokens.specs.declared.language.Language.TheVariants as languages
use Rattle.fn_tokens.specs.Meaning.{Formulas, Maker, to_formulas}
use Rattle.fn_tokens.specs.Controls.{lacks, lacks_with, lacks_block}
use Rattle.fn_tokens.specs.Moves.{move_for}
use Rattle.fn_grammar.specs.Print.{head_tokens, first_lines}
use Rattle.fn_text.specs.Reader.{State, blocks_of, moved, after_move, first_control, first_state}
use Rattle.fn_grammar.specs.Grammar.{Always, Compare, Shifted, written_as, atoms_in, is_allowed_result}
use Rattle.fn_grammar.specs.Grammar.{result_written_as, block_made}
use Rattle.fn_text.specs.Theorems.{state_behind}
use Rattle.fn_text.specs.Continuing.{BeginsFileWithExtra, wants_atom_more, repeats_block, TakenTokensGoOn}
use Rattle.fn_tokens.specs.Tokens.{bare}
use Rattle.fn_grammar.proofs.KindLists.{list_any_by}
use Rattle.fn_text.proofs.SeenPairs.{has_seen-none, comes_next-first}
use Rattle.fn_text.proofs.Languages.{has_word-ins, has_words-more}
use Rattle.fn_text.proofs.ReadIsWritten.States.{to_phrases, Phrases, guard_front, HasBlocks, lines_of, head_for}
use Rattle.fn_text.proofs.ReadIsWritten.States.{BehindColon, Ended, result_front, Reached}
use Rattle.fn_text.proofs.ReadIsWritten.Guards.{in_case, retold, shifted_front}
use Rattle.fn_text.proofs.ReadIsWritten.Heads.{begun_blocks, head_alone, ins_line, declared_steps, kinds_end_steps}
use Rattle.fn_text.proofs.ReadIsWritten.Heads.{assuming, assumed_front, chars_line}
use Rattle.fn_text.proofs.ReadIsWritten.Blocks.{with_cases, block_front, in_result, end_case_steps}
use Rattle.fn_text.proofs.ReadIsWritten.Images.{state_made, moved_made}
use Rattle.fn_text.proofs.ReadIsWritten.Files.{token_steps, first_reached}
use Rattle.fn_text.proofs.Refusals.MissingBlocks.{blocks_are_open, open_block, no_block_above, lines_begin}
use Rattle.fn_text.proofs.Refusals.OpenCases.{guard_begins, between_begins, begins_less}

-- tokens of a head without assumptions begin a file
head_begins : (language : Language) (mode : Mode) (ts more : List Token) →
    ts ++ more ≡ first_lines language mode ++ Known words.Kinds ∷ Known (words.Kind kinds.Ins) ∷ LineEnd ∷ []
    → BeginsFileWithExtra 0 ts
head_begins language mode ts more e =
    let head = with_kind (head_for mode) kinds.Ins in
    let speaks = has_words-more language (head_for mode) kinds.Ins (has_word-ins language) refl in
    lines_begin 0 ts more language head first_control.seen []
    (blocks_are_open language head false first_control.seen []
    (begun_blocks language head false first_control.seen [] refl speaks has_seen-none refl))
    (e ∙ head_alone (first_lines language mode ++ Known words.Kinds ∷ Known (words.Kind kinds.Ins) ∷ LineEnd ∷ [])
    language head [] refl (ins_line language mode))

-- each front of the tokens that the reader ends a file with begins a file
ended_begins : (s : Phrases) (ts rest : List Token) → Ended s (ts ++ rest) → BeginsFileWithExtra 0 ts
ended_begins s ts rest h =
    let none = no_block_above s.done
    (and_parts (declares_some s.control.head && has_own_blocks s.control.head (map (block_made to_formulas) s.done)) _
    (and_parts _ _ h.0).0).1 in
    record {
      language = s.control.language;
      head = s.control.head;
      blocks = s.done;
      rest = rest;
      allowed = h.0;
      few = omega (arith, none);
      written = h.1;
    }

-- behind the word `assume` characters can be named
assumed_begins : (s : Phrases) (ts : List Token) → Reached s wants.Assumed ts → BeginsFileWithExtra 0 ts
assumed_begins s ts h =
    let language = s.control.language in
    let head = s.control.head in
    let new = record head { chars_differ = true } in
    let blocks = blocks_of to_phrases s in
    begins_less 0 ts (Known words.Chars ∷ [])
    (lines_begin 0 (ts ++ Known words.Chars ∷ []) (Known words.Differ ∷ LineEnd ∷ []) language new s.control.seen blocks
    (blocks_are_open language new s.control.begun s.control.seen blocks
    (assuming language head head.sites_differ true s.control.begun s.control.seen blocks h.0.0))
    (assumed_front ts language head new blocks (Known words.Chars) (h.0.0.none h.1) h.3 (chars_line language head h.2)))

-- behind the first kind of a block a second one can be named that makes a missing pair
pair_begins : (s : Phrases) (k l : Kind) (ts : List Token) → HasBlocks s → lacks s.control k l ≡ true →
    ts ≡ lines_of s ++ Known words.Block ∷ Known (words.Kind k) ∷ [] → BeginsFileWithExtra 0 ts
pair_begins s k l ts h missing e =
    let language = s.control.language in
    let head = s.control.head in
    let blocks = blocks_of to_phrases s in
    let pair = (and_parts (is_declared_pair head k l) _ missing).0 in
    begins_less 0 ts (Known (words.Kind l) ∷ [])
    (lines_begin 0 (ts ++ Known (words.Kind l) ∷ []) (LineEnd ∷ []) language head _ (blocks ++ with_cases k l [] ∷ [])
    (open_block 0 language head s.control.seen blocks k l (and_parts (is_declared head k) _ pair).0
    (and_parts (is_declared head k) _ pair).1 (not-true _ (and_parts (is_declared_pair head k l) _ missing).1)
    (blocks_are_open language head s.control.begun s.control.seen blocks h))
    (block_front ts (head_tokens language head) blocks k l e))

block_begins : (s : Phrases) (k l : Kind) (ts : List Token) → Reached s wants.BlockFirst ts → lacks s.control k l ≡ true
    → BeginsFileWithExtra 0 ts
block_begins s k l ts h missing =
    begins_less 0 ts (Known (words.Kind k) ∷ [])
    (pair_begins s k l (ts ++ Known (words.Kind k) ∷ []) h.0.0 missing (ap (λ x. x ++ Known (words.Kind k) ∷ []) h.1
    ∙ append_assoc (lines_of s) (Known words.Block ∷ []) (Known (words.Kind k) ∷ [])))

first_begins : (s : Phrases) (ts : List Token) → Reached s wants.BlockFirst ts → lacks_block s.control ≡ true
    → BeginsFileWithExtra 0 ts
first_begins s ts h some =
    list_any_by (BeginsFileWithExtra 0 ts) (lacks_with s.control) KINDS some
    (λ k here. list_any_by (BeginsFileWithExtra 0 ts) (lacks s.control k) KINDS here
    (λ l missing. block_begins s k l ts h missing))

-- where an operand is wanted, `true` can stand
operand_begins : (s : Phrases) (ts : List Token) (test : Bool) → nat_eq s.control.atoms 16 ≡ test
    → Reached s wants.Operand ts → BeginsFileWithExtra (cond test 1 0) ts
operand_begins s ts true e h =
    let guard = h.0.1 in
    let depth = guard.depth in
    let atoms = h.0.2 in
    let few = h.0.3 in
    let known = h.0.0.0 in
    guard_begins 1 s Always ts (Known words.True ∷ []) h.0.0 guard
    (record { last_allowed = refl; last_nested = omega (arith, depth) }) (omega (arith, atoms, few))
    (blocks_are_open s.control.language s.control.head s.control.begun s.control.seen _ known)
    (in_case (lines_of s) ts (guard_front s) (Known words.True ∷ []) h.1)
operand_begins s ts false e h =
    let guard = h.0.1 in
    let depth = guard.depth in
    let atoms = h.0.2 in
    let few = h.0.3 in
    let known = h.0.0.0 in
    let room : s.control.atoms < 16 = grind (arith, nat_tests) in
    guard_begins 0 s Always ts (Known words.True ∷ []) h.0.0 guard
    (record { last_allowed = refl; last_nested = omega (arith, depth) }) (omega (arith, atoms, room))
    (blocks_are_open s.control.language s.control.head s.control.begun s.control.seen _ known)
    (in_case (lines_of s) ts (guard_front s) (Known words.True ∷ []) h.1)

-- an atom that was begun can be ended
comparison_begins : (s : Phrases) (sort : Sort) (left : Side) (ts : List Token)
    → Reached s (wants.Comparison sort left) ts → BeginsFileWithExtra 0 ts
comparison_begins s sort left ts h =
    let guard = h.0.1 in
    let depth = guard.depth in
    let atoms = h.0.2 in
    let few = h.0.3 in
    let other = Known (words.Thing sort (other_side left)) in
    guard_begins 0 s (Compare sort left Eq) ts (tokens.Comparison Eq ∷ other ∷ []) h.0.0 guard
    (record { last_allowed = h.1; last_nested = omega (arith, depth) }) (omega (arith, atoms, few))
    (blocks_are_open s.control.language s.control.head s.control.begun s.control.seen _ h.0.0.0)
    (retold (lines_of s) ts _ (tokens.Comparison Eq ∷ other ∷ []) _ h.2
    (append_assoc (guard_front s) (Known (words.Thing sort left) ∷ []) (tokens.Comparison Eq ∷ other ∷ [])))

-- tokens that stop before the right side of an atom begin a file
right_begins : (s : Phrases) (sort : Sort) (left : Side) (cmp : Cmp) (ts : List Token)
    → Reached s (wants.Right sort left cmp) ts → BeginsFileWithExtra 0 ts
right_begins s sort left cmp ts h =
    let guard = h.0.1 in
    let depth = guard.depth in
    let atoms = h.0.2 in
    let few = h.0.3 in
    let other = Known (words.Thing sort (other_side left)) in
    guard_begins 0 s (Compare sort left cmp) ts (other ∷ []) h.0.0 guard
    (record { last_allowed = h.1; last_nested = omega (arith, depth) }) (omega (arith, atoms, few))
    (blocks_are_open s.control.language s.control.head s.control.begun s.control.seen _ h.0.0.0)
    (retold (lines_of s) ts _ (other ∷ []) _ h.2
    (append_assoc (guard_front s) (Known (words.Thing sort left) ∷ tokens.Comparison cmp ∷ []) (other ∷ [])))

operator_begins : (s : Phrases) (ts : List Token) → Reached s wants.Operator ts → BeginsFileWithExtra 0 ts
operator_begins s ts h =
    let atoms = h.0.0.2 in
    let few = h.0.0.3 in
    guard_begins 0 s s.last ts [] h.0.0.0 h.0.0.1 h.0.1 (omega (arith, atoms, few))
    (blocks_are_open s.control.language s.control.head s.control.begun s.control.seen _ h.0.0.0.0) (append-nil ts ∙ h.1)

-- tokens that stop before the number of an offset begin a file
number_begins : (s : Phrases) (left : Side) (cmp : Cmp) (sign : Sign) (ts : List Token) →
    Reached s (wants.Number left cmp sign) ts → BeginsFileWithExtra 0 ts
number_begins s left cmp sign ts h =
    let guard = h.0.0.1 in
    let depth = guard.depth in
    let one : atoms_in s.last ≡ 1 = ap (λ p. atoms_in p) h.1 in
    let atoms = h.0.0.2 in
    let few = h.0.0.3 in
    guard_begins 0 s (Shifted left cmp sign 0) ts (Number 0 ∷ []) h.0.0.0 guard
    (record { last_allowed = refl; last_nested = omega (arith, depth) }) (omega (arith, atoms, few, one))
    (blocks_are_open s.control.language s.control.head s.control.begun s.control.seen _ h.0.0.0.0)
    (retold (lines_of s) ts _ (Number 0 ∷ []) _ h.2 (shifted_front (guard_front s) left cmp sign 0 s.last h.1))

line_begins : (s : Phrases) (ts : List Token) → Reached s wants.Line ts → BeginsFileWithExtra 0 ts
line_begins s ts h = between_begins s ts [] h.0.0 (append-nil ts ∙ h.1)

-- in the line of the kinds it can end, or one can be named
kinds_end : (s : Phrases) (ts : List Token) → Reached s wants.NextKind ts → declares_some s.control.head ≡ true
    → BeginsFileWithExtra 0 ts
kinds_end s ts h some =
    begins_less 0 ts (LineEnd ∷ [])
    (line_begins (moved to_phrases s (moves.Skip wants.Line)) (ts ++ LineEnd ∷ []) (kinds_end_steps s ts h some))

kinds_begin : (s : Phrases) (ts : List Token) (some : Bool) → declares_some s.control.head ≡ some
    → Reached s wants.NextKind ts → BeginsFileWithExtra 0 ts
kinds_begin s ts true some h = kinds_end s ts h some
kinds_begin s ts false none h =
    let ins = Known (words.Kind kinds.Ins) in
    begins_less 0 ts (ins ∷ [])
    (kinds_end (moved to_phrases s (moves.Declare kinds.Ins)) (ts ++ ins ∷ [])
    (declared_steps s ts h kinds.Ins (has_word-ins s.control.language) (comes_next-first s.control.head kinds.Ins none))
    refl)

-- a result that some further tokens make whole
result_begins : (s : Phrases) (w : Written) (ts more : List Token) → BehindColon s → is_allowed_result w ≡ true →
    ts ++ more ≡ result_front s (result_written_as s.control.first w) → BeginsFileWithExtra 0 ts
result_begins s w ts more h ok e =
    begins_less 0 ts more
    (begins_less 0 (ts ++ more) (LineEnd ∷ [])
    (line_begins (moved to_phrases s (moves.EndCase w)) ((ts ++ more) ++ LineEnd ∷ [])
    (end_case_steps s w (ts ++ more) h ok e)))

-- a file begins with the tokens by which a state was reached
pub reached_begins : (s : Phrases) (want : Want) (ts : List Token) → Reached s want ts
    → repeats_block s.control want ≡ false → BeginsFileWithExtra (cond (wants_atom_more s.control want) 1 0) ts
reached_begins s wants.Otfn ts h single =
    head_begins languages.One modes.Plain ts
    (Known words.Otfn ∷ Number 1 ∷ LineEnd ∷ Known words.Text ∷ Known (words.Mode modes.Plain)
    ∷ LineEnd ∷ Known words.Kinds
    ∷ Known (words.Kind kinds.Ins) ∷ LineEnd ∷ [])
    (ap (λ x. x ++ Known words.Otfn ∷ Number 1 ∷ LineEnd ∷ Known words.Text ∷ Known (words.Mode modes.Plain) ∷ LineEnd
    ∷ Known words.Kinds ∷ Known (words.Kind kinds.Ins) ∷ LineEnd ∷ []) h.1)
reached_begins s wants.Version ts h single =
    head_begins languages.One modes.Plain ts
    (Number 1 ∷ LineEnd ∷ Known words.Text ∷ Known (words.Mode modes.Plain) ∷ LineEnd ∷ Known words.Kinds
    ∷ Known (words.Kind kinds.Ins) ∷ LineEnd ∷ [])
    (ap (λ x. x ++ Number 1 ∷ LineEnd ∷ Known words.Text ∷ Known (words.Mode modes.Plain) ∷ LineEnd ∷ Known words.Kinds
    ∷ Known (words.Kind kinds.Ins) ∷ LineEnd ∷ []) h.1)
reached_begins s (wants.LineEnd nexts.Text) ts h single =
    head_begins s.control.language modes.Plain ts
    (LineEnd ∷ Known words.Text ∷ Known (words.Mode modes.Plain) ∷ LineEnd ∷ Known words.Kinds
    ∷ Known (words.Kind kinds.Ins)
    ∷ LineEnd ∷ [])
    (ap (λ x. x ++ LineEnd ∷ Known words.Text ∷ Known (words.Mode modes.Plain) ∷ LineEnd ∷ Known words.Kinds
    ∷ Known (words.Kind kinds.Ins) ∷ LineEnd ∷ []) h.1)
reached_begins s wants.Text ts h single =
    head_begins s.control.language modes.Plain ts
    (Known words.Text ∷ Known (words.Mode modes.Plain) ∷ LineEnd ∷ Known words.Kinds
    ∷ Known (words.Kind kinds.Ins) ∷ LineEnd
    ∷ []) (ap (λ x. x ++ Known words.Text ∷ Known (words.Mode modes.Plain) ∷ LineEnd ∷ Known words.Kinds
    ∷ Known (words.Kind kinds.Ins) ∷ LineEnd ∷ []) h.1)
reached_begins s wants.Mode ts h single =
    head_begins s.control.language modes.Plain ts
    (Known (words.Mode modes.Plain) ∷ LineEnd ∷ Known words.Kinds ∷ Known (words.Kind kinds.Ins) ∷ LineEnd ∷ [])
    (ap (λ x. x ++ Known (words.Mode modes.Plain) ∷ LineEnd ∷ Known words.Kinds
    ∷ Known (words.Kind kinds.Ins) ∷ LineEnd ∷ []) h.1)
reached_begins s (wants.LineEnd nexts.Kinds) ts h single =
    head_begins s.control.language s.control.head.mode ts (LineEnd ∷ Known words.Kinds ∷ Known (words.Kind kinds.Ins)
    ∷ LineEnd ∷ []) (ap (λ x. x ++ LineEnd ∷ Known words.Kinds ∷ Known (words.Kind kinds.Ins) ∷ LineEnd ∷ []) h.1)
reached_begins s wants.Kinds ts h single =
    head_begins s.control.language s.control.head.mode ts (Known words.Kinds ∷ Known (words.Kind kinds.Ins) ∷ LineEnd
    ∷ []) (ap (λ x. x ++ Known words.Kinds ∷ Known (words.Kind kinds.Ins) ∷ LineEnd ∷ []) h.1)
reached_begins s wants.NextKind ts h single = kinds_begin s ts (declares_some s.control.head) refl h
reached_begins s (wants.LineEnd nexts.Line) ts h single = between_begins s ts (LineEnd ∷ []) h.0.0 h.1
reached_begins s (wants.LineEnd nexts.File) ts h single = ended_begins s ts (LineEnd ∷ FileEnd ∷ []) h
reached_begins s wants.Line ts h single = line_begins s ts h
reached_begins s wants.Assumed ts h single = assumed_begins s ts h
reached_begins s wants.Differ ts h single = between_begins s ts (Known words.Differ ∷ LineEnd ∷ []) h.0.0 h.1
reached_begins s wants.BlockFirst ts h single = first_begins s ts h (not-false _ single)
reached_begins s (wants.BlockSecond k) ts h single =
    list_any_by (BeginsFileWithExtra 0 ts) (lacks s.control k) KINDS (not-false _ single)
    (λ l missing. pair_begins s k l ts h.0.0 missing h.2)
reached_begins s wants.BlockEnd ts h single = between_begins s ts (LineEnd ∷ []) h.0.0 h.1
reached_begins s wants.Operand ts h single = operand_begins s ts (nat_eq s.control.atoms 16) refl h
reached_begins s (wants.Comparison sort left) ts h single = comparison_begins s sort left ts h
reached_begins s (wants.Right sort left cmp) ts h single = right_begins s sort left cmp ts h
reached_begins s (wants.Offset left cmp) ts h single = operator_begins s ts (h.0, h.2)
reached_begins s (wants.Number left cmp sign) ts h single = number_begins s left cmp sign ts h
reached_begins s wants.Operator ts h single = operator_begins s ts h
reached_begins s wants.Result ts h single =
    result_begins s written.Nop ts (Known words.Nop ∷ []) h.0 refl
    (in_result (lines_of s) ts (written_as s.guard) [] (Known words.Nop ∷ []) h.1)
reached_begins s wants.ResultPosition ts h single =
    result_begins s (written.At First) ts (Known (words.Thing Pos First) ∷ []) h.0 refl
    (in_result (lines_of s) ts (written_as s.guard) (Known (words.Kind s.control.first) ∷ [])
    (Known (words.Thing Pos First) ∷ []) h.1)
reached_begins s (wants.ResultOffset side) ts h single =
    result_begins s (written.At side) ts [] h.0 refl (append-nil ts ∙ h.1)
reached_begins s (wants.ResultNumber side sign) ts h single =
    result_begins s (written.Moved side sign 0) ts (Number 0 ∷ []) h.0 refl
    (in_result (lines_of s) ts (written_as s.guard)
    (result_written_as s.control.first (written.At side) ++ tokens.Sign sign ∷ []) (Number 0 ∷ []) h.1)
reached_begins s (wants.ResultEnd w) ts h single = result_begins s w ts [] h.0 h.1 (append-nil ts ∙ h.2)
reached_begins s wants.FileEnd ts h single = ended_begins s ts (FileEnd ∷ []) h
reached_begins s wants.Nothing ts h single = ended_begins s ts [] (h.0, append-nil ts ∙ h.1)

-- the state behind a token that could go on, and further tokens
abbrev behind_turn : {V : Tightness → Type 0} {K B : Type 0} → Maker V K B → List Placed
    → Result (State V K B) TextFault → Result (State V K B) TextFault
behind_turn m rest (Ok after) = state_behind m after rest
behind_turn m rest (Err fault) = Err fault

-- the image of a state, where there is one
abbrev pub answer_made : {V : Tightness → Type 0} {K B : Type 0} → Maker V K B → Result Phrases TextFault
    → Result (State V K B) TextFault
answer_made m (Ok s) = Ok (state_made m s)
answer_made m (Err fault) = Err fault

turn_made : {V : Tightness → Type 0} {K B : Type 0} (m : Maker V K B) (s : Phrases) (at : Placed) (rest : List Placed) →
    ((after : Phrases) → state_behind m (state_made m after) rest ≡ answer_made m (state_behind to_phrases after rest))
    → (move : Option TokenMove) →
    behind_turn m rest (after_move m (state_made m s) at move)
    ≡ answer_made m (behind_turn to_phrases rest (after_move to_phrases s at move))
turn_made m s at rest others None = refl
turn_made m s at rest others (Some move) =
    ap (λ x. state_behind m x rest) (moved_made m s move) ∙ others (moved to_phrases s move)

pub behind_made : {V : Tightness → Type 0} {K B : Type 0} (m : Maker V K B) (s : Phrases) (ps : List Placed) →
    state_behind m (state_made m s) ps ≡ answer_made m (state_behind to_phrases s ps)
behind_made m s [] = refl
behind_made m s (at ∷ rest) =
    turn_made m s at rest (λ after. behind_made m after rest) (move_for s.control at s.control.want at.token)

reached_turn : (s now : Phrases) (ts : List Token) (at : Placed) (rest : List Placed) → Reached s s.control.want ts →
    ((after : Phrases) (more : List Token) → Reached after after.control.want more → state_behind to_phrases after rest
    ≡ Ok now → Reached now now.control.want (more ++ bare rest)) → (move : Option TokenMove) →
    move_for s.control at s.control.want at.token ≡ move → behind_turn to_phrases rest (after_move to_phrases s at move)
    ≡ Ok now → Reached now now.control.want (ts ++ at.token ∷ bare rest)
reached_turn s now ts at rest h others None same e = absurd (cc)
reached_turn s now ts at rest h others (Some move) same e =
    subst (λ x. Reached now now.control.want x) (append_assoc ts (at.token ∷ []) (bare rest))
    (others (moved to_phrases s move) (ts ++ at.token ∷ []) (token_steps s s.control.want ts at move h same) e)

-- a state is reached by the tokens behind which it comes
pub reached_behind : (s now : Phrases) (ts : List Token) (ps : List Placed) → Reached s s.control.want ts →
    state_behind to_phrases s ps ≡ Ok now → Reached now now.control.want (ts ++ bare ps)
reached_behind s now ts [] h e =
    let same : s ≡ now = cc in
    subst (λ x. Reached now now.control.want x) (sym (append-nil ts)) (subst (λ x. Reached x x.control.want ts) same h)
reached_behind s now ts (at ∷ rest) h e =
    reached_turn s now ts at rest h (λ after more reached reads. reached_behind after now more rest reached reads)
    (move_for s.control at s.control.want at.token) refl e

front_begins : (front : List Placed) (s : State Formulas GuardedCase PairCases) (read : Result Phrases TextFault) →
    state_behind to_phrases (first_state to_phrases) front ≡ read → answer_made to_formulas read ≡ Ok s →
    repeats_block s.control s.control.want ≡ false
    → BeginsFileWithExtra (cond (wants_atom_more s.control s.control.want) 1 0) (bare front)
front_begins front s (Ok now) reads e single =
    let image : state_made to_formulas now ≡ s = cc in
    let same : now.control ≡ s.control = ap (λ x. x.control) image in
    subst (λ c. BeginsFileWithExtra (cond (wants_atom_more c c.want) 1 0) (bare front)) same
    (reached_begins now now.control.want (bare front) (reached_behind (first_state to_phrases) now [] front
    first_reached reads) (ap (λ c. repeats_block c c.want) same ∙ single))
front_begins front s (Err fault) reads e single = absurd (cc)

-- some file begins with tokens that were all taken
pub taken_tokens_go_on : TakenTokensGoOn
taken_tokens_go_on front s e single =
    front_begins front s (state_behind to_phrases (first_state to_phrases) front) refl
    (sym (behind_made to_formulas (first_state to_phrases) front) ∙ e) single
