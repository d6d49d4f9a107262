-- Where an atom too many or a block too many is wanted, no file of the grammar goes on.
use Rattle.std.proofs.Common.{◌≡◌, ℕ, ◌<◌, Bool, true, false, ◌||◌, nat_eq, nat_lt, List, [], ◌∷◌, ◌++◌, Option, Some}
use Rattle.std.proofs.Common.{None, Result, Ok, Err, refl, sym, ap, ◌∙◌, rules, arith}
use Rattle.std.proofs.lemmas.Bool.Decides.{nat_tests}
use Rattle.ot_model.specs.declared.op.Kind.{Kind}
use Rattle.fn_rules.specs.declared.function.Head.{Head}
use Rattle.fn_rules.specs.Functions.{is_declared, GuardedCase}
use Rattle.fn_rules.specs.Building.{PairCases}
use Rattle.fn_tokens.specs.declared.fault.TextFault.{TextFault}
use Rattle.fn_tokens.specs.declared.token.Token.{Token}
use Rattle.fn_tokens.specs.declared.token.Placed.{Placed}
use Rattle.fn_tokens.specs.declared.control.Want.{Want}
use Rattle.fn_tokens.specs.declared.control.Want.TheVariants as wants
use Rattle.fn_tokens.specs.declared.control.TokenMove.{TokenMove}
use Rattle.fn_tokens.specs.declared.control.TokenMove.TheVariants as moves
use Rattle.fn_tokens.specs.Meaning.{Formulas, to_formulas}
use Rattle.fn_tokens.specs.Controls.{lacks, lacks_with, lacks_block}
use Rattle.fn_tokens.specs.Moves.{move_for}
use Rattle.fn_tokens.specs.GuardMoves.{at_operand}
use Rattle.fn_tokens.specs.LineMoves.{at_block_first, at_block_second}
use Rattle.fn_text.specs.Reader.{State, moved, after_move, ended, read_from, first_state}
use Rattle.fn_grammar.specs.Grammar.{WrittenBlock, file_written_as}
use Rattle.fn_text.specs.Theorems.{state_behind}
use Rattle.fn_text.specs.Continuing.{BeginsFileWithExtra, wants_atom_more, repeats_block, ExceptionsAreDeadEnds}
use Rattle.fn_tokens.specs.Tokens.{bare}
use Rattle.fn_text.proofs.WrittenIsRead.Guards.{going}
use Rattle.fn_text.proofs.WrittenIsRead.Files.{file_is_read}
use Rattle.fn_text.proofs.Refusals.NoneBegins.{reads_behind, placed, bare-placed, bare-append}
use Rattle.fn_text.proofs.ReadIsWritten.Moves.{by_operand, by_block_first, by_block_second}
use Rattle.fn_text.proofs.ReadIsWritten.States.{to_phrases, Phrases, Reached}
use Rattle.std.proofs.lemmas.Bool.{not-true, and_from, ltb-true}
use Rattle.fn_grammar.proofs.KindLists.{kind_fails}
use Rattle.fn_text.proofs.ReadIsWritten.Images.{state_made}
use Rattle.fn_text.proofs.ReadIsWritten.Files.{first_reached}
use Rattle.fn_text.proofs.Refusals.GoesOn.{answer_made, behind_made, reached_behind}

too_many : (n : ℕ) → n ≡ 16 → nat_lt n 16 ≡ true → ⊥
too_many n e h = let less : n < 16 = ltb-true n 16 h in omega (arith, e, less)

-- behind 16 atoms no operand is read
operand_turn : (s : Phrases) (at : Placed) (rest : List Placed) (parts : Head × List WrittenBlock) →
    s.control.want ≡ wants.Operand → s.control.atoms ≡ 16 →
    ((after : Phrases) → after.control.want ≡ wants.Operand → after.control.atoms ≡ 16 →
    read_from to_phrases after rest ≡ Ok parts → ⊥) → (move : Option TokenMove) → move_for s.control at s.control.want
    at.token ≡ move → going to_phrases rest (after_move to_phrases s at move) ≡ Ok parts → ⊥
operand_turn s at rest parts want full others None same e = absurd (cc)
operand_turn s at rest parts want full others (Some move) same e =
    let row : at_operand s.control at.token ≡ Some move = ap (λ w. move_for s.control at w at.token) (sym want)
    ∙ same in
    by_operand (λ t one. read_from to_phrases (moved to_phrases s one) rest ≡ Ok parts → ⊥) s.control at.token move row
    (λ test. others (moved to_phrases s moves.Open) refl full)
    (λ test. others (moved to_phrases s moves.Negate) refl full)
    (λ test reads. too_many _ full test)
    (λ sort side test chars reads. too_many _ full test)
    e

operand_never : (s : Phrases) (rest : List Placed) (parts : Head × List WrittenBlock) → s.control.want ≡ wants.Operand →
    s.control.atoms ≡ 16 → read_from to_phrases s rest ≡ Ok parts → ⊥
operand_never s [] parts want full e =
    let told : ended s wants.Operand ≡ Ok parts = ap (λ w. ended s w) (sym want) ∙ e in absurd (cc)
operand_never s (at ∷ rest) parts want full e =
    operand_turn s at rest parts want full (λ after wants_one still reads.
    operand_never after rest parts wants_one still reads) (move_for s.control at s.control.want at.token) refl e

-- no second kind makes a pair that is missing
second_turn : (s : Phrases) (k : Kind) (at : Placed) (rest : List Placed) (parts : Head × List WrittenBlock) →
    s.control.want ≡ wants.BlockSecond k → is_declared s.control.head k ≡ true → lacks_with s.control k ≡ false →
    (move : Option TokenMove) → move_for s.control at s.control.want at.token ≡ move →
    going to_phrases rest (after_move to_phrases s at move) ≡ Ok parts → ⊥
second_turn s k at rest parts want declared none None same e = absurd (cc)
second_turn s k at rest parts want declared none (Some move) same e =
    let row : at_block_second s.control k at.token ≡ Some move = ap (λ w. move_for s.control at w at.token) (sym want)
    ∙ same in
    by_block_second (λ t one. ⊥) s.control k at.token move row
    (λ l also fresh. let missing : lacks s.control k l ≡ true = and_from _ _ (and_from _ _ declared also) fresh in
    let not_missing : lacks s.control k l ≡ false = kind_fails (lacks s.control k) l none in
    absurd (cc))

second_never : (s : Phrases) (k : Kind) (rest : List Placed) (parts : Head × List WrittenBlock) →
    s.control.want ≡ wants.BlockSecond k → is_declared s.control.head k ≡ true → lacks_with s.control k ≡ false →
    read_from to_phrases s rest ≡ Ok parts → ⊥
second_never s k [] parts want declared none e =
    let told : ended s (wants.BlockSecond k) ≡ Ok parts = ap (λ w. ended s w) (sym want) ∙ e in absurd (cc)
second_never s k (at ∷ rest) parts want declared none e =
    second_turn s k at rest parts want declared none (move_for s.control at s.control.want at.token) refl e

-- nor does a first kind begin one
first_turn : (s : Phrases) (at : Placed) (rest : List Placed) (parts : Head × List WrittenBlock) →
    s.control.want ≡ wants.BlockFirst → lacks_block s.control ≡ false → (move : Option TokenMove) →
    move_for s.control at s.control.want at.token ≡ move
    → going to_phrases rest (after_move to_phrases s at move) ≡ Ok parts → ⊥
first_turn s at rest parts want full None same e = absurd (cc)
first_turn s at rest parts want full (Some move) same e =
    let row : at_block_first s.control at.token ≡ Some move = ap (λ w. move_for s.control at w at.token) (sym want)
    ∙ same in
    by_block_first (λ t one. read_from to_phrases (moved to_phrases s one) rest ≡ Ok parts
    → ⊥) s.control at.token move row
    (λ k declared. second_never (moved to_phrases s (moves.Skip (wants.BlockSecond k))) k rest parts refl declared
    (kind_fails (lacks_with s.control) k full))
    e

first_never : (s : Phrases) (rest : List Placed) (parts : Head × List WrittenBlock) → s.control.want ≡ wants.BlockFirst
    → lacks_block s.control ≡ false → read_from to_phrases s rest ≡ Ok parts → ⊥
first_never s [] parts want full e =
    let told : ended s wants.BlockFirst ≡ Ok parts = ap (λ w. ended s w) (sym want) ∙ e in absurd (cc)
first_never s (at ∷ rest) parts want full e =
    first_turn s at rest parts want full (move_for s.control at s.control.want at.token) refl e

first_of_two : (b : Bool) → (b || false) ≡ true → b ≡ true
first_of_two true h = refl
first_of_two false h = h

-- no tokens end a file there
never : (s : Phrases) (want : Want) (ts : List Token) (rest : List Placed) (parts : Head × List WrittenBlock) →
    s.control.want ≡ want → Reached s want ts → (wants_atom_more s.control want || repeats_block s.control want) ≡ true
    → read_from to_phrases s rest ≡ Ok parts → ⊥
never s wants.Operand ts rest parts is h test e =
    let full : s.control.atoms ≡ 16 = let so : nat_eq s.control.atoms 16 ≡ true = first_of_two _ test in
    search (rules, nat_tests) in
    operand_never s rest parts is full e
never s wants.BlockFirst ts rest parts is h test e = first_never s rest parts is (not-true _ test) e
never s (wants.BlockSecond k) ts rest parts is h test e = second_never s k rest parts is h.1 (not-true _ test) e
never s _ ts rest parts is h test e = absurd (cc)

-- tokens after which an atom too many or a block too many is wanted begin no file
file_never : (front : List Placed) (s : State Formulas GuardedCase PairCases) (read : Result Phrases TextFault) →
    state_behind to_phrases (first_state to_phrases) front ≡ read → answer_made to_formulas read ≡ Ok s →
    (wants_atom_more s.control s.control.want || repeats_block s.control s.control.want) ≡ true
    → BeginsFileWithExtra 0 (bare front) → ⊥
file_never front s (Ok now) reads e test file =
    let image : state_made to_formulas now ≡ s = cc in
    let same : s.control ≡ now.control = ap (λ x. x.control) (sym image) in
    let more = placed file.rest in
    let told : bare (front ++ more) ≡ file_written_as file.language file.head file.blocks = bare-append front more
    ∙ (ap (λ x. bare front ++ x) (bare-placed file.rest) ∙ file.written) in
    never now now.control.want (bare front) more _ refl (reached_behind (first_state to_phrases) now [] front
    first_reached reads) (sym (ap (λ c. wants_atom_more c c.want || repeats_block c c.want) same) ∙ test)
    (sym (reads_behind to_phrases (first_state to_phrases) front more now reads)
    ∙ file_is_read to_phrases file.language file.head file.blocks (front ++ more) file.allowed told)
file_never front s (Err fault) reads e test file = absurd (cc)

-- what the law of continuation leaves out, it has to
pub exceptions_are_dead_ends : ExceptionsAreDeadEnds
exceptions_are_dead_ends front s e test file =
    file_never front s (state_behind to_phrases (first_state to_phrases) front) refl
    (sym (behind_made to_formulas (first_state to_phrases) front) ∙ e) test file
