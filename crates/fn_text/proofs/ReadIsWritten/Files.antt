-- What the reader reads, where it keeps phrases, is in the grammar.
use Rattle.std.proofs.Common.{◌≡◌, IsTrue, List, [], ◌∷◌, ◌++◌, Option, Some, None, Ok, refl, sym, subst, append_assoc}
use Rattle.std.proofs.Common.{append-nil}
use Rattle.fn_rules.specs.declared.function.Head.{Head}
use Rattle.fn_tokens.specs.declared.token.Token.{Token}
use Rattle.fn_tokens.specs.declared.token.Placed.{Placed}
use Rattle.fn_tokens.specs.declared.control.Want.{Want}
use Rattle.fn_tokens.specs.declared.control.Want.TheVariants as wants
use Rattle.fn_tokens.specs.declared.control.TokenMove.{TokenMove}
use Rattle.fn_tokens.specs.declared.language.Language.{Language}
use Rattle.fn_tokens.specs.Moves.{move_for}
use Rattle.fn_text.specs.Reader.{moved, after_move, ended, read_from, first_state}
use Rattle.fn_grammar.specs.Grammar.{WrittenBlock, file_written_as, is_allowed_file}
use Rattle.fn_tokens.specs.Tokens.{bare}
use Rattle.fn_text.proofs.WrittenIsRead.Guards.{going}
use Rattle.fn_text.proofs.SeenPairs.{has_seen-none}
use Rattle.fn_text.proofs.ReadIsWritten.States.{to_phrases, Phrases, Reached}
use Rattle.fn_text.proofs.ReadIsWritten.Guards.{Steps, operand_steps, comparison_steps, right_steps, operator_steps}
use Rattle.fn_text.proofs.ReadIsWritten.Guards.{offset_steps, number_steps}
use Rattle.fn_text.proofs.ReadIsWritten.Heads.{otfn_steps, version_steps, text_steps, mode_steps, kinds_steps}
use Rattle.fn_text.proofs.ReadIsWritten.Heads.{next_kind_steps, line_end_steps, assumed_steps, differ_steps}
use Rattle.fn_text.proofs.ReadIsWritten.Heads.{file_end_steps}
use Rattle.fn_text.proofs.ReadIsWritten.Blocks.{line_steps, block_first_steps, block_second_steps, block_end_steps}
use Rattle.fn_text.proofs.ReadIsWritten.Blocks.{result_steps, result_position_steps, result_offset_steps}
use Rattle.fn_text.proofs.ReadIsWritten.Blocks.{result_number_steps, result_end_steps}

-- each token that goes on
pub token_steps : (s : Phrases) (want : Want) (ts : List Token) (at : Placed) (move : TokenMove) → Reached s want ts →
    move_for s.control at want at.token ≡ Some move → Steps s ts at.token move
token_steps s wants.Otfn ts at move h e = otfn_steps s ts at.token move h e
token_steps s wants.Version ts at move h e = version_steps s ts at.token move h e
token_steps s wants.Text ts at move h e = text_steps s ts at.token move h e
token_steps s wants.Mode ts at move h e = mode_steps s ts at.token move h e
token_steps s wants.Kinds ts at move h e = kinds_steps s ts at.token move h e
token_steps s wants.NextKind ts at move h e = next_kind_steps s ts at.token move h e
token_steps s (wants.LineEnd following) ts at move h e = line_end_steps s following ts at.token move h e
token_steps s wants.Line ts at move h e = line_steps s at ts at.token move h e
token_steps s wants.Assumed ts at move h e = assumed_steps s ts at.token move h e
token_steps s wants.Differ ts at move h e = differ_steps s ts at.token move h e
token_steps s wants.BlockFirst ts at move h e = block_first_steps s ts at.token move h e
token_steps s (wants.BlockSecond k) ts at move h e = block_second_steps s k ts at.token move h e
token_steps s wants.BlockEnd ts at move h e = block_end_steps s ts at.token move h e
token_steps s wants.Operand ts at move h e = operand_steps s ts at.token move h e
token_steps s (wants.Comparison sort left) ts at move h e = comparison_steps s sort left ts at.token move h e
token_steps s (wants.Right sort left cmp) ts at move h e = right_steps s sort left cmp ts at.token move h e
token_steps s (wants.Offset left cmp) ts at move h e = offset_steps s left cmp ts at.token move h e
token_steps s (wants.Number left cmp sign) ts at move h e = number_steps s left cmp sign ts at.token move h e
token_steps s wants.Operator ts at move h e = operator_steps s ts at.token move h e
token_steps s wants.Result ts at move h e = result_steps s ts at.token move h e
token_steps s wants.ResultPosition ts at move h e = result_position_steps s ts at.token move h e
token_steps s (wants.ResultOffset side) ts at move h e = result_offset_steps s side ts at.token move h e
token_steps s (wants.ResultNumber side sign) ts at move h e = result_number_steps s side sign ts at.token move h e
token_steps s (wants.ResultEnd w) ts at move h e = result_end_steps s w ts at.token move h e
token_steps s wants.FileEnd ts at move h e = file_end_steps s ts at.token move h e
token_steps s wants.Nothing ts at move h e = absurd (cc)

-- a head and blocks within the limits, written so in one of the languages
pub record IsFile (ts : List Token) (parts : Head × List WrittenBlock) : Type 0 where
  pub language : Language
  pub allowed : IsTrue (is_allowed_file language parts.0 parts.1)
  pub written : ts ≡ file_written_as language parts.0 parts.1

ended_file : (s : Phrases) (want : Want) (ts : List Token) (parts : Head × List WrittenBlock) → Reached s want ts →
    ended s want ≡ Ok parts → IsFile ts parts
ended_file s wants.Nothing ts parts h e =
    let same : (s.control.head, s.done) ≡ parts = cc in
    subst (λ x. IsFile ts x) same (record { language = s.control.language; allowed = h.0; written = h.1 })
ended_file s _ ts parts h e = absurd (cc)

turned_file : (s : Phrases) (ts : List Token) (at : Placed) (rest : List Placed) (parts : Head × List WrittenBlock) →
    Reached s s.control.want ts →
    ((after : Phrases) (more : List Token) → Reached after after.control.want more
    → read_from to_phrases after rest ≡ Ok parts →
    IsFile (more ++ bare rest) parts) → (move : Option TokenMove) → move_for s.control at s.control.want at.token ≡ move
    → going to_phrases rest (after_move to_phrases s at move) ≡ Ok parts → IsFile (ts ++ at.token ∷ bare rest) parts
turned_file s ts at rest parts h others None same e = absurd (cc)
turned_file s ts at rest parts h others (Some move) same e =
    subst (λ x. IsFile x parts) (append_assoc ts (at.token ∷ []) (bare rest))
    (others (moved to_phrases s move) (ts ++ at.token ∷ []) (token_steps s s.control.want ts at move h same) e)

-- what is read behind some tokens is written by these and the further ones
pub read_is_file : (s : Phrases) (ts : List Token) (ps : List Placed) (parts : Head × List WrittenBlock) →
    Reached s s.control.want ts → read_from to_phrases s ps ≡ Ok parts → IsFile (ts ++ bare ps) parts
read_is_file s ts [] parts h e =
    subst (λ x. IsFile x parts) (sym (append-nil ts)) (ended_file s s.control.want ts parts h e)
read_is_file s ts (at ∷ rest) parts h e =
    turned_file s ts at rest parts h (λ after more reached reads. read_is_file after more rest parts reached reads)
    (move_for s.control at s.control.want at.token) refl e

-- before the first token
pub first_reached : Reached (first_state to_phrases) wants.Otfn []
first_reached = (
  (
    record { begun_not = refl; seen_none = has_seen-none; done_none = refl; counted = refl },
    record { any = refl; all = refl; nots = refl; outside = refl; outer_none = refl },
    refl,
  ),
  refl,
)
