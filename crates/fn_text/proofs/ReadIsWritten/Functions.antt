-- What is read is in the grammar, and means what its phrases mean.
use Rattle.std.proofs.Common.{◌≡◌, ℕ, IsTrue, List, [], map, Result, Ok, Err, IfOk, refl, sym, ap, ◌∙◌, subst}
use Rattle.fn_rules.specs.declared.function.Head.{Head}
use Rattle.fn_rules.specs.Functions.{Function}
use Rattle.fn_rules.specs.Building.{PairCases, function_from, is_buildable}
use Rattle.fn_tokens.specs.declared.fault.TextFault.{TextFault}
use Rattle.fn_text.specs.declared.stop.TextError.{TextError}
use Rattle.fn_tokens.specs.Tokens.{tokens_in}
use Rattle.fn_tokens.specs.Meaning.{to_formulas}
use Rattle.fn_text.specs.Made.{GivesView}
use Rattle.fn_text.specs.Reader.{read_from, first_state}
use Rattle.fn_text.specs.Reading.{built_from, function_in}
use Rattle.fn_grammar.specs.Grammar.{WrittenBlock, block_made, IsTextOf}
use Rattle.fn_text.proofs.ReadIsWritten.States.{to_phrases}
use Rattle.fn_text.proofs.ReadIsWritten.Images.{parts_made, read_made}
use Rattle.fn_grammar.proofs.Limits.{allowed_file_is_buildable}
use Rattle.fn_text.proofs.ReadIsWritten.Files.{read_is_file, first_reached}

built_is : (head : Head) (blocks : List PairCases) (f : Function) → built_from (Ok (head, blocks)) ≡ Ok f
    → f ≡ function_from head blocks
built_is head blocks f e = cc

-- bytes that are read as a function are a text of it
text_of_read : (bytes : List ℕ) (f : Function) (read : Result (Head × List WrittenBlock) TextFault) →
    read_from to_phrases (first_state to_phrases) (tokens_in bytes) ≡ read
    → built_from (parts_made to_formulas read) ≡ Ok f → IsTextOf bytes f
text_of_read bytes f (Ok parts) reads e =
    let file = read_is_file (first_state to_phrases) [] (tokens_in bytes) parts first_reached reads in
    record {
      language = file.language;
      head = parts.0;
      blocks = parts.1;
      allowed = file.allowed;
      written = file.written;
      means = built_is parts.0 (map (block_made to_formulas) parts.1) f e;
    }
text_of_read bytes f (Err fault) reads e = absurd (cc)

pub found : (bytes : List ℕ) (f : Function) → function_in bytes ≡ Ok f → IsTextOf bytes f
unfolding function_in
found bytes f e =
    text_of_read bytes f (read_from to_phrases (first_state to_phrases) (tokens_in bytes)) refl
    (ap (λ x. built_from x) (sym (read_made to_formulas (first_state to_phrases) (tokens_in bytes))) ∙ e)

parts_are_buildable : (bytes : List ℕ) (parts : Head × List PairCases) (read : Result (Head × List WrittenBlock)
    TextFault) → read_from to_phrases (first_state to_phrases) (tokens_in bytes) ≡ read
    → parts_made to_formulas read ≡ Ok parts → IsTrue (is_buildable parts.0 parts.1)
parts_are_buildable bytes parts (Ok written) reads e =
    let file = read_is_file (first_state to_phrases) [] (tokens_in bytes) written first_reached reads in
    let same : (written.0, map (block_made to_formulas) written.1) ≡ parts = cc in
    subst (λ x. IsTrue (is_buildable x.0 x.1)) same
    (allowed_file_is_buildable file.language written.0 written.1 file.allowed)
parts_are_buildable bytes parts (Err fault) reads e = absurd (cc)

-- the head and the blocks that are read make a function within the limits
pub read_is_buildable : (bytes : List ℕ) (parts : Head × List PairCases) →
    read_from to_formulas (first_state to_formulas) (tokens_in bytes) ≡ Ok parts → IsTrue (is_buildable parts.0 parts.1)
read_is_buildable bytes parts e =
    parts_are_buildable bytes parts (read_from to_phrases (first_state to_phrases) (tokens_in bytes)) refl
    (sym (read_made to_formulas (first_state to_phrases) (tokens_in bytes)) ∙ e)

-- what a call answered that reads the head and the blocks
pub answer_is_buildable : {X : Type 0} (view : X → Head × List PairCases) (bytes : List ℕ) (answer : Result X TextError)
    → GivesView view answer (read_from to_formulas (first_state to_formulas) (tokens_in bytes)) →
    IfOk answer (λ x. IsTrue (is_buildable (view x).0 (view x).1))
answer_is_buildable view bytes (Ok x) gives = read_is_buildable bytes (view x) gives
answer_is_buildable view bytes (Err e) gives = tt
