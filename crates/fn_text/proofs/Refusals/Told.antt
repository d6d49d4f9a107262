-- A text that is refused is refused for its first wrong token, with the cause that the table on tokens tells; and each
-- file is the text of one function, or refused for one fault.
use Rattle.std.proofs.Common.{◌≡◌, ℕ, List, ◌∷◌, Option, Some, None, Result, Ok, Err, reverse, refl, sym, ap, ◌∙◌}
use Rattle.std.proofs.lemmas.List.{reverse-reverse}
use Rattle.fn_tokens.specs.declared.token.Placed.{Placed}
use Rattle.fn_tokens.specs.Tokens.{bare, tokens_in, EndsFile}
use Rattle.fn_tokens.proofs.Ends.{file_ends}
use Rattle.fn_rules.specs.Functions.{Function, GuardedCase}
use Rattle.fn_rules.specs.Building.{PairCases}
use Rattle.fn_tokens.specs.declared.fault.TextFault.{TextFault}
use Rattle.fn_text.specs.declared.stop.TextError.{TextError}
use Rattle.fn_text.specs.declared.stop.TextError.TheVariants as errors
use Rattle.fn_tokens.specs.declared.control.TokenMove.{TokenMove}
use Rattle.fn_tokens.specs.Moves.{move_for}
use Rattle.fn_tokens.specs.Meaning.{Formulas, to_formulas}
use Rattle.fn_text.specs.Reader.{State, after_move, read_from, first_state}
use Rattle.fn_text.specs.Theorems.{state_behind}
use Rattle.fn_text.specs.Reading.{function_in, built_from}
use Rattle.fn_text.specs.GoingOn.{CanGoOn}
use Rattle.fn_text.specs.Made.{GivesView}
use Rattle.fn_text.specs.Refusals.{IsRefusedFor, IsAnswerFor, IsAnsweredBy, HasOneAnswer, AnswersAreRead}
use Rattle.fn_text.proofs.WrittenIsRead.Guards.{going}
use Rattle.fn_text.proofs.WrittenIsRead.Files.{text_is_read}
use Rattle.fn_text.proofs.ReadIsWritten.Functions.{found}
use Rattle.fn_text.proofs.Refusals.NoneBegins.{stops, reads_behind, only_by_reading}
use Rattle.fn_text.proofs.Refusals.GoingOn.{Leads, stands, leads_on, last_move, taken, goes_on}
use Rattle.fn_text.proofs.Causes.FirstWrong.{fault_told}

-- the reader takes tokens in their order
leads_there : (before : List Placed) (s : State Formulas GuardedCase PairCases) →
    state_behind to_formulas (first_state to_formulas) before ≡ Ok s → Leads (reverse before) s
leads_there before s reads =
    ap (λ x. state_behind to_formulas (first_state to_formulas) x) (reverse-reverse before) ∙ reads

-- a token that is not taken behind tokens can not go on with them
stops_there : (before : List Placed) (wrong : Placed) (s : State Formulas GuardedCase PairCases) →
    state_behind to_formulas (first_state to_formulas) before ≡ Ok s →
    move_for s.control wrong s.control.want wrong.token ≡ None →
    ¬ (CanGoOn (wrong.token ∷ bare (reverse before)))
stops_there before wrong s reads refused goes =
    let all = taken (wrong ∷ reverse before) goes in
    let last = last_move (reverse before) wrong all.now all.leads in
    let same : s ≡ last.now = let one = leads_there before s reads in let other = last.leads in cc in
    let some : move_for s.control wrong s.control.want wrong.token ≡ Some last.move =
    ap (λ x. move_for x.control wrong x.control.want wrong.token) same ∙ last.goes in
    absurd (cc)

-- tokens that are refused are so for their first wrong token
refused_for : (tokens : List Placed) (fault : TextFault) → EndsFile tokens →
    read_from to_formulas (first_state to_formulas) tokens ≡ Err fault → IsRefusedFor tokens fault
refused_for tokens fault ends e =
    let ended = ap (λ x. read_from to_formulas (first_state to_formulas) x) (sym ends.is) ∙ e in
    let stop = stops to_formulas (first_state to_formulas) ends.front ends.last fault ends.end ended in
    let leads = leads_there stop.before stop.state stop.reads in
    let nearest = reverse stop.before in
    record {
      before = stop.before;
      wrong = stop.wrong;
      behind = stop.behind;
      parts = ends.is ∙ stop.parts;
      goes_on = goes_on nearest stop.state leads;
      stops = stops_there stop.before stop.wrong stop.state stop.reads stop.refused;
      told = stop.told ∙ fault_told stop.state nearest stop.wrong (stands nearest stop.state leads) stop.refused;
    }

pub refusals_are_final : (bytes : List ℕ) (fault : TextFault) → function_in bytes ≡ Err fault →
    IsRefusedFor (tokens_in bytes) fault
unfolding function_in
refusals_are_final bytes fault e =
    refused_for (tokens_in bytes) fault (file_ends bytes) (only_by_reading fault e)

-- the wrong token is not taken
refused_by : (tokens : List Placed) (fault : TextFault) (r : IsRefusedFor tokens fault)
    (s : State Formulas GuardedCase PairCases) → Leads (reverse r.before) s → (move : Option TokenMove) →
    move_for s.control r.wrong s.control.want r.wrong.token ≡ move →
    read_from to_formulas (first_state to_formulas) tokens ≡ Err fault
refused_by tokens fault r s leads None refused =
    let reads : state_behind to_formulas (first_state to_formulas) r.before ≡ Ok s =
    ap (λ x. state_behind to_formulas (first_state to_formulas) x) (sym (reverse-reverse r.before)) ∙ leads in
    let nearest = reverse r.before in
    ap (λ x. read_from to_formulas (first_state to_formulas) x) r.parts
    ∙ (reads_behind to_formulas (first_state to_formulas) r.before (r.wrong ∷ r.behind) s reads
    ∙ (ap (λ x. going to_formulas r.behind (after_move to_formulas s r.wrong x)) refused
    ∙ ap (λ x. Err x) (fault_told s nearest r.wrong (stands nearest s leads) refused ∙ sym r.told)))
refused_by tokens fault r s leads (Some move) goes =
    absurd (r.stops (goes_on (r.wrong ∷ reverse r.before) _ (leads_on (reverse r.before) r.wrong s move leads goes)))

-- a file that is refused for a fault is read as it
pub refused_is_read : (tokens : List Placed) (fault : TextFault) → IsRefusedFor tokens fault →
    read_from to_formulas (first_state to_formulas) tokens ≡ Err fault
refused_is_read tokens fault r =
    let taken = taken (reverse r.before) r.goes_on in
    refused_by tokens fault r taken.now taken.leads _ refl

answer_is_read : (bytes : List ℕ) (answer : Result Function TextFault) → IsAnsweredBy bytes answer →
    function_in bytes ≡ answer
unfolding function_in
answer_is_read bytes (Ok f) text = text_is_read bytes f text
answer_is_read bytes (Err fault) refused = ap (λ x. built_from x) (refused_is_read (tokens_in bytes) fault refused)

read_is_answer : (bytes : List ℕ) (answer : Result Function TextFault) → function_in bytes ≡ answer →
    IsAnsweredBy bytes answer
read_is_answer bytes (Ok f) reads = found bytes f reads
read_is_answer bytes (Err fault) reads = refusals_are_final bytes fault reads

-- what is read is the one answer
pub answers_are_read : AnswersAreRead
answers_are_read bytes answer = (answer_is_read bytes answer, read_is_answer bytes answer)

pub one_answer : (bytes : List ℕ) → HasOneAnswer bytes
one_answer bytes = record {
  answer = function_in bytes;
  is = read_is_answer bytes (function_in bytes) refl;
  only = λ other is. sym (answer_is_read bytes other is);
}

-- so what is answered of bytes is their function or their refusal, unless memory ran out
pub answered_for : {X : Type 0} (view : X → Function) (bytes : List ℕ) (answer : Result X TextError) →
    GivesView view answer (function_in bytes) → IsAnswerFor view bytes answer
answered_for view bytes (Ok x) gives = found bytes (view x) gives
answered_for view bytes (Err (errors.Fault fault)) gives = refusals_are_final bytes fault gives
answered_for view bytes (Err errors.NoMemory) gives = tt
