-- A file that is refused has a hint of its fault, and one that is read has none.
use Rattle.std.proofs.Common.{◌≡◌, ℕ, List, [], ◌∷◌, ◌++◌, Some, None, option_map, Result, Ok, Err, refl, sym, ap}
use Rattle.std.proofs.Common.{◌∙◌, subst}
use Rattle.fn_rules.specs.declared.function.Head.{Head}
use Rattle.fn_rules.specs.Functions.{Function}
use Rattle.fn_rules.specs.Building.{PairCases}
use Rattle.fn_tokens.specs.declared.token.Placed.{Placed}
use Rattle.fn_tokens.specs.Tokens.{tokens_in, EndsFile}
use Rattle.fn_tokens.proofs.Ends.{file_ends}
use Rattle.fn_tokens.specs.declared.fault.TextFault.{TextFault}
use Rattle.fn_tokens.specs.Meaning.{to_formulas}
use Rattle.fn_tokens.specs.Faults.{fault_of}
use Rattle.fn_text.specs.declared.wrong.WrongToken.{WrongToken}
use Rattle.fn_text.specs.Reader.{first_state, read_from, turn}
use Rattle.fn_text.specs.Reading.{function_in, built_from}
use Rattle.fn_text.specs.Theorems.{state_behind}
use Rattle.fn_text.specs.Wrong.{wrong_from, wrong_in}
use Rattle.fn_text.proofs.WrittenIsRead.Guards.{going}
use Rattle.fn_text.proofs.Refusals.NoneBegins.{going_on, stops, only_by_reading}
use Rattle.fn_hints.specs.Hints.{HasHintOf, hint_for, RefusedFilesHaveHints, ReadFilesHaveNone}
use Rattle.fn_hints.proofs.Wrong.{Reading, going_to, going_by}

-- the first wrong token is the same behind tokens that go on
behind_by : (s : Reading) (at : Placed) (front rest : List Placed) (state : Reading) (next : Result Reading TextFault) →
    turn to_formulas s at ≡ next → going_on to_formulas front next ≡ Ok state →
    ((after : Reading) → state_behind to_formulas after front ≡ Ok state →
    wrong_from to_formulas after (front ++ rest) ≡ wrong_from to_formulas state rest) →
    wrong_from to_formulas s (at ∷ (front ++ rest)) ≡ wrong_from to_formulas state rest
behind_by s at front rest state (Ok after) turned e others =
    ap (λ x. going_to s at (front ++ rest) x) turned ∙ others after e
behind_by s at front rest state (Err fault) turned e others = absurd (cc)

wrong_behind : (s : Reading) (front rest : List Placed) (state : Reading) →
    state_behind to_formulas s front ≡ Ok state →
    wrong_from to_formulas s (front ++ rest) ≡ wrong_from to_formulas state rest
wrong_behind s [] rest state e = let same : s ≡ state = cc in ap (λ x. wrong_from to_formulas x rest) same
wrong_behind s (at ∷ front) rest state e =
    behind_by s at front rest state (turn to_formulas s at) refl e
    (λ after reads. wrong_behind after front rest state reads)

-- tokens that are refused have a first wrong one, of whose fault they are
record WrongOf (tokens : List Placed) (fault : TextFault) : Type 0 where
  wrong : WrongToken
  is : wrong_from to_formulas (first_state to_formulas) tokens ≡ Some wrong
  fault_is : fault_of wrong.control wrong.at ≡ fault

wrong_of : (tokens : List Placed) (fault : TextFault) → EndsFile tokens →
    read_from to_formulas (first_state to_formulas) tokens ≡ Err fault → WrongOf tokens fault
wrong_of tokens fault ends e =
    let refused = ap (λ x. read_from to_formulas (first_state to_formulas) x) (sym ends.is) ∙ e in
    let stop = stops to_formulas (first_state to_formulas) ends.front ends.last fault ends.end refused in
    record {
      wrong = record { control = stop.state.control; at = stop.wrong };
      is = ap (λ x. wrong_from to_formulas (first_state to_formulas) x) (ends.is ∙ stop.parts)
          ∙ (wrong_behind (first_state to_formulas) stop.before (stop.wrong ∷ stop.behind) stop.state stop.reads
          ∙ going_by stop.state stop.wrong stop.behind None stop.refused);
      fault_is = sym stop.told;
    }

pub refused_files_have_hints : RefusedFilesHaveHints
unfolding function_in
refused_files_have_hints bytes fault e =
    let found = wrong_of (tokens_in bytes) fault (file_ends bytes) (only_by_reading fault e) in
    subst (λ x. HasHintOf fault (option_map (λ wrong. hint_for bytes wrong) x)) (sym found.is) found.fault_is

-- tokens that are read have none
none_by : (s : Reading) (at : Placed) (rest : List Placed) (x : Head × List PairCases)
    (next : Result Reading TextFault) →
    turn to_formulas s at ≡ next → going to_formulas rest next ≡ Ok x →
    ((after : Reading) → read_from to_formulas after rest ≡ Ok x → wrong_from to_formulas after rest ≡ None) →
    wrong_from to_formulas s (at ∷ rest) ≡ None
none_by s at rest x (Ok after) turned e others = ap (λ y. going_to s at rest y) turned ∙ others after e
none_by s at rest x (Err fault) turned e others = absurd (cc)

none_wrong : (s : Reading) (rest : List Placed) (x : Head × List PairCases) →
    read_from to_formulas s rest ≡ Ok x → wrong_from to_formulas s rest ≡ None
none_wrong s [] x e = refl
none_wrong s (at ∷ rest) x e =
    none_by s at rest x (turn to_formulas s at) refl e (λ after reads. none_wrong after rest x reads)

none_of : (bytes : List ℕ) (read : Result (Head × List PairCases) TextFault) (f : Function) →
    read_from to_formulas (first_state to_formulas) (tokens_in bytes) ≡ read → built_from read ≡ Ok f →
    wrong_in bytes ≡ None
none_of bytes (Ok x) f e built = none_wrong (first_state to_formulas) (tokens_in bytes) x e
none_of bytes (Err fault) f e built = absurd (cc)

pub read_files_have_none : ReadFilesHaveNone
unfolding function_in
read_files_have_none bytes f e =
    ap (λ x. option_map (λ wrong. hint_for bytes wrong) x)
    (none_of bytes (read_from to_formulas (first_state to_formulas) (tokens_in bytes)) f refl e)
