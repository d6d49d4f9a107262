-- The text of a case at a place of its block.
use Rattle.std.proofs.Common.{◌≡◌, ◌∙◌, ℕ, List, map, All, ap, subst, sym}
use Rattle.std.specs.Prelude.{Some, None, option_map, slice_get}
use Rattle.std.proofs.lemmas.List.Elements.{All-get_or}
use Rattle.std.proofs.lemmas.Option.{slice_get-map, slice_get_within, get_or_from_slice_get}
use Rattle.ot_model.specs.declared.op.Kind.{Kind}
use Rattle.fn_rules.specs.declared.function.Case.{Case}
use Rattle.fn_rules.specs.Functions.{GuardedCase, case_of}
use Rattle.fn_grammar.specs.Offsets.{HasCaseOffsets}
use Rattle.fn_grammar.specs.Print.{printed_case}

-- a case of a block whose cases have no long offsets has none
pub offsets_at : (cs : List Case) (i : ℕ) (c : Case) → All (λ x. HasCaseOffsets (case_of x)) cs
    → slice_get cs i ≡ Some c
    → HasCaseOffsets (case_of c)
offsets_at cs i c all there =
    subst (λ x. HasCaseOffsets (case_of x)) (get_or_from_slice_get cs i c c there)
    (All-get_or (λ x. HasCaseOffsets (case_of x)) cs i c (slice_get_within cs i c there) all)

-- the text of the case that is there
pub text_at : (k : Kind) (cs : List Case) (plain : List GuardedCase) (i : ℕ) (c : Case) (text : List ℕ)
    → map case_of cs ≡ plain
    → slice_get cs i ≡ Some c → text ≡ printed_case k (case_of c)
    → Some text ≡ option_map (printed_case k) (slice_get plain i)
text_at k cs plain i c text same there is =
    ap Some is
    ∙ sym (ap (λ x. option_map (printed_case k) (slice_get x i)) (sym same)
    ∙ ap (λ x. option_map (printed_case k) x) (slice_get-map case_of cs i)
    ∙ ap (λ x. option_map (printed_case k) (option_map case_of x)) there)

-- and none, where there is no such case
pub no_text_at : (k : Kind) (cs : List Case) (plain : List GuardedCase) (i : ℕ)
    → map case_of cs ≡ plain → slice_get cs i ≡ None
    → None ≡ option_map (printed_case k) (slice_get plain i)
no_text_at k cs plain i same none =
    sym (ap (λ x. option_map (printed_case k) (slice_get x i)) (sym same)
    ∙ ap (λ x. option_map (printed_case k) x) (slice_get-map case_of cs i)
    ∙ ap (λ x. option_map (printed_case k) (option_map case_of x)) none)
