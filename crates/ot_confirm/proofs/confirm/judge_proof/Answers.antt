use Rattle.std.proofs.Common.{◌≡◌, ℕ, Result, Ok, Err, List, length, drop, ap, sym, subst, ◌∙◌}
use Rattle.fn_rules.specs.declared.function.ObName.{ObName}
use Rattle.fn_rules.specs.declared.function.Head.{Head}
use Rattle.fn_rules.specs.Obligations.{obligations_of}
use Rattle.fn_rules.specs.Rules.{function_of}
use Rattle.start_laws.specs.Starts.{compare_starts}
use Rattle.start_laws.specs.Marking.{marked_plan}
use Rattle.proof_sections.specs.declared.refusal.ConfirmError.{ConfirmError}
use Rattle.proof_sections.specs.Judgement.{Judges, sections_judged}
use Rattle.proof_sections.proofs.Sections.{AnswersJudged, proof_no_end, proof_no_header, proof_no_section}
use Rattle.proof_sections.proofs.Sections.{proof_trailing, proof_whole}
use Rattle.ot_confirm.specs.Judgement.{judgement_of}
use Rattle.ot_confirm.proofs.confirm.judge_proof.Goals as goal

pub returns-in-Err : goal.returns-in-Err
unfolding judgement_of
returns-in-Err c =
    let f = function_of c.args.rules.now in
    let m = c.in-Err.ensures.missing in
    record {
      judged =
          subst (λ (e : ConfirmError). AnswersJudged (judgement_of f c.args.bytes.now) (Err e)) (sym m.2)
          (proof_no_header compare_starts (marked_plan f) (obligations_of f.head) c.args.bytes.now m.0 m.1);
    }

-- what refuses the sections refuses the proof
pub returns-in-Err-judge_sections : goal.returns-in-Err-judge_sections
unfolding judgement_of
returns-in-Err-judge_sections c =
    let f = function_of c.args.rules.now in
    let level = c.in-Ok.header.0 in
    let names : c.deref.result.now ≡ obligations_of f.head level =
    c.deref.ensures.value ∙ c.in-Ok-obligations.ensures
    ∙ ap (λ (h : Head). obligations_of h level) c.head-head.ensures.head in
    let over =
    λ (r : Result ℕ ConfirmError) (is : Judges c.args.bytes.now (sections_judged compare_starts (marked_plan f)
    c.deref.result.now (length c.args.bytes.now) (drop c.in-Ok.header.1 c.args.bytes.now)) r).
    subst
    (λ (n : List ObName).
    Judges c.args.bytes.now (sections_judged compare_starts (marked_plan f) n (length c.args.bytes.now)
    (drop c.in-Ok.header.1 c.args.bytes.now)) r) names is in
    record {
      judged =
          proof_no_section compare_starts (marked_plan f) (obligations_of f.head) c.args.bytes.now level
          c.in-Ok.header.1 c.in-Ok.ensures.found
          c.in-Err-judge_sections.end (over (Err c.in-Err-judge_sections.end) c.in-Err-judge_sections.ensures);
    }

-- what refuses the last line refuses the proof
pub returns : goal.returns
unfolding judgement_of
returns c =
    let f = function_of c.args.rules.now in
    let level = c.in-Ok.header.0 in
    let names : c.deref.result.now ≡ obligations_of f.head level =
    c.deref.ensures.value ∙ c.in-Ok-obligations.ensures
    ∙ ap (λ (h : Head). obligations_of h level) c.head-head.ensures.head in
    let over =
    λ (r : Result ℕ ConfirmError) (is : Judges c.args.bytes.now (sections_judged compare_starts (marked_plan f)
    c.deref.result.now (length c.args.bytes.now) (drop c.in-Ok.header.1 c.args.bytes.now)) r).
    subst
    (λ (n : List ObName).
    Judges c.args.bytes.now (sections_judged compare_starts (marked_plan f) n (length c.args.bytes.now)
    (drop c.in-Ok.header.1 c.args.bytes.now)) r) names is in
    record {
      judged =
          proof_no_end compare_starts (marked_plan f) (obligations_of f.head) c.args.bytes.now level c.in-Ok.header.1
          c.in-Ok.ensures.found c.in-Ok-judge_sections.behind (over (Ok c.in-Ok-judge_sections.behind)
          c.in-Ok-judge_sections.ensures) c.in-Err-judge_end.end c.in-Err-judge_end.ensures;
    }

-- the proof ends with its last line
pub returns-in-Ok-judge_end : goal.returns-in-Ok-judge_end
unfolding judgement_of
returns-in-Ok-judge_end c =
    let f = function_of c.args.rules.now in
    let level = c.in-Ok.header.0 in
    let names : c.deref.result.now ≡ obligations_of f.head level =
    c.deref.ensures.value ∙ c.in-Ok-obligations.ensures
    ∙ ap (λ (h : Head). obligations_of h level) c.head-head.ensures.head in
    let over =
    λ (r : Result ℕ ConfirmError) (is : Judges c.args.bytes.now (sections_judged compare_starts (marked_plan f)
    c.deref.result.now (length c.args.bytes.now) (drop c.in-Ok.header.1 c.args.bytes.now)) r).
    subst
    (λ (n : List ObName).
    Judges c.args.bytes.now (sections_judged compare_starts (marked_plan f) n (length c.args.bytes.now)
    (drop c.in-Ok.header.1 c.args.bytes.now)) r) names is in
    record {
      judged =
          proof_whole compare_starts (marked_plan f) (obligations_of f.head) c.args.bytes.now level c.in-Ok.header.1
          c.in-Ok.ensures.found c.in-Ok-judge_sections.behind (over (Ok c.in-Ok-judge_sections.behind)
          c.in-Ok-judge_sections.ensures) c.in-Ok-judge_end.end c.in-Ok-judge_end.ensures c.if-end-bytes.true;
    }

-- bytes behind the last line are refused
pub returns-in-Ok-2 : goal.returns-in-Ok-2
unfolding judgement_of
returns-in-Ok-2 c =
    let f = function_of c.args.rules.now in
    let level = c.in-Ok.header.0 in
    let names : c.deref.result.now ≡ obligations_of f.head level =
    c.deref.ensures.value ∙ c.in-Ok-obligations.ensures
    ∙ ap (λ (h : Head). obligations_of h level) c.head-head.ensures.head in
    let over =
    λ (r : Result ℕ ConfirmError) (is : Judges c.args.bytes.now (sections_judged compare_starts (marked_plan f)
    c.deref.result.now (length c.args.bytes.now) (drop c.in-Ok.header.1 c.args.bytes.now)) r).
    subst
    (λ (n : List ObName).
    Judges c.args.bytes.now (sections_judged compare_starts (marked_plan f) n (length c.args.bytes.now)
    (drop c.in-Ok.header.1 c.args.bytes.now)) r) names is in
    record {
      judged =
          proof_trailing compare_starts (marked_plan f) (obligations_of f.head) c.args.bytes.now level c.in-Ok.header.1
          c.in-Ok.ensures.found c.in-Ok-judge_sections.behind (over (Ok c.in-Ok-judge_sections.behind)
          c.in-Ok-judge_sections.ensures) c.in-Ok-judge_end.end c.in-Ok-judge_end.ensures c.if-end-bytes.false;
    }
