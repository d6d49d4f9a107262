use Rattle.std.proofs.Common.{List, drop, Err, sym, subst, ◌≡◌, ◌∷◌, length, arith}
use Rattle.fn_rules.specs.declared.function.ObName.{ObName}
use Rattle.proof_sections.specs.Judgement.{Judges, sections_judged}
use Rattle.fn_rules.specs.Obligations.{is_obligation}
use Rattle.fn_rules.specs.Rules.{function_of}
use Rattle.start_laws.specs.Starts.{compare_starts}
use Rattle.start_laws.specs.Marking.{marked_plan}
use Rattle.proof_sections.proofs.Sections.{sections_not, sections_then}
use Rattle.ot_confirm.proofs.Listed.{all_parts, sections_empty}
use Rattle.ot_confirm.proofs.section.+judge_sections.Goals as goal

pub returns-in_default : goal.returns-in_default
returns-in_default t c =
    let none : length c.args.names.now ≡ 0 = omega (arith, c.in_default.ensures.cases) in
    sections_empty (function_of c.args.rules.now) c.args.names.now c.args.bytes.now c.args.at none c.requires.place

pub judge_section-requires-clause-listed : goal.judge_section-requires-clause-listed
judge_section-requires-clause-listed t c =
    let are : c.args.names.now ≡ c.in-Some.name.now ∷ c.in-Some.others.now = c.in-Some.ensures.cases.0 in
    (all_parts (is_obligation (function_of c.args.rules.now).head) c.in-Some.name.now c.in-Some.others.now
    (rw are at c.requires.listed)).0

pub returns-in-Err : goal.returns-in-Err
returns-in-Err t c =
    let are : c.args.names.now ≡ c.in-Some.name.now ∷ c.in-Some.others.now = c.in-Some.ensures.cases.0 in
    let plan = marked_plan (function_of c.args.rules.now) in
    subst
    (λ (n : List ObName).
    Judges c.args.bytes.now (sections_judged compare_starts plan n (length c.args.bytes.now)
    (drop c.args.at c.args.bytes.now)) (Err c.in-Err.end))
    (sym are)
    (sections_not compare_starts plan c.args.bytes.now c.args.at c.in-Some.name.now c.in-Some.others.now c.in-Err.end
    c.in-Err.ensures)

pub returns-in-Ok : goal.returns-in-Ok
returns-in-Ok t c =
    let are : c.args.names.now ≡ c.in-Some.name.now ∷ c.in-Some.others.now = c.in-Some.ensures.cases.0 in
    rw are
    (sections_then compare_starts (marked_plan (function_of c.args.rules.now)) c.args.bytes.now
    c.args.at c.in-Some.name.now
    c.in-Some.others.now c.in-Ok.next c.judge_sections.result c.in-Ok.ensures c.judge_sections.ensures)
