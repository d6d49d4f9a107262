use Rattle.fn_rules.specs.Rules.{function_of}
use Rattle.start_laws.specs.Starts.{compare_starts}
use Rattle.start_laws.specs.Marking.{marked_plan}
use Rattle.proof_sections.proofs.Sections.{section_no_line, section_no_tree, section_whole}
use Rattle.ot_confirm.proofs.section.judge_section.Goals as goal

pub returns-in-Err : goal.returns-in-Err
returns-in-Err c =
    section_no_line compare_starts (marked_plan (function_of c.args.rules.now) c.args.name) c.args.name c.args.bytes.now
    c.args.at c.in-Err.end c.in-Err.ensures

pub returns-in-Err-judge_in : goal.returns-in-Err-judge_in
returns-in-Err-judge_in c =
    section_no_tree compare_starts (marked_plan (function_of c.args.rules.now) c.args.name) c.args.name c.args.bytes.now
    c.args.at c.in-Ok.start c.in-Ok.ensures c.in-Err-judge_in.end c.in-Err-judge_in.ensures

pub returns-in-Ok-judge_in : goal.returns-in-Ok-judge_in
returns-in-Ok-judge_in c =
    section_whole compare_starts (marked_plan (function_of c.args.rules.now) c.args.name) c.args.name
    c.args.bytes.now c.args.at
    c.in-Ok.start c.in-Ok.ensures c.in-Ok-judge_in.behind c.judge_line_end.result
    c.in-Ok-judge_in.ensures c.judge_line_end.ensures
