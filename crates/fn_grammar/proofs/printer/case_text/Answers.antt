use Rattle.std.proofs.Common.{length, refl}
use Rattle.std.proofs.lemmas.Option.{slice_get_read, slice_get_past}
use Rattle.fn_rules.specs.Functions.{cases_of}
use Rattle.fn_rules.specs.Rules.{function_of}
use Rattle.fn_grammar.proofs.CaseTexts.{offsets_at, text_at, no_text_at}
use Rattle.fn_grammar.proofs.Printing.Offsets.{block_has_offsets}
use Rattle.fn_grammar.proofs.printer.case_text.Goals as goal

pub clause_text-requires : goal.clause_text-requires
clause_text-requires c =
    let cs = c.cases.result.now in
    let there = c.in-Some.ensures.lookup.3 in
    offsets_at cs c.args.number c.in-Some.case.now
    (block_has_offsets (function_of c.args.rules.now) c.args.first c.args.second cs
    c.rules_are_valid.ensures c.cases.ensures.cases)
    (slice_get_read cs (length cs) c.args.number c.in-Some.case.now refl there.0 (there.1 c.in-Some.case.now))

pub returns-in_ok-clause_text-in-Some : goal.returns-in_ok-clause_text-in-Some
returns-in_ok-clause_text-in-Some c =
    let cs = c.cases.result.now in
    let there = c.in-Some.ensures.lookup.3 in
    text_at c.args.first cs (cases_of (function_of c.args.rules.now) c.args.first c.args.second) c.args.number
    c.in-Some.case.now c.in_ok-clause_text-in-Some.field-0.items c.cases.ensures.cases
    (slice_get_read cs (length cs) c.args.number c.in-Some.case.now refl there.0 (there.1 c.in-Some.case.now))
    c.in_ok-clause_text-in-Some.ensures

pub returns-in-None : goal.returns-in-None
returns-in-None c =
    let cs = c.cases.result.now in
    no_text_at c.args.first cs (cases_of (function_of c.args.rules.now) c.args.first c.args.second) c.args.number
    c.cases.ensures.cases (slice_get_past cs c.args.number c.in-None.ensures.lookup.3)
