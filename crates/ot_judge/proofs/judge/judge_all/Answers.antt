-- A refusal of each stage is one of the bytes, and a certificate has come whole.
use Rattle.std.specs.List.{list_all}
use Rattle.std.proofs.Common.{◌≡◌, List, true, inr, ap, sym, subst, ◌∙◌, Ok}
use Rattle.std.proofs.lemmas.Result.{err_from_is_err_and}
use Rattle.fn_rules.specs.declared.function.Head.{Head}
use Rattle.fn_rules.specs.declared.function.ObName.{ObName}
use Rattle.fn_rules.specs.Obligations.{is_obligation, obligations_of}
use Rattle.fn_rules.specs.Rules.{function_of}
use Rattle.cert_text.specs.declared.item.Part.TheVariants as part
use Rattle.cert_text.specs.Reading.{ReaderState}
use Rattle.ot_sections.specs.Feeding.{fed}
use Rattle.ot_sections.specs.Sections.{IsLineWith}
use Rattle.ot_sections.specs.Stands.{Came, IsMisspeltBehind, reader_offset_of, reader_place_of}
use Rattle.ot_sections.proofs.Leading.{between_parts}
use Rattle.ot_sections.proofs.Leaving.{kept_on, rose_later}
use Rattle.ot_judge.proofs.WholeRun.{answered, at_start, behind_header, first_line, header_refused, refused_behind}
use Rattle.ot_judge.proofs.judge.judge_all.Goals as goal

pub returns-in_err-level-clause-judged : goal.returns-in_err-level-clause-judged
returns-in_err-level-clause-judged g c =
    let p = err_from_is_err_and c.from_residual-in_err-level.result c.from_residual-in_err-level.ensures.1 in
    let f = function_of c.args.rules.now in
    let at = at_start f c.args.head.now c.in_ok-reader.reader c.in_ok-reader.ensures c.requires.head in
    rw (p.1, p.2)
    (answered g.F.Feed f c.args.feed.now c.read_header.new.feed c.in_err-level.field-0.0
    (header_refused g.F.Feed f c.args.feed.now c.read_header.new.feed c.in_err-level.field-0.0
    (subst (λ (r : ReaderState). IsMisspeltBehind g.F.Feed (fed r c.args.feed.now) c.read_header.new.feed
    c.in_err-level.field-0.0) at c.in_err-level.ensures.misspelt)))

-- behind the header the sections are refused
pub returns-in_err-judge_sections-clause-judged : goal.returns-in_err-judge_sections-clause-judged
returns-in_err-judge_sections-clause-judged g c =
    let p = err_from_is_err_and c.from_residual-in_err-judge_sections.result
    c.from_residual-in_err-judge_sections.ensures.1 in
    let f = function_of c.args.rules.now in
    let at = at_start f c.args.head.now c.in_ok-reader.reader c.in_ok-reader.ensures c.requires.head in
    let first = fed c.read_header.new.reader c.read_header.new.feed in
    let header = subst (λ (r : ReaderState). Came g.F.Feed (fed r c.args.feed.now) first
    (record { offset = reader_offset_of r; part = part.Header c.in_ok-level.level }))
    at c.in_ok-level.ensures.header in
    rw (p.1, p.2)
    (answered g.F.Feed f c.args.feed.now c.judge_sections.new.feed c.in_err-judge_sections.field-0.0
    (refused_behind g.F.Feed f c.args.feed.now c.judge_sections.new.feed c.in_ok-level.level first header
    c.in_err-judge_sections.field-0.0 c.in_err-judge_sections.ensures.refused))

-- behind the header all sections came, and they are the certificate
pub returns-clause-judged : goal.returns-clause-judged
returns-clause-judged g c =
    let f = function_of c.args.rules.now in
    let at = at_start f c.args.head.now c.in_ok-reader.reader c.in_ok-reader.ensures c.requires.head in
    let first = fed c.read_header.new.reader c.read_header.new.feed in
    let header = subst (λ (r : ReaderState). Came g.F.Feed (fed r c.args.feed.now) first
    (record { offset = reader_offset_of r; part = part.Header c.in_ok-level.level }))
    at c.in_ok-level.ensures.header in
    inr
    (λ all have.
    let made = behind_header g.F.Feed f c.args.feed.now c.judge_sections.new.feed c.in_ok-level.level first header
    (Ok tt) c.in_ok-judge_sections.ensures.whole all have in
    (made.0, made.1, c.certificates_are_parts_that_fit.ensures.certificate f c.in_ok-level.level made.0 made.2))

pub judge_sections-requires-clause-listed : goal.judge_sections-requires-clause-listed
judge_sections-requires-clause-listed g c =
    let f = function_of c.args.rules.now in
    let names_are : c.deref.result.now ≡ obligations_of f.head c.in_ok-level.level =
    c.deref.ensures.value ∙ c.in_ok-names.ensures
    ∙ ap (λ (h : Head). obligations_of h c.in_ok-level.level) c.requires.head in
    subst (λ (n : List ObName). list_all (is_obligation f.head) n ≡ true) (sym names_are)
    (c.obligations_are_those_of_the_kinds.ensures.declared f.head c.in_ok-level.level)

pub judge_sections-requires-clause-lines : goal.judge_sections-requires-clause-lines
judge_sections-requires-clause-lines g c =
    let f = function_of c.args.rules.now in
    let names_are : c.deref.result.now ≡ obligations_of f.head c.in_ok-level.level =
    c.deref.ensures.value ∙ c.in_ok-names.ensures
    ∙ ap (λ (h : Head). obligations_of h c.in_ok-level.level) c.requires.head in
    let at = at_start f c.args.head.now c.in_ok-reader.reader c.in_ok-reader.ensures c.requires.head in
    let first = fed c.read_header.new.reader c.read_header.new.feed in
    let header = subst (λ (r : ReaderState). Came g.F.Feed (fed r c.args.feed.now) first
    (record { offset = reader_offset_of r; part = part.Header c.in_ok-level.level }))
    at c.in_ok-level.ensures.header in
    subst (λ (n : List ObName). IsLineWith n (reader_place_of c.read_header.new.reader)) (sym names_are)
    (first_line g.F.Feed f c.args.feed.now c.read_header.new.feed c.in_ok-level.level first header)

pub judge_sections-requires-clause-between : goal.judge_sections-requires-clause-between
judge_sections-requires-clause-between g c =
    between_parts g.F.Feed (fed c.in_ok-reader.reader c.args.feed.now)
    (fed c.read_header.new.reader c.read_header.new.feed) _ c.in_ok-level.ensures.header

-- what is left of the feed in each case
pub returns-in_err-level-clause-truncated : goal.returns-in_err-level-clause-truncated
returns-in_err-level-clause-truncated g c =
    let p = err_from_is_err_and c.from_residual-in_err-level.result c.from_residual-in_err-level.ensures.1 in
    rw (p.1, p.2) (rw c.in_err-level.was at c.read_header.ensures.leaves).spent

pub returns-in_err-level-clause-failed : goal.returns-in_err-level-clause-failed
returns-in_err-level-clause-failed g c =
    let p = err_from_is_err_and c.from_residual-in_err-level.result c.from_residual-in_err-level.ensures.1 in
    rw (p.1, p.2) (rw c.in_err-level.was at c.read_header.ensures.leaves).failed

pub returns-in_err-level-clause-kept : goal.returns-in_err-level-clause-kept
returns-in_err-level-clause-kept g c = c.read_header.ensures.leaves.kept

pub returns-in_err-names-clause-kept : goal.returns-in_err-names-clause-kept
returns-in_err-names-clause-kept g c = c.read_header.ensures.leaves.kept

pub returns-in_err-judge_sections-clause-truncated : goal.returns-in_err-judge_sections-clause-truncated
returns-in_err-judge_sections-clause-truncated g c =
    let p = err_from_is_err_and c.from_residual-in_err-judge_sections.result
    c.from_residual-in_err-judge_sections.ensures.1 in
    rw (p.1, p.2) (rw c.in_err-judge_sections.was at c.judge_sections.ensures.leaves).spent

pub returns-in_err-judge_sections-clause-failed : goal.returns-in_err-judge_sections-clause-failed
returns-in_err-judge_sections-clause-failed g c =
    let p = err_from_is_err_and c.from_residual-in_err-judge_sections.result
    c.from_residual-in_err-judge_sections.ensures.1 in
    rw (p.1, p.2)
    (λ is.
    rose_later g.F.Feed c.args.feed.now c.read_header.new.feed c.judge_sections.new.feed
    c.read_header.ensures.leaves.kept ((rw c.in_err-judge_sections.was at c.judge_sections.ensures.leaves).failed is))

pub returns-in_err-judge_sections-clause-kept : goal.returns-in_err-judge_sections-clause-kept
returns-in_err-judge_sections-clause-kept g c =
    kept_on g.F.Feed c.args.feed.now c.read_header.new.feed c.judge_sections.new.feed c.read_header.ensures.leaves.kept
    c.judge_sections.ensures.leaves.kept

pub returns-clause-nothing_left : goal.returns-clause-nothing_left
returns-clause-nothing_left g c = c.in_ok-judge_sections.ensures.nothing_left

pub returns-clause-kept : goal.returns-clause-kept
returns-clause-kept g c =
    kept_on g.F.Feed c.args.feed.now c.read_header.new.feed c.judge_sections.new.feed c.read_header.ensures.leaves.kept
    c.judge_sections.ensures.leaves.kept
