-- A refusal of each stage is one of the bytes, and a certificate has come whole.
use Rattle.std.proofs.Common.{inr, arith}
use Rattle.std.proofs.lemmas.Result.{err_from_is_err_and}
use Rattle.fn_rules.specs.Rules.{function_of}
use Rattle.ot_bound.proofs.KeptFeeds.{kept_on, rose_behind}
use Rattle.ot_bound.proofs.LowRun.{answered, behind_judged, behind_refused, header_refused}
use Rattle.ot_bound.proofs.bound.judge_low.Goals as goal

pub returns-in_err-level-clause-judged : goal.returns-in_err-level-clause-judged
returns-in_err-level-clause-judged g c =
    let p = err_from_is_err_and c.from_residual.result c.from_residual.ensures.1 in
    let f = function_of c.args.rules.now in
    rw (p.1, p.2)
    (answered g.F.Feed f c.args.feed.now c.read_low_header.new.feed c.in_err-level.field-0.0
    (header_refused g.F.Feed f c.args.feed.now c.read_low_header.new.feed c.in_err-level.field-0.0
    c.in_err-level.ensures.refused))

pub judge_behind-requires : goal.judge_behind-requires
judge_behind-requires g c =
    let read = c.in_ok-level.ensures.header in
    record {
      head = c.requires.head;
      bounded = read.bounded;
      counted = read.counted;
      room = omega (arith, read.fewer, c.requires.room);
    }

-- the feed failed behind the first line, or the file ended there
pub returns-in_err-judge_behind-clause-truncated : goal.returns-in_err-judge_behind-clause-truncated
returns-in_err-judge_behind-clause-truncated g c =
    let p = err_from_is_err_and c.from_residual-in_err-judge_behind.result
    c.from_residual-in_err-judge_behind.ensures.1 in
    rw (p.1, p.2) c.in_err-judge_behind.ensures.truncated

pub returns-in_err-judge_behind-clause-failed : goal.returns-in_err-judge_behind-clause-failed
returns-in_err-judge_behind-clause-failed g c =
    let p = err_from_is_err_and c.from_residual-in_err-judge_behind.result
    c.from_residual-in_err-judge_behind.ensures.1 in
    rw (p.1, p.2)
    (λ failed. rose_behind c.read_low_header.ensures.kept.more_faults (c.in_err-judge_behind.ensures.failed failed))

-- behind the first line the sections are refused
pub returns-in_err-judge_behind-clause-judged : goal.returns-in_err-judge_behind-clause-judged
returns-in_err-judge_behind-clause-judged g c =
    let p = err_from_is_err_and c.from_residual-in_err-judge_behind.result
    c.from_residual-in_err-judge_behind.ensures.1 in
    rw (p.1, p.2)
    (behind_refused g.F.Feed (function_of c.args.rules.now) c.args.feed.now c.judge_behind.new.feed c.in_ok-level.level
    c.in_ok-level.bound c.in_ok-level.ensures.header.bounded c.read_low_header.new.feed
    c.in_ok-level.ensures.header.bytes c.in_err-judge_behind.field-0.0 c.in_err-judge_behind.ensures.judged)

-- behind the first line all sections came, and they are the certificate
pub returns-clause-judged : goal.returns-clause-judged
returns-clause-judged g c =
    let f = function_of c.args.rules.now in
    let level = c.in_ok-level.level in
    let bound = c.in_ok-level.bound in
    inr
    (behind_judged g.F.Feed f c.args.feed.now c.judge_behind.new.feed level bound c.in_ok-level.ensures.header.bounded
    c.read_low_header.new.feed c.in_ok-level.ensures.header.bytes
    (c.low_certificates_are_sections.ensures.certificate f level bound) c.in_ok-judge_behind.ensures.judged)

-- the feed is kept, whatever is returned
pub returns-in_err-level-clause-kept : goal.returns-in_err-level-clause-kept
returns-in_err-level-clause-kept g c = c.read_low_header.ensures.kept

pub returns-in_err-judge_behind-clause-kept : goal.returns-in_err-judge_behind-clause-kept
returns-in_err-judge_behind-clause-kept g c = kept_on c.read_low_header.ensures.kept c.judge_behind.ensures.kept

pub returns-clause-kept : goal.returns-clause-kept
returns-clause-kept g c = kept_on c.read_low_header.ensures.kept c.judge_behind.ensures.kept
