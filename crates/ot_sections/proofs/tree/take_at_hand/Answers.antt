use Rattle.std.proofs.Common.{take, arith, sym, subst}
use Rattle.cert_check.specs.Judging.{open_branches}
use Rattle.cert_text.specs.Passing.{IsPassed}
use Rattle.ot_sections.specs.Feeding.{fed}
use Rattle.ot_sections.proofs.Taking.{behind_tokens, taken_passed}
use Rattle.ot_sections.proofs.tree.take_at_hand.Goals as goal

pub pass-requires-clause-tokens : goal.pass-requires-clause-tokens
pass-requires-clause-tokens g c =
    let took = c.take_tokens-taken in
    subst (IsPassed c.args.reader.now (take took.result.0 c.at_hand-bytes.result.now)) (sym took.ensures.count)
    (taken_passed c.args.reader.now (take took.result.0 c.at_hand-bytes.result.now)
    (open_branches g.A.Asker.plan c.args.checker.now)
    (open_branches g.A.Asker.plan took.new.checker) c.requires.between c.requires.tree took.ensures.taken)

-- the tokens that were taken lead behind them
pub returns-clause-leads : goal.returns-clause-leads
returns-clause-leads g c =
    let took = c.take_tokens-taken in
    (behind_tokens g.F.Feed (fed c.args.reader.now c.args.feed.now) (fed c.pass.new.self c.consume.new.self)
    (open_branches g.A.Asker.plan c.args.checker.now) (open_branches g.A.Asker.plan took.new.checker)
    c.at_hand-bytes.result.now took.result.0 took.result.1 c.requires.between c.requires.tree
    (c.at_hand-bytes.ensures.hand, took.ensures.within)
    (record { left = c.consume.ensures.left; bound = c.consume.ensures.bound; gave = c.consume.ensures.gave })
    (record {
      more_faults = omega (arith, c.consume.ensures.faults);
      no_more_bytes = omega (arith, c.consume.ensures.bound);
      same_object = c.consume.ensures.held;
      still_keeps = c.consume.ensures.keeps;
    })
    took.ensures.taken took.ensures.count c.pass.ensures).leads
