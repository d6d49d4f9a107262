-- What ends a part, or the bytes.
use Rattle.std.proofs.Common.{◌∙◌, Ok, arith, take}
use Rattle.std.proofs.lemmas.Result.{err_from_is_err_and}
use Rattle.ot_outside.specs.Faults.{Rose}
use Rattle.ot_sections.specs.Feeding.{IsSpent, fed}
use Rattle.ot_sections.specs.Stands.{IsOver}
use Rattle.ot_sections.proofs.Coming.{IsAsked, Took, bytes_misspelt, end_misspelt, finished_whole, over_by, part_comes}
use Rattle.ot_sections.proofs.Coming.{reads_more, refused_early, spent_by, took_of}
use Rattle.ot_sections.proofs.Leaving.{GoesOn, goes_on_with, leaves_failed, leaves_on, leaves_with, rose_later}
use Rattle.ot_sections.proofs.Leaving.{spelling_no_failure}
use Rattle.ot_sections.proofs.part.next_part.Given.{Over}
use Rattle.ot_sections.proofs.part.next_part.Goals.{After-more, After-consume, After-finish}
use Rattle.ot_sections.proofs.part.next_part.Goals as goal

-- the feed was asked for a further byte
asked : (g : Over) (c : After-more g) → IsAsked g.F.Feed c.loop-reader.feed c.more.new.self
asked g c = record { left = c.more.ensures.left; bound = c.more.ensures.bound; gave = c.more.ensures.gave }

asked_on : (g : Over) (c : After-more g)
    → GoesOn g.F.Feed (fed c.loop-reader.reader c.loop-reader.feed) (fed c.loop-reader.reader c.more.new.self)
asked_on g c = record {
  kept = record {
    more_faults = c.more.ensures.faults;
    no_more_bytes = omega (arith, c.more.ensures.bound);
    same_object = c.more.ensures.held;
    still_keeps = c.more.ensures.keeps;
  };
  room = omega (arith, c.more.ensures.bound);
  spent = tt;
  failed = tt;
}

-- a piece of its bytes was taken
took :
    (g : Over) (c : After-consume g)
    → Took g.F.Feed c.loop-reader.feed c.consume.new.self (take c.feed_piece-taken.result.0 c.at_hand.result.now)
took g c =
    took_of g.F.Feed c.loop-reader.feed c.more.new.self c.consume.new.self c.at_hand.result.now
    c.feed_piece-taken.result.0
    (c.at_hand.ensures.hand, c.feed_piece-taken.ensures.within) (asked g (goal.at.After-consume g c).After-more)
    (record { left = c.consume.ensures.left; bound = c.consume.ensures.bound; gave = c.consume.ensures.gave })

took_on :
    (g : Over) (c : After-consume g)
    → GoesOn g.F.Feed (fed c.loop-reader.reader c.loop-reader.feed) (fed c.feed_piece-taken.new.self c.consume.new.self)
took_on g c = record {
  kept = record {
    more_faults = omega (arith, c.more.ensures.faults, c.consume.ensures.faults);
    no_more_bytes = omega (arith, c.more.ensures.bound, c.consume.ensures.bound);
    same_object = c.consume.ensures.held ∙ c.more.ensures.held;
    still_keeps = λ before h. c.consume.ensures.keeps before (c.more.ensures.keeps before h);
  };
  room = omega (arith, c.feed_piece-taken.ensures.fed, c.more.ensures.bound, c.consume.ensures.bound);
  spent = tt;
  failed = tt;
}

-- no further byte was there
spent : (g : Over) (c : After-finish g) → IsSpent g.F.Feed.left g.F.Feed.hand c.more.new.self
spent g c =
    spent_by g.F.Feed c.loop-reader.feed c.more.new.self (asked g (goal.at.After-finish g c).After-more)
    (c.in_ok-more.ensures.end c.if-branch.false) (c.in_ok-more.ensures.none c.if-branch.false)

over : (g : Over) (c : After-finish g) → IsOver g.F.Feed (fed c.loop-reader.reader c.loop-reader.feed) c.more.new.self
over g c =
    over_by g.F.Feed (fed c.loop-reader.reader c.loop-reader.feed) c.more.new.self
    (asked g (goal.at.After-finish g c).After-more) (spent g c)

-- a piece that ends no part was taken
pub loop-reader-preserved : goal.loop-reader-preserved
loop-reader-preserved g c =
    let gives = rw (c.in_ok-item.was, c.in_default.is) at c.feed_piece-taken.ensures.gives in
    record {
      reads =
          reads_more g.F.Feed (fed c.args.reader.now c.args.feed.now) (fed c.loop-reader.reader c.loop-reader.feed)
          (fed c.feed_piece-taken.new.self c.consume.new.self) c.loop-reader.invariant.reads c.at_hand.result.now
          c.feed_piece-taken.result.0 (took g (goal.at.loop-reader-preserved g c).After-consume) gives;
      leaves = leaves_on g.F.Feed (fed c.args.reader.now c.args.feed.now) (fed c.loop-reader.reader c.loop-reader.feed)
          (fed c.feed_piece-taken.new.self c.consume.new.self) (Ok tt) c.loop-reader.invariant.leaves
          (took_on g (goal.at.loop-reader-preserved g c).After-consume);
    }

-- what is left where the feed failed
pub returns-in_err-more-clause-leaves : goal.returns-in_err-more-clause-leaves
returns-in_err-more-clause-leaves g c =
    let p = err_from_is_err_and c.from_residual.result c.from_residual.ensures.1 in
    let on = leaves_on g.F.Feed (fed c.args.reader.now c.args.feed.now) (fed c.loop-reader.reader c.loop-reader.feed)
    (fed c.loop-reader.reader c.more.new.self)
    (Ok tt) c.loop-reader.invariant.leaves (asked_on g (goal.at.returns-in_err-more-clause-leaves g c).After-more) in
    rw (p.1, p.2)
    (leaves_failed g.F.Feed (fed c.args.reader.now c.args.feed.now) (fed c.loop-reader.reader c.more.new.self) on
    (rose_later g.F.Feed c.args.feed.now c.loop-reader.feed c.more.new.self c.loop-reader.invariant.leaves.kept
    c.in_err-more.ensures.failed))

pub returns-in-Some-clause-came : goal.returns-in-Some-clause-came
returns-in-Some-clause-came g c =
    let gives = rw (c.in_ok-item.was, c.in-Some.is) at c.feed_piece-taken.ensures.gives in
    part_comes g.F.Feed (fed c.args.reader.now c.args.feed.now) (fed c.loop-reader.reader c.loop-reader.feed)
    (fed c.feed_piece-taken.new.self c.consume.new.self) c.loop-reader.invariant.reads c.at_hand.result.now
    c.feed_piece-taken.result.0 c.in-Some.item (took g (goal.at.returns-in-Some-clause-came g c).After-consume) gives

-- what is left behind a part
pub returns-in-Some-clause-leaves : goal.returns-in-Some-clause-leaves
returns-in-Some-clause-leaves g c =
    leaves_on g.F.Feed (fed c.args.reader.now c.args.feed.now) (fed c.loop-reader.reader c.loop-reader.feed)
    (fed c.feed_piece-taken.new.self c.consume.new.self) (Ok _) c.loop-reader.invariant.leaves
    (goes_on_with g.F.Feed (fed c.loop-reader.reader c.loop-reader.feed) (fed c.feed_piece-taken.new.self
    c.consume.new.self) _ (took_on g (goal.at.returns-in-Some-clause-leaves g c).After-consume))

-- a byte that no part goes on with is where the bytes are misspelt
pub returns-in_err-item-clause-misspelt : goal.returns-in_err-item-clause-misspelt
returns-in_err-item-clause-misspelt g c =
    let p = err_from_is_err_and c.from_residual-in_err-item.result c.from_residual-in_err-item.ensures.1 in
    rw p.1
    (bytes_misspelt g.F.Feed (fed c.args.reader.now c.args.feed.now) (fed c.loop-reader.reader c.loop-reader.feed)
    c.loop-reader.invariant.reads (take c.feed_piece-taken.result.0 c.at_hand.result.now)
    c.in_err-item.field-0.0 c.feed_piece-taken.new.self (rw c.in_err-item.was at c.feed_piece-taken.ensures.reads) p.0
    c.consume.new.self (took g (goal.at.returns-in_err-item-clause-misspelt g c).After-consume) p.2)

-- what is left where a byte was refused
pub returns-in_err-item-clause-leaves : goal.returns-in_err-item-clause-leaves
returns-in_err-item-clause-leaves g c =
    let p = err_from_is_err_and c.from_residual-in_err-item.result c.from_residual-in_err-item.ensures.1 in
    rw p.1
    (leaves_with g.F.Feed (fed c.args.reader.now c.args.feed.now) (fed c.feed_piece-taken.new.self c.consume.new.self)
    p.0 (leaves_on g.F.Feed (fed c.args.reader.now c.args.feed.now) (fed c.loop-reader.reader c.loop-reader.feed)
    (fed c.feed_piece-taken.new.self c.consume.new.self) (Ok tt) c.loop-reader.invariant.leaves
    (took_on g (goal.at.returns-in_err-item-clause-leaves g c).After-consume))
    (refused_early g.F.Feed (fed c.args.reader.now c.args.feed.now) (fed c.loop-reader.reader c.loop-reader.feed)
    c.loop-reader.invariant.reads (take c.feed_piece-taken.result.0 c.at_hand.result.now)
    c.in_err-item.field-0.0 c.feed_piece-taken.new.self (rw c.in_err-item.was at c.feed_piece-taken.ensures.reads) p.0
    p.2) (spelling_no_failure c.in_err-item.field-0.0 p.0 p.2))

pub returns-in_err-finish-clause-misspelt : goal.returns-in_err-finish-clause-misspelt
returns-in_err-finish-clause-misspelt g c =
    let p = err_from_is_err_and c.from_residual-in_err-finish.result c.from_residual-in_err-finish.ensures.1 in
    rw p.1
    (end_misspelt g.F.Feed (fed c.args.reader.now c.args.feed.now) (fed c.loop-reader.reader c.loop-reader.feed)
    c.loop-reader.invariant.reads c.finish.result
    c.more.new.self (over g (goal.at.returns-in_err-finish-clause-misspelt g c).After-finish)
    c.finish.ensures.reads c.in_err-finish.field-0.0 p.0 c.in_err-finish.was p.2)

-- what is left where the bytes end too early: nothing more is given
pub returns-in_err-finish-clause-leaves : goal.returns-in_err-finish-clause-leaves
returns-in_err-finish-clause-leaves g c =
    let p = err_from_is_err_and c.from_residual-in_err-finish.result c.from_residual-in_err-finish.ensures.1 in
    let on = leaves_on g.F.Feed (fed c.args.reader.now c.args.feed.now) (fed c.loop-reader.reader c.loop-reader.feed)
    (fed c.loop-reader.reader c.more.new.self)
    (Ok tt) c.loop-reader.invariant.leaves (asked_on g (goal.at.returns-in_err-finish-clause-leaves g c).After-more) in
    rw p.1 (record {
      kept = on.kept;
      room = tt;
      spent = λ is. spent g (goal.at.returns-in_err-finish-clause-leaves g c).After-finish;
      failed = λ is. absurd
          {A = Rose (g.F.Feed.faults c.args.feed.now) (g.F.Feed.faults c.more.new.self)}
          (spelling_no_failure c.in_err-finish.field-0.0 p.0 p.2 is);
    })

pub returns-clause-finish : goal.returns-clause-finish
returns-clause-finish g c =
    (finished_whole g.F.Feed (fed c.args.reader.now c.args.feed.now)
    (fed c.loop-reader.reader c.loop-reader.feed) c.loop-reader.invariant.reads c.finish.result c.more.new.self
    (over g (goal.at.returns-clause-finish g c).After-finish) c.finish.ensures.reads c.in_ok-finish.was).0

pub returns-clause-over : goal.returns-clause-over
returns-clause-over g c =
    (finished_whole g.F.Feed (fed c.args.reader.now c.args.feed.now)
    (fed c.loop-reader.reader c.loop-reader.feed) c.loop-reader.invariant.reads c.finish.result
    c.more.new.self (over g (goal.at.returns-clause-over g c).After-finish) c.finish.ensures.reads c.in_ok-finish.was).1

pub returns-clause-nothing_left : goal.returns-clause-nothing_left
returns-clause-nothing_left g c = spent g (goal.at.returns-clause-nothing_left g c).After-finish

-- what is left behind the last part
pub returns-clause-leaves : goal.returns-clause-leaves
returns-clause-leaves g c =
    leaves_on g.F.Feed (fed c.args.reader.now c.args.feed.now) (fed c.loop-reader.reader c.loop-reader.feed)
    (fed c.loop-reader.reader c.more.new.self) (Ok _)
    c.loop-reader.invariant.leaves (goes_on_with g.F.Feed (fed c.loop-reader.reader c.loop-reader.feed)
    (fed c.loop-reader.reader c.more.new.self) _ (asked_on g (goal.at.returns-clause-leaves g c).After-more))
