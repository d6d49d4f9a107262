use Rattle.std.proofs.Common.{◌≡◌, Err, Ok, arith, ◌∙◌, subst}
use Rattle.std.proofs.lemmas.Result.{err_from_is_err_and}
use Rattle.cert_text.specs.declared.item.Part.TheVariants as part
use Rattle.cert_text.specs.Reading.{ReaderState}
use Rattle.ot_sections.specs.Feeding.{Leaves, fed}
use Rattle.ot_sections.specs.Stands.{Came, IsMisspeltBehind}
use Rattle.ot_sections.proofs.Coming.{IsAsked, came_asked, misspelt_asked, not_begun, part_comes, took_of}
use Rattle.ot_sections.proofs.Leaving.{asked_on, goes_on_by, goes_on_with, leaves_as, leaves_on}
use Rattle.ot_sections.proofs.tree.next_token.Goals as goal
use Rattle.ot_sections.proofs.tree.next_token.Goals.{then-branch+in_default, else-branch}

pub returns-in-Some-clause-token : goal.returns-in-Some-clause-token
returns-in-Some-clause-token g c =
    let same : IsAsked g.F.Feed c.args.feed.now c.more.new.self =
    record { left = c.more.ensures.left; bound = c.more.ensures.bound; gave = c.more.ensures.gave } in
    let took = took_of g.F.Feed c.args.feed.now c.more.new.self c.consume.new.self c.at_hand.result.now c.in-Some.taken
    (c.at_hand.ensures.hand, c.in-Some.ensures.within) same
    (record { left = c.consume.ensures.left; bound = c.consume.ensures.bound; gave = c.consume.ensures.gave }) in
    part_comes g.F.Feed (fed c.args.reader.now c.args.feed.now) (fed c.args.reader.now c.args.feed.now)
    (fed c.feed_token.new.self c.consume.new.self) (not_begun g.F.Feed (fed c.args.reader.now c.args.feed.now)
    c.requires.between) c.at_hand.result.now c.in-Some.taken _ took c.in-Some.ensures.gives

-- the bytes are misspelt where no token came
pub returns-in_err-offset-clause-misspelt : goal.returns-in_err-offset-clause-misspelt
returns-in_err-offset-clause-misspelt g c =
    let p = err_from_is_err_and c.from_residual-in_err-offset.result c.from_residual-in_err-offset.ensures.1 in
    let same : IsAsked g.F.Feed c.args.feed.now c.more.new.self =
    record { left = c.more.ensures.left; bound = c.more.ensures.bound; gave = c.more.ensures.gave } in
    let reader_is : c.if-branch.reader ≡ c.args.reader.now =
    elim c.if-branch.branch [
      | then-branch+in_default w ↦ w.reader-is ∙ w.in_default.ensures.none
      | else-branch w ↦ w.reader-is
    ] in
    rw (p.1, p.2)
    (misspelt_asked g.F.Feed c.args.reader.now c.args.feed.now c.more.new.self same c.split_token.new.feed
    c.in_err-offset.field-0.0 (subst (λ (r : ReaderState). IsMisspeltBehind g.F.Feed (fed r c.more.new.self)
    c.split_token.new.feed c.in_err-offset.field-0.0) reader_is c.in_err-offset.ensures.misspelt))

-- a token that does not stand whole at hand came
pub returns-clause-token : goal.returns-clause-token
returns-clause-token g c =
    let same : IsAsked g.F.Feed c.args.feed.now c.more.new.self =
    record { left = c.more.ensures.left; bound = c.more.ensures.bound; gave = c.more.ensures.gave } in
    let reader_is : c.if-branch.reader ≡ c.args.reader.now =
    elim c.if-branch.branch [
      | then-branch+in_default w ↦ w.reader-is ∙ w.in_default.ensures.none
      | else-branch w ↦ w.reader-is
    ] in
    came_asked g.F.Feed c.args.reader.now c.args.feed.now c.more.new.self same
    (fed c.split_token.new.reader c.split_token.new.feed)
    (record { offset = c.in_ok-offset.offset; part = part.Tok c.in_ok-offset.whole })
    (subst
    (λ (r : ReaderState). Came g.F.Feed (fed r c.more.new.self) (fed c.split_token.new.reader c.split_token.new.feed)
    (record { offset = c.in_ok-offset.offset; part = part.Tok c.in_ok-offset.whole }))
    reader_is c.in_ok-offset.ensures.token)

-- what is left in each case
pub returns-in-Some-clause-leaves : goal.returns-in-Some-clause-leaves
returns-in-Some-clause-leaves g c = record {
  kept = record {
    more_faults = omega (arith, c.more.ensures.faults, c.consume.ensures.faults);
    no_more_bytes = omega (arith, c.more.ensures.bound, c.consume.ensures.bound);
    same_object = c.consume.ensures.held ∙ c.more.ensures.held;
    still_keeps = λ before h. c.consume.ensures.keeps before (c.more.ensures.keeps before h);
  };
  room = omega (arith, c.more.ensures.bound, c.consume.ensures.bound, c.in-Some.ensures.fed);
  spent = tt;
  failed = tt;
}

pub returns-in_err-offset-clause-leaves : goal.returns-in_err-offset-clause-leaves
returns-in_err-offset-clause-leaves g c =
    let p = err_from_is_err_and c.from_residual-in_err-offset.result c.from_residual-in_err-offset.ensures.1 in
    let asked = asked_on g.F.Feed c.args.reader.now c.args.feed.now c.more.new.self (record {
      more_faults = c.more.ensures.faults;
      no_more_bytes = omega (arith, c.more.ensures.bound);
      same_object = c.more.ensures.held;
      still_keeps = c.more.ensures.keeps;
    }) in
    let reader_is : c.if-branch.reader ≡ c.args.reader.now =
    elim c.if-branch.branch [
      | then-branch+in_default w ↦ w.reader-is ∙ w.in_default.ensures.none
      | else-branch w ↦ w.reader-is
    ] in
    rw (p.1, p.2)
    (leaves_as g.F.Feed (fed c.args.reader.now c.args.feed.now) (fed c.split_token.new.reader c.split_token.new.feed)
    c.in_err-offset.field-0.0 (leaves_on g.F.Feed (fed c.args.reader.now c.args.feed.now)
    (fed c.args.reader.now c.more.new.self) (fed c.split_token.new.reader c.split_token.new.feed) _ asked
    (subst (λ (r : ReaderState). Leaves g.F.Feed (fed r c.more.new.self)
    (fed c.split_token.new.reader c.split_token.new.feed) (Err c.in_err-offset.field-0.0)) reader_is
    (rw c.in_err-offset.was at c.split_token.ensures.leaves))))

pub returns-clause-leaves : goal.returns-clause-leaves
returns-clause-leaves g c =
    let asked = asked_on g.F.Feed c.args.reader.now c.args.feed.now c.more.new.self (record {
      more_faults = c.more.ensures.faults;
      no_more_bytes = omega (arith, c.more.ensures.bound);
      same_object = c.more.ensures.held;
      still_keeps = c.more.ensures.keeps;
    }) in
    let reader_is : c.if-branch.reader ≡ c.args.reader.now =
    elim c.if-branch.branch [
      | then-branch+in_default w ↦ w.reader-is ∙ w.in_default.ensures.none
      | else-branch w ↦ w.reader-is
    ] in
    leaves_on g.F.Feed (fed c.args.reader.now c.args.feed.now) (fed c.args.reader.now c.more.new.self)
    (fed c.split_token.new.reader c.split_token.new.feed) (Ok _) asked
    (goes_on_with g.F.Feed (fed c.args.reader.now c.more.new.self) (fed c.split_token.new.reader c.split_token.new.feed)
    _ (goes_on_by g.F.Feed (fed c.args.reader.now c.more.new.self) (fed c.split_token.new.reader c.split_token.new.feed)
    _ (subst (λ (r : ReaderState). Leaves g.F.Feed (fed r c.more.new.self)
    (fed c.split_token.new.reader c.split_token.new.feed) (Ok (c.in_ok-offset.offset, c.in_ok-offset.whole))) reader_is
    (rw c.in_ok-offset.was at c.split_token.ensures.leaves))))
