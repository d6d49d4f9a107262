-- Each token that is taken leads behind it; the first one that is not is refused.
use Rattle.std.proofs.Common.{ℕ, ◌<◌, List, length, Ok, refl, subst, ◌∙◌}
use Rattle.std.proofs.lemmas.Result.{err_from_is_err_and}
use Rattle.ask_core.specs.Trees.{Branch}
use Rattle.cert_check.specs.Judging.{open_branches}
use Rattle.ot_sections.specs.Feeding.{fed}
use Rattle.ot_sections.specs.Stands.{IsTreeOf, StandLeads, reader_place_of, stand}
use Rattle.ot_sections.proofs.Leading.{behind_token, between_parts, leads_on, leads_same}
use Rattle.ot_sections.proofs.Leaving.{goes_on_by, leaves_as, leaves_on, leaves_with, not_yet, token_no_failure}
use Rattle.ot_sections.proofs.Leaving.{token_not_early}
use Rattle.ot_sections.proofs.TreeRun.{counted, leads_token, no_branch, none_open, refused_bytes, refused_token}
use Rattle.ot_sections.proofs.TreeRun.{tree_is}
use Rattle.ot_sections.proofs.tree.judge_places.Goals as goal

pub tokens-init : goal.tokens-init
tokens-init g c = record {
  between = c.requires.between;
  tree = c.requires.tree;
  same_tree = refl;
  unrefused = c.requires.unrefused;
  leads = λ plan. leads_same g.F.Feed plan
      (stand (fed c.args.reader.now c.args.feed.now) (open_branches g.A.Asker.plan c.args.checker.now));
  leaves = not_yet g.F.Feed (fed c.args.reader.now c.args.feed.now);
}

pub next_token-requires-clause-between : goal.next_token-requires-clause-between
next_token-requires-clause-between g c = c.tokens.invariant.between

pub next_token-requires-clause-still_open : goal.next_token-requires-clause-still_open
next_token-requires-clause-still_open g c =
    let some : 0 < length c.tokens.checker.places = c.is_open.ensures.0 c.tokens-test.true in (
      length c.tokens.checker.places,
      some,
      subst (λ (n : ℕ). IsTreeOf n (reader_place_of c.tokens.reader))
          (counted (g.A.Asker.plan c.tokens.checker.asker) c.tokens.checker.places) c.tokens.invariant.tree,
    )

pub returns-in_err-offset-clause-refused : goal.returns-in_err-offset-clause-refused
returns-in_err-offset-clause-refused g c =
    let p = err_from_is_err_and c.from_residual.result c.from_residual.ensures.1 in
    rw (p.1, p.2)
    (refused_bytes g.F.Feed (stand (fed c.args.reader.now c.args.feed.now) (open_branches g.A.Asker.plan
    c.args.checker.now)) (fed c.tokens.reader c.tokens.feed) (open_branches g.A.Asker.plan c.tokens.checker)
    c.tokens.invariant.leads c.next_token.new.feed c.in_err-offset.field-0.0 c.in_err-offset.ensures.misspelt)

pub returns-in_err-offset-clause-leaves : goal.returns-in_err-offset-clause-leaves
returns-in_err-offset-clause-leaves g c =
    let p = err_from_is_err_and c.from_residual.result c.from_residual.ensures.1 in
    rw (p.1, p.2)
    (leaves_as g.F.Feed (fed c.args.reader.now c.args.feed.now) (fed c.next_token.new.reader c.next_token.new.feed)
    c.in_err-offset.field-0.0
    (leaves_on g.F.Feed (fed c.args.reader.now c.args.feed.now) (fed c.tokens.reader c.tokens.feed)
    (fed c.next_token.new.reader c.next_token.new.feed) _
    c.tokens.invariant.leaves (rw c.in_err-offset.was at c.next_token.ensures.leaves)))

pub returns-in-Err-clause-refused : goal.returns-in-Err-clause-refused
returns-in-Err-clause-refused g c =
    rw c.end_at.ensures
    (refused_token g.F.Feed (stand (fed c.args.reader.now c.args.feed.now)
    (open_branches g.A.Asker.plan c.args.checker.now)) (fed c.tokens.reader c.tokens.feed) (open_branches g.A.Asker.plan
    c.tokens.checker) c.tokens.invariant.leads (fed c.next_token.new.reader c.next_token.new.feed) c.in_ok-offset.offset
    c.next_token.new.tok c.in-Err.end c.in_ok-offset.ensures.token (c.in-Err.ensures.why c.tokens.invariant.unrefused))

pub returns-in-Err-clause-leaves : goal.returns-in-Err-clause-leaves
returns-in-Err-clause-leaves g c =
    rw c.end_at.ensures
    (leaves_with g.F.Feed (fed c.args.reader.now c.args.feed.now) (fed c.next_token.new.reader c.next_token.new.feed) _
    (leaves_on g.F.Feed (fed c.args.reader.now c.args.feed.now) (fed c.tokens.reader c.tokens.feed)
    (fed c.next_token.new.reader c.next_token.new.feed) (Ok tt) c.tokens.invariant.leaves
    (goes_on_by g.F.Feed (fed c.tokens.reader c.tokens.feed) (fed c.next_token.new.reader c.next_token.new.feed) _
    (rw c.in_ok-offset.was at c.next_token.ensures.leaves)))
    (token_not_early c.in_ok-offset.offset c.in-Err.end) (token_no_failure c.in_ok-offset.offset c.in-Err.end))

pub take_at_hand-requires-clause-between : goal.take_at_hand-requires-clause-between
take_at_hand-requires-clause-between g c =
    between_parts g.F.Feed (fed c.tokens.reader c.tokens.feed) (fed c.next_token.new.reader c.next_token.new.feed) _
    c.in_ok-offset.ensures.token

pub take_at_hand-requires-clause-tree : goal.take_at_hand-requires-clause-tree
take_at_hand-requires-clause-tree g c =
    (behind_token g.F.Feed (fed c.tokens.reader c.tokens.feed) (fed c.next_token.new.reader c.next_token.new.feed)
    c.in_ok-offset.offset c.next_token.new.tok (open_branches g.A.Asker.plan c.tokens.checker) (open_branches
    g.A.Asker.plan c.judge.new.self) c.in_ok-offset.ensures.token c.tokens.invariant.tree c.in-Ok.ensures.step).0

-- one token more was taken, with those at hand behind it
pub tokens-preserved : goal.tokens-preserved
tokens-preserved g c =
    let behind = behind_token g.F.Feed (fed c.tokens.reader c.tokens.feed)
    (fed c.next_token.new.reader c.next_token.new.feed) c.in_ok-offset.offset
    c.next_token.new.tok (open_branches g.A.Asker.plan c.tokens.checker) (open_branches g.A.Asker.plan c.judge.new.self)
    c.in_ok-offset.ensures.token c.tokens.invariant.tree c.in-Ok.ensures.step in
    record {
      between = c.take_at_hand.ensures.between;
      tree = c.take_at_hand.ensures.tree;
      same_tree = c.take_at_hand.ensures.same_tree ∙ behind.1 ∙ c.tokens.invariant.same_tree;
      unrefused = c.take_at_hand.ensures.refusal ∙ c.in-Ok.ensures.none_before.1;
      leads = λ plan.
          leads_on g.F.Feed plan
          (stand (fed c.args.reader.now c.args.feed.now) (open_branches g.A.Asker.plan c.args.checker.now))
          (stand (fed c.next_token.new.reader c.next_token.new.feed) (open_branches g.A.Asker.plan c.judge.new.self))
          (stand (fed c.take_at_hand.new.reader c.take_at_hand.new.feed)
          (open_branches g.A.Asker.plan c.take_at_hand.new.checker))
          (leads_token g.F.Feed
          (stand (fed c.args.reader.now c.args.feed.now) (open_branches g.A.Asker.plan c.args.checker.now))
          (fed c.tokens.reader c.tokens.feed) (open_branches g.A.Asker.plan c.tokens.checker) c.tokens.invariant.leads
          (fed c.next_token.new.reader c.next_token.new.feed) c.in_ok-offset.offset c.next_token.new.tok
          (open_branches g.A.Asker.plan c.judge.new.self) c.in_ok-offset.ensures.token c.in-Ok.ensures.step plan)
          (c.take_at_hand.ensures.leads plan);
      leaves =
          leaves_on g.F.Feed (fed c.args.reader.now c.args.feed.now) (fed c.next_token.new.reader c.next_token.new.feed)
          (fed c.take_at_hand.new.reader c.take_at_hand.new.feed) (Ok tt)
          (leaves_on g.F.Feed (fed c.args.reader.now c.args.feed.now) (fed c.tokens.reader c.tokens.feed)
          (fed c.next_token.new.reader c.next_token.new.feed) (Ok tt) c.tokens.invariant.leaves
          (goes_on_by g.F.Feed (fed c.tokens.reader c.tokens.feed) (fed c.next_token.new.reader c.next_token.new.feed) _
          (rw c.in_ok-offset.was at c.next_token.ensures.leaves)))
          c.take_at_hand.ensures.leaves;
    }

-- no place is open
pub returns-clause-closed : goal.returns-clause-closed
returns-clause-closed g c =
    let none =
    no_branch (g.A.Asker.plan c.tokens.checker.asker) c.tokens.checker.places
    (none_open c.is_open.result c.tokens.checker.places c.tokens-test.false c.is_open.ensures) in
    let tree : IsTreeOf 0 (reader_place_of c.tokens.reader) =
    subst (λ (b : List (Branch _)). IsTreeOf (length b) (reader_place_of c.tokens.reader)) none
    c.tokens.invariant.tree in
    (c.tokens.invariant.between, tree_is (reader_place_of c.tokens.reader) 0 tree ∙ c.tokens.invariant.same_tree)

pub returns-clause-leads : goal.returns-clause-leads
returns-clause-leads g c =
    let none =
    no_branch (g.A.Asker.plan c.tokens.checker.asker) c.tokens.checker.places
    (none_open c.is_open.result c.tokens.checker.places c.tokens-test.false c.is_open.ensures) in
    λ plan.
    subst
    (λ (b : List (Branch _)). StandLeads g.F.Feed plan
    (stand (fed c.args.reader.now c.args.feed.now) (open_branches g.A.Asker.plan c.args.checker.now))
    (stand (fed c.tokens.reader c.tokens.feed) b)) none (c.tokens.invariant.leads plan)

pub returns-clause-leaves : goal.returns-clause-leaves
returns-clause-leaves g c = c.tokens.invariant.leaves
