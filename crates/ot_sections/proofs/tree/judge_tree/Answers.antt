-- The checker's one open branch is the asker's plan.
use Rattle.std.proofs.Common.{[], IfErr, List, OnOk, length, sym, subst}
use Rattle.ask_core.specs.Trees.{Branch}
use Rattle.ot_sections.specs.Feeding.{fed}
use Rattle.ot_sections.specs.Stands.{IsRefusedAnyway, IsTreeOf, LeadsAnyway, reader_place_of, stand}
use Rattle.ot_sections.proofs.tree.judge_tree.Goals as goal

pub judge_places-requires-clause-tree : goal.judge_places-requires-clause-tree
judge_places-requires-clause-tree g c =
    subst (λ (b : List (Branch _)). IsTreeOf (length b) (reader_place_of c.args.reader.now))
    (sym c.in_ok-checker.ensures.branches) c.requires.tree

pub returns-clause-closed : goal.returns-clause-closed
returns-clause-closed g c = c.judge_places.ensures.closed

pub returns-clause-leads : goal.returns-clause-leads
returns-clause-leads g c =
    subst
    (λ (b : List (Branch _)). OnOk c.judge_places.result (LeadsAnyway g.F.Feed (stand (fed c.args.reader.now
    c.args.feed.now) b) (stand (fed c.judge_places.new.reader c.judge_places.new.feed) [])))
    c.in_ok-checker.ensures.branches c.judge_places.ensures.leads

pub returns-clause-refused : goal.returns-clause-refused
returns-clause-refused g c =
    subst
    (λ (b : List (Branch _)). IfErr c.judge_places.result
    (IsRefusedAnyway g.F.Feed (stand (fed c.args.reader.now c.args.feed.now) b) c.judge_places.new.feed))
    c.in_ok-checker.ensures.branches c.judge_places.ensures.refused

pub returns-clause-leaves : goal.returns-clause-leaves
returns-clause-leaves g c = c.judge_places.ensures.leaves
