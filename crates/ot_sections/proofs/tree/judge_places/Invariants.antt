use Rattle.std.proofs.Common.{◌≡◌, length, None}
use Rattle.cert_check.specs.Judging.{open_branches}
use Rattle.ot_sections.specs.Feeding.{fed}
use Rattle.ot_sections.specs.Stands.{IsBetween, IsTreeOf, LeadsAnyway, reader_place_of, stand, tree_with}
use Rattle.ot_sections.proofs.Leaving.{GoesOn}
use Rattle.ot_sections.proofs.tree.judge_places.Given as goal

-- what is judged behind the tokens that came is judged of the tree
abbrev pub invariant-tokens : goal.invariant-tokens
invariant-tokens g l = record {
  between : IsBetween l.reader;
  tree : IsTreeOf (length (open_branches g.A.Asker.plan l.checker)) (reader_place_of l.reader);
  same_tree : tree_with 0 (reader_place_of l.reader) ≡ tree_with 0 (reader_place_of l.fn.reader);
  unrefused : l.checker.refusal ≡ None;
  leads :
      LeadsAnyway g.F.Feed (stand (fed l.fn.reader l.fn.feed) (open_branches g.A.Asker.plan l.fn.checker))
      (stand (fed l.reader l.feed) (open_branches g.A.Asker.plan l.checker));
  leaves : GoesOn g.F.Feed (fed l.fn.reader l.fn.feed) (fed l.reader l.feed);
}

abbrev pub decreases-tokens : goal.decreases-tokens
decreases-tokens g l = g.F.Feed.bound l.feed
