use Rattle.std.proofs.Common.{sym, subst}
use Rattle.ot_terms.specs.Belonging.{HasPlaces}
use Rattle.ot_rewrite.proofs.SplitExamples.{less_has_places}
use Rattle.test_layers.proofs.splits.less_is_split.Goals as goal

pub split-requires : goal.split-requires
split-requires c = (9, subst (HasPlaces 9) (sym c.in_ok-less.ensures) less_has_places)
