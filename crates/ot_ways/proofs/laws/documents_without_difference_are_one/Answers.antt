use Rattle.ot_ways.proofs.SamePlaces.{one_where_none, none_where_one}
use Rattle.ot_ways.proofs.laws.documents_without_difference_are_one.Goals as goal

pub returns : goal.returns
returns c = λ left right. (one_where_none left right, none_where_one left right)
