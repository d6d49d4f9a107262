use Rattle.ot_audit.proofs.Meant.{posed_where_meant, meant_where_posed}
use Rattle.ot_audit.proofs.laws.meant_operations_are_not_negative.Goals as goal

pub returns : goal.returns
returns c = λ f k l a b declared. (posed_where_meant f k l a b, meant_where_posed f k l a b declared)
