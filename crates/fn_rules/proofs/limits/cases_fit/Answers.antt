use Rattle.std.proofs.Common.{rules}
use Rattle.std.proofs.lemmas.List.{length-map}
use Rattle.std.proofs.lemmas.List.Folds.{list_all-map}
use Rattle.fn_rules.proofs.limits.cases_fit.Goals as goal

pub returns-then-cases-le-MAX_CASES : goal.returns-then-cases-le-MAX_CASES
returns-then-cases-le-MAX_CASES c = simp (list_all-map, length-map) (search rules)
