-- How many obligations a level has.
use Rattle.std.proofs.Common.{◌≤◌, List, [], ◌∷◌, ◌++◌, length, arith, lit≤}
use Rattle.std.proofs.lemmas.List.Sums.{length-filter, count_by-le-length}
use Rattle.ot_model.specs.declared.op.Kind.{Kind}
use Rattle.ot_model.specs.declared.op.TheConstants.{KINDS}
use Rattle.fn_rules.specs.declared.function.Head.{Head}
use Rattle.fn_rules.specs.declared.function.Level.{Level}
use Rattle.fn_rules.specs.declared.function.Level.TheVariants.{Tp1, Tp2}
use Rattle.fn_rules.specs.Functions.{is_declared}
use Rattle.fn_rules.specs.Obligations.{declared_kinds, pairs_of, triples_of, obligations_of}

few_kinds : (head : Head) → length (declared_kinds head) ≤ 3
few_kinds head = omega (arith, length-filter (is_declared head) KINDS, count_by-le-length (is_declared head) KINDS)

-- three kinds have six pairs
few_pairs : (kinds : List Kind) → length kinds ≤ 3 → length (pairs_of kinds) ≤ 24
few_pairs [] few = lit≤ tt
few_pairs (k ∷ []) few = lit≤ tt
few_pairs (k ∷ l ∷ []) few = lit≤ tt
few_pairs (k ∷ l ∷ m ∷ []) few = lit≤ tt
few_pairs (k ∷ l ∷ m ∷ n ∷ others) few = absurd (omega arith)

-- and eighteen triples
few_pairs_and_triples : (kinds : List Kind) → length kinds ≤ 3 → length (pairs_of kinds ++ triples_of kinds) ≤ 24
few_pairs_and_triples [] few = lit≤ tt
few_pairs_and_triples (k ∷ []) few = lit≤ tt
few_pairs_and_triples (k ∷ l ∷ []) few = lit≤ tt
few_pairs_and_triples (k ∷ l ∷ m ∷ []) few = lit≤ tt
few_pairs_and_triples (k ∷ l ∷ m ∷ n ∷ others) few = absurd (omega arith)

pub few_obligations : (head : Head) (level : Level) → length (obligations_of head level) ≤ 24
few_obligations head Tp1 = few_pairs (declared_kinds head) (few_kinds head)
few_obligations head Tp2 = few_pairs_and_triples (declared_kinds head) (few_kinds head)
