-- One transformation, and both ways of an instance of a property, transformation by transformation.
use Rattle.std.specs.Prelude.{nat_le, if◌then◌else◌, List, [], ◌∷◌, length, Option, Some, None, option_and_then}
use Rattle.std.specs.Prelude.{option_map}
use Rattle.ot_model.specs.declared.cell.Cell.{Cell}
use Rattle.ot_model.specs.declared.limits.TheConstants.{MAX_CELLS}
use Rattle.ot_model.specs.declared.op.Op.{Op}
use Rattle.ot_model.specs.Effect.{document_after}
use Rattle.fn_rules.specs.declared.function.Level.{Level}
use Rattle.fn_rules.specs.declared.function.Level.TheVariants.{Tp1, Tp2}
use Rattle.fn_rules.specs.Functions.{Function}
use Rattle.fn_rules.specs.Orders.{Outcome, Document, StuckAt, integrated}
use Rattle.fn_rules.specs.Transformation.{transform_of}
use Rattle.ot_counter.specs.Ways as counters
use Rattle.ot_ways.specs.declared.one_step.Step.{Step}
use Rattle.ot_ways.specs.declared.ways.BothWays.{BothWays}
use Rattle.ot_ways.specs.declared.ways.BothWays.TheVariants.{Pair, Triple}
use Rattle.ot_ways.specs.declared.ways.DocumentWay.{DocumentWay}
use Rattle.ot_ways.specs.declared.ways.OperationWay.{OperationWay}
use Rattle.ot_ways.specs.Differences.{one_document}
use Rattle.ot_ways.specs.Taken.{taken_of}

-- the transformation of `a` against `b`: what the interpreter gives, and the case that it takes
abbrev pub step_of : Function → Op → Op → Step
step_of f a b = record { op = a; against = b; result = transform_of f a b; taken = taken_of f a b }

-- one operation executed, and then the other, transformed against it
abbrev pub document_way_of : Function → List Cell → Op → Op → DocumentWay
document_way_of f d first other = record {
  first = first;
  doc = document_after f.head.mode first d;
  other = step_of f other first;
  end = counters.document_way f d first other;
}

-- the third operation transformed against the second, where both have a result after the first
abbrev pub third_step_of : Function → Option Op → Option Op → Option Step
third_step_of f second third =
    option_and_then (λ b_after_a. option_map (λ c_after_a. step_of f c_after_a b_after_a) third) second

-- the third operation against the first two, `a` and then `b`
abbrev pub operation_way_of : Function → Op → Op → Op → OperationWay
operation_way_of f a b c = record {
  second = step_of f b a;
  third = step_of f c a;
  both = third_step_of f (transform_of f b a) (transform_of f c a);
}

-- the document of two outcomes that are one document
abbrev pub one_end : Outcome → Outcome → Option (List Cell)
one_end (Document d) (Document e) = one_document d e
one_end (Document d) (StuckAt place) = None
one_end (StuckAt place) other = None

-- the document with which both orders of the first two of three operations end, if it is one document
abbrev pub one_end_of : Function → List Cell → List Op → Option (List Cell)
one_end_of f d ops = one_end (integrated f d ops (0 ∷ 1 ∷ 2 ∷ [])) (integrated f d ops (1 ∷ 0 ∷ 2 ∷ []))

-- both ways of two operations, or of three
abbrev pub both_ways_of : Function → Level → List Cell → List Op → Option BothWays
both_ways_of f Tp1 d (a ∷ b ∷ []) = Some (Pair (document_way_of f d a b) (document_way_of f d b a))
both_ways_of f Tp2 d (a ∷ b ∷ c ∷ []) =
    Some (Triple (operation_way_of f a b c) (operation_way_of f b a c) (one_end_of f d (a ∷ b ∷ c ∷ [])))
both_ways_of f level d ops = None

-- both ways of a counterexample whose document is no longer than that of a case may be
abbrev pub shown_ways : Function → Level → List Cell → List Op → Option BothWays
shown_ways f level d ops = if nat_le (length d) MAX_CELLS then both_ways_of f level d ops else None
