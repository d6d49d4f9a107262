-- An operation that is carried over others: each transformation, with the case that was taken.
use Rattle.std.specs.Prelude.{List, [], ◌∷◌, Option, Some, None}
use Rattle.ot_model.specs.declared.op.Op.{Op}
use Rattle.fn_rules.specs.Functions.{Function}
use Rattle.fn_rules.specs.Transformation.{transform_of}
use Rattle.ot_ways.specs.declared.one_step.Step.{Step}
use Rattle.ot_ways.specs.Steps.{step_of}

-- what follows on a result, where there is one
abbrev pub following : Option Op → (Op → List Step) → List Step
following None rest = []
following (Some p) rest = rest p

-- the transformations of an operation that is carried over others in turn, up to the first that has no result
abbrev pub steps_over : Function → Op → List Op → List Step
steps_over f o [] = []
steps_over f o (e ∷ es) = step_of f o e ∷ following (transform_of f o e) (λ p. steps_over f p es)
