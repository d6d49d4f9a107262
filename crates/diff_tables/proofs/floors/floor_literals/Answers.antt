use Rattle.std.proofs.Common.{ap, sym, ◌∙◌, ◌++◌, ◌∷◌, [], pos, ◌-ℤ◌, get_or}
use Rattle.diff_tables.proofs.FloorSteps.{floors_from-take, floor-at}
use Rattle.diff_tables.proofs.floors.floor_literals.Goals as goal

pub floor_literal-requires-clause-floor : goal.floor_literal-requires-clause-floor
floor_literal-requires-clause-floor c = floor-at c.args.floors.now c.loop-x.x c.requires.floors c.loop-x-test.true

pub loop-x-preserved : goal.loop-x-preserved
loop-x-preserved c =
    rw c.in_ok-push.ensures.items
    (ap (λ lit. c.loop-x.bounds.items ++ lit ∷ []) c.floor_literal.ensures
    ∙ ap (λ xs. xs ++ record { x = 0; y = c.loop-x.x; k = pos 0 -ℤ get_or c.args.floors.now c.loop-x.x (pos 0) } ∷ [])
    c.loop-x.invariant
    ∙ sym (floors_from-take c.args.floors.now c.loop-x.x c.loop-x-test.true))
