use Rattle.std.proofs.Common.{length, sym, ◌∙◌, ◌∷◌, [], ◌++◌}
use Rattle.diff_tables.specs.Tables.{kept_of}
use Rattle.diff_tables.specs.Steps.{added}
use Rattle.diff_tables.proofs.Stands.{StandsFor-kept, StandsFor-same, StandsFor-added, at_most-from_keeps}
use Rattle.diff_tables.proofs.Stands.{allowed-from_room}
use Rattle.diff_tables.proofs.adding.insert.Goals as goal

pub returns-then-follows-clause-stands : goal.returns-then-follows-clause-stands
returns-then-follows-clause-stands c = λ ps stands.
    StandsFor-kept (length c.args.rows.now) (kept_of c.args.rows.now) ps stands c.args.number
    c.args.lit c.requires.named
    (at_most-from_keeps (kept_of c.args.rows.now c.args.lit.x c.args.lit.y) c.args.lit.k
    (sym c.follows.ensures ∙ c.if-follows.true))

pub returns-clause-stands : goal.returns-clause-stands
returns-clause-stands c = λ ps stands.
    StandsFor-same (length c.args.rows.now)
    (added (kept_of c.args.rows.now) c.args.number c.args.lit) (kept_of c.add.new.rows)
    (ps ++ record { number = c.args.number; lit = c.args.lit } ∷ []) (λ x y. sym (c.add.ensures.added x y))
    (StandsFor-added (length c.args.rows.now) (kept_of c.args.rows.now) ps stands c.args.number c.args.lit
    c.requires.named (allowed-from_room (kept_of c.args.rows.now) c.args.lit c.requires.allowed))
