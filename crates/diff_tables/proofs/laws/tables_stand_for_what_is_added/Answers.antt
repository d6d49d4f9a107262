use Rattle.std.proofs.Common.{[], ◌∷◌, ◌++◌, sym}
use Rattle.diff_tables.specs.Steps.{added}
use Rattle.diff_tables.proofs.Stands.{StandsFor-kept, StandsFor-same, StandsFor-added, at_most-from_keeps}
use Rattle.diff_tables.proofs.Stands.{allowed-from_room}
use Rattle.diff_tables.proofs.laws.tables_stand_for_what_is_added.Goals as goal

pub returns-clause-kept : goal.returns-clause-kept
returns-clause-kept c n t ps number l stands named kept =
    StandsFor-kept n t ps stands number l named (at_most-from_keeps (t l.x l.y) l.k kept)

pub returns-clause-added : goal.returns-clause-added
returns-clause-added c n t u ps number l stands named room same =
    StandsFor-same n (added t number l) u (ps ++ record { number = number; lit = l } ∷ []) (λ x y. sym (same x y))
    (StandsFor-added n t ps stands number l named (allowed-from_room t l room))
