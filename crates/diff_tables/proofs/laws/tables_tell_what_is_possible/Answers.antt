use Rattle.std.proofs.Common.{inl, inr}
use Rattle.std.proofs.lemmas.Bool.{cases_Bool}
use Rattle.diff_tables.specs.Steps.{leaves_room}
use Rattle.diff_tables.proofs.Stands.{IsCycleOf-from_back, IsModest-from_stands, allowed-from_possible}
use Rattle.diff_tables.proofs.Stands.{allowed-from_room, back-from_no_room, not_allowed-from_back}
use Rattle.diff_tables.proofs.Stands.{possible-from_allowed}
use Rattle.diff_tables.proofs.laws.tables_tell_what_is_possible.Goals as goal

pub returns-clause-possible : goal.returns-clause-possible
returns-clause-possible c n t ps l stands named = (
  λ room. possible-from_allowed n t ps stands 0 l named (allowed-from_room t l room),
  λ possible.
      elim (cases_Bool (leaves_room (t l.y l.x) l.k)) [
        | inl room ↦ room
        | inr none ↦
            absurd (not_allowed-from_back t l (back-from_no_room t l none)
            (allowed-from_possible n t ps stands 0 l named possible))
      ],
)

pub returns-clause-cycle : goal.returns-clause-cycle
returns-clause-cycle c n t ps number l stands named none =
    IsCycleOf-from_back n t ps stands number l named (back-from_no_room t l none)

pub returns-clause-modest : goal.returns-clause-modest
returns-clause-modest c n t ps stands small few x y = IsModest-from_stands n t ps stands small few x y
