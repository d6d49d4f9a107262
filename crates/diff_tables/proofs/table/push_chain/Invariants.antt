use Rattle.std.proofs.Common.{◌-◌, length, get_or, None}
use Rattle.std.specs.Prelude.{◌+◌, ◌≤◌, vec_len, vec_capacity}
use Rattle.diff_tables.specs.Steps.{numbers_along}
use Rattle.diff_tables.proofs.RowSteps.{HasPut}
use Rattle.diff_tables.proofs.table.push_chain.Given as goal

-- the first numbers of the chain were put, and there is room for the others
abbrev pub invariant-loop-step : goal.invariant-loop-step
invariant-loop-step l =
    HasPut l.initial.picks.items l.picks.items
    (numbers_along (λ x. get_or l.row x None) (length l.row - l._step) l.name l.to)
    (numbers_along (λ x. get_or l.row x None) (length l.row) l.from l.to)
    × (vec_len l.picks + (length l.row - l._step) ≤ vec_capacity l.picks)
