use Rattle.std.proofs.Common.{◌≡◌, ◌++◌, drop}
use Rattle.std.specs.List.{flat_map}
use Rattle.ot_session.specs.Views.{view_of}
use Rattle.ot_trace.specs.SessionTexts.{pair_lines}
use Rattle.ot_trace.proofs.session.write_integrated_ops.Given as goal

-- those of the operations that are left are still to be written
abbrev pub invariant-loop-number : goal.invariant-loop-number
invariant-loop-number l =
    l.out.items ++ flat_map (pair_lines (view_of l.session) l.site) (drop l.number-index l.done)
    ≡ l.initial.out.items ++ flat_map (pair_lines (view_of l.session) l.site) l.done
