use Rattle.std.proofs.Common.{◌≡◌, ◌++◌, drop}
use Rattle.std.specs.List.{flat_map}
use Rattle.fn_rules.specs.Rules.{function_of}
use Rattle.ot_trace.specs.SessionTexts.{pair_line}
use Rattle.ot_trace.proofs.session.write_pairs.Given as goal

-- the lines of the transformations that are left are still to be written
abbrev pub invariant-loop-pair : goal.invariant-loop-pair
invariant-loop-pair l =
    l.out.items ++ flat_map (pair_line (function_of l.rules) l.number) (drop l.pair-index l.pairs)
    ≡ l.initial.out.items ++ flat_map (pair_line (function_of l.rules) l.number) l.pairs
