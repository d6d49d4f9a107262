use Rattle.std.proofs.Common.{◌≡◌, ◌++◌, take}
use Rattle.std.specs.List.{flat_map}
use Rattle.fn_rules.specs.Rules.{function_of}
use Rattle.fn_grammar.specs.Print.{declared_block}
use Rattle.fn_grammar.proofs.printer.push_blocks_with.Given as goal

abbrev pub invariant-loop-second : goal.invariant-loop-second
invariant-loop-second l =
    l.out.items ≡ l.initial.out.items ++ flat_map (declared_block (function_of l.rules) l.first)
    (take l.second-index l.seconds)
