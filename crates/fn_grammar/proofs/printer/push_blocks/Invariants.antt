use Rattle.std.proofs.Common.{◌≡◌, ◌++◌, take}
use Rattle.std.specs.List.{flat_map}
use Rattle.fn_rules.specs.Rules.{function_of}
use Rattle.fn_grammar.specs.Print.{blocks_with}
use Rattle.fn_grammar.proofs.printer.push_blocks.Given as goal

abbrev pub invariant-loop-first : goal.invariant-loop-first
invariant-loop-first l =
    l.out.items ≡ l.initial.out.items ++ flat_map (blocks_with (function_of l.rules)) (take l.first-index l.firsts)
