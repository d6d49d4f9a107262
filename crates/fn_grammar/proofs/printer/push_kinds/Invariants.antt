use Rattle.std.proofs.Common.{◌≡◌, ◌++◌, take}
use Rattle.std.specs.List.{flat_map}
use Rattle.fn_grammar.specs.Print.{kind_tokens}
use Rattle.fn_grammar.proofs.printer.push_kinds.Given as goal

abbrev pub invariant-loop-kind : goal.invariant-loop-kind
invariant-loop-kind l = l.out.items ≡ l.initial.out.items ++ flat_map (kind_tokens l.head) (take l.kind-index l.kinds)
