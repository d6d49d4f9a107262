use Rattle.std.proofs.Common.{◌≡◌, ◌++◌, take}
use Rattle.std.specs.List.{flat_map}
use Rattle.fn_rules.specs.Functions.{case_of}
use Rattle.fn_grammar.specs.Print.{case_tokens}
use Rattle.fn_grammar.proofs.printer.push_cases.Given as goal

abbrev pub invariant-loop-case : goal.invariant-loop-case
invariant-loop-case l =
    l.out.items ≡ l.initial.out.items ++ flat_map (λ c. case_tokens l.kind (case_of c)) (take l.case-index l.cases)
