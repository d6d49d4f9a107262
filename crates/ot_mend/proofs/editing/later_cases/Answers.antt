use Rattle.std.proofs.Common.{◌≤◌, ◌-◌, length, drop, map, ap, sym, ◌∙◌, arith, length-drop}
use Rattle.std.proofs.lemmas.List.{drop-map, take_all}
use Rattle.fn_rules.specs.Functions.{case_of}
use Rattle.ot_mend.proofs.editing.later_cases.Goals as goal

pub returns-then-count-cases : goal.returns-then-count-cases
returns-then-count-cases c =
    let xs = c.args.cases.now in
    let n = c.args.count in
    let fits : length (drop n xs) ≤ length xs - n = grind (arith, length-drop) in
    ap (λ ys. map case_of ys) (take_all (length xs - n) (drop n xs) fits) ∙ sym (drop-map case_of n xs)
