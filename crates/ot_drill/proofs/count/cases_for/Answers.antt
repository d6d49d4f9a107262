use Rattle.std.proofs.Common.{rules, ◌≡◌, ℕ, true, length, map, nat_le, sym, ap, ◌∙◌}
use Rattle.std.proofs.lemmas.Bool.{and_parts}
use Rattle.std.proofs.lemmas.List.{length-map}
use Rattle.fn_rules.specs.declared.function.Head.{Head}
use Rattle.fn_rules.proofs.LimitsKept.{nat_le-true}
use Rattle.fn_rules.specs.Functions.{case_of, is_declared_pair}
use Rattle.fn_rules.specs.Rules.{function_of}
use Rattle.ot_drill.proofs.count.cases_for.Goals as goal

pub cases-requires : goal.cases-requires
cases-requires c =
    ap (λ (h : Head). is_declared_pair h c.args.first c.args.second) (sym c.head.ensures.head)
    ∙ sym c.declares_pair.ensures ∙ c.if-declares_pair.true

pub returns-then-declares_pair-clause-count : goal.returns-then-declares_pair-clause-count
returns-then-declares_pair-clause-count c =
    let f = function_of c.args.rules.now in
    let declared : is_declared_pair f.head c.args.first c.args.second ≡ true =
    ap (λ (h : Head). is_declared_pair h c.args.first c.args.second) (sym c.head.ensures.head)
    ∙ sym c.declares_pair.ensures ∙ c.if-declares_pair.true in
    rw declared (sym (length-map c.cases.result.now case_of) ∙ ap length c.cases.ensures.cases)

pub returns-else-declares_pair-clause-count : goal.returns-else-declares_pair-clause-count
returns-else-declares_pair-clause-count c = search rules

pub returns-then-declares_pair-clause-few : goal.returns-then-declares_pair-clause-few
returns-then-declares_pair-clause-few c =
    let cases = c.cases.result.now in
    let few : nat_le (length (map case_of cases)) 64 ≡ true = (and_parts _ _ c.cases.ensures.valid).0 in
    nat_le-true (length cases) 64 (ap (λ (n : ℕ). nat_le n 64) (sym (length-map cases case_of)) ∙ few)
