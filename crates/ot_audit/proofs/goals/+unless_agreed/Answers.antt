-- By the guard of the first case.
use Rattle.std.proofs.Common.{Option, map, rules}
use Rattle.fn_rules.specs.Functions.{case_of}
use Rattle.ot_questions.specs.declared.place.SymOp.{SymOp}
use Rattle.ot_terms.specs.Goals.{goal_tree}
use Rattle.ot_audit.specs.Goals.{unless_same, with_first_result}
use Rattle.ot_audit.proofs.Chosen.{first_placed, near_behind, near_first}
use Rattle.ot_audit.proofs.goals.+unless_agreed.Goals as goal

pub unless_agreed-requires : goal.unless_agreed-requires
unless_agreed-requires t c = (
  search rules,
  (
    c.requires.a_near,
    (
      c.requires.b_near,
      (near_behind c.args.cases.now c.requires.near c.in-len1-up.len_at_least, c.requires.others_near),
    ),
  ),
)

pub by_case-requires-clause-near : goal.by_case-requires-clause-near
by_case-requires-clause-near t c =
    near_first c.args.cases.now c.case-item.result c.requires.near c.in-len1-up.len_at_least c.case-item.is

pub returns-in_ok-here-in-len1-up : goal.returns-in_ok-here-in-len1-up
returns-in_ok-here-in-len1-up t c =
    first_placed c.by_case.result (λ r. goal_tree r.now) c.args.cases.now c.case-item.result
    c.args.a c.args.b c.result.result
    (λ (x : Option SymOp). with_first_result (map case_of c.args.others.now) c.args.a c.args.b (λ y. unless_same x y)) _
    _ c.in-len1-up.len_at_least c.case-item.is c.result.ensures.value
    c.in_ok-here-in-len1-up.ensures c.in_ok-behind-in-len1-up.ensures c.by_case.ensures
