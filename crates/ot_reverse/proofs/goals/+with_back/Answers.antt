-- By the guard of the first case.
use Rattle.std.proofs.Common.{Option, rules}
use Rattle.ot_questions.specs.declared.place.SymOp.{SymOp}
use Rattle.ot_terms.specs.Goals.{goal_tree}
use Rattle.ot_audit.proofs.Chosen.{first_placed, near_behind, near_first}
use Rattle.ot_reverse.specs.Goals.{unless_itself}
use Rattle.ot_reverse.proofs.goals.+with_back.Goals as goal

pub with_back-requires : goal.with_back-requires
with_back-requires t c = (
  search rules,
  (c.requires.b_near, (c.requires.there_near, near_behind c.args.cases.now c.requires.near c.in-len1-up.len_at_least)),
)

pub by_case-requires-clause-near : goal.by_case-requires-clause-near
by_case-requires-clause-near t c =
    near_first c.args.cases.now c.case-item.result c.requires.near c.in-len1-up.len_at_least c.case-item.is

pub returns-in_ok-here-in-len1-up : goal.returns-in_ok-here-in-len1-up
returns-in_ok-here-in-len1-up t c =
    first_placed c.by_case.result (λ r. goal_tree r.now) c.args.cases.now c.case-item.result
    c.args.there c.args.b c.result.result
    (λ (back : Option SymOp). unless_itself c.args.a back) _ _ c.in-len1-up.len_at_least c.case-item.is
    c.result.ensures.value c.in_ok-here-in-len1-up.ensures c.in_ok-behind-in-len1-up.ensures c.by_case.ensures
