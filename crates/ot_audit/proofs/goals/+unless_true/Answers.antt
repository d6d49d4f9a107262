-- By the guard of the first case.
use Rattle.std.proofs.Common.{rules}
use Rattle.ot_terms.specs.Goals.{goal_tree}
use Rattle.ot_audit.proofs.Chosen.{near_behind, near_first, unless_placed}
use Rattle.ot_audit.proofs.goals.+unless_true.Goals as goal

pub unless_true-requires : goal.unless_true-requires
unless_true-requires t c = (
  search rules,
  (c.requires.a_near, (c.requires.b_near, near_behind c.args.cases.now c.requires.near c.in-len1-up.len_at_least)),
)

pub by_case-requires-clause-near : goal.by_case-requires-clause-near
by_case-requires-clause-near t c =
    near_first c.args.cases.now c.case-item.result c.requires.near c.in-len1-up.len_at_least c.case-item.is

pub returns-in_ok-holds-in-len1-up : goal.returns-in_ok-holds-in-len1-up
returns-in_ok-holds-in-len1-up t c =
    unless_placed c.by_case.result (λ r. goal_tree r.now) c.args.cases.now c.case-item.result c.args.a c.args.b _ _ _
    c.in-len1-up.len_at_least c.case-item.is c.in_ok-holds-in-len1-up.ensures
    c.in_ok-behind-in-len1-up.ensures c.by_case.ensures
