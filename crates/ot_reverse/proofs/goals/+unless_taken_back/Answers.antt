-- By the guard of the first case.
use Rattle.std.proofs.Common.{Option, map, rules}
use Rattle.fn_rules.specs.Functions.{case_of}
use Rattle.ot_questions.specs.declared.place.SymOp.{SymOp}
use Rattle.ot_terms.specs.Goals.{goal_tree}
use Rattle.ot_audit.proofs.Chosen.{first_placed, near_behind, near_first}
use Rattle.ot_reverse.specs.Goals.{unless_there}
use Rattle.ot_reverse.proofs.Built.{near_enough}
use Rattle.ot_reverse.proofs.goals.+unless_taken_back.Goals as goal

pub unless_taken_back-requires : goal.unless_taken_back-requires
unless_taken_back-requires t c = (
  search rules,
  (
    c.requires.a_near,
    (
      c.requires.b_near,
      (near_behind c.args.cases.now c.requires.near c.in-len1-up.len_at_least, c.requires.others_near),
    ),
  ),
)

-- operations are near enough for a guard, and a result of theirs for the other function
pub unless_there-requires-clause-b_near : goal.unless_there-requires-clause-b_near
unless_there-requires-clause-b_near t c = near_enough c.requires.b_near

pub unless_there-requires-clause-there_near : goal.unless_there-requires-clause-there_near
unless_there-requires-clause-there_near t c = c.result.ensures.near.near 101 c.requires.a_near c.requires.b_near

pub by_case-requires-clause-a_near : goal.by_case-requires-clause-a_near
by_case-requires-clause-a_near t c = near_enough c.requires.a_near

pub by_case-requires-clause-b_near : goal.by_case-requires-clause-b_near
by_case-requires-clause-b_near t c = near_enough c.requires.b_near

pub by_case-requires-clause-near : goal.by_case-requires-clause-near
by_case-requires-clause-near t c =
    near_first c.args.cases.now c.case-item.result c.requires.near c.in-len1-up.len_at_least c.case-item.is

pub returns-in_ok-here-in-len1-up : goal.returns-in_ok-here-in-len1-up
returns-in_ok-here-in-len1-up t c =
    first_placed c.by_case.result (λ r. goal_tree r.now) c.args.cases.now c.case-item.result
    c.args.a c.args.b c.result.result
    (λ (there : Option SymOp). unless_there (map case_of c.args.others.now) c.args.a c.args.b there) _ _
    c.in-len1-up.len_at_least c.case-item.is
    c.result.ensures.value c.in_ok-here-in-len1-up.ensures c.in_ok-behind-in-len1-up.ensures c.by_case.ensures
