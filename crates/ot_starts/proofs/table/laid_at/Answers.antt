use Rattle.std.proofs.Common.{sym, subst, List, ◌≡◌}
use Rattle.std.specs.List.{All}
use Rattle.std.proofs.lemmas.Result.{IfOk-weaker}
use Rattle.fn_rules.specs.Rules.{function_of}
use Rattle.ot_terms.specs.declared.goal.Goal.{Goal}
use Rattle.ot_terms.specs.Goals.{goal_tree}
use Rattle.start_laws.specs.Settled.{OpensStart}
use Rattle.ot_starts.specs.declared.kept.Kept.{Kept}
use Rattle.ot_starts.specs.Kept.{IsKeptStart}
use Rattle.ot_starts.proofs.table.laid_at.Goals as goal

-- what is kept of the same goal stands for it but for the start
pub returns-in-Some-clause-opens : goal.returns-in-Some-clause-opens
returns-in-Some-clause-opens c =
    c.in-Some.ensures.start (function_of c.args.rules.now) c.requires.starts

-- and what is kept from now on does so too
pub returns-clause-opens : goal.returns-clause-opens
returns-clause-opens c =
    let Opens = λ (g : Goal). OpensStart (function_of c.args.rules.now) (goal_tree c.args.goal.now) (goal_tree g) in
    IfOk-weaker c.learnt.result (λ r. r.now ≡ c.in_ok-built.built.now) (λ r. Opens r.now)
    (λ r same. subst Opens (sym same) c.in_ok-built.ensures.opens) c.learnt.ensures.same

pub returns-clause-starts : goal.returns-clause-starts
returns-clause-starts c =
    c.learnt.ensures.start (function_of c.args.rules.now) c.requires.starts c.in_ok-built.ensures.opens

pub returns-clause-ends : goal.returns-clause-ends
returns-clause-ends c = c.laid_behind.ensures.ends
