-- The asker's own plan is that of the obligation, and it keeps the limits.
use Rattle.std.proofs.Common.{◌≤◌, [], IfErr, IsTrue, OnOk, ap, arith, sym, subst, ◌∙◌}
use Rattle.fn_rules.specs.declared.function.ObName.{ObName}
use Rattle.fn_rules.specs.declared.function.ObName.TheVariants.{Pair, Triple}
use Rattle.fn_rules.specs.Rules.{function_of}
use Rattle.ask_core.specs.Askers.{has_fine_literals}
use Rattle.ask_core.specs.Plans.{Plan}
use Rattle.ask_core.specs.declared.asker.TheConstants.{MAX_NAMES}
use Rattle.ot_questions.specs.declared.why.Why.{Why}
use Rattle.ot_questions.specs.Names.{name_count}
use Rattle.ot_questions.specs.Obligation.{plan_of}
use Rattle.ot_sections.specs.Feeding.{fed}
use Rattle.ot_sections.specs.Stands.{IsRefusedAnyway, LeadsAnyway, opened, plan_behind, stand}
use Rattle.ot_sections.proofs.obligation.judge_in.Goals as goal

few_names : (ob : ObName) → name_count ob ≤ MAX_NAMES
few_names (Pair k l) = omega arith
few_names (Triple k l m) = omega arith

pub judge_tree_behind-requires-clause-premise : goal.judge_tree_behind-requires-clause-premise
judge_tree_behind-requires-clause-premise g c = c.premise_below.ensures.fine c.new-asker.result.ob

pub judge_tree_behind-requires-clause-literals : goal.judge_tree_behind-requires-clause-literals
judge_tree_behind-requires-clause-literals g c =
    let plan = plan_of (function_of c.args.rules.now) c.args.ob in
    rw c.new-asker.ensures.root
    (subst (λ (o : ObName). IsTrue (has_fine_literals (name_count o) plan)) (sym c.new-asker.ensures.obligation)
    (c.plans_keep_limits.ensures.fine (function_of c.args.rules.now) c.args.ob c.rules_are_valid.ensures).literals)

pub judge_tree_behind-requires-clause-paths : goal.judge_tree_behind-requires-clause-paths
judge_tree_behind-requires-clause-paths g c =
    rw c.new-asker.ensures.root
    (omega (
      arith,
      c.plans_keep_limits.ensures.short (function_of c.args.rules.now) c.args.ob
          c.rules_are_valid.ensures,
    ))

pub judge_tree_behind-requires-clause-names : goal.judge_tree_behind-requires-clause-names
judge_tree_behind-requires-clause-names g c = few_names c.new-asker.result.ob

pub judge_tree_behind-requires-clause-between : goal.judge_tree_behind-requires-clause-between
judge_tree_behind-requires-clause-between g c = c.requires.between

pub judge_tree_behind-requires-clause-tree : goal.judge_tree_behind-requires-clause-tree
judge_tree_behind-requires-clause-tree g c = c.requires.tree

pub judge_tree_behind-requires-clause-room : goal.judge_tree_behind-requires-clause-room
judge_tree_behind-requires-clause-room g c = c.requires.room

pub returns-clause-closed : goal.returns-clause-closed
returns-clause-closed g c = c.judge_tree_behind.ensures.closed

pub returns-clause-leads : goal.returns-clause-leads
returns-clause-leads g c =
    subst
    (λ (p : Plan Why). OnOk c.judge_tree_behind.result (LeadsAnyway g.F.Feed (stand (fed c.args.reader.now
    c.args.feed.now) (opened p)) (stand (fed c.judge_tree_behind.new.reader c.judge_tree_behind.new.feed) [])))
    (ap (λ (p : Plan Why). plan_behind c.premise_below.result p) c.new-asker.ensures.root
    ∙ c.premise_below.ensures.plan (function_of c.args.rules.now) c.args.ob) c.judge_tree_behind.ensures.leads

pub returns-clause-refused : goal.returns-clause-refused
returns-clause-refused g c =
    subst
    (λ (p : Plan Why). IfErr c.judge_tree_behind.result
    (IsRefusedAnyway g.F.Feed (stand (fed c.args.reader.now c.args.feed.now) (opened p)) c.judge_tree_behind.new.feed))
    (ap (λ (p : Plan Why). plan_behind c.premise_below.result p) c.new-asker.ensures.root
    ∙ c.premise_below.ensures.plan (function_of c.args.rules.now) c.args.ob) c.judge_tree_behind.ensures.refused

pub returns-clause-leaves : goal.returns-clause-leaves
returns-clause-leaves g c = c.judge_tree_behind.ensures.leaves
