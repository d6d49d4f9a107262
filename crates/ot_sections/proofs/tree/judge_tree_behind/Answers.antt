-- The plan that is judged is the asker's own, behind the premise if there is one.
use Rattle.std.proofs.Common.{[], IfErr, OnOk, Option, ap, sym, subst, ◌∙◌}
use Rattle.diff_graph.specs.declared.lit.Lit.{Lit}
use Rattle.ot_sections.specs.Feeding.{fed}
use Rattle.ot_sections.specs.Stands.{IsRefusedAnyway, LeadsAnyway, opened, plan_behind, stand}
use Rattle.ot_sections.proofs.tree.judge_tree_behind.Goals as goal

pub returns-in-None-clause-leads : goal.returns-in-None-clause-leads
returns-in-None-clause-leads g c =
    subst
    (λ p. OnOk c.judge_tree.result (LeadsAnyway g.F.Feed (stand (fed c.args.reader.now c.args.feed.now) (opened p))
    (stand {W = g.row.A-Why.Denot} (fed c.judge_tree.new.reader c.judge_tree.new.feed) [])))
    (sym (ap (λ (o : Option Lit). plan_behind o (g.A.Asker.root c.args.asker)) c.in-None.is)) c.judge_tree.ensures.leads

pub returns-in-None-clause-refused : goal.returns-in-None-clause-refused
returns-in-None-clause-refused g c =
    subst
    (λ p. IfErr c.judge_tree.result (IsRefusedAnyway g.F.Feed (stand (fed c.args.reader.now c.args.feed.now) (opened p))
    c.judge_tree.new.feed))
    (sym (ap (λ (o : Option Lit). plan_behind o (g.A.Asker.root c.args.asker)) c.in-None.is))
    c.judge_tree.ensures.refused

pub returns-in-Some-clause-leads : goal.returns-in-Some-clause-leads
returns-in-Some-clause-leads g c =
    subst
    (λ p. OnOk c.judge_tree-in-Some.result (LeadsAnyway g.F.Feed (stand (fed c.args.reader.now c.args.feed.now)
    (opened p)) (stand {W = g.row.A-Why.Denot} (fed c.judge_tree-in-Some.new.reader c.judge_tree-in-Some.new.feed) [])))
    (c.new.ensures.root ∙ sym (ap (λ (o : Option Lit). plan_behind o (g.A.Asker.root c.args.asker)) c.in-Some.is))
    c.judge_tree-in-Some.ensures.leads

pub returns-in-Some-clause-refused : goal.returns-in-Some-clause-refused
returns-in-Some-clause-refused g c =
    subst
    (λ p. IfErr c.judge_tree-in-Some.result
    (IsRefusedAnyway g.F.Feed (stand (fed c.args.reader.now c.args.feed.now) (opened p)) c.judge_tree-in-Some.new.feed))
    (c.new.ensures.root ∙ sym (ap (λ (o : Option Lit). plan_behind o (g.A.Asker.root c.args.asker)) c.in-Some.is))
    c.judge_tree-in-Some.ensures.refused
