use Rattle.std.proofs.Common.{IfOk, Option, ap, subst, sym, ◌∙◌}
use Rattle.diff_graph.specs.declared.lit.Lit.{Lit}
use Rattle.ask_core.specs.Askers.{IsFine}
use Rattle.ot_prove.specs.Outcomes.{IsDecided}
use Rattle.ot_sections.specs.Stands.{plan_behind}
use Rattle.ot_decide.proofs.Bounded.{fine_behind}
use Rattle.ot_decide.proofs.searching.search_behind.Goals as goal

pub new-asker-requires : goal.new-asker-requires
new-asker-requires g c =
    let parts = fine_behind (g.A.Asker.name_count c.args.inner) c.in-Some.lit (g.A.Asker.root c.args.inner)
    (subst (λ (o : Option Lit). IsFine (g.A.Asker.name_count c.args.inner)
    (plan_behind o (g.A.Asker.root c.args.inner))) c.in-Some.is c.requires.fine) in
    record { premise = parts.premise; literals = parts.literals; paths = parts.paths }

pub returns-in-None-clause-decides : goal.returns-in-None-clause-decides
returns-in-None-clause-decides g c =
    subst (λ p. IfOk c.prove_behind.result (λ o. IsDecided p c.args.budget o))
    (sym (ap (λ (o : Option Lit). plan_behind o (g.A.Asker.root c.args.inner)) c.in-None.is))
    c.prove_behind.ensures.decides

pub returns-in-None-clause-front : goal.returns-in-None-clause-front
returns-in-None-clause-front g c = c.prove_behind.ensures.front

pub returns-in-Some-clause-decides : goal.returns-in-Some-clause-decides
returns-in-Some-clause-decides g c =
    subst (λ p. IfOk c.prove_behind-in-Some.result (λ o. IsDecided p c.args.budget o))
    (c.new-asker.ensures.root ∙ sym (ap (λ (o : Option Lit). plan_behind o (g.A.Asker.root c.args.inner)) c.in-Some.is))
    c.prove_behind-in-Some.ensures.decides

pub returns-in-Some-clause-front : goal.returns-in-Some-clause-front
returns-in-Some-clause-front g c = c.prove_behind-in-Some.ensures.front
