use Rattle.std.proofs.Common.{pos, ◌-ℤ◌, IsTrue, refl, sym, ap, subst}
use Rattle.diff_graph.specs.declared.lit.Lit.{Lit}
use Rattle.ask_core.specs.Askers.{is_fine_literal}
use Rattle.ask_core.specs.Plans.{premised}
use Rattle.ot_questions.specs.Names.{name_count}
use Rattle.ot_questions.specs.Obligation.{plan_of}
use Rattle.ot_sections.proofs.Premises.{bound_is_fine}
use Rattle.ot_sections.proofs.premise.shorter_than.Goals as goal

pub returns-clause-plan : goal.returns-clause-plan
returns-clause-plan c f ob = ap (λ (l : Lit). premised l (plan_of f ob)) c.literal_below.ensures

pub returns-clause-fine : goal.returns-clause-fine
returns-clause-fine c ob =
    subst (λ (l : Lit). IsTrue (is_fine_literal (name_count ob) l)) (sym c.literal_below.ensures)
    (bound_is_fine ob c.args.bound (pos c.args.bound -ℤ pos 1) refl c.requires)
