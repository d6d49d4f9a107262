use Rattle.std.proofs.Common.{◌≡◌, List, [], ◌∷◌, ◌++◌, Some, Ok, ap, sym, subst, ◌∙◌}
use Rattle.diff_graph.specs.declared.lit.Lit.{Lit}
use Rattle.diff_graph.specs.Cycles.{pick_verdict}
use Rattle.proof_check.specs.Judging.{standing_at}
use Rattle.proof_sections.proofs.Fronts.{AreAlike, cycle_leads}
use Rattle.proof_sections.proofs.tree.take_cycle.Goals as goal

pub returns-clause-leads : goal.returns-clause-leads
returns-clause-leads g c =
    let starts = g.A.Starter.starts in
    let front = c.in_ok-len.ensures in
    let lits = c.in_ok-last.literals.now ++ c.in_ok-last.last.now ∷ [] in
    let p = c.in_ok-close.field-0 in
    let alike : AreAlike =
    record {
      text = c.certificate_tokens_are_spelled_alike.ensures.text;
      spellable = c.certificate_tokens_are_spelled_alike.ensures.spellable;
    } in
    cycle_leads c.tokens_are_found_exactly.ensures (starts c.args.checker.now.asker).compare
    (standing_at starts c.args.checker.now) (starts c.close.new.self.asker) c.close.new.self.places alike p lits
    c.args.rest.now c.in_ok-len.len front (c.close.ensures.taken p front.1.0 c.in_ok-close.was
    (subst (λ (l : List Lit). pick_verdict l front.1.0 ≡ Ok tt) (sym c.in_ok-last.ensures.cases.0
    ∙ c.literals.ensures.value) front.1.3))
    (λ more. c.close.ensures.open (c.in_ok-close.was ∙ ap Some more))
    (λ done. c.close.ensures.closed (c.in_ok-close.was ∙ ap Some done))
