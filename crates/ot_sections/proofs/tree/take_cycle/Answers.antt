use Rattle.std.proofs.Common.{◌≡◌, List, [], ◌∷◌, ◌++◌, Ok, arith, sym, subst, ◌∙◌}
use Rattle.diff_graph.specs.declared.lit.Lit.{Lit}
use Rattle.diff_graph.specs.Cycles.{pick_verdict}
use Rattle.ask_core.specs.declared.tree.Tok.TheVariants as token
use Rattle.cert_check.specs.Judging.{open_branches}
use Rattle.ot_sections.proofs.Taking.{cycle_taken}
use Rattle.ot_sections.proofs.Tokens.{open_as_counted}
use Rattle.ot_sections.proofs.tree.take_cycle.Goals as goal

pub returns-clause-taken : goal.returns-clause-taken
returns-clause-taken g c =
    let front = c.in_ok-len.ensures in
    let lits = c.in_ok-last.lits.now ++ c.in_ok-last.last.now ∷ [] in
    cycle_taken lits c.args.rest.now c.in_ok-len.len (open_branches g.A.Asker.plan c.args.checker.now)
    (open_branches g.A.Asker.plan c.close.new.self) front
    (c.close.ensures.taken front.1.0
    (subst (λ (l : List Lit). pick_verdict l front.1.0 ≡ Ok tt) (sym c.in_ok-last.ensures.cases.0
    ∙ c.answers.ensures) front.1.3))

-- a cycle leaves one place less open
pub returns-clause-count : goal.returns-clause-count
returns-clause-count g c =
    let front = c.in_ok-len.ensures in
    let taken =
    c.close.ensures.taken front.1.0
    (subst (λ (l : List Lit). pick_verdict l front.1.0 ≡ Ok tt) (sym c.in_ok-last.ensures.cases.0
    ∙ c.answers.ensures) front.1.3) in
    omega (
      arith,
      c.requires.count,
      open_as_counted (token.Cycle front.1.0) (open_branches g.A.Asker.plan c.args.checker.now)
          (open_branches g.A.Asker.plan c.close.new.self) taken,
    )
