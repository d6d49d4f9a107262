use Rattle.std.proofs.Common.{◌≡◌, ℕ, List, ◌∷◌, refl, sym, ap, subst, ◌∙◌}
use Rattle.ask_core.specs.declared.tree.Tok.TheVariants as token
use Rattle.cert_check.specs.Judging.{open_branches}
use Rattle.ot_sections.specs.Taking.{AreTakenFront}
use Rattle.ot_sections.proofs.Taking.{byte_taken}
use Rattle.ot_sections.proofs.tree.take_front.Goals as goal

pub returns-in-46-clause-taken : goal.returns-in-46-clause-taken
returns-in-46-clause-taken g c =
    let old = open_branches g.A.Asker.plan c.args.checker.now in
    let new = open_branches g.A.Asker.plan c.takes.new.self in
    let rest = c.in_ok-first.rest.now in
    let bytes_are : c.args.bytes.now ≡ 46 ∷ rest = c.in_ok-first.ensures.cases.0
    ∙ ap (λ (b : ℕ). b ∷ rest) c.in-46.is in
    subst (λ (l : List ℕ). AreTakenFront old new l 1) (sym bytes_are)
    (byte_taken 46 rest token.Holds old new tt refl (c.takes.ensures.taken c.if-takes.true))
