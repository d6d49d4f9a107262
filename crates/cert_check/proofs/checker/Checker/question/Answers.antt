use Rattle.ask_core.specs.declared.tree.Tok.TheVariants as token
use Rattle.cert_check.proofs.Feeding.{IsUnderWay-refused}
use Rattle.cert_check.proofs.checker.Checker.question.Goals as goal

pub invariant_of-self : goal.invariant_of-self
invariant_of-self g c =
    let now = c.turn_at in
    IsUnderWay-refused c.self.inside.path token.Ask c.self.invariant c.self.inside.path now.ensures.own
    now.ensures.root_kept now.ensures.branches
