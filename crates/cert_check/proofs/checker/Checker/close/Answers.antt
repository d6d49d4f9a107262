use Rattle.std.proofs.Common.{refl}
use Rattle.ask_core.specs.declared.tree.Tok.TheVariants as token
use Rattle.cert_check.proofs.Feeding.{IsUnderWay-taken}
use Rattle.cert_check.proofs.Places.{cycle_taken, own_behind}
use Rattle.cert_check.proofs.checker.Checker.close.Goals as goal

pub invariant_of-self : goal.invariant_of-self
invariant_of-self g c =
    let picks = c.requires.cycle.0 in
    let places = c.self.inside.path in
    let view = c.self.view_is in
    IsUnderWay-taken places (token.Cycle picks) c.self.invariant c.close.new.self
    (own_behind (g.A.Asker.is_own c.self.inside.asker) places c.close.new.self c.close.ensures c.self.invariant.own)
    refl c.trees_are_judged_token_by_token.ensures c.requires.cycle.1
    (cycle_taken (g.A.Asker.plan c.self.inside.asker) places c.close.new.self picks (rw (← view) at c.requires.open)
    c.close.ensures (rw (← view) at c.requires.cycle.2))
