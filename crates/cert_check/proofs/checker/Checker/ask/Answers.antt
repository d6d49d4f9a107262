use Rattle.std.proofs.Common.{refl}
use Rattle.ask_core.specs.declared.tree.Tok.TheVariants as token
use Rattle.cert_check.proofs.Feeding.{IsUnderWay-taken, IsUnderWay-refused}
use Rattle.cert_check.proofs.Places.{own_after, question_taken}
use Rattle.cert_check.proofs.checker.Checker.ask.Goals as goal
use Rattle.cert_check.proofs.checker.Checker.ask.Goals.{in-Ok, in-Err}

-- the checker is under way behind the question, or as before where memory was wanting
pub invariant_of-self : goal.invariant_of-self
invariant_of-self g c =
    let places = c.self.inside.path in
    let asker = c.self.inside.asker in
    let q = c.args.question in
    let asked = rw (← c.self.view_is) at c.requires in
    elim c.match-ask.branch [
      | in-Ok w ↦
          IsUnderWay-taken places token.Ask c.self.invariant c.ask.new.self
          (own_after (g.A.Asker.is_own asker) places c.ask.new.self q.lit q.yes q.no w.in-Ok.ensures.ok asked.own_yes
          asked.own_no c.self.invariant.own) refl c.trees_are_judged_token_by_token.ensures tt
          (question_taken (g.A.Asker.plan asker) places c.ask.new.self q.lit q.yes q.no asked.some
          asked.asks w.in-Ok.ensures.ok)
      | in-Err w ↦
          IsUnderWay-refused places token.Ask c.self.invariant c.ask.new.self
          (rw w.in-Err.ensures.err c.self.invariant.own) refl (rw w.in-Err.ensures.err refl)
    ]
