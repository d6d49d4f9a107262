use Rattle.cert_text.specs.Cycles.{cycle_text}
use Rattle.cert_text.proofs.CycleLemmas.{one_longer}
use Rattle.cert_text.proofs.cycle.Cycle.with_digit.Goals as goal

pub returns-in-Some : goal.returns-in-Some
returns-in-Some c =
    let text = c.in-Some.ensures.grown.1 c.args.self.picks in (
      (
        c.requires.begun.0,
        c.requires.begun.1,
        c.in-Some.ensures.grown.0,
        one_longer _ c.args.digit (cycle_text c.args.self.picks c.args.self.number) _ c.requires.begun.3 text,
      ),
      text,
    )
