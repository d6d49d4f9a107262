use Rattle.std.proofs.Common.{List, ℕ, Ok, sym, ap, subst, arith}
use Rattle.std.proofs.lemmas.List.{take_more}
use Rattle.cert_text.specs.Pieces.{GoesOn}
use Rattle.cert_text.proofs.PieceLemmas.{goes_on_more}
use Rattle.cert_reader.proofs.reader.Reader.feed_each.Goals as goal

pub loop-i-preserved : goal.loop-i-preserved
loop-i-preserved c =
    let gives = rw c.in-Ok-None.field-0-is at c.in-Ok-None.ensures.gives in
    let further = take_more c.args.piece.now c.loop-i.i 0 c.loop-i-test.true in (
      subst (λ (l : List ℕ). GoesOn c.args.self.now l c.feed.new.self) (sym further)
          (goes_on_more _ c.loop-i.self _ _ _ c.loop-i.invariant.0 gives
          (c.in-Ok-None.ensures.under_way (ap Ok c.in-Ok-None.field-0-is))),
      omega (arith, c.feed.ensures.fed, c.loop-i.invariant.1),
    )
