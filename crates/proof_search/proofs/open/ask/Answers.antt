use Rattle.std.proofs.Common.{inl, inr, refl}
use Rattle.proof_search.proofs.open.ask.Goals as goal

-- the part for yes is open, and that for no waits
pub returns : goal.returns
returns g c = record {
  at = inl refl;
  waiting =
      inr
      (record {
        item = record { node = c.args.no; answers = c.len.result; answer = c.negate-answer.result };
        at_node = refl;
        items = c.in_ok-push-2.ensures.items;
      });
  levels = refl;
  lemmas = refl;
  asked = refl;
}
