use Rattle.std.proofs.Common.{inr, refl}
use Rattle.proof_search.proofs.turns.come_back.Goals as goal

pub returns-clause-adds : goal.returns-clause-adds
returns-clause-adds g c = record {
  lemma =
      inr
      (record {
        item = record { node = c.args.level.node; literals = c.from_vec.result };
        at_node = refl;
        items = c.in_ok-add_scout.ensures;
      });
  at = inr refl;
  waiting = refl;
  levels = refl;
  asked = refl;
}
