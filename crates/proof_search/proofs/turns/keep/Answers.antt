use Rattle.std.proofs.Common.{inl, inr, refl}
use Rattle.proof_search.proofs.turns.keep.Goals as goal

pub returns-clause-adds : goal.returns-clause-adds
returns-clause-adds g c = record {
  lemma =
      inr
      (record {
        item = record { node = c.args.level.node; literals = c.from_vec.result };
        at_node = refl;
        items = c.in_ok-add.ensures;
      });
  at = inl refl;
  waiting = refl;
  levels = refl;
  asked = refl;
}
