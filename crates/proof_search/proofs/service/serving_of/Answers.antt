use Rattle.std.proofs.Common.{refl, ◌∙◌}
use Rattle.proof_search.proofs.Keeping.{KeepsStarts-refl, KeepsStarts-trans}
use Rattle.proof_search.proofs.Owning.{lemmas_kept}
use Rattle.proof_search.proofs.service.serving_of.Goals as goal

pub places-init : goal.places-init
places-init g c = record {
  lemmas = c.requires.lemmas;
  here = c.requires.here;
  same = KeepsStarts-refl (g.A.Asker.is_own c.args.asker.now) (g.A.Starter.starts c.args.asker.now);
  told = refl;
}

pub places-preserved : goal.places-preserved
places-preserved g c =
    let known = c.places.invariant in
    let keeps = c.serving_at.ensures.same in
    record {
      lemmas = lemmas_kept keeps c.args.lemmas.now known.lemmas;
      here = (keeps.own c.args.here).0 known.here;
      same = KeepsStarts-trans known.same keeps;
      told = c.serving_at.ensures.told ∙ known.told;
    }
