use Rattle.std.proofs.Common.{◌∷◌, ◌++◌, [], true, refl, ap, ◌∙◌}
use Rattle.proof_search.specs.declared.under_way.LemmaLevel.{LemmaLevel}
use Rattle.proof_search.specs.declared.under_way.Search.{Search}
use Rattle.proof_search.proofs.scouts.begin_anew.Goals as goal

-- one of the node stands at the end
pub returns : goal.returns
returns g c =
    let cut = c.cut.ensures.same in
    let item : LemmaLevel g.row.N.Denot = record {
      node = c.args.level.node;
      literals = c.args.outset.literals;
      outer = c.args.level.outer;
      waiting = c.args.level.waiting;
      answers = c.args.level.answers;
      scout = true;
      sent = c.args.level.sent;
    } in
    record {
      levels =
          record {
            item = item;
            at_node = refl;
            items = c.in_ok-push.ensures.items ∙ ap (λ (s : Search g.row.N.Denot). s.levels.items ++ item ∷ []) cut;
          };
      at = refl;
      waiting = c.cut.ensures.waiting;
      lemmas = ap (λ (s : Search g.row.N.Denot). s.lemmas) cut;
      asked = ap (λ (s : Search g.row.N.Denot). s.asked) cut;
    }
