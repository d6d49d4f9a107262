use Rattle.std.proofs.Common.{inr, refl, false}
use Rattle.proof_search.proofs.open.begin_level.Goals as goal

-- one level more, of the node
pub returns : goal.returns
returns g c = record {
  levels =
      inr
      (record {
        item =
            record {
              node = c.args.node;
              literals = c.new.result;
              outer = c.args.search.now.facts;
              waiting = c.len.result;
              answers = c.len-2.result;
              scout = false;
              sent = c.args.search.now.sent;
            };
        at_node = refl;
        items = c.in_ok-push.ensures.items;
      });
  waiting = refl;
  at = refl;
  lemmas = refl;
  asked = refl;
}
