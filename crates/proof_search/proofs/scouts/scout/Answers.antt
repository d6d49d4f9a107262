use Rattle.std.proofs.Common.{Some, inr, ap, ◌∙◌}
use Rattle.proof_search.specs.declared.under_way.LemmaLevel.{LemmaLevel}
use Rattle.proof_search.proofs.scouts.scout.Goals as goal

-- a level of the same node stands in the place of the one that was taken out
pub returns-in_ok-begin_anew-in-Some-2 : goal.returns-in_ok-begin_anew-in-Some-2
returns-in_ok-begin_anew-in-Some-2 g c =
    let begun = c.in_ok-begin_anew-in-Some-2.ensures in
    let same = ap (λ (l : LemmaLevel g.row.N.Denot). l.node) c.due.ensures in
    inr
    (record {
      level = c.in-Some.level;
      around = c.pop.new.self.items;
      was = c.in-Some.ensures.items;
      levels = record { item = begun.levels.item; at_node = begun.levels.at_node ∙ same; items = begun.levels.items };
      at = inr (begun.at ∙ ap (λ (n : g.row.N.Denot). Some n) same);
      waiting = begun.waiting;
      lemmas = begun.lemmas;
      asked = begun.asked;
    })
