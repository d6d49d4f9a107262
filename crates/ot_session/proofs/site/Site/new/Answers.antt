use Rattle.std.proofs.Common.{false}
use Rattle.std.proofs.lemmas.List.{length-replicate}
use Rattle.ot_session.specs.declared.limits.TheConstants.{MAX_MADE}
use Rattle.ot_session.proofs.Marks.{unmarked}
use Rattle.ot_session.proofs.site.Site.new.Goals as goal

-- the site holds the document, and nothing is integrated, held or stored
pub returns : goal.returns
returns c =
    let integrated = c.in_ok-integrated.ensures in
    let held = c.in_ok-held.ensures in
    record {
      document = c.in_ok-doc.ensures;
      seen = c.new.ensures.items;
      held = λ x. rw held (unmarked x);
      marked = record {
        marks = λ x. rw (integrated, c.new.ensures.items) (unmarked x);
        integrated = rw integrated (length-replicate MAX_MADE false);
        held = rw held (length-replicate MAX_MADE false);
      };
      table = c.new-2.ensures;
    }
