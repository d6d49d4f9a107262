-- What is kept in a session is more than a fact, but that two documents are one is no more than that.
use Rattle.std.proofs.Common.{◌≡◌, List, Some, map, ap}
use Rattle.std.specs.Coded.{Coded-set}
use Rattle.std.proofs.Math.Logic.{∥∥₁_elim}
use Rattle.ot_model.specs.declared.cell.Cell.{Cell}
use Rattle.fn_rules.specs.Rules.{function_of}
use Rattle.ot_session.specs.Sites.{view_site, data_of}
use Rattle.ot_session.proofs.Views.{document_code}
use Rattle.ot_session.proofs.session.Session.sites_agree.Goals as goal

same_document : (d e : List Cell) → Some d ≡ Some e → d ≡ e
same_document d e same = cc

pub returns : goal.returns
returns c one two differ s t is_s is_t same =
    let session = c.args.self.now in
    same_document _ _
    (∥∥₁_elim session.kept (Coded-set document_code _ _)
    (λ k.
    ap (λ (d : List Cell). Some d)
    ((c.both_properties_give_one_document.ensures
    (function_of session.rules) (data_of session.first session.made.items (map view_site session.sites.items)) one two
    differ k.sound).one_document s t is_s is_t same)))
