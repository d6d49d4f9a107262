use Rattle.std.proofs.Common.{◌<◌, ◌-◌, ℕ, List, length, Some, sym, ap, ◌∙◌, arith}
use Rattle.std.specs.Coded.{Coded-set}
use Rattle.std.proofs.Math.Logic.{∥∥₁_elim}
use Rattle.std.proofs.lemmas.List.{length-map}
use Rattle.ot_model.specs.declared.cell.Cell.{Cell}
use Rattle.ot_session.specs.Sites.{view_site, site_document}
use Rattle.ot_session.proofs.Views.{document_code, viewed}
use Rattle.ot_session.proofs.session.Session.doc.Goals as goal

pub returns-clause-state : goal.returns-clause-state
returns-clause-state c =
    let s = c.args.self.now in
    let t : ℕ = c.args.site in
    let inside : t - 1 < length s.sites.items =
    omega (arith, c.requires.low, c.requires.high, length-map s.sites.items view_site) in
    ∥∥₁_elim s.kept (Coded-set document_code _ _)
    (λ k.
    k.sound.documents t c.requires
    ∙ ap (λ (d : List Cell). Some d)
    (ap site_document (viewed s.sites.items (t - 1) c.index.result.now inside c.index.ensures)))

pub returns-clause-held : goal.returns-clause-held
returns-clause-held c =
    let s = c.args.self.now in
    let t : ℕ = c.args.site in
    let inside : t - 1 < length s.sites.items =
    omega (arith, c.requires.low, c.requires.high, length-map s.sites.items view_site) in
    sym (ap site_document (viewed s.sites.items (t - 1) c.index.result.now inside c.index.ensures))
