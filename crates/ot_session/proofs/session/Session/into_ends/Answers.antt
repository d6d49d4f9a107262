use Rattle.std.proofs.Common.{◌≡◌, ◌++◌, ◌∷◌, [], List, map, sym, ap, ◌∙◌}
use Rattle.std.proofs.lemmas.List.{map-append}
use Rattle.ot_session.specs.declared.ending.SiteEnd.{SiteEnd}
use Rattle.ot_session.specs.declared.site.Site.{Site}
use Rattle.ot_session.specs.Sites.{SiteView, view_site, site_end_of}
use Rattle.ot_session.proofs.session.Session.into_ends.Goals as goal

pub loop-site-init : goal.loop-site-init
loop-site-init c = c.new-ends.ensures

pub loop-site-preserved : goal.loop-site-preserved
loop-site-preserved c =
    let ends : List SiteEnd = c.loop-site.ends in
    let yielded : List Site = c.loop-site.yielded in
    let site : Site = c.in-Some.site in
    let more : map site_end_of (map view_site (yielded ++ site ∷ []))
    ≡ map site_end_of (map view_site yielded) ++ site_end_of (view_site site) ∷ [] =
    ap (λ (views : List SiteView). map site_end_of views) (map-append view_site yielded (site ∷ []))
    ∙ map-append site_end_of (map view_site yielded) (view_site site ∷ []) in
    c.in_ok-push.ensures.ok
    ∙ ap (λ (end : SiteEnd). ends ++ end ∷ []) c.into_end.ensures
    ∙ ap (λ (before : List SiteEnd). before ++ site_end_of (view_site site) ∷ []) c.loop-site.invariant
    ∙ sym more
