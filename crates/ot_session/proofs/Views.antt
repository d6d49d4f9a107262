-- Documents are told apart by their cells; what is seen of a site.
use Rattle.std.proofs.Common.{◌≡◌, ◌<◌, ◌+◌, ◌-◌, ℕ, Bool, List, length, map, Option, Some, refl, ap, ◌∙◌, subst}
use Rattle.std.proofs.Common.{reverse, get_or, arith}
use Rattle.std.specs.Prelude.{slice_get, Result, Ok, Err, OnErr}
use Rattle.std.specs.Option.{option_map}
use Rattle.std.specs.Coded.{Coded, code_by, coded×, coded_ℕ, coded_bool, coded_list, coded_option}
use Rattle.std.proofs.lemmas.List.{length-map}
use Rattle.std.proofs.lemmas.Option.{slice_get-map, slice_get_read, slice_get_within}
use Rattle.ot_model.specs.declared.cell.Cell.{Cell}
use Rattle.fn_rules.specs.Functions.{Function}
use Rattle.ot_causal.specs.Past.{IsClosed}
use Rattle.ot_causal.specs.Sessions.{IsSound}
use Rattle.ot_session.specs.declared.made.Made.{Made}
use Rattle.ot_session.specs.declared.site.Site.{Site}
use Rattle.ot_session.specs.Past.{past_of}
use Rattle.ot_session.specs.Sites.{view_site, seen_in, data_of, IsSameSite}

cell_code : Coded Cell
cell_code = code_by (ℕ × Bool) (coded× coded_ℕ coded_bool) (λ c. (c.ch, c.live))
    (λ p. record { ch = p.0; live = p.1 }) (λ _. refl)

pub document_code : Coded (Option (List Cell))
document_code = coded_option (coded_list cell_code)

-- what holds anyway holds of an error
pub OnErr-always : {T E P : Type 0} (r : Result T E) → P → OnErr r P
OnErr-always (Ok x) holds = tt
OnErr-always (Err e) holds = holds

-- the site at an index is seen there
pub viewed : (sites : List Site) (i : ℕ) (site : Site) → i < length sites → site ≡ get_or sites i site
    → slice_get (map view_site sites) i ≡ Some (view_site site)
viewed sites i site inside is =
    slice_get-map view_site sites i
    ∙ ap (option_map view_site) (slice_get_read sites (length sites) i site refl inside is)

-- a site of which nothing changed is seen as it was
pub view_site-same : (old new : Site) → IsSameSite old new → view_site new ≡ view_site old
view_site-same old new same =
    ap (λ (d : List Cell). record { document = d; seen = reverse new.seen.items; held = new.held }) same.document
    ∙ ap (λ (l : List ℕ). record { document = old.doc; seen = reverse l; held = new.held }) same.seen
    ∙ ap (λ (marks : List Bool). record { document = old.doc; seen = reverse old.seen.items; held = marks }) same.held

-- what a site of a sound session has integrated is closed
pub closed_session-viewed : (f : Function) (first : List Cell) (made : List Made) (sites : List Site)
    → IsSound f (data_of first made (map view_site sites))
    → (i : ℕ) (s : Site) → slice_get sites i ≡ Some s → IsClosed (past_of made) (reverse s.seen.items)
closed_session-viewed f first made sites sound i s is =
    let place : i + 1 - 1 ≡ i = omega arith in
    let there : slice_get (map view_site sites) (i + 1 - 1) ≡ Some (view_site s) =
    rw place (slice_get-map view_site sites i ∙ ap (option_map view_site) is) in
    subst (λ (l : List ℕ). IsClosed (past_of made) l) (ap seen_in there)
    (sound.closed (i + 1) (record {
      low = omega arith;
      high = omega (arith, slice_get_within sites i s is, length-map sites view_site);
    }))
