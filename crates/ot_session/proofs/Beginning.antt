-- A new session, as the definitions of sessions speak of it.
use Rattle.std.proofs.Common.{◌≡◌, ◌<◌, ◌-◌, ◌∷◌, [], ℕ, zero, suc, List, length, map, refl, sym, ap, ◌∙◌, reverse}
use Rattle.std.proofs.Common.{arith}
use Rattle.std.specs.Prelude.{slice_get}
use Rattle.std.specs.List.{AllByRecursion}
use Rattle.std.proofs.lemmas.Bool.{false≢true}
use Rattle.ot_model.specs.declared.cell.Cell.{Cell}
use Rattle.fn_rules.specs.Functions.{Function}
use Rattle.ot_causal.specs.Past.{Past}
use Rattle.ot_causal.specs.Counting.{counted}
use Rattle.ot_causal.specs.Sessions.{SessionData, IsNew, IsSound, counted_to, all_counted}
use Rattle.ot_session.specs.declared.made.Made.{Made}
use Rattle.ot_session.specs.declared.site.Site.{Site}
use Rattle.ot_session.specs.Past.{past_of}
use Rattle.ot_session.specs.Sites.{SiteView, view_site, site_document, seen_in, data_of, IsSorted, SiteKeepsForms}
use Rattle.ot_session.specs.Sites.{IsFresh, IsKeptSession}
use Rattle.ot_session.specs.Views.{IsFreshView}
use Rattle.ot_session.proofs.Lists.{AllByRecursion-map}

module _ (d : List Cell) where
  pub fresh-viewed : (sites : List Site) → AllByRecursion (IsFresh d) sites
      → AllByRecursion (IsFreshView d) (map view_site sites)
  fresh-viewed sites fresh = AllByRecursion-map (IsFresh d) (IsFreshView d) view_site
      (λ s f. record { document = f.document; seen = ap reverse f.seen; held = f.held; room = f.marked.held }) sites
      fresh

  -- sites that are fresh hold nothing and have integrated nothing, so their marks are in order
  sorted-fresh : (count : ℕ) (sites : List Site) → AllByRecursion (IsFresh d) sites
      → AllByRecursion (IsSorted count) sites
  sorted-fresh count [] fresh = tt
  sorted-fresh count (s ∷ sites) fresh = (
    record {
      marked = fresh.0.marked;
      apart = record {
        made = λ x is. absurd (false≢true (sym (fresh.0.held x) ∙ is));
        other = λ x is. absurd (false≢true (sym (fresh.0.held x) ∙ is));
      };
    },
    sorted-fresh count sites fresh.1,
  )

  -- nothing was counted, and no form is stored
  pub SiteKeepsForms-fresh : (f : Function) (past : Past) → counted past [] ≡ [] → (sites : List Site)
      → AllByRecursion (IsFresh d) sites
      → AllByRecursion (SiteKeepsForms f past) sites
  SiteKeepsForms-fresh f past none [] fresh = tt
  SiteKeepsForms-fresh f past none (s ∷ sites) fresh = (
    record { has = rw (fresh.0.seen, fresh.0.table, none) (record { counted = tt; forms = tt; stored = tt }) },
    SiteKeepsForms-fresh f past none sites fresh.1,
  )

  fresh-seen : (sites : List SiteView) (i : ℕ) → AllByRecursion (IsFreshView d) sites → seen_in (slice_get sites i) ≡ []
  fresh-seen [] i fresh = refl
  fresh-seen (s ∷ sites) zero fresh = fresh.0.seen
  fresh-seen (s ∷ sites) (suc i) fresh = fresh-seen sites i fresh.1

  fresh-document : (sites : List SiteView) (i : ℕ) → i < length sites → AllByRecursion (IsFreshView d) sites
      → site_document (slice_get sites i) ≡ d
  fresh-document [] i inside fresh = absurd (omega arith)
  fresh-document (s ∷ sites) zero inside fresh = fresh.0.document
  fresh-document (s ∷ sites) (suc i) inside fresh = fresh-document sites i (omega arith) fresh.1

  IsNew-fresh : (first : List Cell) (made : List Made) (sites : List SiteView) → first ≡ d → made ≡ []
      → AllByRecursion (IsFreshView d) sites
      → IsNew d (data_of first made sites)
  IsNew-fresh first made sites same none fresh = record {
    nothing = ap length none;
    first = same;
    seen = λ t site. fresh-seen sites (t - 1) fresh;
    documents = λ t site. fresh-document sites (t - 1) (omega (arith, site.low, site.high)) fresh;
  }

  -- what is kept in a session is there at first
  pub IsKeptSession-fresh : (f : Function) (first : List Cell) (made : List Made) (sites : List Site)
      → ((s : SessionData) → IsNew d s → IsSound f s) → first ≡ d → made ≡ [] → AllByRecursion (IsFresh d) sites
      → IsKeptSession f first made sites
  IsKeptSession-fresh f first made sites law same none fresh = record {
    sound = law (data_of first made (map view_site sites))
        (IsNew-fresh first made (map view_site sites) same none (fresh-viewed sites fresh));
    sorted = sorted-fresh (length made) sites fresh;
  }

  counted_to-fresh : (first : List Cell) (made : List Made) (sites : List SiteView)
      → ((past : Past) → counted past [] ≡ [])
      → AllByRecursion (IsFreshView d) sites → (n : ℕ) → counted_to (data_of first made sites) n ≡ 0
  counted_to-fresh first made sites none fresh zero = refl
  counted_to-fresh first made sites none fresh (suc n) =
      let nothing : counted (past_of made) (seen_in (slice_get sites (suc n - 1))) ≡ [] =
      rw (fresh-seen sites (suc n - 1) fresh) (none (past_of made)) in
      omega (arith, counted_to-fresh first made sites none fresh n, ap length nothing)

  -- no form was counted
  pub all_counted-fresh : (first : List Cell) (made : List Made) (sites : List Site)
      → ((past : Past) → counted past [] ≡ [])
      → AllByRecursion (IsFresh d) sites → all_counted (data_of first made (map view_site sites)) ≡ 0
  all_counted-fresh first made sites none fresh =
      counted_to-fresh first made (map view_site sites) none (fresh-viewed sites fresh) (length (map view_site sites))
