use Rattle.std.proofs.Common.{◌≡◌, ◌++◌, ◌∷◌, [], ℕ, Bool, List, length, map, Option, Some, Err, IfSome, refl, sym, ap}
use Rattle.std.proofs.Common.{◌∙◌, get_or, subst, arith}
use Rattle.std.specs.Prelude.{slice_get}
use Rattle.std.specs.List.{AllByRecursion}
use Rattle.std.proofs.lemmas.List.{set-get_or}
use Rattle.ot_model.specs.Effect.{IsEnabled}
use Rattle.ot_model.specs.declared.op.Apply.{Apply}
use Rattle.std.specs.Coded.{le_prop}
use Rattle.std.proofs.Math.Logic.{∥∥₁_elim}
use Rattle.std.proofs.Math.Seq.{map-set_same}
use Rattle.std.proofs.lemmas.Option.{slice_get_read}
use Rattle.ot_session.specs.declared.limits.TheConstants.{MAX_MADE}
use Rattle.ot_session.specs.declared.made.Made.{Made}
use Rattle.ot_session.specs.declared.site.Site.{Site}
use Rattle.ot_session.specs.Sites.{view_site, IsMarked, IsSorted, IsSameSite, Executes}
use Rattle.ot_session.proofs.Lists.{AllByRecursion-at, AllByRecursion-set}
use Rattle.ot_session.proofs.Turns.{IsSorted-same}
use Rattle.ot_session.proofs.Views.{OnErr-always, view_site-same}
use Rattle.ot_session.proofs.steps.execute_at.Goals as goal

pub execute-requires : goal.execute-requires
execute-requires c =
    let sites = c.args.sites.now in
    let site = c.index-sites-place.result in
    let was = slice_get_read sites (length sites) c.args.place site refl c.requires.place c.index-sites-place.is in
    ∥∥₁_elim c.requires.room le_prop
    (λ marked.
    let room : length site.integrated ≡ MAX_MADE =
    (AllByRecursion-at IsMarked sites c.args.place site marked was).integrated in
    rw (← c.index-sites-place.is) (omega (arith, room, c.requires.few, c.len-number.ensures)))

-- the site at the place executed the operation, which was put behind those made
pub returns-in-Ok-clause-ok : goal.returns-in-Ok-clause-ok
returns-in-Ok-clause-ok c =
    let sites : List Site = c.args.sites.now in
    let made : List Made = c.args.made.now.items in
    let site : Site = c.index-sites-place.result in
    let number : c.len-number.result ≡ length made = c.len-number.ensures ∙ c.args.made.now.ok.0 in
    let executed : Executes c.args.mode c.len-number.result c.args.op (get_or sites c.args.place site)
    c.execute.new.self = c.in-Ok.ensures.ok in
    record {
      before = site;
      after = c.execute.new.self;
      was = slice_get_read sites (length sites) c.args.place site refl c.requires.place c.index-sites-place.is;
      is = refl;
      executes = subst (λ (n : ℕ). Executes c.args.mode n c.args.op site c.execute.new.self) number
          (subst (λ (old : Site). Executes c.args.mode c.len-number.result c.args.op old c.execute.new.self)
          (sym c.index-sites-place.is) executed);
      made = c.push_reserved.ensures.items
          ∙ ap (λ (ms : List Made). ms ++ record { op = c.args.op; known = c.in_ok-known.known } ∷ [])
          c.in_ok-reserve.ensures.items
          ∙ ap (λ (marks : List Bool). made ++ record { op = c.args.op; known = marks } ∷ [])
          (c.in_ok-known.ensures ∙ ap (λ (old : Site). old.integrated) (sym c.index-sites-place.is));
    }

pub returns-in-Err-NoMemory-clause-sites : goal.returns-in-Err-NoMemory-clause-sites
returns-in-Err-NoMemory-clause-sites c =
    let sites = c.args.sites.now in
    let site = c.index-sites-place.result in
    map-set_same view_site sites c.args.place c.execute.new.self site
    (view_site-same (get_or sites c.args.place site) c.execute.new.self c.in-Err-NoMemory.ensures.err)

pub returns-in-Err-NoMemory-clause-sorted : goal.returns-in-Err-NoMemory-clause-sorted
returns-in-Err-NoMemory-clause-sorted c = λ n all.
    let sites : List Site = c.args.sites.now in
    let site : Site = c.index-sites-place.result in
    let was : slice_get sites c.args.place ≡ Some site =
    slice_get_read sites (length sites) c.args.place site refl c.requires.place c.index-sites-place.is in
    let same : IsSameSite site c.execute.new.self =
    subst (λ (old : Site). IsSameSite old c.execute.new.self) (sym c.index-sites-place.is)
    c.in-Err-NoMemory.ensures.err in
    AllByRecursion-set (IsSorted n) sites c.args.place c.execute.new.self all
    (IsSorted-same n site c.execute.new.self same (AllByRecursion-at (IsSorted n) sites c.args.place site all was))

pub unreachable-requires : goal.unreachable-requires
unreachable-requires c =
    let sites = c.args.sites.now in
    let site = c.index-sites-place.result in
    let was = slice_get_read sites (length sites) c.args.place site refl c.requires.place c.index-sites-place.is in
    let enabled : IsEnabled c.args.op (length site.doc) =
    subst (λ (found : Option Site). IfSome found (λ s. IsEnabled c.args.op (length s.doc))) was c.requires.enabled in
    c.in-Err-NotEnabled.ensures.not_enabled (ap (λ (e : Apply). Err e) c.in-Err-NotEnabled.field-0-is)
    (subst (λ (s : Site). IsEnabled c.args.op (length s.doc)) c.index-sites-place.is enabled)

pub returns-in-Ok-clause-number : goal.returns-in-Ok-clause-number
returns-in-Ok-clause-number c = c.len-number.ensures ∙ c.args.made.now.ok.0

-- there is no memory for the marks, and the site is as it was
pub returns-in_err-known-clause-sites : goal.returns-in_err-known-clause-sites
returns-in_err-known-clause-sites c =
    OnErr-always c.from_residual-in_err-known.result
    (ap (λ (ss : List Site). map view_site ss) (set-get_or c.args.sites.now c.args.place c.index-sites-place.result))

pub returns-in_err-known-clause-sorted : goal.returns-in_err-known-clause-sorted
returns-in_err-known-clause-sorted c =
    OnErr-always c.from_residual-in_err-known.result
    (λ n. subst (λ (ss : List Site). AllByRecursion (IsSorted n) ss)
    (sym (set-get_or c.args.sites.now c.args.place c.index-sites-place.result)))
