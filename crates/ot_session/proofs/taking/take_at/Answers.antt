use Rattle.std.proofs.Common.{◌≡◌, ◌≤◌, [], ◌∷◌, List, length, Option, Some, Result, Ok, Err, refl, sym, subst, reverse}
use Rattle.std.proofs.Common.{IfSome, OnOk}
use Rattle.std.specs.Prelude.{slice_get, slice_set}
use Rattle.std.specs.List.{AllByRecursion}
use Rattle.std.proofs.Math.Logic.{∥∥₁_map, ∥∥₁_map₂}
use Rattle.std.proofs.lemmas.Option.{slice_get_read}
use Rattle.fn_rules.specs.Rules.{function_of}
use Rattle.fn_rules.specs.Functions.{Function}
use Rattle.ot_causal.specs.Past.{Past}
use Rattle.ot_causal.specs.Counting.{counted}
use Rattle.ot_session.specs.declared.site.Site.{Site}
use Rattle.ot_session.specs.Past.{past_of}
use Rattle.ot_session.specs.Sites.{IsSorted, CanTake}
use Rattle.ot_session.specs.Taking.{standing, Takes}
use Rattle.ot_session.proofs.Lists.{AllByRecursion-at, AllByRecursion-set}
use Rattle.ot_session.proofs.taking.take_at.Goals as goal

OnOk-map : {T E : Type 0} (P Q : Type 0) (r : Result T E) → (P → Q) → OnOk r P → OnOk r Q
OnOk-map P Q (Ok x) keeps is = keeps is
OnOk-map P Q (Err e) keeps is = tt

sorted-can : (f : Function) (past : Past) (sites : List Site) → AllByRecursion (CanTake f past) sites
    → AllByRecursion (IsSorted past.count) sites
sorted-can f past [] all = tt
sorted-can f past (s ∷ sites) all = (all.0.sorted, sorted-can f past sites all.1)

pub take_here-requires-clause-can : goal.take_here-requires-clause-can
take_here-requires-clause-can c =
    let f : Function = function_of c.args.rules.now in
    let past : Past = past_of c.args.made.now in
    let sites : List Site = c.args.sites.now in
    let site : Site = c.index-sites-place.result in
    let was : slice_get sites c.args.place ≡ Some site =
    slice_get_read sites (length sites) c.args.place site refl c.requires.place c.index-sites-place.is in
    ∥∥₁_map c.requires.can (λ all. subst (λ (s : Site). CanTake f past s) c.index-sites-place.is
    (AllByRecursion-at (CanTake f past) sites c.args.place site all was))

pub take_here-requires-clause-total : goal.take_here-requires-clause-total
take_here-requires-clause-total c =
    let past : Past = past_of c.args.made.now in
    let sites : List Site = c.args.sites.now in
    let site : Site = c.index-sites-place.result in
    let was : slice_get sites c.args.place ≡ Some site =
    slice_get_read sites (length sites) c.args.place site refl c.requires.place c.index-sites-place.is in
    let some : length (counted past (reverse site.seen.items)) ≤ c.args.total.now =
    subst (λ (found : Option Site). IfSome found (λ s. length (counted past (reverse s.seen.items)) ≤ c.args.total.now))
    was c.requires.total in
    subst (λ (s : Site). length (counted past (reverse s.seen.items)) ≤ c.args.total.now) c.index-sites-place.is some

-- the site at the place takes the operation
pub returns-clause-takes : goal.returns-clause-takes
returns-clause-takes c =
    let f : Function = function_of c.args.rules.now in
    let past : Past = past_of c.args.made.now in
    let sites : List Site = c.args.sites.now in
    let site : Site = c.index-sites-place.result in
    record {
      before = site;
      after = c.take_here.new.site;
      was = slice_get_read sites (length sites) c.args.place site refl c.requires.place c.index-sites-place.is;
      is = refl;
      takes = subst (λ (s : Site). Takes f past c.args.number (standing s c.args.total.now)
          (standing c.take_here.new.site c.take_here.new.total) c.take_here.result)
          (sym c.index-sites-place.is) c.take_here.ensures.takes;
    }

pub returns-clause-sorted : goal.returns-clause-sorted
returns-clause-sorted c =
    let f : Function = function_of c.args.rules.now in
    let past : Past = past_of c.args.made.now in
    ∥∥₁_map₂ c.requires.can c.take_here.ensures.sorted (λ all one.
    AllByRecursion-set (IsSorted past.count) c.args.sites.now c.args.place c.take_here.new.site
    (sorted-can f past c.args.sites.now all) one)

pub returns-clause-can : goal.returns-clause-can
returns-clause-can c =
    let f : Function = function_of c.args.rules.now in
    let past : Past = past_of c.args.made.now in
    OnOk-map
    (∥ CanTake f past c.take_here.new.site ∥₁)
    (∥ AllByRecursion (CanTake f past) (slice_set c.args.sites.now c.args.place c.take_here.new.site) ∥₁)
    c.take_here.result
    (λ can. ∥∥₁_map₂ c.requires.can can (λ all one.
    AllByRecursion-set (CanTake f past) c.args.sites.now c.args.place c.take_here.new.site all one))
    c.take_here.ensures.can
