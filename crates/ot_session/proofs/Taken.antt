-- A session at one of whose sites an operation was taken.
use Rattle.std.proofs.Common.{◌≡◌, ◌<◌, ◌≤◌, ◌+◌, ◌-◌, ◌*◌, ◌++◌, ◌∷◌, [], ℕ, zero, suc, Bool, true, List, length, map}
use Rattle.std.proofs.Common.{Option, Some, Result, Ok, Err, refl, sym, ap, ◌∙◌, subst, reverse, inl, inr, arith, is_ok}
use Rattle.std.proofs.Common.{OnOk, IfSome, None}
use Rattle.std.specs.Prelude.{slice_get, slice_set}
use Rattle.std.specs.Option.{option_map}
use Rattle.std.specs.List.{AllByRecursion}
use Rattle.std.proofs.lemmas.Bool.{false≢true, cases_eq}
use Rattle.std.proofs.lemmas.List.{length-map, length-set, map-set}
use Rattle.std.proofs.lemmas.Option.{slice_get-map}
use Rattle.ot_model.specs.declared.cell.Cell.{Cell}
use Rattle.ot_model.specs.declared.op.Op.{Op}
use Rattle.ot_model.specs.Effect.{IsEnabled, is_enabled}
use Rattle.fn_rules.specs.Functions.{Function}
use Rattle.ot_causal.specs.Past.{Past, IsNext, IsOrderly}
use Rattle.ot_causal.specs.Counting.{FormName, sought, counted, count_sought, most_forms}
use Rattle.ot_causal.specs.Sessions.{SessionData, IsSite, IsSound, Integrates, counted_to, all_counted}
use Rattle.ot_causal.specs.Convergence.{Converges}
use Rattle.ot_session.specs.declared.answer.Took.{Took}
use Rattle.ot_session.specs.declared.answer.Take.{Take}
use Rattle.ot_session.specs.declared.answer.Take.TheVariants.{NoSite, NoOp, Stuck, Spent, NoMemory}
use Rattle.ot_session.specs.declared.limits.TheConstants.{MAX_FORMS}
use Rattle.ot_session.specs.declared.made.Made.{Made}
use Rattle.ot_session.specs.declared.site.Site.{Site}
use Rattle.ot_session.specs.Past.{past_of, IsUsablePast}
use Rattle.ot_session.specs.Sites.{SiteView, view_site, seen_in, data_of, IsSorted, SiteKeepsForms, CanTake}
use Rattle.ot_session.specs.Sites.{IsKeptSession}
use Rattle.ot_session.specs.Taking.{standing, Takes, TakesAtPlace}
use Rattle.ot_session.specs.Views.{View, TakesAt, HasTaken}
use Rattle.ot_session.proofs.Courses.{slice_set-same, with, IsSound-taken, counts-taken, never-stuck}
use Rattle.ot_session.proofs.Lists.{AllByRecursion-at, AllByRecursion-from}
use Rattle.ot_session.proofs.Spending.{never-spent}
use Rattle.ot_session.proofs.Views.{closed_session-viewed}

-- a site counts no more than all do
counted_to-most : (session : SessionData) (n s : ℕ) → 1 ≤ s → s ≤ n
    → length (counted session.past (session.seen s)) ≤ counted_to session n
counted_to-most session zero s low high = absurd (omega (arith, low, high))
counted_to-most session (suc n) s low high = elim (cases_eq s (suc n)) [
  | inl same ↦ rw same (omega arith)
  | inr differ ↦ omega (arith, counted_to-most session n s low (omega (arith, high, differ)))
]

-- what a site has counted was counted in the session
pub counted-most : (first : List Cell) (made : List Made) (sites : List Site) (t : ℕ) (s : Site)
    → IsSite (length sites) t
    → slice_get sites (t - 1) ≡ Some s
    → length (counted (past_of made) (reverse s.seen.items)) ≤ all_counted (data_of first made (map view_site sites))
counted-most first made sites t s site is =
    let session : SessionData = data_of first made (map view_site sites) in
    let there : slice_get (map view_site sites) (t - 1) ≡ Some (view_site s) = slice_get-map view_site sites (t - 1)
    ∙ ap (option_map view_site) is in
    let most : length (counted (past_of made) (seen_in (slice_get (map view_site sites) (t - 1))))
    ≤ counted_to session (length (map view_site sites)) =
    counted_to-most session (length (map view_site sites)) t site.low
    (omega (arith, site.high, length-map sites view_site)) in
    subst (λ (l : List ℕ). length (counted (past_of made) l) ≤ counted_to session (length (map view_site sites)))
    (ap seen_in there) most

-- each site of a session can take operations
pub CanTake-kept : (f : Function) (first : List Cell) (made : List Made) (sites : List Site) → IsOrderly (past_of made)
    → IsUsablePast f (past_of made)
    → IsKeptSession f first made sites → AllByRecursion (SiteKeepsForms f (past_of made)) sites
    → AllByRecursion (CanTake f (past_of made)) sites
CanTake-kept f first made sites orderly usable kept forms =
    AllByRecursion-from (CanTake f (past_of made)) sites (λ i s is. record {
      orderly = orderly;
      usable = usable;
      closed = closed_session-viewed f first made sites kept.sound i s is;
      sorted = AllByRecursion-at (IsSorted (length made)) sites i s kept.sorted is;
      forms = AllByRecursion-at (SiteKeepsForms f (past_of made)) sites i s forms is;
    })

pub forms-can : (f : Function) (past : Past) (sites : List Site) → AllByRecursion (CanTake f past) sites
    → AllByRecursion (SiteKeepsForms f past) sites
forms-can f past [] all = tt
forms-can f past (s ∷ sites) all = (all.0.forms, forms-can f past sites all.1)

module _ (f : Function) (first : List Cell) (made : List Made) (sites new_sites : List Site) (t : ℕ)
    (is_site : IsSite (length sites) t)
    (n total new_total : ℕ) (answer : Result Took Take)
    (step : TakesAtPlace f (past_of made) (t - 1) n sites new_sites total new_total answer) where
  site : IsSite (length (map view_site sites)) t
  site = record { low = is_site.low; high = omega (arith, is_site.high, length-map sites view_site) }

  was_view : slice_get (map view_site sites) (t - 1) ≡ Some (view_site step.before)
  was_view = slice_get-map view_site sites (t - 1) ∙ ap (option_map view_site) step.was

  is_view : map view_site new_sites ≡ slice_set (map view_site sites) (t - 1) (view_site step.after)
  is_view = ap (λ (ss : List Site). map view_site ss) step.is ∙ map-set view_site sites (t - 1) step.after

  was_data : with f first made (map view_site sites) t site (view_site step.before)
      ≡ data_of first made (map view_site sites)
  was_data = ap (λ (vs : List SiteView). data_of first made vs)
      (slice_set-same (map view_site sites) (t - 1) (view_site step.before) was_view)

  is_data : with f first made (map view_site sites) t site (view_site step.after)
      ≡ data_of first made (map view_site new_sites)
  is_data = ap (λ (vs : List SiteView). data_of first made vs) (sym is_view)

  pub length-taken : length new_sites ≡ length sites
  length-taken = ap length step.is ∙ length-set sites (t - 1) step.after

  -- what the view of the session becomes
  pub TakesAt-taken : (was_open is_open : Bool) → is_open ≡ is_ok answer → n < length made
      → TakesAt
      (record {
        function = f;
        first = first;
        made = made;
        sites = map view_site sites;
        counted = total;
        is_open = was_open;
      })
      (record {
        function = f;
        first = first;
        made = made;
        sites = map view_site new_sites;
        counted = new_total;
        is_open = is_open;
      }) t n answer
  TakesAt-taken was_open is_open same inside = record {
    there = site;
    made = inside;
    before = view_site step.before;
    after = standing step.after new_total;
    site = was_view;
    takes = step.takes;
    is = ap (λ (vs : List SiteView). record {
      function = f;
      first = first;
      made = made;
      sites = vs;
      counted = new_total;
      is_open = is_open;
    }) is_view
        ∙ ap (λ (b : Bool). record {
          function = f;
          first = first;
          made = made;
          sites = slice_set (map view_site sites) (t - 1) (view_site step.after);
          counted = new_total;
          is_open = b;
        }) same;
  }

  module _ (sound_law : (old new : SessionData) (s o : ℕ) → IsSound f old → Integrates f old new s o → IsSound f new)
      (count_law : (old new : SessionData) (s o : ℕ) → IsSound f old → Integrates f old new s o
      → all_counted new + length (counted old.past (old.seen s))
      ≡ all_counted old + length (counted new.past (new.seen s)))
      (sound : IsSound f (data_of first made (map view_site sites))) where
    sound_before : IsSound f (with f first made (map view_site sites) t site (view_site step.before))
    sound_before = subst (λ (s : SessionData). IsSound f s) (sym was_data) sound

    -- the session is sound
    pub sound-taken : IsSound f (data_of first made (map view_site new_sites))
    sound-taken = subst (λ (s : SessionData). IsSound f s) is_data
        (IsSound-taken f first made (map view_site sites) t site sound_law count_law n (standing step.before total)
        (standing step.after new_total) answer sound_before step.takes)

    -- what was counted is what its sites count
    pub all-counted-taken : (took : Took) → answer ≡ Ok took
        → total ≡ all_counted (data_of first made (map view_site sites))
        → new_total ≡ all_counted (data_of first made (map view_site new_sites))
    all-counted-taken took is all = sym (sym (ap all_counted is_data)
        ∙ counts-taken f first made (map view_site sites) t site sound_law count_law n (standing step.before total)
        (standing step.after new_total) took sound_before (ap all_counted was_data ∙ sym all)
        (subst (λ (a : Result Took Take). Takes f (past_of made) n (standing step.before total)
        (standing step.after new_total) a) is step.takes))

    pub all-counted-open : is_ok answer ≡ true → total ≡ all_counted (data_of first made (map view_site sites))
        → new_total ≡ all_counted (data_of first made (map view_site new_sites))
    all-counted-open fine all = by answer refl fine
      where
        by : (a : Result Took Take) → answer ≡ a → is_ok a ≡ true
            → new_total ≡ all_counted (data_of first made (map view_site new_sites))
        by (Ok took) is fine = all-counted-taken took is all
        by (Err e) is fine = absurd (false≢true fine)

    -- no operation is stuck where the sites converge
    pub never-stuck-taken : ((session : SessionData) → IsSound f session → Converges f session)
        → ((n : ℕ) (p : Op) → IsEnabled p n → is_enabled p n ≡ true)
        → (o : ℕ) → answer ≡ Err (Stuck o) → ⊥
    never-stuck-taken converges tested o is =
        never-stuck f first made (map view_site sites) t site sound_law count_law converges tested n o
        (standing step.before total) (standing step.after new_total) sound_before
        (subst (λ (a : Result Took Take). Takes f (past_of made) n (standing step.before total)
        (standing step.after new_total) a) is step.takes)

    -- the count is not spent where as many forms are allowed as all sites can count
    pub never-spent-taken : ((session : SessionData) (s : ℕ) → IsSound f session → IsSite session.sites s
        → length (counted session.past (session.seen s)) ≤ most_forms session.past session.sites)
        → ((session : SessionData) (s o : ℕ) (names more : List FormName) → IsSound f session → IsSite session.sites s
        → IsNext session.past (session.seen s) o → sought session.past o (session.seen s) ≡ names ++ more
        → length (count_sought (counted session.past (session.seen s)) names) ≤ most_forms session.past session.sites)
        → n < length made → AllByRecursion (IsSorted (length made)) sites
        → total ≡ all_counted (data_of first made (map view_site sites))
        → length (map view_site sites) * most_forms (past_of made) (length (map view_site sites)) ≤ MAX_FORMS
        → answer ≡ Err Spent → ⊥
    never-spent-taken whole within inside sorted all enough is =
        let one : IsSorted (length made) step.before =
        AllByRecursion-at (IsSorted (length made)) sites (t - 1) step.before sorted step.was in
        never-spent f whole within first made (map view_site sites) t site sound_law count_law n (standing step.before
        total) (standing step.after new_total) inside (record { made = one.apart.made; other = one.apart.other })
        sound_before (ap all_counted was_data ∙ sym all) enough
        (subst (λ (a : Result Took Take). Takes f (past_of made) n (standing step.before total)
        (standing step.after new_total) a) is step.takes)

-- a site that took an operation was asked to
pub HasTaken-at : (old new : View) (t n : ℕ) (answer : Result Took Take) → TakesAt old new t n answer
    → HasTaken old new t n answer
HasTaken-at old new t n (Ok took) takes = takes
HasTaken-at old new t n (Err NoSite) takes = absurd takes.takes
HasTaken-at old new t n (Err NoOp) takes = absurd takes.takes
HasTaken-at old new t n (Err (Stuck o)) takes = takes
HasTaken-at old new t n (Err Spent) takes = takes
HasTaken-at old new t n (Err NoMemory) takes = takes

-- what holds behind an answer
pub OnOk-fine : {T E : Type 0} (P : Type 0) (r : Result T E) → is_ok r ≡ true → OnOk r P → P
OnOk-fine P (Ok x) fine is = is
OnOk-fine P (Err e) fine is = absurd (false≢true fine)

-- a fact of what is found, if something is
pub IfSome-from : (P : Site → Type 0) (found : Option Site) → ((s : Site) → found ≡ Some s → P s) → IfSome found P
IfSome-from P None all = tt
IfSome-from P (Some s) all = all s refl
