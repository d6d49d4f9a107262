-- A session after one of its sites took an operation. The call that took it names the lists of what was made
-- and of the sites anew; they are those of the session.
use Rattle.std.proofs.Common.{◌≡◌, ◌≢◌, ◌<◌, ◌≤◌, ◌-◌, ◌+◌, ◌*◌, ◌++◌, ℕ, Bool, true, List, length, map, Result, Err}
use Rattle.std.proofs.Common.{sym, ◌∙◌, subst, reverse, arith, is_ok, OnOk}
use Rattle.std.specs.Prelude.{slice_get, IfSome}
use Rattle.std.specs.Coded.{Coded-set, coded_ℕ}
use Rattle.std.specs.List.{AllByRecursion}
use Rattle.std.specs.Vec.{with_items}
use Rattle.std.proofs.Math.Logic.{∥∥₁_elim, ∥∥₁_map, ∥∥₁_map₂}
use Rattle.std.proofs.lemmas.List.{length-map, with_items_is}
use Rattle.ot_model.specs.declared.op.Op.{Op}
use Rattle.ot_model.specs.Effect.{IsEnabled, is_enabled}
use Rattle.fn_rules.specs.Rules.{function_of}
use Rattle.fn_rules.specs.Functions.{Function}
use Rattle.ot_causal.specs.Past.{Past, IsNext, IsClosed, IsOrderly}
use Rattle.ot_causal.specs.Counting.{FormName, sought, counted, count_sought, most_forms}
use Rattle.ot_causal.specs.Sessions.{SessionData, IsSite, IsSound, IsSoundPast, Integrates, all_counted}
use Rattle.ot_causal.specs.Convergence.{Converges}
use Rattle.ot_session.specs.declared.answer.Took.{Took}
use Rattle.ot_session.specs.declared.answer.Take.{Take}
use Rattle.ot_session.specs.declared.answer.Take.TheVariants.{NoSite, NoOp, Stuck, Spent}
use Rattle.ot_session.specs.declared.limits.TheConstants.{MAX_SITES, MAX_FORMS}
use Rattle.ot_session.specs.declared.made.Made.{Made}
use Rattle.ot_session.specs.declared.session.Session.{Session}
use Rattle.ot_session.specs.declared.site.Site.{Site}
use Rattle.ot_session.specs.Past.{past_of, IsUsablePast}
use Rattle.ot_session.specs.Sites.{view_site, data_of, IsSorted, SiteKeepsForms, CanTake, IsKeptSession}
use Rattle.ot_session.specs.Taking.{TakesAtPlace}
use Rattle.ot_session.specs.Views.{View, HasTaken, view_of}
use Rattle.ot_session.proofs.Usable.{GrowByOne, IsUsablePast-sound}
use Rattle.ot_session.proofs.Taken.{counted-most, CanTake-kept, forms-can, length-taken, TakesAt-taken, sound-taken}
use Rattle.ot_session.proofs.Taken.{all-counted-open, never-stuck-taken, never-spent-taken, HasTaken-at, OnOk-fine}
use Rattle.ot_session.proofs.Taken.{IfSome-from}

module _ (s : Session) where
  abbrev rules : Function
  rules = function_of s.rules

  abbrev past : Past
  past = past_of s.made.items

  -- the operations of a session can be transformed
  usable : GrowByOne → ((l : List ℕ) → IsClosed past l → length l ≤ length s.made.items)
      → IsKeptSession rules s.first s.made.items s.sites.items
      → IsUsablePast rules past
  usable grow short k = IsUsablePast-sound rules grow s.made.items s.first s.few s.small short k.sound.past
      (length (map view_site s.sites.items)) (omega (arith, s.most, length-map s.sites.items view_site)) k.sound.sites

  -- before a site takes an operation each site can
  pub can-take : GrowByOne → ((l : List ℕ) → IsClosed past l → length l ≤ length s.made.items)
      → (IsSoundPast rules past s.first → IsOrderly past)
      → s.is_open ≡ true → ∥ AllByRecursion (CanTake rules past) s.sites.items ∥₁
  can-take grow short orderly opened = ∥∥₁_map₂ s.kept (s.forms opened) (λ k forms.
      CanTake-kept rules s.first s.made.items s.sites.items (orderly k.sound.past) (usable grow short k) k forms)

  module _ (t : ℕ) (there : IsSite (length (map view_site s.sites.items)) t) where
    at : IsSite (length s.sites.items) t
    at = subst (λ (n : ℕ). IsSite n t) (length-map s.sites.items view_site) there

    -- and has counted no more than the session
    pub counted-before : s.is_open ≡ true
        → IfSome (slice_get s.sites.items (t - 1)) (λ site. length (counted past (reverse site.seen.items)) ≤ s.counted)
    counted-before opened = IfSome-from (λ site. length (counted past (reverse site.seen.items)) ≤ s.counted)
        (slice_get s.sites.items (t - 1))
        (λ site is. subst (λ (m : ℕ). length (counted past (reverse site.seen.items)) ≤ m) (sym (s.counts opened))
        (counted-most s.first s.made.items s.sites.items t site at is))

    module _ (n : ℕ) (made : List Made) (sites new_sites : List Site) (total : ℕ) (answer : Result Took Take)
        (made_is : made ≡ s.made.items) (sites_is : sites ≡ s.sites.items)
        (takes : TakesAtPlace rules (past_of made) (t - 1) n sites new_sites s.counted total answer) where
      step : TakesAtPlace rules past (t - 1) n s.sites.items new_sites s.counted total answer
      step = subst (λ (ms : List Made). TakesAtPlace rules (past_of ms) (t - 1) n s.sites.items new_sites
          s.counted total answer) made_is
          (subst (λ (ss : List Site). TakesAtPlace rules (past_of made) (t - 1) n ss new_sites s.counted total answer)
          sites_is takes)

      same_length : length new_sites ≡ length s.sites.items
      same_length = length-taken rules s.first s.made.items s.sites.items new_sites t at n s.counted total answer step

      -- the new sites are those of the session
      pub items : (with_items s.sites new_sites).items ≡ new_sites
      items = with_items_is s.sites new_sites (same_length ∙ sym s.sites.ok.0)

      pub few-sites : length new_sites ≤ MAX_SITES
      few-sites = omega (arith, s.most, same_length)

      -- what the view of the session becomes
      pub taken : (is_open : Bool) → is_open ≡ is_ok answer → n < length s.made.items
          → HasTaken (view_of s)
          (record {
            function = rules;
            first = s.first;
            made = s.made.items;
            sites = map view_site (with_items s.sites new_sites).items;
            counted = total;
            is_open = is_open;
          })
          t n answer
      taken is_open fine inside = subst (λ (ss : List Site). HasTaken (view_of s) (after ss) t n answer) (sym items)
          (HasTaken-at (view_of s) (after new_sites) t n answer
          (TakesAt-taken rules s.first s.made.items s.sites.items new_sites t at n s.counted total answer step
          s.is_open is_open fine inside))
        where
          after : List Site → View
          after ss = record {
            function = rules;
            first = s.first;
            made = s.made.items;
            sites = map view_site ss;
            counted = total;
            is_open = is_open;
          }

      -- what the sites need to take more they have where the operation was taken
      pub forms-taken : (is_open : Bool) → is_open ≡ is_ok answer
          → OnOk answer (∥ AllByRecursion (CanTake rules (past_of made)) new_sites ∥₁) → is_open ≡ true
          → ∥ AllByRecursion (SiteKeepsForms rules past) new_sites ∥₁
      forms-taken is_open fine can is =
          ∥∥₁_map (OnOk-fine (∥ AllByRecursion (CanTake rules past) new_sites ∥₁) answer (sym fine ∙ is)
          (subst (λ (ms : List Made). OnOk answer (∥ AllByRecursion (CanTake rules (past_of ms)) new_sites ∥₁)) made_is
          can))
          (λ all. forms-can rules past new_sites all)

      module _ (sound_law : (old new : SessionData) (u o : ℕ) → IsSound rules old
          → Integrates rules old new u o → IsSound rules new)
          (count_law : (old new : SessionData) (u o : ℕ) → IsSound rules old → Integrates rules old new u o
          → all_counted new + length (counted old.past (old.seen u))
          ≡ all_counted old + length (counted new.past (new.seen u))) where
        -- what is kept in a session is kept
        pub kept-taken : ∥ AllByRecursion (IsSorted (length made)) new_sites ∥₁
            → ∥ IsKeptSession rules s.first s.made.items new_sites ∥₁
        kept-taken sorted = ∥∥₁_map₂ s.kept sorted (λ k all. record {
          sound = sound-taken rules s.first s.made.items s.sites.items new_sites t at n s.counted total answer step
              sound_law count_law k.sound;
          sorted = subst (λ (ms : List Made). AllByRecursion (IsSorted (length ms)) new_sites) made_is all;
        })

        -- and what was counted is what its sites have counted
        pub counts-taken : (is_open : Bool) → is_open ≡ is_ok answer → s.is_open ≡ true → is_open ≡ true
            → total ≡ all_counted (data_of s.first s.made.items (map view_site new_sites))
        counts-taken is_open fine was is = ∥∥₁_elim s.kept (Coded-set coded_ℕ _ _) (λ k.
            all-counted-open rules s.first s.made.items s.sites.items new_sites t at n s.counted total answer step
            sound_law count_law k.sound (sym fine ∙ is) (s.counts was))

        -- no operation is stuck where sites converge
        pub never-stuck : ((session : SessionData) → IsSound rules session → Converges rules session)
            → ((cells : ℕ) (p : Op) → IsEnabled p cells → is_enabled p cells ≡ true) → (o : ℕ)
            → answer ≡ Err (Stuck o) → ⊥
        never-stuck converges tested o is = ∥∥₁_elim s.kept (hlevel) (λ k.
            never-stuck-taken rules s.first s.made.items s.sites.items new_sites t at n s.counted total answer step
            sound_law count_law k.sound converges tested o is)

        -- and the count is not spent where the most forms that the sites can count are allowed
        pub never-spent : ((session : SessionData) (u : ℕ) → IsSound rules session → IsSite session.sites u
            → length (counted session.past (session.seen u)) ≤ most_forms session.past session.sites)
            → ((session : SessionData) (u o : ℕ) (names more : List FormName)
            → IsSound rules session → IsSite session.sites u
            → IsNext session.past (session.seen u) o → sought session.past o (session.seen u) ≡ names ++ more
            → length (count_sought (counted session.past (session.seen u)) names)
            ≤ most_forms session.past session.sites)
            → n < length s.made.items → s.is_open ≡ true
            → length (map view_site s.sites.items) * most_forms past (length (map view_site s.sites.items)) ≤ MAX_FORMS
            → answer ≡ Err Spent → ⊥
        never-spent whole within inside opened enough is = ∥∥₁_elim s.kept (hlevel) (λ k.
            never-spent-taken rules s.first s.made.items s.sites.items new_sites t at n s.counted total answer step
            sound_law count_law k.sound whole within inside k.sorted (s.counts opened) enough is)

-- what is refused before it is taken is not stuck, and nothing is spent for it
pub no_site-not_stuck : (o : ℕ) → ◌≢◌ {A = Result Took Take} (Err NoSite) (Err (Stuck o))
no_site-not_stuck o is = cc

pub no_site-not_spent : ◌≢◌ {A = Result Took Take} (Err NoSite) (Err Spent)
no_site-not_spent is = cc

pub no_op-not_stuck : (o : ℕ) → ◌≢◌ {A = Result Took Take} (Err NoOp) (Err (Stuck o))
no_op-not_stuck o is = cc

pub no_op-not_spent : ◌≢◌ {A = Result Took Take} (Err NoOp) (Err Spent)
no_op-not_spent is = cc
