-- Taking an operation at a site, as steps of what the definitions of sessions speak of.
use Rattle.std.proofs.Common.{◌≡◌, ◌≢◌, ◌<◌, ◌+◌, ◌-◌, ◌∷◌, [], ℕ, zero, suc, Bool, true, List, length, Some, None}
use Rattle.std.proofs.Common.{Result, Ok, Err, refl, sym, ap, ◌∙◌, subst, inl, inr, arith}
use Rattle.std.specs.Prelude.{slice_get, slice_set}
use Rattle.std.proofs.lemmas.Bool.{cases_eq}
use Rattle.std.proofs.lemmas.List.{length-set}
use Rattle.ot_model.specs.declared.cell.Cell.{Cell}
use Rattle.ot_model.specs.declared.op.Op.{Op}
use Rattle.ot_model.specs.Effect.{IsEnabled, is_enabled, document_after}
use Rattle.fn_rules.specs.Functions.{Function}
use Rattle.ot_causal.specs.Past.{IsNext}
use Rattle.ot_causal.specs.Forms.{form, executed}
use Rattle.ot_causal.specs.Counting.{counted}
use Rattle.ot_causal.specs.Sessions.{SessionData, IsSite, IsSound, Integrates, all_counted}
use Rattle.ot_causal.specs.Convergence.{Converges}
use Rattle.ot_session.specs.declared.answer.Took.{Took}
use Rattle.ot_session.specs.declared.answer.Took.TheVariants.{Done, Held, Repeat}
use Rattle.ot_session.specs.declared.answer.Take.{Take}
use Rattle.ot_session.specs.declared.answer.Take.TheVariants.{NoSite, NoOp, Stuck, Spent, NoMemory}
use Rattle.ot_session.specs.declared.made.Made.{Made}
use Rattle.ot_session.specs.Past.{past_of}
use Rattle.ot_session.specs.Sites.{SiteView, site_document, seen_in, data_of}
use Rattle.ot_session.specs.Taking.{SiteStanding, HasIntegrated, IsCourse, start, then, Takes}
use Rattle.ot_session.proofs.Lists.{slice_get-set_same, slice_get-set_other}

-- a place that is given what it has
pub slice_set-same : {X : Type 0} (xs : List X) (i : ℕ) (x : X) → slice_get xs i ≡ Some x → slice_set xs i x ≡ xs
slice_set-same [] i x is = refl
slice_set-same (y ∷ xs) zero x is = let same : y ≡ x = cc in ap (λ z. z ∷ xs) (sym same)
slice_set-same (y ∷ xs) (suc i) x is = ap (λ rest. y ∷ rest) (slice_set-same xs i x is)

module _ (f : Function) (first : List Cell) (made : List Made) (sites : List SiteView) (t : ℕ)
    (site : IsSite (length sites) t) where
  -- the session with another site in place of this one
  abbrev pub with : SiteView → SessionData
  with v = data_of first made (slice_set sites (t - 1) v)

  inside : t - 1 < length sites
  inside = omega (arith, site.low, site.high)

  pub seen_with : (v : SiteView) → seen_in (slice_get (slice_set sites (t - 1) v) (t - 1)) ≡ v.seen
  seen_with v = ap seen_in (slice_get-set_same sites (t - 1) v inside)

  document_with : (v : SiteView) → site_document (slice_get (slice_set sites (t - 1) v) (t - 1)) ≡ v.document
  document_with v = ap site_document (slice_get-set_same sites (t - 1) v inside)

  other_with : (v : SiteView) (u : ℕ) → IsSite (length (slice_set sites (t - 1) v)) u → u ≢ t
      → slice_get (slice_set sites (t - 1) v) (u - 1) ≡ slice_get sites (u - 1)
  other_with v u is_site differ =
      slice_get-set_other sites (t - 1) (u - 1) v (λ same. differ (omega (arith, same, is_site.low, site.low)))

  pub site_with : (v : SiteView) → IsSite (length (slice_set sites (t - 1) v)) t
  site_with v = record { low = site.low; high = omega (arith, site.high, length-set sites (t - 1) v) }

  as_with : (v w : SiteView) (u : ℕ) → IsSite (length (slice_set sites (t - 1) v)) u
      → IsSite (length (slice_set sites (t - 1) w)) u
  as_with v w u is_site = record {
    low = is_site.low;
    high = omega (arith, is_site.high, length-set sites (t - 1) v, length-set sites (t - 1) w);
  }

  -- integrating is a step of the session
  IntegratesSoFar-with : (v w : SiteStanding) (o : ℕ) → HasIntegrated f (past_of made) o v w
      → Integrates f (with v.site) (with w.site) t o
  IntegratesSoFar-with v w o step = record {
    keeps = record {
      first = refl;
      sites = length-set sites (t - 1) w.site ∙ sym (length-set sites (t - 1) v.site);
      seen = λ u is_site differ. ap seen_in (other_with w.site u (as_with v.site w.site u is_site) differ
          ∙ sym (other_with v.site u is_site differ));
      documents = λ u is_site differ.
          ap site_document (other_with w.site u (as_with v.site w.site u is_site) differ
          ∙ sym (other_with v.site u is_site differ));
    };
    extends = record { more = omega arith; operations = λ _ _. refl; befores = λ _ _ _. refl };
    count = refl;
    site = site_with v.site;
    next = subst (λ (l : List ℕ). IsNext (past_of made) l o) (sym (seen_with v.site)) step.next;
    seen = seen_with w.site ∙ step.seen ∙ ap (λ (l : List ℕ). o ∷ l) (sym (seen_with v.site));
    document = rw (seen_with v.site, document_with v.site, document_with w.site) step.document;
  }

  -- a session stays sound, and its count what was counted
  pub record Follows (v w : SiteStanding) : Type 0 where
    pub sound : IsSound f (with w.site)
    pub counts : all_counted (with w.site) + v.counted ≡ all_counted (with v.site) + w.counted

  module _ (sound_law : (old new : SessionData) (s o : ℕ) → IsSound f old → Integrates f old new s o → IsSound f new)
      (count_law : (old new : SessionData) (s o : ℕ) → IsSound f old → Integrates f old new s o
      → all_counted new + length (counted old.past (old.seen s))
      ≡ all_counted old + length (counted new.past (new.seen s))) where
    -- a course from a sound session keeps it sound, and its count grows by what was counted
    pub Follows-course : (n : ℕ) (v : SiteStanding) (done : List ℕ) (w : SiteStanding) → IsSound f (with v.site)
        → IsCourse f (past_of made) n v done w
        → Follows v w
    Follows-course n v _ _ sound start = record { sound = sound; counts = refl }
    Follows-course n v _ _ sound (then done mid new o course turn step) =
        let before : Follows v mid = Follows-course n v done mid sound course in
        let integrates : Integrates f (with mid.site) (with new.site) t o = IntegratesSoFar-with mid new o step in
        record {
          sound = sound_law (with mid.site) (with new.site) t o before.sound integrates;
          counts = omega (
            arith,
            before.counts,
            step.counted,
            count_law (with mid.site) (with new.site) t o before.sound integrates,
            ap (λ (l : List ℕ). length (counted (past_of made) l)) (seen_with mid.site),
            ap (λ (l : List ℕ). length (counted (past_of made) l)) (seen_with new.site),
          );
        }

    -- what is held is nothing that these definitions speak of
    with-held : (v : SiteView) (marks : List Bool) → with (record v { held = marks }) ≡ with v
    with-held v marks = λ i. record {
      past = past_of made;
      first = first;
      sites = (length-set sites (t - 1) (record v { held = marks }) ∙ sym (length-set sites (t - 1) v)) i;
      seen = λ u. (seen_same u) i;
      document = λ u. (document_same u) i;
    }
      where
        seen_same : (u : ℕ) → seen_in (slice_get (slice_set sites (t - 1) (record v { held = marks })) (u - 1))
            ≡ seen_in (slice_get (slice_set sites (t - 1) v) (u - 1))
        seen_same u = elim (cases_eq (u - 1) (t - 1)) [
          | inl same ↦ rw same (seen_with (record v { held = marks }) ∙ sym (seen_with v))
          | inr differ ↦ ap seen_in (slice_get-set_other sites (t - 1) (u - 1) (record v { held = marks }) differ
              ∙ sym (slice_get-set_other sites (t - 1) (u - 1) v differ))
        ]

        document_same : (u : ℕ)
            → site_document (slice_get (slice_set sites (t - 1) (record v { held = marks })) (u - 1))
            ≡ site_document (slice_get (slice_set sites (t - 1) v) (u - 1))
        document_same u = elim (cases_eq (u - 1) (t - 1)) [
          | inl same ↦ rw same (document_with (record v { held = marks }) ∙ sym (document_with v))
          | inr differ ↦ ap site_document (slice_get-set_other sites (t - 1) (u - 1) (record v { held = marks }) differ
              ∙ sym (slice_get-set_other sites (t - 1) (u - 1) v differ))
        ]

    sound-same : (v w : SiteView) → w ≡ v → IsSound f (with v) → IsSound f (with w)
    sound-same v w same sound = subst (λ (x : SiteView). IsSound f (with x)) (sym same) sound

    -- what was taken keeps the session sound, whatever the answer
    pub IsSound-taken : (n : ℕ) (old new : SiteStanding) (answer : Result Took Take) → IsSound f (with old.site)
        → Takes f (past_of made) n old new answer → IsSound f (with new.site)
    IsSound-taken n old new (Ok Repeat) sound takes =
        sound-same old.site new.site (ap (λ (s : SiteStanding). s.site) takes.same) sound
    IsSound-taken n old new (Ok Held) sound takes =
        subst (λ (s : SiteStanding). IsSound f (with s.site)) (sym takes.is)
        (subst (λ (s : SessionData). IsSound f s) (sym (with-held old.site (slice_set old.site.held n true))) sound)
    IsSound-taken n old new (Ok (Done done)) sound takes =
        (Follows-course n old done new sound takes.integrates.course).sound
    IsSound-taken n old new (Err (Stuck o)) sound takes =
        sound-same takes.mid.site new.site takes.site
        (Follows-course n old takes.done takes.mid sound takes.integrates.course).sound
    IsSound-taken n old new (Err Spent) sound takes =
        sound-same takes.mid.site new.site takes.site
        (Follows-course n old takes.done takes.mid sound takes.integrates.course).sound
    IsSound-taken n old new (Err NoMemory) sound takes =
        sound-same takes.mid.site new.site takes.site
        (Follows-course n old takes.done takes.mid sound takes.integrates.course).sound
    IsSound-taken n old new (Err NoSite) sound takes = absurd takes
    IsSound-taken n old new (Err NoOp) sound takes = absurd takes

    -- and what was counted is what its sites count
    pub counts-taken : (n : ℕ) (old new : SiteStanding) (took : Took) → IsSound f (with old.site)
        → all_counted (with old.site) ≡ old.counted
        → Takes f (past_of made) n old new (Ok took) → all_counted (with new.site) ≡ new.counted
    counts-taken n old new Repeat sound all takes =
        subst (λ (s : SiteStanding). all_counted (with s.site) ≡ s.counted) (sym takes.same) all
    counts-taken n old new Held sound all takes =
        subst (λ (s : SiteStanding). all_counted (with s.site) ≡ s.counted) (sym takes.is)
        (ap all_counted (with-held old.site (slice_set old.site.held n true)) ∙ all)
    counts-taken n old new (Done done) sound all takes =
        omega (arith, all, (Follows-course n old done new sound takes.integrates.course).counts)

    -- where the sites converge, no operation is stuck
    pub never-stuck : ((session : SessionData) → IsSound f session → Converges f session)
        → ((n : ℕ) (p : Op) → IsEnabled p n → is_enabled p n ≡ true)
        → (n o : ℕ) (old new : SiteStanding) → IsSound f (with old.site)
        → ¬ (Takes f (past_of made) n old new (Err (Stuck o)))
    never-stuck converges tested n o old new sound takes =
        let mid : SiteView = takes.mid.site in
        let all : Converges f (with mid) =
        converges (with mid) (Follows-course n old takes.done takes.mid sound takes.integrates.course).sound in
        let there = all.never_stuck t o (site_with mid)
        (subst (λ (l : List ℕ). IsNext (past_of made) l o) (sym (seen_with mid)) takes.stuck.next) in
        let p : Op = there.there in
        let is : form f (past_of made) o mid.seen ≡ Some p =
        ap (λ (l : List ℕ). form f (past_of made) o l) (sym (seen_with mid)) ∙ there.is in
        let enabled : is_enabled p (length mid.document) ≡ true =
        tested (length mid.document) p
        (subst (λ (d : List Cell). IsEnabled p (length d)) (document_with mid) there.enabled) in
        let some : executed f (form f (past_of made) o mid.seen) mid.document
        ≡ Some (document_after f.head.mode p mid.document) =
        rw (is, enabled) refl in
        let both : None ≡ Some (document_after f.head.mode p mid.document) = sym takes.stuck.document ∙ some in
        cc
