-- Where the most forms that the sites can count are no more than are allowed, the count is never spent.
use Rattle.std.proofs.Common.{◌≡◌, ◌≢◌, ◌<◌, ◌≤◌, ◌+◌, ◌-◌, ◌*◌, ◌⊎◌, ◌++◌, ◌∷◌, [], ℕ, zero, suc, Bool, true, false}
use Rattle.std.proofs.Common.{cond, List, length, Some, is_none, Err, refl, sym, ap, ◌∙◌, subst, inl, inr, arith}
use Rattle.std.specs.Prelude.{nat_eq, slice_set}
use Rattle.std.proofs.Common.{get_or-set_other, length-append}
use Rattle.std.proofs.lemmas.Bool.{false≢true, cases_eq, eqb-true, ne_eqb, or_from}
use Rattle.std.proofs.lemmas.List.{length-set}
use Rattle.ot_model.specs.declared.cell.Cell.{Cell}
use Rattle.fn_rules.specs.Functions.{Function}
use Rattle.ot_causal.specs.Members.{has}
use Rattle.ot_causal.specs.Past.{Past, IsNext}
use Rattle.ot_causal.specs.Forms.{form}
use Rattle.ot_causal.specs.Counting.{FormName, is_among, sought, counted, count_sought, most_forms}
use Rattle.ot_causal.specs.Sessions.{SessionData, IsSite, IsSound, Integrates, counted_to, all_counted}
use Rattle.ot_session.specs.declared.answer.Take.TheVariants.{Spent}
use Rattle.ot_session.specs.declared.limits.TheConstants.{MAX_FORMS}
use Rattle.ot_session.specs.declared.made.Made.{Made}
use Rattle.ot_session.specs.Past.{is_marked, past_of}
use Rattle.ot_session.specs.Seeking.{Missing, Exhausted, first_obstacle, IsCountSpent}
use Rattle.ot_session.specs.Sites.{SiteView}
use Rattle.ot_session.specs.Taking.{SiteStanding, HasIntegrated, IsTurn, IsCourse, start, then, Takes}
use Rattle.ot_session.proofs.Courses.{with, seen_with, site_with, Follows, Follows-course}
use Rattle.ot_session.proofs.Turns.{IsNext-unknown}

-- a choice with an outcome, and which one it was
cond-cases : {T : Type 0} (b : Bool) (x y o : T) → cond b x y ≡ o → ((b ≡ true) × (x ≡ o)) ⊎ ((b ≡ false) × (y ≡ o))
cond-cases true x y o is = inl (refl, is)
cond-cases false x y o is = inr (refl, is)

-- of the forms that are sought some are reached, with which more are counted than are allowed
record Exceeds (total : ℕ) (names more : List FormName) : Type 0 where
  pub reached : List FormName
  pub rest : List FormName
  pub split : more ≡ reached ++ rest
  pub over : MAX_FORMS + length names < total + length (count_sought names reached)

-- so it is where the count is spent
Exceeds-exhausted : (f : Function) (past : Past) (total : ℕ) (names more : List FormName)
    → first_obstacle f past total names more ≡ Some Exhausted
    → Exceeds total names more
Exceeds-exhausted f past total names [] is = cc
Exceeds-exhausted f past total names (name ∷ more) is =
    elim (cond-cases (is_among names name)
    (first_obstacle f past total names more)
    (cond (nat_eq total MAX_FORMS) (Some Exhausted)
    (cond (is_none (form f past name.of name.behind)) (Some (Missing (total + 1)))
    (first_obstacle f past (total + 1) (name ∷ names) more)))
    (Some Exhausted) is) [
      | inl among ↦ (
          let later : Exceeds total names more = Exceeds-exhausted f past total names more among.1 in
          record {
            reached = name ∷ later.reached;
            rest = later.rest;
            split = ap (λ l. name ∷ l) later.split;
            over = rw (among.0) later.over;
          })
      | inr new ↦ elim (cond-cases (nat_eq total MAX_FORMS) (Some Exhausted)
          (cond (is_none (form f past name.of name.behind)) (Some (Missing (total + 1)))
          (first_obstacle f past (total + 1) (name ∷ names) more))
          (Some Exhausted) new.1) [
            | inl spent ↦ record {
              reached = name ∷ [];
              rest = more;
              split = refl;
              over = rw (new.0) (omega (arith, eqb-true total MAX_FORMS spent.0));
            }
            | inr unspent ↦ elim (cond-cases (is_none (form f past name.of name.behind)) (Some (Missing (total + 1)))
                (first_obstacle f past (total + 1) (name ∷ names) more) (Some Exhausted) unspent.1) [
                  | inl missing ↦ absurd (let differ : Some (Missing (total + 1)) ≡ Some Exhausted = missing.1 in cc)
                  | inr there ↦ (
                      let later : Exceeds (total + 1) (name ∷ names) more =
                      Exceeds-exhausted f past (total + 1) (name ∷ names) more there.1 in
                      record {
                        reached = name ∷ later.reached;
                        rest = later.rest;
                        split = ap (λ l. name ∷ l) later.split;
                        over = rw (new.0) (omega (arith, later.over));
                      })
                ]
          ]
    ]

-- sites that count at most so many each
counted_to-few : (session : SessionData) (most n : ℕ)
    → ((s : ℕ) → IsSite n s → length (counted session.past (session.seen s)) ≤ most)
    → counted_to session n ≤ n * most
counted_to-few session most zero few = omega arith
counted_to-few session most (suc n) few = omega (
  arith,
  counted_to-few session most n (λ s site. few s (record { low = site.low; high = omega (arith, site.high) })),
  few (suc n) (record { low = omega arith; high = omega arith }),
)

-- one of them that counts less leaves room
counted_to-room : (session : SessionData) (most n t : ℕ)
    → ((s : ℕ) → IsSite n s → length (counted session.past (session.seen s)) ≤ most)
    → IsSite n t → counted_to session n + most ≤ n * most + length (counted session.past (session.seen t))
counted_to-room session most zero t few site = absurd (omega (arith, site.low, site.high))
counted_to-room session most (suc n) t few site = elim (cases_eq t (suc n)) [
  | inl last ↦ (
      let there : length (counted session.past (session.seen t))
      ≡ length (counted session.past (session.seen (suc n))) =
      ap (λ (s : ℕ). length (counted session.past (session.seen s))) last in
      omega (
        arith,
        there,
        counted_to-few session most n
            (λ s is. few s (record { low = is.low; high = omega (arith, is.high) })),
      ))
  | inr other ↦ omega (
    arith,
    counted_to-room session most n t (λ s is. few s (record { low = is.low; high = omega (arith, is.high) }))
        (record { low = site.low; high = omega (arith, site.high, other) }),
    few (suc n) (record { low = omega arith; high = omega arith }),
  )
]

-- what a site holds was made, and is not integrated
pub record HoldsOthers (count : ℕ) (site : SiteView) : Type 0 where
  pub made : (x : ℕ) → is_marked site.held x ≡ true → x < count
  pub other : (x : ℕ) → is_marked site.held x ≡ true → has site.seen x ≡ false

-- a mark that was taken away, or was none, is none
unmarked-set : (marks : List Bool) (o : ℕ) → is_marked (slice_set marks o false) o ≡ false
unmarked-set [] o = refl
unmarked-set (b ∷ marks) zero = refl
unmarked-set (b ∷ marks) (suc o) = unmarked-set marks o

-- what was integrated is not held any more
HoldsOthers-integrated : (f : Function) (past : Past) (count o : ℕ) (old new : SiteStanding)
    → HasIntegrated f past o old new → HoldsOthers count old.site
    → HoldsOthers count new.site
HoldsOthers-integrated f past count o old new step holds = record {
  made = λ x is. holds.made x (was x is);
  other = λ x is. ap (λ (l : List ℕ). has l x) step.seen
      ∙ or_from (nat_eq x o) (has old.site.seen x) (ne_eqb x o (differ x is)) (holds.other x (was x is));
}
  where
    differ : (x : ℕ) → is_marked new.site.held x ≡ true → x ≢ o
    differ x is same = false≢true (sym (unmarked-set old.site.held o)
        ∙ ap (λ (marks : List Bool). is_marked marks o) (sym step.held)
        ∙ ap (λ (y : ℕ). is_marked new.site.held y) (sym same)
        ∙ is)

    was : (x : ℕ) → is_marked new.site.held x ≡ true → is_marked old.site.held x ≡ true
    was x is = sym (get_or-set_other old.site.held o x false false (differ x is))
        ∙ ap (λ (marks : List Bool). is_marked marks x) (sym step.held)
        ∙ is

-- where a course leads: the operation that was taken is next as long as none was integrated
record Reached (past : Past) (n : ℕ) (done : List ℕ) (site : SiteView) : Type 0 where
  pub holds : HoldsOthers past.count site
  pub first : done ≡ [] → IsNext past site.seen n

Reached-course : (f : Function) (past : Past) (n : ℕ) (old : SiteStanding) (done : List ℕ) (new : SiteStanding)
    → Reached past n [] old.site
    → IsCourse f past n old done new → Reached past n done new.site
Reached-course f past n old _ _ reached start = reached
Reached-course f past n old _ _ reached (then done mid new o course turn step) =
    let before : Reached past n done mid.site = Reached-course f past n old done mid reached course in
    record {
      holds = HoldsOthers-integrated f past past.count o mid new step before.holds;
      first = λ none. absurd (omega (arith, ap length none, length-append done (o ∷ [])));
    }

-- whose turn it is is next
IsNext-turn : (past : Past) (n : ℕ) (done : List ℕ) (site : SiteView) (o : ℕ) → Reached past n done site
    → IsTurn past n done site o
    → IsNext past site.seen o
IsNext-turn past n [] site o reached turn = subst (λ (m : ℕ). IsNext past site.seen m) (sym turn) (reached.first refl)
IsNext-turn past n (_ ∷ _) site o reached turn = record {
  made = reached.holds.made o turn.due.held;
  new = reached.holds.other o turn.due.held;
  knows = turn.due.ready.at;
}

module _ (f : Function)
    (whole : (session : SessionData) (s : ℕ) → IsSound f session → IsSite session.sites s
    → length (counted session.past (session.seen s)) ≤ most_forms session.past session.sites)
    (within : (session : SessionData) (s o : ℕ) (names more : List FormName)
    → IsSound f session → IsSite session.sites s
    → IsNext session.past (session.seen s) o → sought session.past o (session.seen s) ≡ names ++ more
    → length (count_sought (counted session.past (session.seen s)) names) ≤ most_forms session.past session.sites) where
  -- where as many are allowed as all sites can count, the count is not spent
  unspent : (session : SessionData) (t o : ℕ) → IsSound f session → IsSite session.sites t
      → IsNext session.past (session.seen t) o
      → session.sites * most_forms session.past session.sites ≤ MAX_FORMS
      → ¬ (IsCountSpent f session.past (all_counted session) (session.seen t) o)
  unspent session t o sound site next enough spent =
      let most : ℕ = most_forms session.past session.sites in
      let names : List FormName = counted session.past (session.seen t) in
      let exceeds : Exceeds (all_counted session) names (sought session.past o (session.seen t)) =
      Exceeds-exhausted f session.past (all_counted session) names (sought session.past o (session.seen t)) spent in
      let few : length (count_sought names exceeds.reached) ≤ most =
      within session t o exceeds.reached exceeds.rest sound site next exceeds.split in
      let room : all_counted session + most ≤ session.sites * most + length names =
      counted_to-room session most session.sites t (λ s is. whole session s sound is) site in
      omega (arith, exceeds.over, few, room, enough)

  -- so no take is answered so
  pub never-spent : (first : List Cell) (made : List Made) (sites : List SiteView) (t : ℕ)
      (site : IsSite (length sites) t)
      → ((old new : SessionData) (s o : ℕ) → IsSound f old → Integrates f old new s o → IsSound f new)
      → ((old new : SessionData) (s o : ℕ) → IsSound f old → Integrates f old new s o
      → all_counted new + length (counted old.past (old.seen s))
      ≡ all_counted old + length (counted new.past (new.seen s)))
      → (n : ℕ) (old new : SiteStanding) → n < length made → HoldsOthers (length made) old.site
      → IsSound f (with f first made sites t site old.site)
      → all_counted (with f first made sites t site old.site) ≡ old.counted
      → length sites * most_forms (past_of made) (length sites) ≤ MAX_FORMS
      → ¬ (Takes f (past_of made) n old new (Err Spent))
  never-spent first made sites t site sound_law count_law n old new there holds sound all enough takes =
      let past : Past = past_of made in
      let mid : SiteStanding = takes.mid in
      let session : SessionData = with f first made sites t site mid.site in
      let follows : Follows f first made sites t site old mid =
      Follows-course f first made sites t site sound_law count_law n old takes.done mid sound takes.integrates.course in
      let count : all_counted session ≡ mid.counted = omega (arith, follows.counts, all) in
      let seen : session.seen t ≡ mid.site.seen = seen_with f first made sites t site mid.site in
      let reached : Reached past n takes.done mid.site =
      Reached-course f past n old takes.done mid
      (record {
        holds = holds;
        first = λ none.
            IsNext-unknown past old.site n there takes.integrates.unknown takes.integrates.ready;
      }) takes.integrates.course in
      let next : IsNext past mid.site.seen takes.o =
      IsNext-turn past n takes.done mid.site takes.o reached takes.turn in
      let same : length (slice_set sites (t - 1) mid.site) ≡ length sites = length-set sites (t - 1) mid.site in
      unspent session t takes.o follows.sound (site_with f first made sites t site mid.site)
      (subst (λ (l : List ℕ). IsNext past l takes.o) (sym seen) next)
      (subst (λ (m : ℕ). m * most_forms past m ≤ MAX_FORMS) (sym same) enough)
      (subst (λ (m : ℕ). IsCountSpent f past m (session.seen t) takes.o) (sym count)
      (subst (λ (l : List ℕ). IsCountSpent f past mid.counted l takes.o) (sym seen) takes.spent))
