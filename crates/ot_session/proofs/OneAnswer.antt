-- What a take answers, and what is behind it, are told by the session before it.
use Rattle.std.proofs.Common.{◌≡◌, ◌≢◌, ◌<◌, ◌≤◌, ◌-◌, ◌++◌, ◌∷◌, [], ℕ, true, List, length, Some, None, Result, Ok}
use Rattle.std.proofs.Common.{Err, is_ok, refl, sym, ap, ◌∙◌, subst, inl, inr, arith}
use Rattle.std.specs.Prelude.{slice_set}
use Rattle.std.proofs.lemmas.Bool.{cases_lt}
use Rattle.std.proofs.lemmas.List.{append_assoc, append-nil}
use Rattle.fn_rules.specs.Functions.{Function}
use Rattle.ot_causal.specs.Past.{Past}
use Rattle.ot_causal.specs.Counting.{counted}
use Rattle.ot_causal.specs.Sessions.{IsSite}
use Rattle.ot_session.specs.declared.answer.Took.{Took}
use Rattle.ot_session.specs.declared.answer.Took.TheVariants.{Done, Held, Repeat}
use Rattle.ot_session.specs.declared.answer.Take.{Take}
use Rattle.ot_session.specs.declared.answer.Take.TheVariants.{NoSite, NoOp, Stuck, Spent, NoMemory}
use Rattle.ot_session.specs.declared.limits.TheConstants.{MAX_FORMS}
use Rattle.ot_session.specs.Past.{past_of}
use Rattle.ot_session.specs.Seeking.{IsCountSpent, count_behind}
use Rattle.ot_session.specs.Sites.{SiteView}
use Rattle.ot_session.specs.Taking.{SiteStanding, IsKnown, HasAllBefore, IsLeastDue, NoneIsDue, HasIntegrated, IsStuck}
use Rattle.ot_session.specs.Taking.{IsTurn, IsCourse, start, then, IntegratesSoFar, Takes}
use Rattle.ot_session.specs.Views.{View, TakesAt, HasTaken}

-- one operation is the least that is due
IsLeastDue-one : (past : Past) (site : SiteView) (o p : ℕ) → IsLeastDue past site o → IsLeastDue past site p → o ≡ p
IsLeastDue-one past site o p first second = elim (cases_lt o p) [
  | inl below ↦ absurd (second.least o below first.due)
  | inr other ↦ elim (cases_lt p o) [
    | inl below ↦ absurd (first.least p below second.due)
    | inr same ↦ omega (arith, other, same)
  ]
]

-- what integrating an operation makes of a site and of the count is one
HasIntegrated-one : (f : Function) (past : Past) (o : ℕ) (old one other : SiteStanding) → HasIntegrated f past o old one
    → HasIntegrated f past o old other → one ≡ other
HasIntegrated-one f past o old one other first second =
    let both : Some one.site.document ≡ Some other.site.document = sym first.document ∙ second.document in
    let document : one.site.document ≡ other.site.document = cc in
    let seen : one.site.seen ≡ other.site.seen = first.seen ∙ sym second.seen in
    let held : one.site.held ≡ other.site.held = first.held ∙ sym second.held in
    let count : one.counted ≡ other.counted = omega (
      arith,
      first.counted,
      second.counted,
      ap (λ (l : List ℕ). length (counted past l)) seen,
    ) in
    λ i. record { site = record { document = document i; seen = seen i; held = held i }; counted = count i }

module _ (f : Function) (past : Past) (taken : ℕ) where
  -- it is the turn of one operation
  IsTurn-one : (done : List ℕ) (site : SiteView) (o p : ℕ) → IsTurn past taken done site o
      → IsTurn past taken done site p → o ≡ p
  IsTurn-one [] site o p first second = first ∙ sym second
  IsTurn-one (x ∷ done) site o p first second = IsLeastDue-one past site o p first second

  -- behind some it is nobody's turn where none is due
  IsTurn-none : (done : List ℕ) (site : SiteView) (o : ℕ) → 0 < length done → NoneIsDue past site
      → ¬ (IsTurn past taken done site o)
  IsTurn-none [] site o some none turn = absurd (omega (arith, some))
  IsTurn-none (x ∷ done) site o some none turn = none.none o turn.due

  -- where these are done, nothing whose turn it is can be integrated
  record Stops (done : List ℕ) (at : SiteStanding) : Type 0 where
    none : (o : ℕ) (new : SiteStanding) → IsTurn past taken done at.site o → ¬ (HasIntegrated f past o at new)

  -- behind what is done these are integrated, each when it is its turn, and then nothing can be
  abbrev IsRun : List ℕ → SiteStanding → List ℕ → SiteStanding → Type 0
  IsRun done at [] new = (at ≡ new) × Stops done at
  IsRun done at (o ∷ more) new =
      (mid : SiteStanding) × IsTurn past taken done at.site o × HasIntegrated f past o at mid
      × IsRun (done ++ o ∷ []) mid more new

  -- a course with what follows it, as one from the start
  IsRun-course : (old : SiteStanding) (done : List ℕ) (mid : SiteStanding) → IsCourse f past taken old done mid
      → (rest : List ℕ) (new : SiteStanding)
      → IsRun done mid rest new → IsRun [] old (done ++ rest) new
  IsRun-course old _ _ start rest new run = run
  IsRun-course old _ _ (then done mid next o course turn step) rest new run =
      subst (λ (l : List ℕ). IsRun [] old l new) (sym (append_assoc done (o ∷ []) rest))
      (IsRun-course old done mid course (o ∷ rest) new (next, turn, step, run))

  -- what is done until nothing can be integrated is one, and so is what it leads to
  IsRun-one : (done one other : List ℕ) (at first second : SiteStanding) → IsRun done at one first
      → IsRun done at other second
      → (one ≡ other) × (first ≡ second)
  IsRun-one done [] [] at first second here there = (refl, sym here.0 ∙ there.0)
  IsRun-one done [] (p ∷ other) at first second here there = absurd (here.1.none p there.0 there.1 there.2)
  IsRun-one done (o ∷ one) [] at first second here there = absurd (there.1.none o here.0 here.1 here.2)
  IsRun-one done (o ∷ one) (p ∷ other) at first second here there =
      let turn : p ≡ o = IsTurn-one done at.site p o there.1 here.1 in
      let step : HasIntegrated f past o at there.0 =
      subst (λ (x : ℕ). HasIntegrated f past x at there.0) turn there.2 in
      let mid : there.0 ≡ here.0 = HasIntegrated-one f past o at there.0 here.0 step here.2 in
      let run : IsRun (done ++ o ∷ []) there.0 other second =
      subst (λ (x : ℕ). IsRun (done ++ x ∷ []) there.0 other second) turn there.3 in
      let rest = IsRun-one (done ++ o ∷ []) one other here.0 first second here.3
      (subst (λ (s : SiteStanding). IsRun (done ++ o ∷ []) s other second) mid run) in
      (ap (λ (l : List ℕ). o ∷ l) rest.0 ∙ ap (λ (x : ℕ). x ∷ other) (sym turn), rest.1)

  -- why nothing more was integrated behind these, what was answered, and what is left
  data IsEnd (done : List ℕ) (at : SiteStanding) (answer : Result Took Take) (left : SiteStanding) : Type 0 where
    over : 0 < length done → NoneIsDue past at.site → answer ≡ Ok (Done done) → left ≡ at → IsEnd done at answer left
    stuck : (o : ℕ) → IsTurn past taken done at.site o → IsStuck f past o at → answer ≡ Err (Stuck o)
        → left ≡ record { site = at.site; counted = count_behind f past at.counted at.site.seen o }
        → IsEnd done at answer left
    spent : (o : ℕ) → IsTurn past taken done at.site o
        → IsCountSpent f past at.counted at.site.seen o → answer ≡ Err Spent
        → left ≡ record { site = at.site; counted = MAX_FORMS } → IsEnd done at answer left

  -- nothing can be integrated there
  Stops-end : (done : List ℕ) (at : SiteStanding) (answer : Result Took Take) (left : SiteStanding)
      → IsEnd done at answer left → Stops done at
  Stops-end done at answer left (over some none is _) =
      record { none = λ o new turn step. IsTurn-none done at.site o some none turn }
  Stops-end done at answer left (stuck p own is_stuck is _) = record {
    none = λ o new turn step.
        let same : p ≡ o = IsTurn-one done at.site p o own turn in
        let here : HasIntegrated f past p at new = subst (λ (x : ℕ). HasIntegrated f past x at new) (sym same) step in
        let both : None ≡ Some new.site.document = sym is_stuck.document ∙ here.document in
        cc;
  }
  Stops-end done at answer left (spent p own is_spent is _) = record {
    none = λ o new turn step.
        step.unspent (subst (λ (x : ℕ). IsCountSpent f past at.counted at.site.seen x)
        (IsTurn-one done at.site p o own turn) is_spent);
  }

  -- there is one answer, which leaves one site and one count
  IsEnd-one : (done : List ℕ) (at : SiteStanding) (a b : Result Took Take) (one other : SiteStanding)
      → IsEnd done at a one → IsEnd done at b other
      → (a ≡ b) × (one ≡ other)
  IsEnd-one done at a b one other (over some none is left) (over _ _ same right) = (is ∙ sym same, left ∙ sym right)
  IsEnd-one done at a b one other (over some none is left) (stuck o turn _ same right) =
      absurd (IsTurn-none done at.site o some none turn)
  IsEnd-one done at a b one other (over some none is left) (spent o turn _ same right) =
      absurd (IsTurn-none done at.site o some none turn)
  IsEnd-one done at a b one other (stuck o turn _ is left) (over some none same right) =
      absurd (IsTurn-none done at.site o some none turn)
  IsEnd-one done at a b one other (stuck o turn _ is left) (stuck p own _ same right) =
      let both : o ≡ p = IsTurn-one done at.site o p turn own in (
        is ∙ ap (λ (x : ℕ). Err (Stuck x)) both ∙ sym same,
        left ∙ ap (λ (x : ℕ). record { site = at.site; counted = count_behind f past at.counted at.site.seen x }) both
            ∙ sym right,
      )
  IsEnd-one done at a b one other (stuck o turn is_stuck is left) (spent p own is_spent same right) =
      absurd (is_stuck.unspent
      (subst (λ (x : ℕ). IsCountSpent f past at.counted at.site.seen x)
      (IsTurn-one done at.site p o own turn) is_spent))
  IsEnd-one done at a b one other (spent o turn _ is left) (over some none same right) =
      absurd (IsTurn-none done at.site o some none turn)
  IsEnd-one done at a b one other (spent o turn is_spent is left) (stuck p own is_stuck same right) =
      absurd (is_stuck.unspent
      (subst (λ (x : ℕ). IsCountSpent f past at.counted at.site.seen x)
      (IsTurn-one done at.site o p turn own) is_spent))
  IsEnd-one done at a b one other (spent o turn _ is left) (spent p own _ same right) =
      (is ∙ sym same, left ∙ sym right)

  -- why there is this answer
  data IsWhy (old : SiteStanding) (answer : Result Took Take) (left : SiteStanding) : Type 0 where
    known : IsKnown old.site taken → answer ≡ Ok Repeat → left ≡ old → IsWhy old answer left
    missing : ¬ (IsKnown old.site taken) → ¬ (HasAllBefore past old.site taken) → answer ≡ Ok Held
        → left ≡ record old { site = record (old.site) { held = slice_set old.site.held taken true } }
        → IsWhy old answer left
    ended : (done : List ℕ) (mid : SiteStanding) → IntegratesSoFar f past taken old done mid
        → IsEnd done mid answer left → IsWhy old answer left

  -- each answer but a want of memory has its cause
  IsWhy-takes : (old new : SiteStanding) (answer : Result Took Take)
      → Takes f past taken old new answer → answer ≢ Err NoMemory
      → IsWhy old answer new
  IsWhy-takes old new (Ok Repeat) takes other = known takes.known refl takes.same
  IsWhy-takes old new (Ok Held) takes other = missing takes.unknown takes.missing refl takes.is
  IsWhy-takes old new (Ok (Done done)) takes other =
      ended done new takes.integrates (over takes.some takes.over refl refl)
  IsWhy-takes old new (Err (Stuck o)) takes other =
      ended takes.done takes.mid takes.integrates
      (stuck o takes.turn takes.stuck refl (λ i. record { site = takes.site i; counted = takes.counted i }))
  IsWhy-takes old new (Err Spent) takes other =
      ended takes.done takes.mid takes.integrates
      (spent takes.o takes.turn takes.spent refl (λ i. record { site = takes.site i; counted = takes.counted i }))
  IsWhy-takes old new (Err NoMemory) takes other = absurd (other refl)
  IsWhy-takes old new (Err NoSite) takes other = absurd takes
  IsWhy-takes old new (Err NoOp) takes other = absurd takes

  -- where nothing more was integrated, what was done is one, and so is what it led to
  IntegratesSoFar-one : (old : SiteStanding) (done more : List ℕ) (mid last : SiteStanding)
      → IntegratesSoFar f past taken old done mid → Stops done mid
      → IntegratesSoFar f past taken old more last → Stops more last → (done ≡ more) × (mid ≡ last)
  IntegratesSoFar-one old done more mid last first end second other_end =
      IsRun-one [] done more old mid last (run done mid first end) (run more last second other_end)
    where
      run : (done : List ℕ) (mid : SiteStanding) → IntegratesSoFar f past taken old done mid
          → Stops done mid → IsRun [] old done mid
      run done mid integrates stops = subst (λ (l : List ℕ). IsRun [] old l mid) (append-nil done)
          (IsRun-course old done mid integrates.course [] mid (refl, stops))

  -- of one cause there is one answer, which leaves one site and one count
  IsWhy-one : (old : SiteStanding) (a b : Result Took Take) (one other : SiteStanding) → IsWhy old a one
      → IsWhy old b other → (a ≡ b) × (one ≡ other)
  IsWhy-one old a b one other (known have is left) (known _ same right) = (is ∙ sym same, left ∙ sym right)
  IsWhy-one old a b one other (known have is left) (missing lack _ same right) = absurd (lack have)
  IsWhy-one old a b one other (known have is left) (ended done mid integrates end) = absurd (integrates.unknown have)
  IsWhy-one old a b one other (missing lack want is left) (known have same right) = absurd (lack have)
  IsWhy-one old a b one other (missing lack want is left) (missing _ _ same right) = (is ∙ sym same, left ∙ sym right)
  IsWhy-one old a b one other (missing lack want is left) (ended done mid integrates end) =
      absurd (want integrates.ready)
  IsWhy-one old a b one other (ended done mid integrates end) (known have same right) = absurd (integrates.unknown have)
  IsWhy-one old a b one other (ended done mid integrates end) (missing lack want same right) =
      absurd (want integrates.ready)
  IsWhy-one old a b one other (ended done mid integrates end) (ended more last second other_end) =
      let same = IntegratesSoFar-one old done more mid last integrates (Stops-end done mid a one end) second
      (Stops-end more last b other other_end) in
      let moved : IsEnd done last b other = subst (λ (l : List ℕ). IsEnd l last b other) (sym same.0) other_end in
      IsEnd-one done mid a b one other end (subst (λ (s : SiteStanding). IsEnd done s b other) (sym same.1) moved)

module _ (old one other : View) (t n : ℕ) where
  -- the site that takes the operation is one
  before-one : (a b : Result Took Take) (first : TakesAt old one t n a) (second : TakesAt old other t n b)
      → second.before ≡ first.before
  before-one a b first second =
      let both : Some second.before ≡ Some first.before = sym second.site ∙ first.site in
      cc

  -- so both answers are of one site
  takes-there : (a b : Result Took Take) (first : TakesAt old one t n a) (second : TakesAt old other t n b)
      → Takes old.function (past_of old.made) n (record { site = first.before; counted = old.counted }) second.after b
  takes-there a b first second =
      subst (λ (v : SiteView). Takes old.function (past_of old.made) n (record { site = v; counted = old.counted })
      second.after b) (before-one a b first second) second.takes

  -- where both took the operation, the answer and the session behind are one
  TakesAt-one : (a b : Result Took Take) (first : TakesAt old one t n a) (second : TakesAt old other t n b)
      → a ≢ Err NoMemory
      → b ≢ Err NoMemory → (a ≡ b) × (one ≡ other)
  TakesAt-one a b first second fine good =
      let at : SiteStanding = record { site = first.before; counted = old.counted } in
      let behind : SiteStanding → Result Took Take → View =
      λ s r. record old { sites = slice_set old.sites (t - 1) s.site; counted = s.counted; is_open = is_ok r } in
      let both = IsWhy-one old.function (past_of old.made) n at a b first.after second.after
      (IsWhy-takes old.function (past_of old.made) n at first.after a first.takes fine)
      (IsWhy-takes old.function (past_of old.made) n at second.after b (takes-there a b first second) good) in (
        both.0,
        first.is
            ∙ ap (λ (s : SiteStanding). behind s a) both.1
            ∙ ap (λ (r : Result Took Take). behind second.after r) both.0
            ∙ sym second.is,
      )

  -- which of the three cases it was, with the session behind
  data IsHow (new : View) (answer : Result Took Take) : Type 0 where
    nowhere : ¬ (IsSite (length old.sites) t) → answer ≡ Err NoSite → new ≡ old → IsHow new answer
    unmade : IsSite (length old.sites) t → length old.made ≤ n → answer ≡ Err NoOp → new ≡ old → IsHow new answer
    taken : TakesAt old new t n answer → IsHow new answer

  -- one of them it was
  IsHow-taken : (new : View) (answer : Result Took Take) → HasTaken old new t n answer → IsHow new answer
  IsHow-taken new (Ok took) has = taken has
  IsHow-taken new (Err NoSite) has = nowhere has.0 refl has.1
  IsHow-taken new (Err NoOp) has = unmade has.0 has.1 refl has.2
  IsHow-taken new (Err (Stuck o)) has = taken has
  IsHow-taken new (Err Spent) has = taken has
  IsHow-taken new (Err NoMemory) has = taken has

  -- in each of them the answer is one
  IsHow-one : (a b : Result Took Take) → IsHow one a → IsHow other b → a ≢ Err NoMemory → b ≢ Err NoMemory → a ≡ b
  IsHow-one a b (nowhere none is _) (nowhere _ same _) fine good = is ∙ sym same
  IsHow-one a b (nowhere none is _) (unmade there _ same _) fine good = absurd (none there)
  IsHow-one a b (nowhere none is _) (taken second) fine good = absurd (none second.there)
  IsHow-one a b (unmade there past is _) (nowhere none same _) fine good = absurd (none there)
  IsHow-one a b (unmade there past is _) (unmade _ _ same _) fine good = is ∙ sym same
  IsHow-one a b (unmade there past is _) (taken second) fine good = absurd (omega (arith, past, second.made))
  IsHow-one a b (taken first) (nowhere none same _) fine good = absurd (none first.there)
  IsHow-one a b (taken first) (unmade there past same _) fine good = absurd (omega (arith, past, first.made))
  IsHow-one a b (taken first) (taken second) fine good = (TakesAt-one a b first second fine good).0

  -- the answer is one
  pub HasTaken-one : (a b : Result Took Take) → HasTaken old one t n a → HasTaken old other t n b → a ≢ Err NoMemory
      → b ≢ Err NoMemory → a ≡ b
  HasTaken-one a b first second fine good =
      IsHow-one a b (IsHow-taken one a first) (IsHow-taken other b second) fine good

  -- the session behind an operation that was taken is one
  pub HasTaken-session : (took : Took) → HasTaken old one t n (Ok took) → HasTaken old other t n (Ok took) → one ≡ other
  HasTaken-session took first second = (TakesAt-one (Ok took) (Ok took) first second (λ same. cc) (λ same. cc)).1

  -- so is the session behind a refusal, but for want of memory
  pub HasTaken-refusal : (e : Take) → HasTaken old one t n (Err e) → HasTaken old other t n (Err e)
      → e ≢ NoMemory → one ≡ other
  HasTaken-refusal NoSite first second fine = first.1 ∙ sym second.1
  HasTaken-refusal NoOp first second fine = first.2 ∙ sym second.2
  HasTaken-refusal (Stuck o) first second fine =
      (TakesAt-one (Err (Stuck o)) (Err (Stuck o)) first second (λ same. cc) (λ same. cc)).1
  HasTaken-refusal Spent first second fine =
      (TakesAt-one (Err Spent) (Err Spent) first second (λ same. cc) (λ same. cc)).1
  HasTaken-refusal NoMemory first second fine = absurd (fine refl)
