-- What a site does with an operation that it takes.
use Rattle.std.specs.Prelude.{◌≡◌, ◌<◌, ◌≤◌, ◌+◌, ◌⊎◌, ℕ, Bool, true, false, List, [], ◌∷◌, ◌++◌, length, Some, None}
use Rattle.std.specs.Prelude.{slice_get, slice_set, Result, Ok, Err}
use Rattle.fn_rules.specs.Functions.{Function}
use Rattle.ot_causal.specs.Members.{has}
use Rattle.ot_causal.specs.Past.{Past, IsNext}
use Rattle.ot_causal.specs.Forms.{form, executed}
use Rattle.ot_causal.specs.Counting.{counted}
use Rattle.ot_session.specs.declared.answer.Took.{Took}
use Rattle.ot_session.specs.declared.answer.Took.TheVariants.{Done, Held, Repeat}
use Rattle.ot_session.specs.declared.answer.Take.{Take}
use Rattle.ot_session.specs.declared.answer.Take.TheVariants.{NoSite, NoOp, Stuck, Spent, NoMemory}
use Rattle.ot_session.specs.Past.{is_marked, AreMarkedToo}
use Rattle.ot_session.specs.declared.limits.TheConstants.{MAX_FORMS}
use Rattle.ot_session.specs.declared.site.Site.{Site}
use Rattle.ot_session.specs.Sites.{SiteView, view_site}
use Rattle.ot_session.specs.Seeking.{IsCountSpent, count_behind}

-- a site, and how many forms were counted in the session
pub record SiteStanding : Type 0 where
  pub site : SiteView
  pub counted : ℕ

abbrev pub standing : Site → ℕ → SiteStanding
standing site total = record { site = view_site site; counted = total }

-- the operation is integrated or held at the site
abbrev pub IsKnown : SiteView → ℕ → Type 0
IsKnown site o = (has site.seen o ≡ true) ⊎ (is_marked site.held o ≡ true)

-- the site has integrated all that are before the operation
pub record HasAllBefore (past : Past) (site : SiteView) (o : ℕ) : Type 0 where
  pub at : (x : ℕ) → past.before x o ≡ true → has site.seen x ≡ true

-- the operation is held, and the site has integrated all that are before it
pub record IsDue (past : Past) (site : SiteView) (o : ℕ) : Type 0 where
  pub held : is_marked site.held o ≡ true
  pub ready : HasAllBefore past site o

-- the operation is the least that is due
pub record IsLeastDue (past : Past) (site : SiteView) (o : ℕ) : Type 0 where
  pub due : IsDue past site o
  pub least : (x : ℕ) → x < o → ¬ (IsDue past site x)

-- no operation is due
pub record NoneIsDue (past : Past) (site : SiteView) : Type 0 where
  pub none : (o : ℕ) → ¬ (IsDue past site o)

-- the operation was integrated: it was next there, the forms that were sought for it were counted, each new one within
-- the limit, its own form was executed, and it is not held any more
pub record HasIntegrated (f : Function) (past : Past) (o : ℕ) (old new : SiteStanding) : Type 0 where
  pub next : IsNext past old.site.seen o
  pub unspent : ¬ (IsCountSpent f past old.counted old.site.seen o)
  pub counted : new.counted + length (counted past old.site.seen) ≡ old.counted + length (counted past new.site.seen)
  pub document : executed f (form f past o old.site.seen) old.site.document ≡ Some new.site.document
  pub seen : new.site.seen ≡ o ∷ old.site.seen
  pub held : new.site.held ≡ slice_set old.site.held o false

-- the operation can't be integrated, though it is next: its form does not exist, or is not enabled on the document
pub record IsStuck (f : Function) (past : Past) (o : ℕ) (old : SiteStanding) : Type 0 where
  pub next : IsNext past old.site.seen o
  pub unspent : ¬ (IsCountSpent f past old.counted old.site.seen o)
  pub document : executed f (form f past o old.site.seen) old.site.document ≡ None

-- whose turn it is where these were integrated for an operation that was taken: its own at first, and then that of
-- the least that is due
abbrev pub IsTurn : Past → ℕ → List ℕ → SiteView → ℕ → Type 0
IsTurn past taken [] site o = o ≡ taken
IsTurn past taken (_ ∷ _) site o = IsLeastDue past site o

-- these were integrated for an operation that was taken, in this order, each when it was its turn
pub data IsCourse (f : Function) (past : Past) (taken : ℕ) (old : SiteStanding) : List ℕ → SiteStanding → Type 0 where
  start : IsCourse f past taken old [] old
  then : (done : List ℕ) (mid new : SiteStanding) (o : ℕ) → IsCourse f past taken old done mid
      → IsTurn past taken done mid.site o
      → HasIntegrated f past o mid new → IsCourse f past taken old (done ++ o ∷ []) new

-- the operation is neither integrated nor held at the site, which has integrated all that are before it; and what it
-- has integrated for it so far, in this order
pub record IntegratesSoFar (f : Function) (past : Past) (taken : ℕ) (old : SiteStanding) (done : List ℕ)
    (new : SiteStanding) : Type 0 where
  pub unknown : ¬ (IsKnown old.site taken)
  pub ready : HasAllBefore past old.site taken
  pub course : IsCourse f past taken old done new

-- what was taken is integrated or held already: nothing changed
pub record HasRepeated (taken : ℕ) (old new : SiteStanding) : Type 0 where
  pub known : IsKnown old.site taken
  pub same : new ≡ old

-- something before it is missing: it is held, and nothing else changed
pub record HasHeld (past : Past) (taken : ℕ) (old new : SiteStanding) : Type 0 where
  pub unknown : ¬ (IsKnown old.site taken)
  pub missing : ¬ (HasAllBefore past old.site taken)
  pub is : new ≡ record old { site = record (old.site) { held = slice_set old.site.held taken true } }

-- it was integrated, with those that it was missing for, until none was due
pub record HasDone (f : Function) (past : Past) (taken : ℕ) (old new : SiteStanding) (done : List ℕ) : Type 0 where
  pub integrates : IntegratesSoFar f past taken old done new
  pub some : 0 < length done
  pub over : NoneIsDue past new.site

-- some were integrated, and then it was the turn of one that is stuck: the forms that were sought for it are counted,
-- up to the first that does not exist
pub record HasStuck (f : Function) (past : Past) (taken : ℕ) (old new : SiteStanding) (o : ℕ) : Type 0 where
  pub done : List ℕ
  pub mid : SiteStanding
  pub integrates : IntegratesSoFar f past taken old done mid
  pub turn : IsTurn past taken done mid.site o
  pub stuck : IsStuck f past o mid
  pub site : new.site ≡ mid.site
  pub counted : new.counted ≡ count_behind f past mid.counted mid.site.seen o

-- some were integrated, and then it was the turn of one that the count is spent for
pub record HasSpent (f : Function) (past : Past) (taken : ℕ) (old new : SiteStanding) : Type 0 where
  pub done : List ℕ
  pub mid : SiteStanding
  pub integrates : IntegratesSoFar f past taken old done mid
  pub o : ℕ
  pub turn : IsTurn past taken done mid.site o
  pub spent : IsCountSpent f past mid.counted mid.site.seen o
  pub site : new.site ≡ mid.site
  pub counted : new.counted ≡ MAX_FORMS

-- some were integrated, and then memory was wanting; what was counted for those stays counted
pub record HasLacked (f : Function) (past : Past) (taken : ℕ) (old new : SiteStanding) : Type 0 where
  pub done : List ℕ
  pub mid : SiteStanding
  pub integrates : IntegratesSoFar f past taken old done mid
  pub site : new.site ≡ mid.site
  pub counted : mid.counted ≤ new.counted

-- a site took an operation that was made, and this is the answer
abbrev pub Takes : Function → Past → ℕ → SiteStanding → SiteStanding → Result Took Take → Type 0
Takes f past taken old new (Ok Repeat) = HasRepeated taken old new
Takes f past taken old new (Ok Held) = HasHeld past taken old new
Takes f past taken old new (Ok (Done done)) = HasDone f past taken old new done
Takes f past taken old new (Err (Stuck o)) = HasStuck f past taken old new o
Takes f past taken old new (Err Spent) = HasSpent f past taken old new
Takes f past taken old new (Err NoMemory) = HasLacked f past taken old new
Takes f past taken old new (Err NoSite) = ⊥
Takes f past taken old new (Err NoOp) = ⊥

-- the site at a place took an operation, and nothing else changed
pub record TakesAtPlace (f : Function) (past : Past) (place taken : ℕ) (old new : List Site) (total new_total : ℕ)
    (answer : Result Took Take) : Type 0 where
  pub before : Site
  pub after : Site
  pub was : slice_get old place ≡ Some before
  pub is : new ≡ slice_set old place after
  pub takes : Takes f past taken (standing before total) (standing after new_total) answer

-- the operation is held, and all that are before it are integrated, by the marks
pub record IsDueByMarks (past : Past) (integrated holds : ℕ → Bool) (o : ℕ) : Type 0 where
  pub held : holds o ≡ true
  pub ready : AreMarkedToo (λ x. past.before x o) integrated

-- the operation is the least such
pub record IsLeastByMarks (past : Past) (integrated holds : ℕ → Bool) (o : ℕ) : Type 0 where
  pub made : o < past.count
  pub due : IsDueByMarks past integrated holds o
  pub least : (x : ℕ) → x < o → ¬ (IsDueByMarks past integrated holds x)
