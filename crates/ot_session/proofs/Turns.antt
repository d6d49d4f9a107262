-- Whose turn it is at a site.
use Rattle.std.proofs.Common.{◌≡◌, ◌≢◌, ◌<◌, ◌≤◌, ◌++◌, ◌∷◌, [], ℕ, Bool, true, false, List, length, sym, ap, ◌∙◌, inl}
use Rattle.std.proofs.Common.{inr, arith, reverse}
use Rattle.std.specs.Coded.{Coded-set, coded_bool}
use Rattle.std.proofs.Math.Logic.{∥∥₁_elim}
use Rattle.std.specs.Prelude.{slice_set, Result, Ok, Err, IsErrAnd}
use Rattle.fn_rules.specs.Functions.{Function}
use Rattle.std.proofs.Common.{get_or-set_other}
use Rattle.std.proofs.lemmas.Bool.{false≢true, false_from_ne_true, cases_eq, cases_lt}
use Rattle.std.proofs.lemmas.List.{length-set}
use Rattle.ot_causal.specs.Members.{has}
use Rattle.ot_causal.specs.Past.{Past, IsNext}
use Rattle.ot_session.specs.declared.answer.Take.{Take}
use Rattle.ot_session.specs.declared.answer.Take.TheVariants.{NoMemory}
use Rattle.ot_session.specs.declared.answer.Took.{Took}
use Rattle.ot_session.specs.declared.site.Site.{Site}
use Rattle.ot_session.specs.Past.{is_marked}
use Rattle.ot_session.specs.Sites.{SiteView, view_site, IsSorted, IsSameSite}
use Rattle.ot_session.specs.Taking.{SiteStanding, HasLacked, Takes, IsKnown, HasAllBefore, IsDue, IsLeastDue, NoneIsDue}
use Rattle.ot_session.specs.Taking.{IsTurn, IsDueByMarks, IsLeastByMarks}

-- behind some it is the turn of the least that is due
pub IsTurn-later : (past : Past) (n : ℕ) (done : List ℕ) (one : ℕ) (site : SiteView) (o : ℕ) → IsLeastDue past site o
    → IsTurn past n (done ++ one ∷ []) site o
IsTurn-later past n [] one site o least = least
IsTurn-later past n (x ∷ done) one site o least = least

-- what is not known there, and before which nothing is missing, is next
pub IsNext-unknown : (past : Past) (site : SiteView) (o : ℕ) → o < past.count → ¬ (IsKnown site o)
    → HasAllBefore past site o
    → IsNext past site.seen o
IsNext-unknown past site o made unknown ready = record {
  made = made;
  new = false_from_ne_true (has site.seen o) (λ is. unknown (inl is));
  knows = ready.at;
}

-- the forms aside, a site is as it was
pub IsSorted-same : (count : ℕ) (old new : Site) → IsSameSite old new → IsSorted count old → IsSorted count new
IsSorted-same count old new same sorted = record {
  marked = record {
    marks = λ x. rw (same.integrated, same.seen) (sorted.marked.marks x);
    integrated = ap (λ (marks : List Bool). length marks) same.integrated ∙ sorted.marked.integrated;
    held = ap (λ (marks : List Bool). length marks) same.held ∙ sorted.marked.held;
  };
  apart = record {
    made = λ x is. sorted.apart.made x (ap (λ (marks : List Bool). is_marked marks x) (sym same.held) ∙ is);
    other = λ x is. ap (λ (l : List ℕ). has (reverse l) x) same.seen
        ∙ sorted.apart.other x (ap (λ (marks : List Bool). is_marked marks x) (sym same.held) ∙ is);
  };
}

-- memory was wanting
pub Takes-lacked : (f : Function) (past : Past) (n : ℕ) (old new : SiteStanding) (answer : Result Took Take)
    → IsErrAnd answer (λ e. e ≡ NoMemory)
    → HasLacked f past n old new → Takes f past n old new answer
Takes-lacked f past n old new (Ok took) lacks lacked = absurd lacks
Takes-lacked f past n old new (Err e) lacks lacked = rw lacks lacked

module _ (past : Past) (site : Site) (sorted : ∥ IsSorted past.count site ∥₁) where
  pub marks : (x : ℕ) → is_marked site.integrated x ≡ has (reverse site.seen.items) x
  marks x = ∥∥₁_elim sorted (Coded-set coded_bool _ _) (λ s. s.marked.marks x)

  due-marked : (o : ℕ) → IsDueByMarks past (is_marked site.integrated) (is_marked site.held) o
      → IsDue past (view_site site) o
  due-marked o due =
      record { held = due.held; ready = record { at = λ x before. sym (marks x) ∙ due.ready.at x before } }

  marked-due : (o : ℕ) → IsDue past (view_site site) o
      → IsDueByMarks past (is_marked site.integrated) (is_marked site.held) o
  marked-due o due = record { held = due.held; ready = record { at = λ x before. marks x ∙ due.ready.at x before } }

  pub IsLeastDue-marked : (o : ℕ) → IsLeastByMarks past (is_marked site.integrated) (is_marked site.held) o
      → IsLeastDue past (view_site site) o
  IsLeastDue-marked o least = record {
    due = due-marked o least.due;
    least = λ x below due. least.least x below (marked-due x due);
  }

  -- what is due is next
  pub IsNext-due : (o : ℕ) → IsLeastByMarks past (is_marked site.integrated) (is_marked site.held) o
      → IsNext past (reverse site.seen.items) o
  IsNext-due o least = record {
    made = least.made;
    new = ∥∥₁_elim sorted (Coded-set coded_bool _ _) (λ s. s.apart.other o least.due.held);
    knows = (due-marked o least.due).ready.at;
  }

  pub NoneIsDue-marked : ((x : ℕ) → x < past.count
      → ¬ (IsDueByMarks past (is_marked site.integrated) (is_marked site.held) x))
      → NoneIsDue past (view_site site)
  NoneIsDue-marked none = record {
    none = λ o due. elim (cases_lt o past.count) [
      | inl made ↦ none o made (marked-due o due)
      | inr other ↦ absurd (false≢true (sym (unmade o other) ∙ due.held))
    ];
  }
    where
      unmade : (o : ℕ) → past.count ≤ o → is_marked site.held o ≡ false
      unmade o other = ∥∥₁_elim sorted (Coded-set coded_bool _ _)
          (λ s. false_from_ne_true (is_marked site.held o) (λ is. omega (arith, other, s.apart.made o is)))

  -- what has no mark is not known there
  pub unknown-unmarked : (o : ℕ) → is_marked site.integrated o ≡ false → is_marked site.held o ≡ false
      → ¬ (IsKnown (view_site site) o)
  unknown-unmarked o unmarked unheld known = elim known [
    | inl seen ↦ absurd (false≢true (sym unmarked ∙ marks o ∙ seen))
    | inr held ↦ absurd (false≢true (sym unheld ∙ held))
  ]

-- a site that holds one more
pub record Holds (n : ℕ) (old new : Site) : Type 0 where
  pub seen : new.seen.items ≡ old.seen.items
  pub integrated : new.integrated ≡ old.integrated
  pub held : new.held ≡ slice_set old.held n true

-- marks that are in order stay so where a site holds an operation that it has not integrated
pub IsSorted-held : (count n : ℕ) (old new : Site) → Holds n old new → n < count → n < length old.held
    → is_marked old.integrated n ≡ false
    → IsSorted count old → IsSorted count new
IsSorted-held count n old new holds made inside unmarked sorted = record {
  marked = record {
    marks = λ x. rw (holds.integrated, holds.seen) (sorted.marked.marks x);
    integrated = ap (λ (marks : List Bool). length marks) holds.integrated ∙ sorted.marked.integrated;
    held = ap (λ (marks : List Bool). length marks) holds.held ∙ length-set old.held n true ∙ sorted.marked.held;
  };
  apart = record {
    made = λ x is. elim (cases_eq x n) [
      | inl same ↦ omega (arith, same, made)
      | inr differ ↦ sorted.apart.made x (sym (other x differ) ∙ is)
    ];
    other = λ x is. ap (λ (l : List ℕ). has (reverse l) x) holds.seen ∙ elim (cases_eq x n) [
      | inl same ↦ ap (λ (y : ℕ). has (reverse old.seen.items) y) same ∙ sym (sorted.marked.marks n) ∙ unmarked
      | inr differ ↦ sorted.apart.other x (sym (other x differ) ∙ is)
    ];
  };
}
  where
    other : (x : ℕ) → x ≢ n → is_marked new.held x ≡ is_marked old.held x
    other x differ = ap (λ (marks : List Bool). is_marked marks x) holds.held
        ∙ get_or-set_other old.held n x true false differ
