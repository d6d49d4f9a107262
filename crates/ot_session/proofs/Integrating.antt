-- A site at which an operation was integrated.
use Rattle.std.proofs.Common.{◌≡◌, ◌≢◌, ◌<◌, ◌≤◌, ◌+◌, ◌-◌, ◌++◌, ◌∷◌, [], ℕ, Bool, true, false, List, length, Option}
use Rattle.std.proofs.Common.{Some, None, Result, Ok, Err, refl, sym, ap, ◌∙◌, subst, inl, inr, arith, reverse}
use Rattle.std.specs.Prelude.{nat_eq, slice_set, IsErrAnd}
use Rattle.std.specs.List.{AllByRecursion}
use Rattle.std.proofs.Math.Logic.{∥∥₁_map, ∥∥₁_map₂}
use Rattle.std.proofs.Common.{get_or-set_other}
use Rattle.std.proofs.lemmas.Bool.{false≢true, cases_eq, ne_eqb, or_from}
use Rattle.std.proofs.lemmas.Grind.{get_or-set_at}
use Rattle.std.proofs.lemmas.List.{length-set, reverse-append}
use Rattle.ot_model.specs.declared.op.Op.{Op}
use Rattle.ot_model.specs.Effect.{is_enabled, document_after}
use Rattle.fn_rules.specs.declared.function.Head.{Head}
use Rattle.fn_rules.specs.Functions.{Function}
use Rattle.ot_causal.specs.Members.{has, IsSublist, skip}
use Rattle.ot_causal.specs.Past.{Past, IsNext, IsClosed}
use Rattle.ot_causal.specs.Forms.{form}
use Rattle.ot_causal.specs.Counting.{FormName, sought, counted, count_sought, AreCounted}
use Rattle.ot_session.specs.declared.limits.TheConstants.{MAX_MADE}
use Rattle.ot_session.specs.declared.site.Site.{Site}
use Rattle.ot_session.specs.declared.table.Key.{Key}
use Rattle.ot_session.specs.Past.{is_marked}
use Rattle.ot_session.specs.declared.form.FormError.{FormError}
use Rattle.ot_session.specs.declared.form.FormError.TheVariants.{NoForm, Spent, NoMemory}
use Rattle.ot_session.specs.Entries.{IsFormEntry, HasForms, IsTable, MaySeek, Seeks, HasSought}
use Rattle.ot_session.specs.Seeking.{Obstacle, Missing, Exhausted, first_obstacle, IsCountSpent, uncounted, count_at}
use Rattle.ot_session.specs.Seeking.{count_behind}
use Rattle.ot_session.specs.Sites.{IsMarked, IsApart, CanTake, Executes}
use Rattle.ot_session.specs.Taking.{standing, HasIntegrated, IsStuck}
use Rattle.ot_session.proofs.Marks.{marked-set}
use Rattle.ot_session.proofs.Seeking.{length-count_sought}

module _ (f : Function) (past : Past) (seen : List ℕ) (n : ℕ) where
  -- entries that stand for forms stand for them where one operation more is integrated
  entries-longer : (names : List FormName) (es : List (Key × Op)) → AllByRecursion (IsFormEntry f past seen names) es
      → AllByRecursion (IsFormEntry f past (n ∷ seen) names) es
  entries-longer names [] all = tt
  entries-longer names (e ∷ es) all = (
    record {
      list = all.0.list;
      sought = record { ready = all.0.sought.ready; sublist = skip n all.0.list seen all.0.sought.sublist };
      counts = all.0.counts;
      is = all.0.is;
      counted = all.0.counted;
    },
    entries-longer names es all.1,
  )

  -- the forms of a site are those of the site when it has integrated more
  pub HasForms-longer : (names : List FormName) (es : List (Key × Op))
      → (AreCounted past seen names → AreCounted past (n ∷ seen) names)
      → HasForms f past seen names es → HasForms f past (n ∷ seen) names es
  HasForms-longer names es longer has = record {
    counted = longer has.counted;
    forms = entries-longer names es has.forms;
    stored = has.stored;
  }

  -- what is in the way, where so many were counted in all
  first_obstacle-total : (others total : ℕ) (found : Option Obstacle) → total ≡ others + length (counted past seen)
      → first_obstacle f past (others + length (counted past seen)) (counted past seen) (sought past n seen) ≡ found
      → first_obstacle f past total (counted past seen) (sought past n seen) ≡ found
  first_obstacle-total others total found same is =
      subst (λ (m : ℕ). first_obstacle f past m (counted past seen) (sought past n seen) ≡ found) (sym same) is

  -- nothing in the way: the count is not spent
  unspent-none : (total : ℕ) → first_obstacle f past total (counted past seen) (sought past n seen) ≡ None
      → ¬ (IsCountSpent f past total seen n)
  unspent-none total none spent = let two : None ≡ Some Exhausted = sym none ∙ spent in cc

  unspent-missing : (total more : ℕ)
      → first_obstacle f past total (counted past seen) (sought past n seen) ≡ Some (Missing more)
      → ¬ (IsCountSpent f past total seen n)
  unspent-missing total more missing spent = let two : Some (Missing more) ≡ Some Exhausted = sym missing ∙ spent in cc

-- an operation with this form was executed at a site, whose table is this one now
pub record Changes (f : Function) (n : ℕ) (p : Op) (table : List (Key × Op)) (old new : Site) : Type 0 where
  pub document : new.doc ≡ document_after f.head.mode p old.doc
  pub seen : new.seen.items ≡ old.seen.items ++ n ∷ []
  pub integrated : new.integrated ≡ slice_set old.integrated n true
  pub held : new.held ≡ slice_set old.held n false
  pub stored : new.table ≡ table

pub Changes-executed : (f : Function) (n : ℕ) (p : Op) (head : Head) (table : List (Key × Op))
    (old after : Site) (marks : List Bool)
    → Executes head.mode n p (record old { table = table }) after → head ≡ f.head → marks ≡ slice_set after.held n false
    → Changes f n p table old (record after { held = marks })
Changes-executed f n p head table old after marks executes same held = record {
  document = executes.document ∙ ap (λ (h : Head). document_after h.mode p old.doc) same;
  seen = executes.seen;
  integrated = executes.integrated;
  held = held ∙ ap (λ (marks : List Bool). slice_set marks n false) executes.held;
  stored = executes.table;
}

module _ (f : Function) (past : Past) (n : ℕ) (p : Op) (table : List (Key × Op)) (old new : Site)
    (change : Changes f n p table old new)
    (next : IsNext past (reverse old.seen.items) n)
    (counted_next : (o : ℕ) (l : List ℕ) → counted past (o ∷ l) ≡ count_sought (counted past l) (sought past o l)) where
  seen_now : reverse new.seen.items ≡ n ∷ reverse old.seen.items
  seen_now = ap (λ (l : List ℕ). reverse l) change.seen ∙ reverse-append old.seen.items (n ∷ [])

  -- the site has integrated the operation, and the count grew by the forms that were sought
  HasIntegrated-changed : (others total more : ℕ) → total ≡ others + length (counted past (reverse old.seen.items))
      → Seeks f past (reverse old.seen.items) (counted past (reverse old.seen.items)) others n
      (reverse old.seen.items) table more
      → form f past n (reverse old.seen.items) ≡ Some p → is_enabled p (length old.doc) ≡ true
      → HasIntegrated f past n (standing old total) (standing new more)
  HasIntegrated-changed others total more same seeks is enabled = record {
    next = next;
    unspent = unspent-none f past (reverse old.seen.items) n total
        (first_obstacle-total f past (reverse old.seen.items) n others total None same seeks.free);
    counted = omega (
      arith,
      same,
      seeks.count,
      ap (λ (l : List ℕ). length (counted past l)) seen_now,
      ap (λ (names : List FormName). length names) (counted_next n (reverse old.seen.items)),
    );
    document = rw (is, enabled) (ap Some (sym change.document));
    seen = seen_now;
    held = change.held;
  }

  -- what a site holds is made and not integrated, also once it has integrated what it held
  apart_now : IsApart past.count old → n < length old.held → IsApart past.count new
  apart_now apart inside = record {
    made = λ x is. apart.made x (elim (cases_eq x n) [
      | inl same ↦ absurd (false≢true (sym (here x same) ∙ is))
      | inr differ ↦ sym (other x differ) ∙ is
    ]);
    other = λ x is. elim (cases_eq x n) [
      | inl same ↦ absurd (false≢true (sym (here x same) ∙ is))
      | inr differ ↦ ap (λ (l : List ℕ). has l x) seen_now
          ∙ or_from (nat_eq x n) (has (reverse old.seen.items) x) (ne_eqb x n differ)
          (apart.other x (sym (other x differ) ∙ is))
    ];
  }
    where
      here : (x : ℕ) → x ≡ n → is_marked new.held x ≡ false
      here x same = ap (λ (marks : List Bool). is_marked marks x) change.held
          ∙ get_or-set_at old.held n x false false same inside

      other : (x : ℕ) → x ≢ n → is_marked new.held x ≡ is_marked old.held x
      other x differ = ap (λ (marks : List Bool). is_marked marks x) change.held
          ∙ get_or-set_other old.held n x false false differ

  marked_now : IsMarked old → n < length old.integrated → IsMarked new
  marked_now marked inside = record {
    marks = λ x. rw (change.integrated, seen_now)
        (marked-set old.integrated (reverse old.seen.items) n inside marked.marks x);
    integrated = ap (λ (marks : List Bool). length marks) change.integrated
        ∙ length-set old.integrated n true ∙ marked.integrated;
    held = ap (λ (marks : List Bool). length marks) change.held ∙ length-set old.held n false ∙ marked.held;
  }

  -- the site can take more
  CanTake-changed : past.count ≤ MAX_MADE
      → ((names : List FormName) → AreCounted past (reverse old.seen.items) names
      → AreCounted past (n ∷ reverse old.seen.items) names)
      → CanTake f past old
      → HasForms f past (reverse old.seen.items)
      (count_sought (counted past (reverse old.seen.items)) (sought past n (reverse old.seen.items))) table
      → CanTake f past new
  CanTake-changed few longer can forms = record {
    orderly = can.orderly;
    usable = can.usable;
    closed = subst (λ (l : List ℕ). IsClosed past l) (sym seen_now) (next, can.closed);
    sorted = record {
      marked = marked_now can.sorted.marked (omega (arith, few, next.made, can.sorted.marked.integrated));
      apart = apart_now can.sorted.apart (omega (arith, few, next.made, can.sorted.marked.held));
    };
    forms = record {
      has = rw (seen_now, counted_next n (reverse old.seen.items), change.stored)
          (HasForms-longer f past (reverse old.seen.items) n
          (count_sought (counted past (reverse old.seen.items)) (sought past n (reverse old.seen.items))) table
          (longer (count_sought (counted past (reverse old.seen.items)) (sought past n (reverse old.seen.items))))
          forms);
    };
  }

-- the form of what is next can be sought
pub MaySeek-next : (f : Function) (past : Past) (site : Site) (n : ℕ)
    → ((l : List ℕ) → IsSublist l l) → CanTake f past site
    → IsNext past (reverse site.seen.items) n → MaySeek f past (reverse site.seen.items) n (reverse site.seen.items)
MaySeek-next f past site n whole can next = record {
  orderly = can.orderly;
  closed = can.closed;
  usable = can.usable;
  sought = record { ready = (next, can.closed); sublist = whole (reverse site.seen.items) };
}

-- the table of a site, where so many forms were counted in all
pub IsTable-kept : (f : Function) (past : Past) (site : Site) (total : ℕ)
    → length (counted past (reverse site.seen.items)) ≤ total
    → CanTake f past site → IsTable f past (reverse site.seen.items) site.table total
IsTable-kept f past site total some can = record {
  names = counted past (reverse site.seen.items);
  others = total - length (counted past (reverse site.seen.items));
  has = can.forms.has;
  count = omega (arith, some);
}

-- what seeking a form answers at a site, with the lists by another name
HasSought-at : (f : Function) (past : Past) (seen first second : List ℕ) (n total others more : ℕ)
    (old new : List (Key × Op)) (r : Result Op FormError)
    → first ≡ seen → second ≡ seen → total ≡ others + length (counted past seen)
    → ∥ HasForms f past seen (counted past seen) old ∥₁
    → ((names : List FormName) (m : ℕ) → ∥ HasForms f past first names old ∥₁ → total ≡ m + length names
    → HasSought f past first names m n second new more r)
    → HasSought f past seen (counted past seen) others n seen new more r
HasSought-at f past seen first second n total others more old new r first_is second_is count has clause =
    subst (λ (l : List ℕ). HasSought f past l (counted past seen) others n seen new more r) first_is
    (subst (λ (l : List ℕ). HasSought f past first (counted past seen) others n l new more r) second_is
    (clause (counted past seen) others
    (subst (λ (l : List ℕ). ∥ HasForms f past l (counted past seen) old ∥₁) (sym first_is) has) count))

-- what seeking the form of what is next answers at a site that can take it
module _ (f : Function) (past : Past) (site : Site) (n total more : ℕ) (table : List (Key × Op)) (first second : List ℕ)
    (first_is : first ≡ reverse site.seen.items) (second_is : second ≡ reverse site.seen.items)
    (some : length (counted past (reverse site.seen.items)) ≤ total) (can : ∥ CanTake f past site ∥₁)
    (next : IsNext past (reverse site.seen.items) n) where
  abbrev seen : List ℕ
  seen = reverse site.seen.items

  -- how many were counted at other sites
  abbrev others : ℕ
  others = total - length (counted past seen)

  count : total ≡ others + length (counted past seen)
  count = omega (arith, some)

  -- what is answered wherever some were counted
  abbrev Answers : Result Op FormError → Type 0
  Answers r = (names : List FormName) (m : ℕ) → ∥ HasForms f past first names site.table ∥₁ → total ≡ m + length names
      → HasSought f past first names m n second table more r

  answer : (r : Result Op FormError) → Answers r → HasSought f past seen (counted past seen) others n seen table more r
  answer r = HasSought-at f past seen first second n total others more site.table table r first_is second_is count
      (∥∥₁_map can (λ k. k.forms.has))

  seeks : (p : Op) → Answers (Ok p) → Seeks f past seen (counted past seen) others n seen table more
  seeks p clause = answer (Ok p) clause

  missing : (e : FormError) → e ≡ NoForm → Answers (Err e)
      → first_obstacle f past total (counted past seen) (sought past n seen) ≡ Some (Missing more)
  missing e is clause = first_obstacle-total f past seen n others total (Some (Missing more)) count
      (subst (λ (x : FormError). HasSought f past seen (counted past seen) others n seen table more (Err x))
      is (answer (Err e) clause))

  free : (p : Op) → Answers (Ok p) → first_obstacle f past total (counted past seen) (sought past n seen) ≡ None
  free p clause = first_obstacle-total f past seen n others total None count (seeks p clause).free

  pub IsCountSpent-sought : (e : FormError) → e ≡ Spent → Answers (Err e) → IsCountSpent f past total seen n
  IsCountSpent-sought e is clause = first_obstacle-total f past seen n others total (Some Exhausted) count
      (subst (λ (x : FormError). HasSought f past seen (counted past seen) others n seen table more (Err x))
      is (answer (Err e) clause))

  -- it is stuck where its form does not exist
  pub IsStuck-missing : (e : FormError) → e ≡ NoForm → Answers (Err e) → form f past n second ≡ None
      → IsStuck f past n (standing site total)
  IsStuck-missing e is clause none =
      let there : form f past n seen ≡ None = subst (λ (l : List ℕ). form f past n l ≡ None) second_is none in
      record {
        next = next;
        unspent = unspent-missing f past seen n total more (missing e is clause);
        document = rw there refl;
      }

  pub count_behind-missing : (e : FormError) → e ≡ NoForm → Answers (Err e) → more ≡ count_behind f past total seen n
  count_behind-missing e is clause =
      sym (ap (λ (found : Option Obstacle). count_at found total (uncounted past seen n)) (missing e is clause))

  module _ (p : Op) (clause : Answers (Ok p)) (form_is : form f past n second ≡ Some p) where
    there : form f past n seen ≡ Some p
    there = subst (λ (l : List ℕ). form f past n l ≡ Some p) second_is form_is

    -- or is not enabled
    pub IsStuck-refused : is_enabled p (length site.doc) ≡ false → IsStuck f past n (standing site total)
    IsStuck-refused refused = record {
      next = next;
      unspent = unspent-none f past seen n total (free p clause);
      document = rw (there, refused) refl;
    }

    module _ (counted_next : (o : ℕ) (l : List ℕ)
        → counted past (o ∷ l) ≡ count_sought (counted past l) (sought past o l)) where
      -- where nothing is in the way, the new count is the one after the operation was integrated
      pub count_behind-sought : more ≡ count_behind f past total seen n
      count_behind-sought =
          let all : count_behind f past total seen n ≡ total + uncounted past seen n =
          ap (λ (found : Option Obstacle). count_at found total (uncounted past seen n)) (free p clause) in
          omega (
            arith,
            all,
            count,
            (seeks p clause).count,
            ap (λ (names : List FormName). length names) (counted_next n seen),
            length-count_sought (counted past seen) (sought past n seen),
          )

      module _ (new : Site) (change : Changes f n p table site new) where
        -- otherwise it is integrated
        pub HasIntegrated-sought : is_enabled p (length site.doc) ≡ true
            → HasIntegrated f past n (standing site total) (standing new more)
        HasIntegrated-sought enabled =
            HasIntegrated-changed f past n p table site new change next counted_next others total more count
            (seeks p clause) there enabled

        pub CanTake-sought : past.count ≤ MAX_MADE
            → ((names : List FormName) → AreCounted past seen names → AreCounted past (n ∷ seen) names)
            → ∥ CanTake f past new ∥₁
        CanTake-sought few longer = ∥∥₁_map₂ can (seeks p clause).table (λ k forms.
            CanTake-changed f past n p table site new change next counted_next few longer k forms)

-- where memory was wanting nothing is stuck or spent
pub lacked-not_stuck : (r : Result (Unit {0}) FormError) → IsErrAnd r (λ e. e ≡ NoMemory) → r ≢ Err NoForm
lacked-not_stuck (Ok done) lacks is = absurd lacks
lacked-not_stuck (Err e) lacks is = cc

pub lacked-not_spent : (r : Result (Unit {0}) FormError) → IsErrAnd r (λ e. e ≡ NoMemory) → r ≢ Err Spent
lacked-not_spent (Ok done) lacks is = absurd lacks
lacked-not_spent (Err e) lacks is = cc

-- an answer is not another one
pub done-not_refused : (done : Unit {0}) (e : FormError) → ◌≢◌ {A = Result (Unit {0}) FormError} (Ok done) (Err e)
done-not_refused done e is = cc

pub no_form-not_spent : ◌≢◌ {A = Result (Unit {0}) FormError} (Err NoForm) (Err Spent)
no_form-not_spent is = cc

pub no_memory-not_stuck : ◌≢◌ {A = Result (Unit {0}) FormError} (Err NoMemory) (Err NoForm)
no_memory-not_stuck is = cc

pub no_memory-not_spent : ◌≢◌ {A = Result (Unit {0}) FormError} (Err NoMemory) (Err Spent)
no_memory-not_spent is = cc
