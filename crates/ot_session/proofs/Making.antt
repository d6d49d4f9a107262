-- Making an operation, as a step of what the definitions of sessions speak of.
use Rattle.std.proofs.Common.{◌≡◌, ◌≢◌, ◌<◌, ◌≤◌, ◌+◌, ◌-◌, ◌++◌, ◌∷◌, [], ℕ, Bool, true, List, length, map, inl, inr}
use Rattle.std.proofs.Common.{Option, Some, refl, sym, ap, ◌∙◌, subst, reverse, length-append, arith}
use Rattle.std.specs.Prelude.{slice_get, nat_eq}
use Rattle.std.proofs.lemmas.Bool.{cases_eq, ne_eqb, or_from}
use Rattle.std.specs.Option.{option_map}
use Rattle.std.specs.List.{AllByRecursion}
use Rattle.std.proofs.Math.Seq.{map-set_same}
use Rattle.std.proofs.lemmas.List.{length-set, length-map, map-set, reverse-append}
use Rattle.std.proofs.lemmas.Option.{slice_get-map, slice_get_within, get_or_from_slice_get}
use Rattle.ot_model.specs.declared.cell.Cell.{Cell}
use Rattle.ot_model.specs.declared.op.Op.{Op}
use Rattle.ot_model.specs.Effect.{document_after}
use Rattle.fn_rules.specs.Functions.{Function}
use Rattle.ot_causal.specs.Members.{has, IsSublist, skip}
use Rattle.ot_causal.specs.Past.{IsClosed, AreMade, Extends}
use Rattle.ot_causal.specs.Forms.{form}
use Rattle.ot_causal.specs.Counting.{counted, AreCounted}
use Rattle.ot_causal.specs.Sessions.{SessionData, IsSite, IsSound, Makes, MayMake, all_counted}
use Rattle.ot_model.specs.Operations.{kind_of, site_of}
use Rattle.ot_model.specs.Effect.{IsEnabled}
use Rattle.fn_rules.specs.Functions.{HasDeclaredKind}
use Rattle.ot_session.specs.declared.limits.TheConstants.{MAX_MADE}
use Rattle.ot_session.specs.declared.made.Made.{Made}
use Rattle.ot_session.specs.declared.site.Site.{Site}
use Rattle.ot_session.specs.declared.table.Key.{Key}
use Rattle.ot_session.specs.Past.{is_marked, known_in, made_operation, past_of}
use Rattle.ot_session.specs.Entries.{HasForms}
use Rattle.ot_session.specs.Sites.{SiteView, IsMarked, IsSorted, SiteKeepsForms, IsKeptSession, view_site}
use Rattle.ot_session.specs.Sites.{site_document, seen_in, data_of, ExecutesAt}
use Rattle.ot_session.proofs.Extending.{HasForms-extended}
use Rattle.ot_session.proofs.Marks.{IsMarked-executed}
use Rattle.ot_session.proofs.Views.{closed_session-viewed}
use Rattle.ot_session.proofs.Lists.{AllByRecursion-set, AllByRecursion-at, AllByRecursion-from, slice_get-set_same}
use Rattle.ot_session.proofs.Lists.{slice_get-set_other, slice_get-push_same, slice_get-push_other}

pub all-marked : (count : ℕ) (ss : List Site) → AllByRecursion (IsSorted count) ss → AllByRecursion IsMarked ss
all-marked count [] all = tt
all-marked count (s ∷ ss) all = (all.0.marked, all-marked count ss all.1)

-- what was made stays as it was when one more is made
Extends-push : (made : List Made) (one : Made) → Extends (past_of made) (past_of (made ++ one ∷ []))
Extends-push made one = record {
  more = rw (length-append made (one ∷ [])) (omega arith);
  operations = λ o inside. ap made_operation (slice_get-push_other made one o inside);
  befores = λ x o inside. ap (λ (m : Option Made). known_in m x) (slice_get-push_other made one o inside);
}

module _ (f : Function) (first : List Cell) (t : ℕ) (o : Op) (made new_made : List Made) (sites new_sites : List Site)
    (site : IsSite (length sites) t) (step : ExecutesAt f.head.mode o (t - 1) made new_made sites new_sites) where
  abbrev old : SessionData
  old = data_of first made (map view_site sites)

  abbrev new : SessionData
  new = data_of first new_made (map view_site new_sites)

  inside : t - 1 < length sites
  inside = slice_get_within sites (t - 1) step.before step.was

  -- the site itself
  at_site : slice_get (map view_site new_sites) (t - 1) ≡ Some (view_site step.after)
  at_site =
      slice_get-map view_site new_sites (t - 1)
      ∙ ap (option_map view_site) (ap (λ (ss : List Site). slice_get ss (t - 1)) step.is
      ∙ slice_get-set_same sites (t - 1) step.after inside)

  was_site : slice_get (map view_site sites) (t - 1) ≡ Some (view_site step.before)
  was_site = slice_get-map view_site sites (t - 1) ∙ ap (option_map view_site) step.was

  -- the other sites
  other_site : (u : ℕ) → IsSite (length (map view_site sites)) u → u ≢ t
      → slice_get (map view_site new_sites) (u - 1) ≡ slice_get (map view_site sites) (u - 1)
  other_site u is_site differ =
      slice_get-map view_site new_sites (u - 1)
      ∙ ap (option_map view_site)
      (ap (λ (ss : List Site). slice_get ss (u - 1)) step.is
      ∙ slice_get-set_other sites (t - 1) (u - 1) step.after
      (λ same. differ (omega (arith, same, is_site.low, site.low))))
      ∙ sym (slice_get-map view_site sites (u - 1))

  pub extends-executed : Extends (past_of made) (past_of new_made)
  extends-executed = subst (λ (ms : List Made). Extends (past_of made) (past_of ms)) (sym step.made)
      (Extends-push made (record { op = o; known = step.before.integrated }))

  -- the marks are those of what its site had integrated
  pub known-executed : ((x : ℕ) → is_marked step.before.integrated x ≡ has (reverse step.before.seen.items) x)
      → (x : ℕ) → is_marked step.before.integrated x ≡ has (old.seen t) x
  known-executed marks x = marks x ∙ ap (λ (l : List ℕ). has l x) (sym (ap seen_in was_site))

  -- what was executed was made
  pub Makes-executed : ((x : ℕ) → is_marked step.before.integrated x ≡ has (reverse step.before.seen.items) x)
      → Makes f old new t o
  Makes-executed marks = record {
    keeps = record {
      first = refl;
      sites = length-map new_sites view_site ∙ ap length step.is ∙ length-set sites (t - 1) step.after
          ∙ sym (length-map sites view_site);
      seen = λ u is_site differ. ap seen_in (other_site u is_site differ);
      documents = λ u is_site differ. ap site_document (other_site u is_site differ);
    };
    extends = extends-executed;
    count = ap length step.made ∙ length-append made (record { op = o; known = step.before.integrated } ∷ []);
    operation = ap made_operation (ap (λ (ms : List Made). slice_get ms (length made)) step.made
        ∙ slice_get-push_same made (record { op = o; known = step.before.integrated }));
    befores = λ x. ap (λ (m : Option Made). known_in m x) (ap (λ (ms : List Made). slice_get ms (length made)) step.made
        ∙ slice_get-push_same made (record { op = o; known = step.before.integrated }))
        ∙ known-executed marks x;
    seen = ap seen_in at_site
        ∙ ap (λ (l : List ℕ). reverse l) step.executes.seen ∙ reverse-append step.before.seen.items (length made ∷ [])
        ∙ ap (λ (l : List ℕ). length made ∷ l) (sym (ap seen_in was_site));
    document = ap site_document at_site ∙ step.executes.document
        ∙ ap (λ (d : List Cell). document_after f.head.mode o d) (sym (ap site_document was_site));
  }

  -- each site holds what it held
  pub held-executed : map (λ (s : SiteView). s.held) (map view_site new_sites)
      ≡ map (λ (s : SiteView). s.held) (map view_site sites)
  held-executed =
      ap (λ (ss : List Site). map (λ (s : SiteView). s.held) (map view_site ss)) step.is
      ∙ ap (λ (vs : List SiteView). map (λ (s : SiteView). s.held) vs) (map-set view_site sites (t - 1) step.after)
      ∙ map-set_same (λ (s : SiteView). s.held) (map view_site sites) (t - 1) (view_site step.after)
      (view_site step.before) (step.executes.held ∙ ap (λ (s : SiteView). s.held)
      (sym (get_or_from_slice_get (map view_site sites) (t - 1) (view_site step.before)
      (view_site step.before) was_site)))

  longer : length new_made ≡ length made + 1
  longer = ap length step.made ∙ length-append made (record { op = o; known = step.before.integrated } ∷ [])

  seen_after : reverse step.after.seen.items ≡ length made ∷ reverse step.before.seen.items
  seen_after = ap (λ (l : List ℕ). reverse l) step.executes.seen
      ∙ reverse-append step.before.seen.items (length made ∷ [])

  -- the marks are as they are to be, where one more is made
  sorted-more : (count more : ℕ) (s : Site) → count ≤ more → IsSorted count s → IsSorted more s
  sorted-more count more s most sorted = record {
    marked = sorted.marked;
    apart = record { made = λ x is. omega (arith, most, sorted.apart.made x is); other = sorted.apart.other };
  }

  all-sorted-more : (count more : ℕ) (ss : List Site) → count ≤ more → AllByRecursion (IsSorted count) ss
      → AllByRecursion (IsSorted more) ss
  all-sorted-more count more [] most all = tt
  all-sorted-more count more (s ∷ ss) most all =
      (sorted-more count more s most all.0, all-sorted-more count more ss most all.1)

  -- marks that are in order stay so at the site that makes an operation
  sorted-executed : length made < MAX_MADE → IsSorted (length made) step.before → IsSorted (length new_made) step.after
  sorted-executed few sorted = record {
    marked = IsMarked-executed f.head.mode (length made) o step.before step.after few step.executes sorted.marked;
    apart = record {
      made = λ x is. (let before : x < length made =
          sorted.apart.made x (ap (λ (marks : List Bool). is_marked marks x) (sym step.executes.held) ∙ is) in
          omega (arith, before, longer));
      other = λ x is. (let held : is_marked step.before.held x ≡ true =
          ap (λ (marks : List Bool). is_marked marks x) (sym step.executes.held) ∙ is in
          let before : x < length made = sorted.apart.made x held in
          let differ : x ≢ length made = λ same. omega (arith, before, same) in
          ap (λ (l : List ℕ). has l x) seen_after
          ∙ or_from (nat_eq x (length made)) (has (reverse step.before.seen.items) x) (ne_eqb x (length made) differ)
          (sorted.apart.other x held));
    };
  }

  pub may_make : site_of o ≡ Some t → HasDeclaredKind f.head (kind_of o) → MayMake f old t o
  may_make own declared = record {
    site = subst (λ (n : ℕ). IsSite n t) (sym (length-map sites view_site)) site;
    own = own;
    declared = declared;
    enabled = subst (λ (d : List Cell). IsEnabled o (length d)) (sym (ap site_document was_site)) step.executes.enabled;
  }

  module _ (few : length made < MAX_MADE) (own : site_of o ≡ Some t) (declared : HasDeclaredKind f.head (kind_of o))
      (kept : IsKeptSession f first made sites)
      (law : (s s' : SessionData) → IsSound f s → MayMake f s t o → Makes f s s' t o → IsSound f s') where
    pub makes : Makes f old new t o
    makes = Makes-executed (AllByRecursion-at (IsSorted (length made)) sites (t - 1) step.before
        kept.sorted step.was).marked.marks

    sound_new : IsSound f new
    sound_new = law old new kept.sound (may_make own declared) makes

    -- what is kept in a session is kept
    pub IsKeptSession-executed : IsKeptSession f first new_made new_sites
    IsKeptSession-executed = record {
      sound = sound_new;
      sorted = subst (λ (ss : List Site). AllByRecursion (IsSorted (length new_made)) ss) (sym step.is)
          (AllByRecursion-set (IsSorted (length new_made)) sites (t - 1) step.after
          (all-sorted-more (length made) (length new_made) sites (omega (arith, longer)) kept.sorted)
          (sorted-executed few
          (AllByRecursion-at (IsSorted (length made)) sites (t - 1) step.before kept.sorted step.was)));
    }

    -- what was counted is what its sites count
    pub counts-executed : ((s s' : SessionData) → IsSound f s → MayMake f s t o → Makes f s s' t o
        → all_counted s' ≡ all_counted s)
        → (total : ℕ) → total ≡ all_counted old → total ≡ all_counted new
    counts-executed all_made total same = same ∙ sym (all_made old new kept.sound (may_make own declared) makes)

    module _ (made_law : (l : List ℕ) → IsClosed (past_of made) l → AreMade (past_of made) l)
        (closed_law : (l : List ℕ) → IsClosed (past_of made) l → IsClosed (past_of new_made) l)
        (forms_law : (n : ℕ) (l : List ℕ) → n < length made → AreMade (past_of made) l
        → form f (past_of new_made) n l ≡ form f (past_of made) n l)
        (counted_law : (l : List ℕ) → IsClosed (past_of new_made) l
        → AreCounted (past_of new_made) l (counted (past_of new_made) l))
        (own_law : counted (past_of new_made) (new.seen t) ≡ counted (past_of made) (old.seen t))
        (same_law : (l : List ℕ) → AreMade (past_of made) l → counted (past_of new_made) l ≡ counted (past_of made) l)
        (forms : AllByRecursion (SiteKeepsForms f (past_of made)) sites) where
      -- the site itself keeps its forms
      forms_itself : SiteKeepsForms f (past_of new_made) step.after
      forms_itself = record {
        has = subst (λ (es : List (Key × Op)). HasForms f (past_of new_made) (reverse step.after.seen.items)
            (counted (past_of new_made) (reverse step.after.seen.items)) es) (sym step.executes.table)
            (HasForms-extended f (past_of made) (past_of new_made) extends-executed made_law closed_law forms_law
            (reverse step.before.seen.items) (reverse step.after.seen.items)
            (λ l part. subst (λ (m : List ℕ). IsSublist l m) (sym seen_after)
            (skip (length made) l (reverse step.before.seen.items) part))
            (ap (λ (l : List ℕ). counted (past_of new_made) l) (sym (ap seen_in at_site)) ∙ own_law
            ∙ ap (λ (l : List ℕ). counted (past_of made) l) (ap seen_in was_site))
            (counted_law (reverse step.after.seen.items) (closed_session-viewed f first
            new_made new_sites sound_new (t - 1) step.after (ap (λ (ss : List Site). slice_get ss (t - 1)) step.is
            ∙ slice_get-set_same sites (t - 1) step.after inside))) step.before.table
            (AllByRecursion-at (SiteKeepsForms f (past_of made)) sites (t - 1) step.before forms step.was).has);
      }

      -- so do the others
      forms_other : (i : ℕ) (s : Site) → i ≢ t - 1 → slice_get new_sites i ≡ Some s
          → SiteKeepsForms f (past_of new_made) s
      forms_other i s differ is =
          let was : slice_get sites i ≡ Some s =
          sym (slice_get-set_other sites (t - 1) i step.after differ)
          ∙ ap (λ (ss : List Site). slice_get ss i) (sym step.is) ∙ is in
          record {
            has = HasForms-extended f (past_of made) (past_of new_made) extends-executed made_law closed_law forms_law
                (reverse s.seen.items) (reverse s.seen.items) (λ l part. part)
                (same_law (reverse s.seen.items)
                (made_law (reverse s.seen.items) (closed_session-viewed f first made sites kept.sound i s was)))
                (counted_law (reverse s.seen.items) (closed_session-viewed f first new_made new_sites sound_new i s is))
                s.table (AllByRecursion-at (SiteKeepsForms f (past_of made)) sites i s forms was).has;
          }

      pub SiteKeepsForms-executed : AllByRecursion (SiteKeepsForms f (past_of new_made)) new_sites
      SiteKeepsForms-executed = AllByRecursion-from (SiteKeepsForms f (past_of new_made)) new_sites (λ i s is.
          elim (cases_eq i (t - 1)) [
            | inl same ↦ (let here : Some s ≡ Some step.after =
                sym is ∙ ap (λ (j : ℕ). slice_get new_sites j) same
                ∙ ap (λ (ss : List Site). slice_get ss (t - 1)) step.is
                ∙ slice_get-set_same sites (t - 1) step.after inside in
                let one : s ≡ step.after = cc in
                subst (λ (x : Site). SiteKeepsForms f (past_of new_made) x) (sym one) forms_itself)
            | inr differ ↦ forms_other i s differ is
          ])
