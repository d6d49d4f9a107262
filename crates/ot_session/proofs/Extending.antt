-- The forms of a site when more is made.
use Rattle.std.proofs.Common.{◌≡◌, ◌<◌, ◌∷◌, [], ℕ, Bool, true, cond, List, length, refl, sym, ap, ◌∙◌, subst}
use Rattle.std.specs.Prelude.{nat_eq, unwrap_or, is_some}
use Rattle.std.specs.List.{AllByRecursion, range_with_len, filter}
use Rattle.std.proofs.lemmas.List.Sums.{length-filter}
use Rattle.ot_model.specs.declared.op.Op.{Op}
use Rattle.ot_model.specs.Operations.{site_of}
use Rattle.fn_rules.specs.Functions.{Function}
use Rattle.ot_causal.specs.Members.{has, IsSublist}
use Rattle.ot_causal.specs.Past.{Past, maker, IsClosed, AreMade, Extends}
use Rattle.ot_causal.specs.Forms.{form}
use Rattle.ot_causal.specs.Counting.{FormName, from_site, counted, IsCounted, AreCounted}
use Rattle.ot_causal.proofs.Members.{has-itself, has-older}
use Rattle.ot_session.specs.declared.limits.TheConstants.{MAX_SITES}
use Rattle.ot_session.specs.declared.table.Key.{Key}
use Rattle.ot_session.specs.Lists.{clock}
use Rattle.ot_session.specs.Entries.{form_under, IsFormEntry, IsStored, HasForms}
use Rattle.ot_session.proofs.Tables.{map-same}

-- tests that agree on the members pass the same ones
filter-same : (p q : ℕ → Bool) (l : List ℕ) → ((x : ℕ) → has l x ≡ true → p x ≡ q x) → filter p l ≡ filter q l
filter-same p q [] same = refl
filter-same p q (x ∷ l) same = rw (same x (has-itself x l))
    (ap (λ (rest : List ℕ). cond (q x) (x ∷ rest) rest)
    (filter-same p q l (λ y member. same y (has-older x l y member))))

module _ (f : Function) (old new : Past) (extends : Extends old new)
    (made_law : (l : List ℕ) → IsClosed old l → AreMade old l)
    (closed_law : (l : List ℕ) → IsClosed old l → IsClosed new l)
    (forms_law : (o : ℕ) (l : List ℕ) → o < old.count → AreMade old l → form f new o l ≡ form f old o l) where
  from_site-extended : (s : ℕ) (l : List ℕ) → AreMade old l → from_site new s l ≡ from_site old s l
  from_site-extended s l made =
      sym (length-filter (λ o. nat_eq (maker new o) s) l)
      ∙ ap length (filter-same (λ o. nat_eq (maker new o) s) (λ o. nat_eq (maker old o) s) l
      (λ x member. ap (λ (a : Op). nat_eq (unwrap_or (site_of a) 0) s) (extends.operations x (made.at x member))))
      ∙ length-filter (λ o. nat_eq (maker old o) s) l

  clock-extended : (l : List ℕ) → IsClosed old l → clock old l ≡ clock new l
  clock-extended l closed = sym (map-same (λ s. from_site new s l) (λ s. from_site old s l)
      (λ s. from_site-extended s l (made_law l closed)) (range_with_len 1 MAX_SITES))

  module _ (seen more : List ℕ) (sublist : (l : List ℕ) → IsSublist l seen → IsSublist l more) where
    -- entries that stand for forms stand for them where more is made
    entries-extended : (names : List FormName) (es : List (Key × Op)) → AllByRecursion (IsFormEntry f old seen names) es
        → AllByRecursion (IsFormEntry f new more names) es
    entries-extended names [] all = tt
    entries-extended names (e ∷ es) all = (
      record {
        list = all.0.list;
        sought = record {
          ready = closed_law (e.0.number ∷ all.0.list) all.0.sought.ready;
          sublist = sublist all.0.list all.0.sought.sublist;
        };
        counts = all.0.counts ∙ clock-extended all.0.list all.0.sought.ready.1;
        is = forms_law e.0.number all.0.list all.0.sought.ready.0.made (made_law all.0.list all.0.sought.ready.1)
            ∙ all.0.is;
        counted = all.0.counted;
      },
      entries-extended names es all.1,
    )

    stored-extended : (names all : List FormName) (es : List (Key × Op)) → AllByRecursion (IsCounted old seen all) names
        → AllByRecursion (IsStored old es) names → AllByRecursion (IsStored new es) names
    stored-extended [] all es counted_all stored = tt
    stored-extended (name ∷ names) all es counted_all stored = (
      record {
        there = subst (λ (cs : List ℕ). is_some (form_under (record { number = name.of; counts = cs }) es) ≡ true)
            (clock-extended name.behind counted_all.0.ready.1) stored.0.there;
      },
      stored-extended names all es counted_all.1 stored.1,
    )

    -- a site keeps its forms
    pub HasForms-extended : counted new more ≡ counted old seen → AreCounted new more (counted new more)
        → (es : List (Key × Op)) → HasForms f old seen (counted old seen) es → HasForms f new more (counted new more) es
    HasForms-extended same counts es has = record {
      counted = counts;
      forms = rw same (entries-extended (counted old seen) es has.forms);
      stored = rw same (stored-extended (counted old seen) (counted old seen) es has.counted has.stored);
    }
