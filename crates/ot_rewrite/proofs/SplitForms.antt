-- What a form is split into.
use Rattle.std.proofs.Common.{◌≡◌, ℕ, ◌≤◌, ℤ, negsuc, Bool, true, false, not, ◌&&◌, ◌||◌, if◌then◌else◌, nat_eq, int_le}
use Rattle.std.proofs.Common.{Some, refl, ap, sym, ◌∙◌, subst, arith}
use Rattle.std.proofs.lemmas.Int.{ints}
use Rattle.std.proofs.lemmas.Bool.{eqb-true, eqb-false, eq-eqb}
use Rattle.std.specs.Ordering.{int_eq}
use Rattle.fn_rules.specs.Functions.{Function}
use Rattle.ask_core.specs.Plans.{Plan}
use Rattle.ot_questions.specs.declared.place.Place.{Place}
use Rattle.ot_questions.specs.declared.why.Why.{Why}
use Rattle.ot_questions.specs.Places.{plus, integer_at}
use Rattle.ot_questions.specs.Questions.{ask_le, ask_lt, ask_eq}
use Rattle.ot_questions.proofs.Tests.{int_le-same_name, int_le-before, if_through, if_eq}
use Rattle.ot_terms.specs.Forms as forms
use Rattle.ot_terms.specs.Forms.{FormTree, form_holds}
use Rattle.ot_terms.specs.Goals.{GoalTree, If}
use Rattle.ot_terms.specs.Standing.{ask_form}
use Rattle.ot_terms.specs.Belonging.{HasPlaces}
use Rattle.ot_rewrite.specs.Table.{rewritten}
use Rattle.ot_rewrite.specs.Splits.{SplitTree, Yes, No, Ask, RulesLeadTo, there, by_rule, EndsInYes, EndsInNo}
use Rattle.ot_rewrite.specs.Splits.{EndsAtQuestion, split_holds, ask_split, comparisons_left, HasFewer, HasSplitPlaces}
use Rattle.ot_rewrite.specs.Splits.{HasLowOffsets, split_le, split_eq, split_and, split_or, split_not, split_of}
use Rattle.ot_rewrite.proofs.FormRules.{IsPlace-before}

-- the offsets of a form with places may be lowered
pub low_offsets : (count : ℕ) (g : FormTree) → HasPlaces count g → HasLowOffsets g
low_offsets count forms.True h = tt
low_offsets count (forms.Le x y) h = tt
low_offsets count (forms.Lt x y) h = record { low = omega (arith, ints, h.1.low); high = omega (arith, ints, h.1.high) }
low_offsets count (forms.Eq x y) h = tt
low_offsets count (forms.And a b) h = (low_offsets count a h.0, low_offsets count b h.1)
low_offsets count (forms.Or a b) h = (low_offsets count a h.0, low_offsets count b h.1)
low_offsets count (forms.Not a) h = low_offsets count a h

-- where the rules end, as what a form is split into says
abbrev pub EndsAs : FormTree → SplitTree → Type 0
EndsAs g Yes = EndsInYes g
EndsAs g No = EndsInNo g
EndsAs g (Ask x y a b) = EndsAtQuestion x y g

pub record IsSplit (g : FormTree) (s : SplitTree) : Type 0 where
  pub ends : EndsAs g s
  pub truth : (v : ℕ → ℤ) → form_holds v g ≡ split_holds v s
  pub asks : (p q : Plan Why) → ask_form g p q ≡ ask_split s p q
  pub fewer : HasFewer g s
  pub places : (count : ℕ) → HasPlaces count g → HasSplitPlaces count s

-- rules after rules
joined : (f : Function) (g h k : GoalTree) → RulesLeadTo f g h → RulesLeadTo f h k → RulesLeadTo f g k
joined f g h k there l = l
joined f g h k (by_rule {h = next} e first) l = by_rule e (joined f next h k first l)

-- one name compared with itself
le_rule :
    (f : Function) (x y : Place) (on_yes on_no : GoalTree) → nat_eq x.var y.var ≡ true
    → rewritten f (If (forms.Le x y) on_yes on_no) ≡ Some (if int_le x.off y.off then on_yes else on_no)
unfolding rewritten
le_rule f x y on_yes on_no same = rw same refl

le_leads :
    (f : Function) (x y : Place) (c : Bool) (on_yes on_no : GoalTree)
    → nat_eq x.var y.var ≡ true → int_le x.off y.off ≡ c
    → RulesLeadTo f (If (forms.Le x y) on_yes on_no) (if c then on_yes else on_no)
le_leads f x y c on_yes on_no same is =
    by_rule (le_rule f x y on_yes on_no same ∙ ap (λ b. Some (if b then on_yes else on_no)) is) there

same_name_le :
    (x y : Place) (v : ℕ → ℤ) → nat_eq x.var y.var ≡ true
    → int_le (integer_at v x) (integer_at v y) ≡ int_le x.off y.off
same_name_le x y v same = sym (int_le-same_name (v x.var) (v y.var) x.off y.off (ap v (eqb-true x.var y.var same)))

-- one name compared with itself is yes or no
le_decided :
    (x y : Place) (c : Bool) → nat_eq x.var y.var ≡ true → int_le x.off y.off ≡ c
    → IsSplit (forms.Le x y) (if c then Yes else No)
unfolding ask_form ask_le ask_lt ask_eq
le_decided x y true same is =
    record {
      ends = λ f on_yes on_no. le_leads f x y true on_yes on_no same is;
      truth = λ v. same_name_le x y v same ∙ is;
      asks = λ p q. rw same (rw is refl);
      fewer = tt;
      places = λ count h. tt;
    }
le_decided x y false same is =
    record {
      ends = λ f on_yes on_no. le_leads f x y false on_yes on_no same is;
      truth = λ v. same_name_le x y v same ∙ is;
      asks = λ p q. rw same (rw is refl);
      fewer = tt;
      places = λ count h. tt;
    }

-- the truth, by itself
by_truth : (b : Bool) → b ≡ (if b then true else not true)
by_truth true = refl
by_truth false = refl

le_asked : (x y : Place) → nat_eq x.var y.var ≡ false
    → IsSplit (forms.Le x y) (Ask x y forms.True (forms.Not forms.True))
unfolding ask_form ask_le ask_lt ask_eq
le_asked x y other =
    record {
      ends = (eqb-false x.var y.var other, λ f on_yes on_no. (on_yes, on_no, there));
      truth = λ v. by_truth (int_le (integer_at v x) (integer_at v y));
      asks = λ p q. refl;
      fewer = (omega arith, omega arith);
      places = λ count h. (h.0, h.1, tt, tt);
    }

le_split_by :
    (x y : Place) (b c : Bool) → nat_eq x.var y.var ≡ b → int_le x.off y.off ≡ c
    → IsSplit (forms.Le x y) (if b then (if c then Yes else No) else Ask x y forms.True (forms.Not forms.True))
le_split_by x y true c same is = le_decided x y c same is
le_split_by x y false c other is = le_asked x y other

le_split : (x y : Place) → IsSplit (forms.Le x y) (split_le x y)
le_split x y = le_split_by x y (nat_eq x.var y.var) (int_le x.off y.off) refl refl

-- the rules lead from a form to another one with the same goals
ends_behind :
    (k h : FormTree)
    → ((f : Function) (on_yes on_no : GoalTree) → RulesLeadTo f (If k on_yes on_no) (If h on_yes on_no))
    → (s : SplitTree) → EndsAs h s → EndsAs k s
ends_behind k h leads Yes e =
    λ f on_yes on_no. joined f (If k on_yes on_no) (If h on_yes on_no) on_yes (leads f on_yes on_no) (e f on_yes on_no)
ends_behind k h leads No e =
    λ f on_yes on_no. joined f (If k on_yes on_no) (If h on_yes on_no) on_no (leads f on_yes on_no) (e f on_yes on_no)
ends_behind k h leads (Ask x y a b) e = (
  e.0,
  λ f on_yes on_no.
      let r = e.1 f on_yes on_no in (
        r.0,
        r.1,
        joined f (If k on_yes on_no) (If h on_yes on_no) (If (forms.Le x y) r.0 r.1)
            (leads f on_yes on_no) r.2,
      ),
)

fewer_of_more : (k h : FormTree) (s : SplitTree) → comparisons_left h ≤ comparisons_left k → HasFewer h s → HasFewer k s
fewer_of_more k h Yes more e = tt
fewer_of_more k h No more e = tt
fewer_of_more k h (Ask x y a b) more e = (omega (arith, e.0), omega (arith, e.1))

-- less is at most the place before
lt_split : (x y : Place) (s : SplitTree) → IsSplit (forms.Le x (plus y (negsuc 0))) s → IsSplit (forms.Lt x y) s
unfolding ask_form ask_lt rewritten ask_le ask_eq
lt_split x y s e =
    let before = forms.Le x (plus y (negsuc 0)) in
    record {
      ends = ends_behind (forms.Lt x y) before (λ f on_yes on_no. by_rule refl there) s e.ends;
      truth = λ v. sym (int_le-before (integer_at v x) (v y.var) y.off) ∙ e.truth v;
      asks = λ p q. e.asks p q;
      fewer = fewer_of_more (forms.Lt x y) before s (omega arith) e.fewer;
      places = λ count h. e.places count (h.0, IsPlace-before count y h.1);
    }

-- equal is each at most the other
if_itself : (b : Bool) → (if b then true else false) ≡ b
if_itself true = refl
if_itself false = refl

eq_truth :
    (i j : ℤ) (c d : Bool) → int_le i j ≡ c → int_le j i ≡ d
    → int_eq i j ≡ (if c then (if d then true else false) else false)
eq_truth i j c d forth back =
    sym (if_itself (int_eq i j))
    ∙ (sym (if_eq i j true false)
    ∙ (ap (λ t. if t then (if int_le j i then true else false) else false) forth
    ∙ ap (λ t. if c then (if t then true else false) else false) back))

le_asks :
    (x y : Place) (c : Bool) (p q : Plan Why) → nat_eq x.var y.var ≡ true → int_le x.off y.off ≡ c
    → ask_le x y p q ≡ (if c then p else q)
unfolding ask_le
le_asks x y c p q same is = rw same (rw is refl)

-- an equality of one name with itself is yes or no
eq_decided :
    (x y : Place) (c d : Bool) → nat_eq x.var y.var ≡ true → nat_eq y.var x.var ≡ true → int_le x.off y.off ≡ c
    → int_le y.off x.off ≡ d → IsSplit (forms.Eq x y) (if c then (if d then Yes else No) else No)
unfolding ask_form ask_eq rewritten ask_le ask_lt
eq_decided x y true true same other is back =
    record {
      ends = λ f on_yes on_no.
          by_rule refl
          (joined f (If (forms.Le x y) (If (forms.Le y x) on_yes on_no) on_no) (If (forms.Le y x) on_yes on_no) on_yes
          (le_leads f x y true (If (forms.Le y x) on_yes on_no) on_no same is)
          (le_leads f y x true on_yes on_no other back));
      truth = λ v.
          eq_truth (integer_at v x) (integer_at v y) true true (same_name_le x y v same ∙ is)
          (same_name_le y x v other ∙ back);
      asks = λ p q. le_asks x y true (ask_le y x p q) q same is ∙ le_asks y x true p q other back;
      fewer = tt;
      places = λ count h. tt;
    }
eq_decided x y true false same other is back =
    record {
      ends = λ f on_yes on_no.
          by_rule refl
          (joined f (If (forms.Le x y) (If (forms.Le y x) on_yes on_no) on_no) (If (forms.Le y x) on_yes on_no) on_no
          (le_leads f x y true (If (forms.Le y x) on_yes on_no) on_no same is)
          (le_leads f y x false on_yes on_no other back));
      truth = λ v.
          eq_truth (integer_at v x) (integer_at v y) true false (same_name_le x y v same ∙ is)
          (same_name_le y x v other ∙ back);
      asks = λ p q. le_asks x y true (ask_le y x p q) q same is ∙ le_asks y x false p q other back;
      fewer = tt;
      places = λ count h. tt;
    }
eq_decided x y false d same other is back =
    record {
      ends = λ f on_yes on_no. by_rule refl (le_leads f x y false (If (forms.Le y x) on_yes on_no) on_no same is);
      truth = λ v.
          eq_truth (integer_at v x) (integer_at v y) false d (same_name_le x y v same ∙ is)
          (same_name_le y x v other ∙ back);
      asks = λ p q. le_asks x y false (ask_le y x p q) q same is;
      fewer = tt;
      places = λ count h. tt;
    }

-- an equality of two names asks at first whether the one is at most the other
eq_asked : (x y : Place) → nat_eq x.var y.var ≡ false
    → IsSplit (forms.Eq x y) (Ask x y (forms.Le y x) (forms.Not forms.True))
unfolding ask_form ask_eq rewritten ask_le ask_lt
eq_asked x y other =
    record {
      ends =
          (eqb-false x.var y.var other, λ f on_yes on_no. (If (forms.Le y x) on_yes on_no, on_no, by_rule refl there));
      truth = λ v.
          let i = integer_at v x in
          let j = integer_at v y in
          eq_truth i j (int_le i j) (int_le j i) refl refl
          ∙ ap (λ t. if int_le i j then t else false) (if_itself (int_le j i));
      asks = λ p q. refl;
      fewer = (omega arith, omega arith);
      places = λ count h. (h.0, h.1, (h.1, h.0), tt);
    }

eq_split_by :
    (x y : Place) (b : Bool) → nat_eq x.var y.var ≡ b
    → IsSplit (forms.Eq x y) (if b then (if int_eq x.off y.off then Yes else No)
    else Ask x y (forms.Le y x) (forms.Not forms.True))
eq_split_by x y true same =
    subst (IsSplit (forms.Eq x y)) (if_eq x.off y.off Yes No)
    (eq_decided x y (int_le x.off y.off) (int_le y.off x.off) same
    (eq-eqb y.var x.var (sym (eqb-true x.var y.var same))) refl refl)
eq_split_by x y false other = eq_asked x y other

eq_split : (x y : Place) → IsSplit (forms.Eq x y) (split_eq x y)
eq_split x y = eq_split_by x y (nat_eq x.var y.var) refl

-- an `and` is split as its first form is, and behind a yes as its second
and_split : (g h : FormTree) (s t : SplitTree) → IsSplit g s → IsSplit h t → IsSplit (forms.And g h) (split_and s h t)
unfolding ask_form rewritten
and_split g h Yes t one other =
    record {
      ends = ends_behind (forms.And g h) h
          (λ f on_yes on_no. by_rule refl (one.ends f (If h on_yes on_no) on_no)) t other.ends;
      truth = λ v. ap (λ b. b && form_holds v h) (one.truth v) ∙ other.truth v;
      asks = λ p q. one.asks (ask_form h p q) q ∙ other.asks p q;
      fewer = fewer_of_more (forms.And g h) h t (omega arith) other.fewer;
      places = λ count p. other.places count p.1;
    }
and_split g h No t one other =
    record {
      ends = λ f on_yes on_no. by_rule refl (one.ends f (If h on_yes on_no) on_no);
      truth = λ v. ap (λ b. b && form_holds v h) (one.truth v);
      asks = λ p q. one.asks (ask_form h p q) q;
      fewer = tt;
      places = λ count p. tt;
    }
and_split g h (Ask x y a b) t one other =
    record {
      ends = (
        one.ends.0,
        λ f on_yes on_no. let r = one.ends.1 f (If h on_yes on_no) on_no in (r.0, r.1, by_rule refl r.2),
      );
      truth = λ v.
          ap (λ c. c && form_holds v h) (one.truth v)
          ∙ sym (if_through (λ c. c && form_holds v h) (int_le (integer_at v x) (integer_at v y))
          (form_holds v a) (form_holds v b));
      asks = λ p q. one.asks (ask_form h p q) q;
      fewer = (omega (arith, one.fewer.0), omega (arith, one.fewer.1));
      places = λ count p. let r = one.places count p.0 in (r.0, r.1, (r.2, p.1), (r.3, p.1));
    }

-- an `or` is split as its first form is, and behind a no as its second
or_split : (g h : FormTree) (s t : SplitTree) → IsSplit g s → IsSplit h t → IsSplit (forms.Or g h) (split_or s h t)
unfolding ask_form rewritten
or_split g h No t one other =
    record {
      ends = ends_behind (forms.Or g h) h
          (λ f on_yes on_no. by_rule refl (one.ends f on_yes (If h on_yes on_no))) t other.ends;
      truth = λ v. ap (λ b. b || form_holds v h) (one.truth v) ∙ other.truth v;
      asks = λ p q. one.asks p (ask_form h p q) ∙ other.asks p q;
      fewer = fewer_of_more (forms.Or g h) h t (omega arith) other.fewer;
      places = λ count p. other.places count p.1;
    }
or_split g h Yes t one other =
    record {
      ends = λ f on_yes on_no. by_rule refl (one.ends f on_yes (If h on_yes on_no));
      truth = λ v. ap (λ b. b || form_holds v h) (one.truth v);
      asks = λ p q. one.asks p (ask_form h p q);
      fewer = tt;
      places = λ count p. tt;
    }
or_split g h (Ask x y a b) t one other =
    record {
      ends = (
        one.ends.0,
        λ f on_yes on_no. let r = one.ends.1 f on_yes (If h on_yes on_no) in (r.0, r.1, by_rule refl r.2),
      );
      truth = λ v.
          ap (λ c. c || form_holds v h) (one.truth v)
          ∙ sym (if_through (λ c. c || form_holds v h) (int_le (integer_at v x) (integer_at v y))
          (form_holds v a) (form_holds v b));
      asks = λ p q. one.asks p (ask_form h p q);
      fewer = (omega (arith, one.fewer.0), omega (arith, one.fewer.1));
      places = λ count p. let r = one.places count p.0 in (r.0, r.1, (r.2, p.1), (r.3, p.1));
    }

-- a `not` is split as its form is, with what comes of it negated
not_split : (g : FormTree) (s : SplitTree) → IsSplit g s → IsSplit (forms.Not g) (split_not s)
unfolding ask_form rewritten
not_split g Yes one =
    record {
      ends = λ f on_yes on_no. by_rule refl (one.ends f on_no on_yes);
      truth = λ v. ap not (one.truth v);
      asks = λ p q. one.asks q p;
      fewer = tt;
      places = λ count p. tt;
    }
not_split g No one =
    record {
      ends = λ f on_yes on_no. by_rule refl (one.ends f on_no on_yes);
      truth = λ v. ap not (one.truth v);
      asks = λ p q. one.asks q p;
      fewer = tt;
      places = λ count p. tt;
    }
not_split g (Ask x y a b) one =
    record {
      ends = (one.ends.0, λ f on_yes on_no. let r = one.ends.1 f on_no on_yes in (r.0, r.1, by_rule refl r.2));
      truth = λ v.
          ap not (one.truth v)
          ∙ sym (if_through not (int_le (integer_at v x) (integer_at v y)) (form_holds v a) (form_holds v b));
      asks = λ p q. one.asks q p;
      fewer = one.fewer;
      places = λ count p. one.places count p;
    }

-- each form is split as the definition says
pub split_is : (g : FormTree) → IsSplit g (split_of g)
unfolding ask_form rewritten
split_is forms.True =
    record {
      ends = λ f on_yes on_no. by_rule refl there;
      truth = λ v. refl;
      asks = λ p q. refl;
      fewer = tt;
      places = λ count p. tt;
    }
split_is (forms.Le x y) = le_split x y
split_is (forms.Lt x y) = lt_split x y (split_le x (plus y (negsuc 0))) (le_split x (plus y (negsuc 0)))
split_is (forms.Eq x y) = eq_split x y
split_is (forms.And g h) = and_split g h (split_of g) (split_of h) (split_is g) (split_is h)
split_is (forms.Or g h) = or_split g h (split_of g) (split_of h) (split_is g) (split_is h)
split_is (forms.Not g) = not_split g (split_of g) (split_is g)
