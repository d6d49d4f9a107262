-- Values above a cut that are lowered by one meet the same answers. So the least
-- values do not give the length more than 1,000.
use Rattle.std.proofs.Common.{◌≡◌, ℕ, zero, suc, ◌<◌, ℤ, pos, ◌+ℤ◌, ◌-ℤ◌, ◌≤ℤ◌, ◌<ℤ◌, true, if◌then◌else◌, int_le, List}
use Rattle.std.proofs.Common.{[], ◌∷◌, length, refl, ap, sym, ◌∙◌, subst, inl, inr, arith, lit<}
use Rattle.std.specs.Prelude.{slice_index_or}
use Rattle.std.specs.List.{AllByRecursion, list_all}
use Rattle.std.proofs.lemmas.Bool.{cases_Bool, false≢true, and_parts}
use Rattle.std.proofs.lemmas.Int.{ints}
use Rattle.diff_graph.specs.declared.lit.Lit.{Lit}
use Rattle.diff_graph.specs.Literals.{Meets, AreMet}
use Rattle.diff_tables.specs.Solutions.{AreLeast, valuation_of}
use Rattle.fn_rules.specs.declared.guard.Sort.{Sort}
use Rattle.fn_rules.specs.declared.guard.Sort.TheVariants.{Pos, Site, Char}
use Rattle.fn_rules.specs.declared.function.ObName.{ObName}
use Rattle.fn_rules.specs.declared.function.ObName.TheVariants.{Pair, Triple}
use Rattle.fn_rules.specs.Functions.{Function}
use Rattle.fn_rules.specs.Validity.{is_valid}
use Rattle.ask_core.specs.Leading.{LeadTo}
use Rattle.ot_questions.specs.declared.why.Why.{Why}
use Rattle.ot_questions.specs.Names.{length_name}
use Rattle.ot_questions.specs.Sorts.{sort_name, AreLike}
use Rattle.ot_questions.specs.Obligation.{plan_of}
use Rattle.ot_values.specs.Values.{floors_of}
use Rattle.ot_values.proofs.Reach.{IsNamed, Spans, IsShort, answers_are_short}
use Rattle.ot_values.proofs.Plans.{inner_of, plans_ask_short}
use Rattle.ot_values.proofs.Gaps.{IsCut, each_of, find_cut, side_of, int_le-true}

-- positions above a value are one lower
abbrev lower : ℤ → Sort → ℤ → ℤ
lower t Pos z = if int_le z t then z else z -ℤ pos 1
lower t Site z = z
lower t Char z = z

abbrev lowered : (ℕ → ℤ) → ℤ → ℕ → ℤ
lowered v t x = lower t (sort_name x) (v x)

-- one lower, or as it was
record IsLower (t z r : ℤ) : Type 0 where
  pub below : z ≤ℤ t → r ≡ z
  pub above : t <ℤ z → r ≡ z -ℤ pos 1

int_le-from : (z t : ℤ) → z ≤ℤ t → int_le z t ≡ true
int_le-from z t h = grind (arith, ints)

lower_is : (t z : ℤ) → IsLower t z (lower t Pos z)
lower_is t z =
    elim (cases_Bool (int_le z t)) [
      | inl yes_said ↦
          (let low : z ≤ℤ t = int_le-true z t yes_said in
          rw yes_said (record { below = λ h. refl; above = λ h. absurd (omega (arith, ints)) }))
      | inr no_said ↦
          rw no_said (record { below = λ h. absurd (false≢true (sym no_said ∙ int_le-from z t h)); above = λ h. refl })
    ]

-- lowering keeps a literal whose sides are not both moved, where the lower one is far below
kept :
    (t s z k q r : ℤ) → IsLower t s q → IsLower t z r → s ≤ℤ (z +ℤ k)
    → (s ≤ℤ t → t <ℤ z → s ≤ℤ ((z -ℤ pos 1) +ℤ k)) → q ≤ℤ (r +ℤ k)
kept t s z k q r hs hz met far =
    elim (side_of s t) [
      | inl s_low ↦
          (let es : q ≡ s = hs.below s_low in
          elim (side_of z t) [
            | inl z_low ↦ (let ez : r ≡ z = hz.below z_low in omega (arith, ints))
            | inr z_high ↦
                (let ez : r ≡ z -ℤ pos 1 = hz.above z_high in
                let there = far s_low z_high in omega (arith, ints))
          ])
      | inr s_high ↦
          (let es : q ≡ s -ℤ pos 1 = hs.above s_high in
          elim (side_of z t) [
            | inl z_low ↦ (let ez : r ≡ z = hz.below z_low in omega (arith, ints))
            | inr z_high ↦ (let ez : r ≡ z -ℤ pos 1 = hz.above z_high in omega (arith, ints))
          ])
    ]

-- values above which there is a cut, below a length of more than 1,000
module _ (Inner : ℕ → Type 0) (v : ℕ → ℤ) (t : ℤ) (cut : IsCut v Inner t) (zero_first : v 0 ≡ pos 0)
    (long : pos 1000 <ℤ v 1) where
  -- two names on the two sides of the cut are more than 101 apart
  more_than_101 : (x y : ℕ) → IsNamed Inner x → IsNamed Inner y → v x ≤ℤ t → t <ℤ v y → (v x +ℤ pos 101) <ℤ v y
  more_than_101 x y (inl (inl ex)) (inl (inl ey)) below above =
      let here : v y ≡ pos 0 = ap v ey ∙ zero_first in let low = cut.low in absurd (omega (arith, ints))
  more_than_101 x y (inl (inl ex)) (inl (inr ey)) below above =
      let here : v x ≡ pos 0 = ap v ex ∙ zero_first in let there : v y ≡ v 1 = ap v ey in omega (arith, ints)
  more_than_101 x y (inl (inl ex)) (inr iy) below above =
      let here : v x ≡ pos 0 = ap v ex ∙ zero_first in let far = cut.first y iy above in omega (arith, ints)
  more_than_101 x y (inl (inr ex)) hy below above =
      let here : v x ≡ v 1 = ap v ex in let high = cut.high in absurd (omega (arith, ints))
  more_than_101 x y (inr ix) (inl (inl ey)) below above =
      let here : v y ≡ pos 0 = ap v ey ∙ zero_first in let low = cut.low in absurd (omega (arith, ints))
  more_than_101 x y (inr ix) (inl (inr ey)) below above =
      let there : v y ≡ v 1 = ap v ey in let high = cut.high in omega (arith, ints)
  more_than_101 x y (inr ix) (inr iy) below above = let far = cut.far x y ix iy below above in omega (arith, ints)

  across : (l : Lit) → Spans Inner l → v l.x ≤ℤ t → t <ℤ v l.y → v l.x ≤ℤ ((v l.y -ℤ pos 1) +ℤ l.k)
  across l (inl near) below above =
      let far = more_than_101 l.x l.y near.0 near.1 below above in let low = near.2.low in omega (arith, ints)
  across l (inr inner) below above =
      let far = cut.far l.x l.y inner.0 inner.1 below above in let low = inner.2.low in omega (arith, ints)

  met_lowered :
      (l : Lit) (sort : Sort) → sort_name l.x ≡ sort → sort_name l.y ≡ sort → IsShort Inner l
      → Meets v l → Meets (lowered v t) l
  met_lowered l Pos ex ey short met =
      rw (ex, ey)
      (kept t (v l.x) (v l.y) l.k _ _ (lower_is t (v l.x)) (lower_is t (v l.y)) met (across l (short ex ey)))
  met_lowered l Site ex ey short met = rw (ex, ey) met
  met_lowered l Char ex ey short met = rw (ex, ey) met

  all_met : (w : List Lit) → AreLike w → AllByRecursion (IsShort Inner) w → AreMet v w → AreMet (lowered v t) w
  all_met [] like short met = tt
  all_met (l ∷ w) like short met =
      (met_lowered l (sort_name l.x) refl (sym like.0.sorts) short.0 met.0, all_met w like.1 short.1 met.1)

  zero_stays : lowered v t 0 ≡ pos 0
  zero_stays = let low = cut.low in (lower_is t (v 0)).below (omega (arith, ints)) ∙ zero_first

  length_lower : lowered v t 1 ≡ v 1 -ℤ pos 1
  length_lower = let high = cut.high in (lower_is t (v 1)).above (omega (arith, ints))

  above_floor : (fl z : ℤ) (sort : Sort) → fl ≤ℤ pos 99 → fl ≤ℤ z → fl ≤ℤ lower t sort z
  above_floor fl z Pos few h =
      let r = lower_is t z in
      let low = cut.low in
      elim (side_of z t) [
        | inl down ↦ (let e : lower t Pos z ≡ z = r.below down in subst (λ y. fl ≤ℤ y) (sym e) h)
        | inr up ↦
            (let e : lower t Pos z ≡ z -ℤ pos 1 = r.above up in subst (λ y. fl ≤ℤ y) (sym e) (omega (arith, ints)))
      ]
  above_floor fl z Site few h = h
  above_floor fl z Char few h = h

-- the floors are low
low_at : (fls : List ℤ) → list_all (λ fl. int_le fl (pos 99)) fls ≡ true → (x : ℕ)
    → slice_index_or fls x (pos 0) ≤ℤ pos 99
low_at [] h x = omega (arith, ints)
low_at (fl ∷ fls) h zero =
    int_le-true fl (pos 99) (and_parts (int_le fl (pos 99)) (list_all (λ fl. int_le fl (pos 99)) fls) h).0
low_at (fl ∷ fls) h (suc x) =
    low_at fls (and_parts (int_le fl (pos 99)) (list_all (λ fl. int_le fl (pos 99)) fls) h).1 x

floors_low : (ob : ObName) (x : ℕ) → valuation_of (floors_of ob) x ≤ℤ pos 99
floors_low (Pair k l) x = low_at (floors_of (Pair k l)) refl x
floors_low (Triple k l m) x = low_at (floors_of (Triple k l m)) refl x

has_length : (ob : ObName) → length_name < length (floors_of ob)
has_length (Pair k l) = lit< tt
has_length (Triple k l m) = lit< tt

-- least values have a cut
cut_of :
    (ob : ObName) (w : List Lit) (values : List ℤ) → AreLeast w (floors_of ob) values
    → (t : ℤ) × IsCut (valuation_of values) (inner_of ob) t
cut_of (Pair k l) w values least =
    find_cut (valuation_of values) 2 3 6
    (λ x is. each_of (λ y. pos 0 ≤ℤ valuation_of values y) 2 3 6 x (least.above 2 (lit< tt)) (least.above 3 (lit< tt))
    (least.above 6 (lit< tt)) is)
cut_of (Triple k l m) w values least =
    find_cut (valuation_of values) 3 6 9
    (λ x is. each_of (λ y. pos 0 ≤ℤ valuation_of values y) 3 6 9 x (least.above 3 (lit< tt)) (least.above 6 (lit< tt))
    (least.above 9 (lit< tt)) is)

-- answers whose literals are short
module _ (ob : ObName) (w : List Lit) (values : List ℤ) (like : AreLike w)
    (short : AllByRecursion (IsShort (inner_of ob)) w)
    (least : AreLeast w (floors_of ob) values) where
  abbrev v : ℕ → ℤ
  v = valuation_of values

  -- least values do not give the length more than 1,000
  not_long : pos 1000 <ℤ v length_name → ⊥
  not_long long =
      let (t, cut) = cut_of ob w values least in
      let lower : v length_name ≤ℤ lowered v t length_name =
      least.least (lowered v t) (zero_stays (inner_of ob) v t cut least.zero_first long)
      (all_met (inner_of ob) v t cut least.zero_first long w like short least.met)
      (λ x h. above_floor (inner_of ob) v t cut least.zero_first long (valuation_of (floors_of ob) x) (v x)
      (sort_name x) (floors_low ob x) (least.above x h))
      length_name (has_length ob) in
      let one_lower : lowered v t 1 ≡ v 1 -ℤ pos 1 = length_lower (inner_of ob) v t cut least.zero_first long in
      omega (arith, ints)

  at_most_1000 : v length_name ≤ℤ pos 1000
  at_most_1000 =
      elim (side_of (v length_name) (pos 1000)) [
        | inl few ↦ few
        | inr long ↦ absurd (not_long long)
      ]

pub few_cells :
    (f : Function) (ob : ObName) (why : Why) (w : List Lit) (values : List ℤ) → is_valid f ≡ true → AreLike w
    → LeadTo why (plan_of f ob) w → AreLeast w (floors_of ob) values → valuation_of values length_name ≤ℤ pos 1000
few_cells f ob why w values valid like lead least =
    at_most_1000 ob w values like
    (answers_are_short (inner_of ob) why (plan_of f ob) w (plans_ask_short f ob valid) lead) least
