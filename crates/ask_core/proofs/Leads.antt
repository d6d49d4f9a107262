-- What answers that lead to an end that fails are: the plan ends there at each valuation that meets them, and
-- they are within the limits of the plan's questions.
use Rattle.std.proofs.Common.{◌≡◌, ℕ, ◌<◌, ◌≤◌, ℤ, pos, negsuc, neg_ℤ, ◌+ℤ◌, ◌-ℤ◌, ◌≤ℤ◌, Bool, true, false, not, ◌&&◌}
use Rattle.std.proofs.Common.{if◌then◌else◌, nat_eq, nat_lt, int_le, Option, Some, List, [], ◌∷◌, length, refl, ap, sym}
use Rattle.std.proofs.Common.{◌∙◌, subst, inl, inr, arith}
use Rattle.std.proofs.lemmas.Bool.{and_parts}
use Rattle.std.proofs.lemmas.Bool.Decides.{Decides-ltb}
use Rattle.std.proofs.lemmas.Int.{ints}
use Rattle.diff_graph.specs.declared.lit.Lit.{Lit}
use Rattle.diff_graph.specs.declared.lit.TheConstants.{MAX_LITERAL_OFFSET}
use Rattle.diff_graph.specs.Literals.{Meets, AreMet, negated, is_met}
use Rattle.diff_graph.specs.Limits.{AreNamed, IsSmall, AreSmall}
use Rattle.ask_core.specs.Plans.{Plan, Ask, Holds, Fails, end_of}
use Rattle.ask_core.specs.Askers.{is_fine_literal, has_fine_literals, longest_path}
use Rattle.ask_core.specs.Leading.{LeadTo}

by_met : {W : Type 0} (t : Bool) (x y : Option W) → t ≡ true → (if t then x else y) ≡ x
by_met true x y e = refl
by_met false x y e = absurd (cc)

by_not_met : {W : Type 0} (t : Bool) (x y : Option W) → (t ≡ true → ⊥) → (if t then x else y) ≡ y
by_not_met true x y e = absurd (e refl)
by_not_met false x y e = refl

int_le-from : (x y : ℤ) → x ≤ℤ y → int_le x y ≡ true
int_le-from x y h = grind (arith, ints)

int_le-true : (x y : ℤ) → int_le x y ≡ true → x ≤ℤ y
int_le-true x y h = grind (arith, ints)

met_yes : (v : ℕ → ℤ) (l : Lit) → Meets v l → is_met v l ≡ true
met_yes v l h = int_le-from (v l.x) (v l.y +ℤ l.k) h

met_no : (v : ℕ → ℤ) (l : Lit) → Meets v (negated l) → is_met v l ≡ true → ⊥
met_no v l h e =
    let yes_said : v l.x ≤ℤ (v l.y +ℤ l.k) = int_le-true (v l.x) (v l.y +ℤ l.k) e in
    let no_said : v l.y ≤ℤ (v l.x +ℤ (negsuc 0 -ℤ l.k)) = h in
    omega (arith, ints)

-- the plan ends where the answers lead
pub end_of_lead : {W : Type 0} (v : ℕ → ℤ) (why : W) (p : Plan W) (w : List Lit) → LeadTo why p w
    → AreMet v w → end_of p v ≡ Some why
end_of_lead v why (Ask l p q) [] lead met = absurd lead
end_of_lead v why (Ask l p q) (m ∷ w) (inl (same, lead)) met =
    by_met (is_met v l) (end_of p v) (end_of q v) (met_yes v l (subst (λ n. Meets v n) same met.0))
    ∙ end_of_lead v why p w lead met.1
end_of_lead v why (Ask l p q) (m ∷ w) (inr (same, lead)) met =
    by_not_met (is_met v l) (end_of p v) (end_of q v) (met_no v l (subst (λ n. Meets v n) same met.0))
    ∙ end_of_lead v why q w lead met.1
end_of_lead v why Holds w lead met = absurd lead
end_of_lead v why (Fails cause) [] lead met = ap Some lead
end_of_lead v why (Fails cause) (m ∷ w) lead met = absurd lead

-- and there are no more of them than questions on a path
pub short_lead : {W : Type 0} (why : W) (p : Plan W) (w : List Lit) → LeadTo why p w → length w ≤ longest_path p
short_lead why (Ask l p q) [] lead = absurd lead
short_lead why (Ask l p q) (m ∷ w) (inl (same, lead)) = let rest = short_lead why p w lead in omega arith
short_lead why (Ask l p q) (m ∷ w) (inr (same, lead)) = let rest = short_lead why q w lead in omega arith
short_lead why Holds w lead = absurd lead
short_lead why (Fails cause) [] lead = omega arith
short_lead why (Fails cause) (m ∷ w) lead = absurd lead

-- what is fine of a question is so of its answer
pub record IsFineAnswer (count : ℕ) (l : Lit) : Type 0 where
  pub x_below : l.x < count
  pub y_below : l.y < count
  pub low : neg_ℤ (pos 1001) ≤ℤ l.k
  pub high : l.k ≤ℤ pos 1001

-- a fine literal is a fine answer, as it is asked and negated
fine_parts : (count : ℕ) (l : Lit) → is_fine_literal count l ≡ true
    → IsFineAnswer count l × IsFineAnswer count (negated l)
fine_parts count l e =
    let last = and_parts (not (nat_eq l.x l.y) && nat_lt l.x count && nat_lt l.y count
    && int_le (neg_ℤ MAX_LITERAL_OFFSET) l.k) (int_le l.k MAX_LITERAL_OFFSET) e in
    let low = and_parts (not (nat_eq l.x l.y) && nat_lt l.x count && nat_lt l.y count)
    (int_le (neg_ℤ MAX_LITERAL_OFFSET) l.k) last.0 in
    let y = and_parts (not (nat_eq l.x l.y) && nat_lt l.x count) (nat_lt l.y count) low.0 in
    let x = and_parts (not (nat_eq l.x l.y)) (nat_lt l.x count) y.0 in
    let x_below : l.x < count = (Decides-ltb l.x count).0 x.1 in
    let y_below : l.y < count = (Decides-ltb l.y count).0 y.1 in
    let least : negsuc 999 ≤ℤ l.k = int_le-true (negsuc 999) l.k low.1 in
    let most : l.k ≤ℤ pos 1000 = int_le-true l.k (pos 1000) last.1 in (
      record { x_below = x_below; y_below = y_below; low = omega (arith, ints); high = omega (arith, ints) },
      record { x_below = y_below; y_below = x_below; low = omega (arith, ints); high = omega (arith, ints) },
    )

fine_small : (count : ℕ) (l : Lit) → IsFineAnswer count l → IsSmall l
fine_small count l h = let low = h.low in let high = h.high in (omega (arith, ints), omega (arith, ints))

-- the answers are of names below the count, with small offsets
pub fine_lead :
    {W : Type 0} (count : ℕ) (why : W) (p : Plan W) (w : List Lit) → has_fine_literals count p ≡ true → LeadTo why p w
    → AreNamed count w × AreSmall w
fine_lead count why (Ask l p q) [] fine lead = absurd lead
fine_lead count why (Ask l p q) (m ∷ w) fine (inl (same, lead)) =
    let both = and_parts (is_fine_literal count l && has_fine_literals count p) (has_fine_literals count q) fine in
    let first = and_parts (is_fine_literal count l) (has_fine_literals count p) both.0 in
    let here = subst (λ n. IsFineAnswer count n) (sym same) (fine_parts count l first.0).0 in
    let rest = fine_lead count why p w first.1 lead in
    (((here.x_below, here.y_below), rest.0), (fine_small count m here, rest.1))
fine_lead count why (Ask l p q) (m ∷ w) fine (inr (same, lead)) =
    let both = and_parts (is_fine_literal count l && has_fine_literals count p) (has_fine_literals count q) fine in
    let first = and_parts (is_fine_literal count l) (has_fine_literals count p) both.0 in
    let here = subst (λ n. IsFineAnswer count n) (sym same) (fine_parts count l first.0).1 in
    let rest = fine_lead count why q w both.1 lead in
    (((here.x_below, here.y_below), rest.0), (fine_small count m here, rest.1))
fine_lead count why Holds w fine lead = absurd lead
fine_lead count why (Fails cause) [] fine lead = (tt, tt)
fine_lead count why (Fails cause) (m ∷ w) fine lead = absurd lead
