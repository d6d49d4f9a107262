-- The first member of a list, from one member to the next.
use Rattle.std.proofs.Common.{◌≡◌, ◌⊎◌, ℕ, ◌<◌, ◌&&◌, ◌||◌, nat_eq, nat_lt}
use Rattle.std.proofs.Common.{inl, inr, ⊎_elim, Bool, true, false, List, [], ◌∷◌, ◌++◌, append_assoc, arith}
use Rattle.std.proofs.Common.{refl, ap, sym, subst, ◌∙◌}
use Rattle.std.specs.List.{AllByRecursion}
use Rattle.fn_rules.specs.Functions.{Function}
use Rattle.ot_mend.specs.declared.rank.Rank.{Rank}
use Rattle.ot_mend.specs.Members.{Member}
use Rattle.ot_mend.specs.Ranks.{comes_before, rank_of}
use Rattle.fewest_edits.specs.declared.decision.Decision.{Decision}
use Rattle.fewest_edits.specs.Firsts.{AreRefused, IsFirst, IsRefused, IsRefusedOrBehind, IsRefusedOrNotBefore}
use Rattle.fewest_edits.specs.Firsts.{is_before}

-- one number is less than another one, or they are equal and the test is true
lex-true : (a b : ℕ) (x : Bool) → (nat_lt a b || nat_eq a b && x) ≡ true → (a < b) ⊎ ((a ≡ b) × (x ≡ true))
lex-true a b x is = grind arith

lex-false : (a b : ℕ) (x : Bool) → (nat_lt a b || nat_eq a b && x) ≡ false → (b < a) ⊎ ((a ≡ b) × (x ≡ false))
lex-false a b x is = grind arith

lex-less : (a b : ℕ) (x : Bool) → a < b → (nat_lt a b || nat_eq a b && x) ≡ true
lex-less a b x less = grind arith

lex-equal : (a b : ℕ) (x : Bool) → a ≡ b → x ≡ true → (nat_lt a b || nat_eq a b && x) ≡ true
lex-equal a b x equal is = grind arith

-- so it is with the first and the third, where it is with the first two and with the other two
lex-before : (a b c : ℕ) (x y z : Bool) → (x ≡ true → y ≡ true → z ≡ true)
    → (nat_lt a b || nat_eq a b && x) ≡ true → (nat_lt b c || nat_eq b c && y) ≡ true
    → (nat_lt a c || nat_eq a c && z) ≡ true
lex-before a b c x y z inner first then = elim (lex-true a b x first) [
  | inl less ↦ elim (lex-true b c y then) [
    | inl less_then ↦ lex-less a c z (omega (arith, less, less_then))
    | inr equal_then ↦ lex-less a c z (omega (arith, less, equal_then.0))
  ]
  | inr equal ↦ elim (lex-true b c y then) [
    | inl less_then ↦ lex-less a c z (omega (arith, equal.0, less_then))
    | inr equal_then ↦ lex-equal a c z (equal.0 ∙ equal_then.0) (inner equal.1 equal_then.1)
  ]
]

-- and where it is not with the third and the second
lex-not_before : (a b c : ℕ) (x y z : Bool) → (x ≡ true → y ≡ false → z ≡ true)
    → (nat_lt a b || nat_eq a b && x) ≡ true → (nat_lt c b || nat_eq c b && y) ≡ false
    → (nat_lt a c || nat_eq a c && z) ≡ true
lex-not_before a b c x y z inner first then = elim (lex-true a b x first) [
  | inl less ↦ elim (lex-false c b y then) [
    | inl less_then ↦ lex-less a c z (omega (arith, less, less_then))
    | inr equal_then ↦ lex-less a c z (omega (arith, less, equal_then.0))
  ]
  | inr equal ↦ elim (lex-false c b y then) [
    | inl less_then ↦ lex-less a c z (omega (arith, equal.0, less_then))
    | inr equal_then ↦ lex-equal a c z (equal.0 ∙ sym equal_then.0) (inner equal.1 equal_then.1)
  ]
]

less-before : (a b c : ℕ) → nat_lt a b ≡ true → nat_lt b c ≡ true → nat_lt a c ≡ true
less-before a b c first then = grind arith

less-not_before : (a b c : ℕ) → nat_lt a b ≡ true → nat_lt c b ≡ false → nat_lt a c ≡ true
less-not_before a b c first then = grind arith

pub comes_before-before : (r q p : Rank) → comes_before r q ≡ true → comes_before q p ≡ true → comes_before r p ≡ true
comes_before-before r q p =
    lex-before r.assumed q.assumed p.assumed _ _ _
    (lex-before r.size q.size p.size _ _ _ (less-before r.weight q.weight p.weight))

pub comes_before-not_before : (r q p : Rank) → comes_before r q ≡ true → comes_before p q ≡ false
    → comes_before r p ≡ true
comes_before-not_before r q p =
    lex-not_before r.assumed q.assumed p.assumed _ _ _
    (lex-not_before r.size q.size p.size _ _ _ (less-not_before r.weight q.weight p.weight))

pub AllByRecursion-append : {X : Type 0} (P : X → Type 0) (xs ys : List X)
    → AllByRecursion P xs → AllByRecursion P ys → AllByRecursion P (xs ++ ys)
AllByRecursion-append P [] ys all more = more
AllByRecursion-append P (x ∷ xs) ys all more = (all.0, AllByRecursion-append P xs ys all.1 more)

pub AllByRecursion-weaker : {X : Type 0} (P Q : X → Type 0) → ((x : X) → P x → Q x) → (xs : List X)
    → AllByRecursion P xs → AllByRecursion Q xs
AllByRecursion-weaker P Q weaker [] all = tt
AllByRecursion-weaker P Q weaker (x ∷ xs) all = (weaker x all.0, AllByRecursion-weaker P Q weaker xs all.1)

-- one that comes before the first one comes before what stands in front of that, and before what stands behind it
before_behind : (decides : Function → Decision → Type 0) (m x other : Member) → is_before x m ≡ true
    → IsRefusedOrBehind decides m other → IsRefusedOrBehind decides x other
before_behind decides m x other before =
    ⊎_elim (λ refused. inl refused) (λ behind. inr (comes_before-before (rank_of x.edits x.function)
    (rank_of m.edits m.function) (rank_of other.edits other.function) before behind))

before_not_before : (decides : Function → Decision → Type 0) (m x other : Member) → is_before x m ≡ true
    → IsRefusedOrNotBefore decides m other → IsRefusedOrBehind decides x other
before_not_before decides m x other before =
    ⊎_elim (λ refused. inl refused) (λ behind. inr (comes_before-not_before (rank_of x.edits x.function)
    (rank_of m.edits m.function) (rank_of other.edits other.function) before behind))

-- where all are refused, one more is the first
pub IsFirst-after_refused : (decides : Function → Decision → Type 0) (ms : List Member) (x : Member)
    → AreRefused decides ms → IsFirst decides (ms ++ x ∷ []) x
IsFirst-after_refused decides ms x refused =
    record {
      earlier = ms;
      later = [];
      listed = refl;
      behind =
          AllByRecursion-weaker (IsRefused decides) (IsRefusedOrBehind decides x) (λ other is. inl is) ms refused;
      not_before = tt;
    }

-- one more that comes before the first one is the first
pub IsFirst-before : (decides : Function → Decision → Type 0) (ms : List Member) (m x : Member)
    → IsFirst decides ms m → is_before x m ≡ true → IsFirst decides (ms ++ x ∷ []) x
IsFirst-before decides ms m x first before =
    record {
      earlier = ms;
      later = [];
      listed = refl;
      behind =
          subst (λ (l : List Member). AllByRecursion (IsRefusedOrBehind decides x) l) (sym first.listed)
          (AllByRecursion-append (IsRefusedOrBehind decides x) first.earlier (m ∷ first.later)
          (AllByRecursion-weaker (IsRefusedOrBehind decides m) (IsRefusedOrBehind decides x)
          (λ other is. before_behind decides m x other before is) first.earlier first.behind) (
            inr before,
            AllByRecursion-weaker (IsRefusedOrNotBefore decides m) (IsRefusedOrBehind decides x)
                (λ other is. before_not_before decides m x other before is) first.later first.not_before,
          ));
      not_before = tt;
    }

-- one more that is refused, or does not come before the first one, leaves it the first
pub IsFirst-stays : (decides : Function → Decision → Type 0) (ms : List Member) (m x : Member)
    → IsFirst decides ms m → IsRefusedOrNotBefore decides m x → IsFirst decides (ms ++ x ∷ []) m
IsFirst-stays decides ms m x first is =
    record {
      earlier = first.earlier;
      later = first.later ++ x ∷ [];
      listed = ap (λ l. l ++ x ∷ []) first.listed ∙ append_assoc first.earlier (m ∷ first.later) (x ∷ []);
      behind = first.behind;
      not_before =
          AllByRecursion-append (IsRefusedOrNotBefore decides m) first.later (x ∷ []) first.not_before (is, tt);
    }
