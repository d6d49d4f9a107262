-- Members of lists, and lists without one of their members.
use Rattle.std.proofs.Common.{◌≡◌, ◌≢◌, ◌⊎◌, ℕ, suc, true, false, ◌||◌, List, [], ◌∷◌, length, refl, sym, ap, ◌∙◌}
use Rattle.std.proofs.Common.{subst, inl, inr, Bool}
use Rattle.std.specs.Prelude.{nat_eq}
use Rattle.std.proofs.lemmas.Bool.{cases_eq, eq-eqb, ne_eqb, eqb-true, or_cases, or_right, or_left, false≢true}
use Rattle.std.proofs.lemmas.Bool.{both_ways, true_from_ne_false, false_from_ne_true}
use Rattle.ot_causal.specs.Members.{has, without, HaveOneSet, IsSublist, none, keep, skip}

-- a truth that follows both ways
pub same_Bool : (a b : Bool) → (a ≡ true → b ≡ true) → (b ≡ true → a ≡ true) → a ≡ b
same_Bool true b there back = sym (there refl)
same_Bool false true there back = back refl
same_Bool false false there back = refl

-- each member stands once in the list
abbrev pub IsDistinct : List ℕ → Type 0
IsDistinct [] = Unit {0}
IsDistinct (x ∷ l) = (has l x ≡ false) × IsDistinct l

pub has-itself : (x : ℕ) (l : List ℕ) → has (x ∷ l) x ≡ true
has-itself x l = or_left (nat_eq x x) (has l x) (eq-eqb x x refl)

pub has-older : (y : ℕ) (l : List ℕ) (x : ℕ) → has l x ≡ true → has (y ∷ l) x ≡ true
has-older y l x is = or_right (nat_eq x y) (has l x) is

-- of a number that is not the newest member
pub has-other : (y : ℕ) (l : List ℕ) (x : ℕ) → x ≢ y → has (y ∷ l) x ≡ has l x
has-other y l x differ = rw (ne_eqb x y differ) refl

pub has-cases : (y : ℕ) (l : List ℕ) (x : ℕ) → has (y ∷ l) x ≡ true → (x ≡ y) ⊎ (has l x ≡ true)
has-cases y l x is = elim (or_cases (nat_eq x y) (has l x) is) [
  | inl newest ↦ inl (eqb-true x y newest)
  | inr older ↦ inr older
]

-- members and others differ
pub differ-has : (l : List ℕ) (x y : ℕ) → has l x ≡ true → has l y ≡ false → x ≢ y
differ-has l x y member other same = both_ways (has l y) other (subst (λ (z : ℕ). has l z ≡ true) same member)

pub without-newest : (x : ℕ) (l : List ℕ) → without x (x ∷ l) ≡ l
without-newest x l = rw (eq-eqb x x refl) refl

pub without-older : (x y : ℕ) (l : List ℕ) → x ≢ y → without x (y ∷ l) ≡ y ∷ without x l
without-older x y l differ = rw (ne_eqb x y differ) refl

-- of other numbers the list without a member has the same
pub has-without : (x : ℕ) (l : List ℕ) (z : ℕ) → z ≢ x → has (without x l) z ≡ has l z
has-without x [] z differ = refl
has-without x (y ∷ l) z differ = elim (cases_eq x y) [
  | inl same ↦ subst (λ (w : ℕ). has (without x (w ∷ l)) z ≡ has (w ∷ l) z) same
      (ap (λ m. has m z) (without-newest x l) ∙ sym (has-other x l z differ))
  | inr other ↦ ap (λ m. has m z) (without-older x y l other)
      ∙ ap (λ rest. nat_eq z y || rest) (has-without x l z differ)
]

-- taking a member out adds none
pub has-without_none : (x : ℕ) (l : List ℕ) (z : ℕ) → has l z ≡ false → has (without x l) z ≡ false
has-without_none x [] z is = refl
has-without_none x (y ∷ l) z is = elim (cases_eq x y) [
  | inl same ↦ rw (eq-eqb x y same) (elim (cases_eq z y) [
    | inl newest ↦
        absurd (both_ways (has (y ∷ l) z) is (subst (λ (w : ℕ). has (y ∷ l) w ≡ true) (sym newest) (has-itself y l)))
    | inr older ↦ sym (has-other y l z older) ∙ is
  ])
  | inr other ↦ rw (ne_eqb x y other) (elim (cases_eq z y) [
    | inl newest ↦
        absurd (both_ways (has (y ∷ l) z) is (subst (λ (w : ℕ). has (y ∷ l) w ≡ true) (sym newest) (has-itself y l)))
    | inr older ↦ rw (ne_eqb z y older) (has-without_none x l z (sym (has-other y l z older) ∙ is))
  ])
]

pub has-from_without : (x : ℕ) (l : List ℕ) (z : ℕ) → has (without x l) z ≡ true → has l z ≡ true
has-from_without x l z is =
    true_from_ne_false (has l z) (λ none. both_ways (has (without x l) z) (has-without_none x l z none) is)

-- a list whose members stand once has not the member that was taken out
pub has-without_itself : (x : ℕ) (l : List ℕ) → IsDistinct l → has (without x l) x ≡ false
has-without_itself x [] distinct = refl
has-without_itself x (y ∷ l) distinct = elim (cases_eq x y) [
  | inl same ↦ subst (λ (w : ℕ). has (without w (y ∷ l)) w ≡ false) (sym same)
      (ap (λ m. has m y) (without-newest y l) ∙ distinct.0)
  | inr other ↦ ap (λ m. has m x) (without-older x y l other) ∙ has-other y (without x l) x other
      ∙ has-without_itself x l distinct.1
]

pub length-without : (x : ℕ) (l : List ℕ) → has l x ≡ true → length l ≡ suc (length (without x l))
length-without x [] is = absurd (false≢true is)
length-without x (y ∷ l) is = elim (cases_eq x y) [
  | inl same ↦ rw (eq-eqb x y same) refl
  | inr other ↦ rw (ne_eqb x y other) (ap suc (length-without x l (sym (has-other y l x other) ∙ is)))
]

pub HaveOneSet-sym : {l m : List ℕ} → HaveOneSet l m → HaveOneSet m l
HaveOneSet-sym same = record { at = λ x. sym (same.at x) }

pub HaveOneSet-trans : {l m n : List ℕ} → HaveOneSet l m → HaveOneSet m n → HaveOneSet l n
HaveOneSet-trans first second = record { at = λ x. first.at x ∙ second.at x }

-- the lists without one number
pub HaveOneSet-without : (x : ℕ) (l m : List ℕ) → IsDistinct l → IsDistinct m → HaveOneSet l m
    → HaveOneSet (without x l) (without x m)
HaveOneSet-without x l m once_l once_m same = record {
  at = λ z. elim (cases_eq z x) [
    | inl is ↦ subst (λ (w : ℕ). has (without x l) w ≡ has (without x m) w) (sym is)
        (has-without_itself x l once_l ∙ sym (has-without_itself x m once_m))
    | inr other ↦ has-without x l z other ∙ same.at z ∙ sym (has-without x m z other)
  ];
}

-- taking a member out and adding it as the newest
pub HaveOneSet-taken_out : (x : ℕ) (l : List ℕ) → has l x ≡ true → HaveOneSet l (x ∷ without x l)
HaveOneSet-taken_out x l is = record {
  at = λ z. elim (cases_eq z x) [
    | inl same ↦ subst (λ (w : ℕ). has l w ≡ has (x ∷ without x l) w) (sym same) (is ∙ sym (has-itself x (without x l)))
    | inr other ↦ sym (has-without x l z other) ∙ sym (has-other x (without x l) z other)
  ];
}

-- lists behind the same newest member
pub HaveOneSet-older : (x : ℕ) (l m : List ℕ) → has l x ≡ false → has m x ≡ false
    → HaveOneSet (x ∷ l) (x ∷ m) → HaveOneSet l m
HaveOneSet-older x l m new_l new_m same = record {
  at = λ z. elim (cases_eq z x) [
    | inl is ↦ subst (λ (w : ℕ). has l w ≡ has m w) (sym is) (new_l ∙ sym new_m)
    | inr other ↦ sym (has-other x l z other) ∙ same.at z ∙ has-other x m z other
  ];
}

pub IsSublist-itself : (l : List ℕ) → IsSublist l l
IsSublist-itself [] = none
IsSublist-itself (x ∷ l) = keep x l l (IsSublist-itself l)

pub IsSublist-without : (x : ℕ) {l m : List ℕ} → IsSublist l m → IsSublist (without x l) m
IsSublist-without x none = none
IsSublist-without x (keep y l m part) = elim (cases_eq x y) [
  | inl same ↦ rw (eq-eqb x y same) (skip y l m part)
  | inr other ↦ rw (ne_eqb x y other) (keep y (without x l) m (IsSublist-without x part))
]
IsSublist-without x (skip y l m part) = skip y (without x l) m (IsSublist-without x part)

-- members of a sublist are members
pub has-sublist : {l m : List ℕ} → IsSublist l m → (x : ℕ) → has l x ≡ true → has m x ≡ true
has-sublist none x member = member
has-sublist (keep y l m part) x member = elim (has-cases y l x member) [
  | inl newest ↦ subst (λ (z : ℕ). has (y ∷ m) z ≡ true) (sym newest) (has-itself y m)
  | inr older ↦ has-older y m x (has-sublist part x older)
]
has-sublist (skip y l m part) x member = has-older y m x (has-sublist part x member)

-- sublists of one list with one set are one list
pub one_list : {n l m : List ℕ} → IsSublist l n → IsSublist m n → IsDistinct n → HaveOneSet l m → l ≡ m
one_list none none once same = refl
one_list (keep x l n part_l) (keep y m k part_m) once same =
    ap (λ older. x ∷ older) (one_list part_l part_m once.1 (HaveOneSet-older x l m (lacks part_l) (lacks part_m) same))
  where
    lacks : {j : List ℕ} → IsSublist j n → has j x ≡ false
    lacks {j} part = false_from_ne_true (has j x) (λ member. both_ways (has n x) once.0 (has-sublist part x member))
one_list (keep x l n part_l) (skip y m k part_m) once same =
    absurd (both_ways (has n x) once.0 (has-sublist part_m x (sym (same.at x) ∙ has-itself x l)))
one_list (skip x l n part_l) (keep y m k part_m) once same =
    absurd (both_ways (has n x) once.0 (has-sublist part_l x (same.at x ∙ has-itself x m)))
one_list (skip x l n part_l) (skip y m k part_m) once same = one_list part_l part_m once.1 same
