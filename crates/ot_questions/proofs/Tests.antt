-- Tests of integers, and choices by tests.
use Rattle.std.proofs.Common.{◌≡◌, ℤ, pos, negsuc, ◌+ℤ◌, ◌-ℤ◌, ◌≤ℤ◌, ◌<ℤ◌, Bool, true, false, not, ◌&&◌, ◌||◌}
use Rattle.std.proofs.Common.{if◌then◌else◌, Option, int_le, int_lt, refl, ap, ◌∙◌, Decides, arith}
use Rattle.std.specs.Ordering.{int_eq}
use Rattle.std.proofs.lemmas.Bool.Decides.{same_from_decides, Decides-int_eq}
use Rattle.std.proofs.lemmas.Int.{ints}
use Rattle.ot_questions.specs.declared.why.Why.{Why}

-- what the tests tell
pub Decides-int_le : (x y : ℤ) → Decides (int_le x y) (x ≤ℤ y)
Decides-int_le x y = (λ e. grind (arith, ints), λ h. grind (arith, ints))

pub Decides-int_lt : (x y : ℤ) → Decides (int_lt x y) (x <ℤ y)
Decides-int_lt x y = (λ e. grind (arith, ints), λ h. grind (arith, ints))

-- two tests that tell the same
pub int_le-like : (a b c d : ℤ) → (a ≤ℤ b → c ≤ℤ d) → (c ≤ℤ d → a ≤ℤ b) → int_le a b ≡ int_le c d
int_le-like a b c d to from =
    same_from_decides {P = a ≤ℤ b} (int_le a b) (int_le c d) (Decides-int_le a b)
    (λ e. from ((Decides-int_le c d).0 e), λ h. (Decides-int_le c d).1 (to h))

pub int_le-int_lt : (a b c d : ℤ) → (a ≤ℤ b → c <ℤ d) → (c <ℤ d → a ≤ℤ b) → int_le a b ≡ int_lt c d
int_le-int_lt a b c d to from =
    same_from_decides {P = a ≤ℤ b} (int_le a b) (int_lt c d) (Decides-int_le a b)
    (λ e. from ((Decides-int_lt c d).0 e), λ h. (Decides-int_lt c d).1 (to h))

pub plus-zero : (x : ℤ) → x +ℤ pos 0 ≡ x
plus-zero x = omega (arith, ints)

pub plus-assoc : (x y z : ℤ) → x +ℤ (y +ℤ z) ≡ (x +ℤ y) +ℤ z
plus-assoc x y z = omega (arith, ints)

-- a name's own offsets, and a literal's offset
pub int_le-same_name : (x y j k : ℤ) → x ≡ y → int_le j k ≡ int_le (x +ℤ j) (y +ℤ k)
int_le-same_name x y j k e = int_le-like j k (x +ℤ j) (y +ℤ k) (λ h. omega (arith, ints)) (λ h. omega (arith, ints))

pub int_le-shifted : (x y j k : ℤ) → int_le x (y +ℤ (k -ℤ j)) ≡ int_le (x +ℤ j) (y +ℤ k)
int_le-shifted x y j k =
    int_le-like x (y +ℤ (k -ℤ j)) (x +ℤ j) (y +ℤ k) (λ h. omega (arith, ints)) (λ h. omega (arith, ints))

pub int_le-before : (x y k : ℤ) → int_le x (y +ℤ (k +ℤ negsuc 0)) ≡ int_lt x (y +ℤ k)
int_le-before x y k =
    int_le-int_lt x (y +ℤ (k +ℤ negsuc 0)) x (y +ℤ k) (λ h. omega (arith, ints)) (λ h. omega (arith, ints))

-- a choice under a choice
pub if_and : {X : Type 0} (b c : Bool) (x y : X) → (if b then (if c then x else y) else y) ≡ (if b && c then x else y)
if_and true c x y = refl
if_and false c x y = refl

pub if_or : {X : Type 0} (b c : Bool) (x y : X) → (if b then x else (if c then x else y)) ≡ (if b || c then x else y)
if_or true c x y = refl
if_or false c x y = refl

pub if_not : {X : Type 0} (b : Bool) (x y : X) → (if b then x else y) ≡ (if not b then y else x)
if_not true x y = refl
if_not false x y = refl

pub if_through : {X Y : Type 0} (g : X → Y) (b : Bool) (x y : X) → (if b then g x else g y) ≡ g (if b then x else y)
if_through g true x y = refl
if_through g false x y = refl

-- each is at most the other exactly where the two are equal
pub if_eq : {X : Type 0} (x y : ℤ) (p q : X)
    → (if int_le x y then (if int_le y x then p else q) else q) ≡ (if int_eq x y then p else q)
if_eq x y p q =
    if_and (int_le x y) (int_le y x) p q
    ∙ ap (λ b. if b then p else q)
    (same_from_decides {P = x ≡ y} (int_le x y && int_le y x) (int_eq x y)
    (λ e. grind (arith, ints), λ h. grind (arith, ints)) (Decides-int_eq x y))

-- what holds of both ends holds of the chosen one
pub choose : (P : Option Why → Type 0) (b : Bool) (s t : Option Why) → (b ≡ true → P s)
    → (b ≡ false → P t) → P (if b then s else t)
choose P true s t h g = h refl
choose P false s t h g = g refl
