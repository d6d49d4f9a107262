-- What is met where lists of forms are sought one behind the other.
use Rattle.std.proofs.Common.{◌≡◌, ◌≢◌, ◌≤◌, ◌+◌, ℕ, Bool, true, false, cond, List, [], ◌∷◌, ◌++◌, length, Option, Some}
use Rattle.std.proofs.Common.{None, is_none, refl, ap, subst, inl, inr, arith}
use Rattle.std.specs.Prelude.{nat_eq}
use Rattle.std.specs.Coded.{Coded, code_by, coded_ℕ, coded_option}
use Rattle.std.proofs.lemmas.Bool.{cases_Bool, eq-eqb, ne_eqb}
use Rattle.ot_model.specs.declared.op.Op.{Op}
use Rattle.fn_rules.specs.Functions.{Function}
use Rattle.ot_causal.specs.Past.{Past}
use Rattle.ot_causal.specs.Forms.{form}
use Rattle.ot_causal.specs.Counting.{FormName, is_among, count_sought}
use Rattle.ot_session.specs.declared.limits.TheConstants.{MAX_FORMS}
use Rattle.ot_session.specs.Seeking.{Obstacle, Missing, Exhausted, first_obstacle}

missing_count : Obstacle → Option ℕ
missing_count (Missing counted) = Some counted
missing_count Exhausted = None

obstacle_of : Option ℕ → Obstacle
obstacle_of (Some counted) = Missing counted
obstacle_of None = Exhausted

obstacle_of-missing_count : (o : Obstacle) → obstacle_of (missing_count o) ≡ o
unfolding obstacle_of missing_count
obstacle_of-missing_count (Missing counted) = refl
obstacle_of-missing_count Exhausted = refl

pub obstacle_code : Coded (Option Obstacle)
obstacle_code =
    coded_option (code_by (Option ℕ) (coded_option coded_ℕ) missing_count obstacle_of obstacle_of-missing_count)

-- counting more counts no less
pub length-count_sought : (names more : List FormName) → length names ≤ length (count_sought names more)
length-count_sought names [] = omega arith
length-count_sought names (name ∷ more) = elim (cases_Bool (is_among names name)) [
  | inl among ↦ rw among (length-count_sought names more)
  | inr new ↦ rw new (omega (arith, length-count_sought (name ∷ names) more))
]

-- two choices, each of which keeps an outcome
cond-keeps : {T : Type 0} (b : Bool) (x y u v : T) (o : T) → (x ≡ o → u ≡ o) → (y ≡ o → v ≡ o)
    → cond b x y ≡ o → cond b u v ≡ o
cond-keeps true x y u v o one other is = one is
cond-keeps false x y u v o one other is = other is

-- the second choice, where the first one is another outcome
cond-second : {T : Type 0} (b : Bool) (x y o : T) → x ≢ o → cond b x y ≡ o → (b ≡ false) × (y ≡ o)
cond-second true x y o differ is = absurd (differ is)
cond-second false x y o differ is = (refl, is)

module _ (f : Function) (past : Past) where
  -- where nothing is counted anew, nothing is in the way
  pub first_obstacle-counted : (total : ℕ) (names more : List FormName) → count_sought names more ≡ names
      → first_obstacle f past total names more ≡ None
  first_obstacle-counted total names [] same = refl
  first_obstacle-counted total names (name ∷ more) same = elim (cases_Bool (is_among names name)) [
    | inl among ↦ rw among (first_obstacle-counted total names more
        (subst (λ (b : Bool). count_sought (cond b names (name ∷ names)) more ≡ names) among same))
    | inr new ↦ absurd (
        let longer : count_sought (name ∷ names) more ≡ names =
        subst (λ (b : Bool). count_sought (cond b names (name ∷ names)) more ≡ names) new same in
        omega (arith, length-count_sought (name ∷ names) more, ap length longer))
  ]

  -- what is in the way of some is in the way of more
  pub first_obstacle-stops : (total : ℕ) (names first more : List FormName) (o : Obstacle)
      → first_obstacle f past total names first ≡ Some o → first_obstacle f past total names (first ++ more) ≡ Some o
  first_obstacle-stops total names [] more o is = cc
  first_obstacle-stops total names (name ∷ first) more o is =
      cond-keeps (is_among names name)
      (first_obstacle f past total names first)
      (cond (nat_eq total MAX_FORMS) (Some Exhausted)
      (cond (is_none (form f past name.of name.behind)) (Some (Missing (total + 1)))
      (first_obstacle f past (total + 1) (name ∷ names) first))) (first_obstacle f past total names (first ++ more))
      (cond (nat_eq total MAX_FORMS) (Some Exhausted)
      (cond (is_none (form f past name.of name.behind)) (Some (Missing (total + 1)))
      (first_obstacle f past (total + 1) (name ∷ names) (first ++ more)))) (Some o)
      (first_obstacle-stops total names first more o)
      (cond-keeps (nat_eq total MAX_FORMS) (Some Exhausted)
      (cond (is_none (form f past name.of name.behind)) (Some (Missing (total + 1)))
      (first_obstacle f past (total + 1) (name ∷ names) first)) (Some Exhausted)
      (cond (is_none (form f past name.of name.behind)) (Some (Missing (total + 1)))
      (first_obstacle f past (total + 1) (name ∷ names) (first ++ more))) (Some o) (λ same. same)
      (cond-keeps (is_none (form f past name.of name.behind)) (Some (Missing (total + 1))) (first_obstacle f past
      (total + 1) (name ∷ names) first) (Some (Missing (total + 1))) (first_obstacle f past (total + 1) (name ∷ names)
      (first ++ more)) (Some o) (λ same. same) (first_obstacle-stops (total + 1) (name ∷ names) first more o)))
      is

  -- behind some that nothing is in the way of, the others are sought
  pub first_obstacle-goes_on : (others : ℕ) (names first more : List FormName)
      → first_obstacle f past (others + length names) names first ≡ None
      → first_obstacle f past (others + length names) names (first ++ more)
      ≡ first_obstacle f past (others + length (count_sought names first)) (count_sought names first) more
  first_obstacle-goes_on others names [] more free = refl
  first_obstacle-goes_on others names (name ∷ first) more free = elim (cases_Bool (is_among names name)) [
    | inl among ↦ rw among (first_obstacle-goes_on others names first more
        (subst (λ (b : Bool). cond b (first_obstacle f past (others + length names) names first)
        (cond (nat_eq (others + length names) MAX_FORMS) (Some Exhausted)
        (cond (is_none (form f past name.of name.behind)) (Some (Missing (others + length names + 1)))
        (first_obstacle f past (others + length names + 1) (name ∷ names) first)))
        ≡ None) among free))
    | inr new ↦ (
        let below =
        cond-second (nat_eq (others + length names) MAX_FORMS) (Some Exhausted)
        (cond (is_none (form f past name.of name.behind)) (Some (Missing (others + length names + 1)))
        (first_obstacle f past (others + length names + 1) (name ∷ names) first))
        None (λ same. cc)
        (subst (λ (b : Bool). cond b (first_obstacle f past (others + length names) names first)
        (cond (nat_eq (others + length names) MAX_FORMS) (Some Exhausted)
        (cond (is_none (form f past name.of name.behind)) (Some (Missing (others + length names + 1)))
        (first_obstacle f past (others + length names + 1) (name ∷ names) first)))
        ≡ None) new free) in
        let there =
        cond-second (is_none (form f past name.of name.behind)) (Some (Missing (others + length names + 1)))
        (first_obstacle f past (others + length names + 1) (name ∷ names) first) None (λ same. cc) below.1 in
        let one : others + length names + 1 ≡ others + length (name ∷ names) = omega arith in
        rw (new, below.0, there.0, one)
        (first_obstacle-goes_on others (name ∷ names) first more
        (subst (λ (total : ℕ). first_obstacle f past total (name ∷ names) first ≡ None) one there.1)))
  ]

  -- a form that was not counted, where the count is spent
  pub first_obstacle-exhausted : (total : ℕ) (names : List FormName) (name : FormName)
      → is_among names name ≡ false → total ≡ MAX_FORMS
      → first_obstacle f past total names (name ∷ []) ≡ Some Exhausted
  first_obstacle-exhausted total names name new spent = rw (new, eq-eqb total MAX_FORMS spent) refl

  -- one that does not exist
  pub first_obstacle-missing : (total : ℕ) (names : List FormName) (name : FormName)
      → is_among names name ≡ false → total ≢ MAX_FORMS
      → form f past name.of name.behind ≡ None
      → first_obstacle f past total names (name ∷ []) ≡ Some (Missing (total + 1))
  first_obstacle-missing total names name new unspent none = rw (new, ne_eqb total MAX_FORMS unspent, none) refl

  -- one that does
  pub first_obstacle-there : (total : ℕ) (names : List FormName) (name : FormName) (p : Op)
      → is_among names name ≡ false → total ≢ MAX_FORMS
      → form f past name.of name.behind ≡ Some p → first_obstacle f past total names (name ∷ []) ≡ None
  first_obstacle-there total names name p new unspent there = rw (new, ne_eqb total MAX_FORMS unspent, there) refl
