-- What all kinds pass, and pairs of kinds.
use Rattle.std.proofs.Common.{◌≡◌, Bool, true, false, not, ◌&&◌, ◌||◌, List, [], ◌∷◌, refl, ap, sym, subst, inl, inr}
use Rattle.std.proofs.Common.{◌∙◌}
use Rattle.std.specs.List.{list_all, list_any}
use Rattle.std.proofs.lemmas.Bool.{false≢true, and_from, and_parts, or_cases, cases_Bool, not-true}
use Rattle.ot_model.specs.declared.op.Kind.{Kind}
use Rattle.ot_model.specs.declared.op.Kind.TheVariants.{Ins, Del, Upd}
use Rattle.ot_model.specs.declared.op.TheConstants.{KINDS}
use Rattle.ot_model.specs.Kinds.{is_same_kind, kind_pairs, each_pair}
use Rattle.ot_model.proofs.KindRows.{Contains-kind, Contains-pair}
use Rattle.fn_rules.proofs.LimitsKept.{each_true}

pub list_all_from : {X : Type 0} (p : X → Bool) (xs : List X) → ((x : X) → p x ≡ true) → list_all p xs ≡ true
list_all_from p [] all = refl
list_all_from p (x ∷ xs) all = and_from (p x) (list_all p xs) (all x) (list_all_from p xs all)

-- what each pair of kinds passes
pub each_pair_from : (p : Kind → Kind → Bool) → ((k l : Kind) → p k l ≡ true) → each_pair p ≡ true
each_pair_from p all = list_all_from (λ k. list_all (p k) KINDS) KINDS (λ k. list_all_from (p k) KINDS (all k))

list_any_from : {X : Type 0} (p : X → Bool) (xs : List X) → ((x : X) → p x ≡ false) → list_any p xs ≡ false
list_any_from p [] none = refl
list_any_from p (x ∷ xs) none = ap (λ b. b || list_any p xs) (none x) ∙ list_any_from p xs none

-- a test that no kind passes
pub no_kind_from : (p : Kind → Bool) → ((k : Kind) → p k ≡ false) → list_any p KINDS ≡ false
no_kind_from p none = list_any_from p KINDS none

-- some element passes the test
pub list_any_by : {X : Type 0} (P : Type 0) (p : X → Bool) (xs : List X) → list_any p xs ≡ true
    → ((x : X) → p x ≡ true → P) → P
list_any_by P p [] some goes = absurd (cc)
list_any_by P p (x ∷ xs) some goes =
    elim (or_cases (p x) (list_any p xs) some) [ inl here ↦ goes x here | inr later ↦ list_any_by P p xs later goes ]

none_passes : {X : Type 0} (p : X → Bool) (xs : List X) → list_any p xs ≡ false → list_all (λ x. not (p x)) xs ≡ true
none_passes p [] none = refl
none_passes p (x ∷ xs) none =
    elim (cases_Bool (p x)) [
      | inl passes ↦ absurd (false≢true (sym none ∙ ap (λ b. b || list_any p xs) passes))
      | inr fails ↦ and_from (not (p x)) _ (ap (λ b. not b) fails)
          (none_passes p xs (sym (ap (λ b. b || list_any p xs) fails) ∙ none))
    ]

-- what all kinds pass, each of them passes
pub each_kind_true : (p : Kind → Bool) (k : Kind) → list_all p KINDS ≡ true → p k ≡ true
each_kind_true p k all =
    let listed = Contains-kind k in
    subst (λ (x : Kind). p x ≡ true) listed.2 (each_true p KINDS listed.0 k all listed.1)

-- what all listed pairs pass, each pair passes
pub listed_pair_true : (p : Kind → Kind → Bool) (k l : Kind)
    → list_all (λ x. p x.0 x.1) kind_pairs ≡ true → p k l ≡ true
listed_pair_true p k l all =
    let listed = Contains-pair k l in
    subst (λ (x : Kind × Kind). p x.0 x.1 ≡ true) listed.2
    (each_true (λ x. p x.0 x.1) kind_pairs listed.0 (k, l) all listed.1)

-- where no kind passes the test, none does
pub kind_fails : (p : Kind → Bool) (k : Kind) → list_any p KINDS ≡ false → p k ≡ false
kind_fails p k none = not-true (p k) (each_kind_true (λ x. not (p x)) k (none_passes p KINDS none))

-- kinds that the test takes for one are one
pub same_kind : (P : Kind → Type 0) (k l : Kind) → is_same_kind k l ≡ true → P k → P l
same_kind P Ins Ins same h = h
same_kind P Del Del same h = h
same_kind P Upd Upd same h = h
same_kind P k l same h = absurd (cc)

pub is_same_kind-itself : (k : Kind) → is_same_kind k k ≡ true
is_same_kind-itself Ins = refl
is_same_kind-itself Del = refl
is_same_kind-itself Upd = refl

-- what is so of a pair of kinds is so of the pair that the tests take for it
pub same_pair : (P : Kind → Kind → Type 0) (k l i j : Kind)
    → (is_same_kind k i && is_same_kind l j) ≡ true → P k l → P i j
same_pair P k l i j same h =
    let parts = and_parts (is_same_kind k i) (is_same_kind l j) same in
    same_kind (λ x. P x j) k i parts.0 (same_kind (λ y. P k y) l j parts.1 h)

pub is_own_pair : (k l : Kind) → (is_same_kind k k && is_same_kind l l) ≡ true
is_own_pair k l = and_from (is_same_kind k k) (is_same_kind l l) (is_same_kind-itself k) (is_same_kind-itself l)
