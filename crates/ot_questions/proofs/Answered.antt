-- A plan begins by asking whether something is to be shown at all.
use Rattle.std.proofs.Common.{◌≡◌, ℕ, ℤ, pos, negsuc, ◌+ℤ◌, Bool, true, false, if◌then◌else◌, int_le, Option, None}
use Rattle.std.proofs.Common.{List, [], ◌∷◌, refl, ap, sym, ◌∙◌, subst, inl, inr, ◌⊎◌, Decides, arith}
use Rattle.std.specs.List.{AllByRecursion}
use Rattle.std.proofs.lemmas.Bool.{false≢true}
use Rattle.std.proofs.lemmas.Bool.Decides.{Decides-and}
use Rattle.std.proofs.lemmas.Int.{ints}
use Rattle.ot_model.specs.Effect.{IsEnabled}
use Rattle.fn_rules.specs.Functions.{Function}
use Rattle.fn_rules.specs.Transformation.{IsAllowed}
use Rattle.ot_questions.specs.declared.place.SymOp.{SymOp}
use Rattle.ot_questions.specs.declared.why.Why.{Why}
use Rattle.ot_questions.specs.Meaning.{op_at}
use Rattle.ot_questions.proofs.Tests.{Decides-int_le, plus-zero}
use Rattle.ot_questions.proofs.Values.{sym_allowed, enabled_to}
use Rattle.ot_questions.proofs.Operations.{IsCounted, enabled_to-true, IsEnabled-test, sym_allowed-true, IsAllowed-test}
use Rattle.ot_questions.proofs.Pairs.{all_enabled}

-- it is, and the end says what comes out; or nothing is to be shown, and the plan holds
abbrev pub Answered : Type 0 → (Option Why → Type 0) → Option Why → Type 0
Answered Posed Says end = (Posed × Says end) ⊎ ((Posed → ⊥) × (end ≡ None))

-- an operation is enabled on the document as its test says
Decides-enabled :
    (v : ℕ → ℤ) (n : ℕ) → v 1 ≡ pos n → (o : SymOp)
    → Decides (enabled_to (op_at v o) (v 1 +ℤ pos 0)) (IsEnabled (op_at v o) n)
Decides-enabled v n e o = (
  λ t. IsEnabled-test (op_at v o) n (subst (λ m. enabled_to (op_at v o) m ≡ true) (plus-zero (v 1) ∙ e) t),
  λ h. subst (λ m. enabled_to (op_at v o) m ≡ true) (sym (plus-zero (v 1) ∙ e)) (enabled_to-true (op_at v o) n h),
)

pub Decides-all_enabled :
    (v : ℕ → ℤ) (n : ℕ) → v 1 ≡ pos n → (os : List SymOp)
    → Decides (all_enabled v os) (AllByRecursion (λ o. IsEnabled (op_at v o) n) os)
Decides-all_enabled v n e [] = (λ t. tt, λ h. refl)
Decides-all_enabled v n e (o ∷ os) =
    Decides-and (enabled_to (op_at v o) (v 1 +ℤ pos 0)) (all_enabled v os) (Decides-enabled v n e o)
    (Decides-all_enabled v n e os)

-- two operations are allowed as their test says
pub Decides-allowed :
    (v : ℕ → ℤ) (f : Function) (a b : SymOp) → IsCounted v a → IsCounted v b
    → Decides (sym_allowed v f.head a b) (IsAllowed f (op_at v a) (op_at v b))
Decides-allowed v f a b ca cb = (IsAllowed-test v f a b ca cb, sym_allowed-true v f a b)

pub length_test : (v : ℕ → ℤ) (n : ℕ) → v 0 ≡ pos 0 → v 1 ≡ pos n → int_le (v 0 +ℤ pos 0) (v 1 +ℤ pos 0) ≡ true
length_test v n z e = (Decides-int_le (v 0 +ℤ pos 0) (v 1 +ℤ pos 0)).1 (omega (arith, ints))

pub int_cases : (x : ℤ) → ((n : ℕ) × (x ≡ pos n)) ⊎ ((n : ℕ) × (x ≡ negsuc n))
int_cases (pos n) = inl (n, refl)
int_cases (negsuc n) = inr (n, refl)

pub negative_length : (v : ℕ → ℤ) (n : ℕ) → v 0 ≡ pos 0 → v 1 ≡ negsuc n → int_le (v 0 +ℤ pos 0) (v 1 +ℤ pos 0) ≡ false
negative_length v n z e = ap (λ x. int_le (x +ℤ pos 0) (v 1 +ℤ pos 0)) z
    ∙ ap (λ y. int_le (pos 0) y) (plus-zero (v 1) ∙ e)

-- the tests in front of both plans: of the length, of what is enabled, and of what is allowed
pub begins_answered :
    (Posed : Type 0) (Says : Option Why → Type 0) (long enabled allowed : Bool) (end : Option Why) → long ≡ true
    → (enabled ≡ true → allowed ≡ true → Posed × Says end) → (Posed → (enabled ≡ true) × (allowed ≡ true))
    → Answered Posed Says (if long then (if enabled then (if allowed then end else None) else None) else None)
begins_answered Posed Says true true true end l shows tests = inl (shows refl refl)
begins_answered Posed Says true true false end l shows tests = inr (λ posed. false≢true (tests posed).1, refl)
begins_answered Posed Says true false allowed end l shows tests = inr (λ posed. false≢true (tests posed).0, refl)
begins_answered Posed Says false enabled allowed end l shows tests = absurd (false≢true l)
