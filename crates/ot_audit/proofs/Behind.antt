-- What holds of the first of blocks and of those behind it holds of them all.
use Rattle.std.proofs.Common.{◌≡◌, ℕ, true, List, [], ◌∷◌, ◌++◌, length, get_or, take, drop, ap, sym, subst, ◌∙◌, ◌-◌}
use Rattle.std.proofs.Common.{◌≤◌, arith, append_assoc, inr}
use Rattle.std.specs.List.{AllByRecursion}
use Rattle.std.proofs.lemmas.List.{take_rest}
use Rattle.ot_model.specs.declared.op.Kind.{Kind}
use Rattle.fn_rules.specs.declared.function.Head.{Head}
use Rattle.fn_rules.specs.Functions.{Function, is_declared_of}
use Rattle.ot_audit.specs.declared.audits.BlockAudit.{BlockAudit}
use Rattle.ot_audit.specs.declared.audits.Same.{Same}
use Rattle.ot_audit.specs.declared.found.Agree.{Agree}
use Rattle.ot_audit.specs.Answers.{IsAgreedAs}
use Rattle.ot_audit.specs.Audits.{AreAudits, AreCompared, GoesOnWhereSame, HasLong, IsBlockAudit}

abbrev pub behind : List (Kind × Kind) → List (Kind × Kind)
behind names = take (length names - 1) (drop 1 names)

pub first_declared :
    (head : Head) (names : List (Kind × Kind)) (d : Kind × Kind)
    → AllByRecursion (λ name. is_declared_of head name ≡ true) names
    → 1 ≤ length names → is_declared_of head (get_or names 0 d) ≡ true
first_declared head [] d declared some = absurd (omega arith)
first_declared head (name ∷ names) d declared some = declared.0

pub behind_declared :
    (head : Head) (names : List (Kind × Kind)) → AllByRecursion (λ name. is_declared_of head name ≡ true) names
    → 1 ≤ length names → AllByRecursion (λ name. is_declared_of head name ≡ true) (behind names)
behind_declared head [] declared some = absurd (omega arith)
behind_declared head (name ∷ names) declared some =
    subst (λ (l : List (Kind × Kind)). AllByRecursion (λ name. is_declared_of head name ≡ true) l)
    (sym (take_rest (name ∷ names) 1)) declared.1

-- the audits of blocks, one behind another
abbrev pub AuditsBehind : Function → ℕ → List (Kind × Kind) → List BlockAudit → List BlockAudit → Type 0
AuditsBehind f budget names old new = (xs : List BlockAudit) × (new ≡ old ++ xs) × AreAudits f budget names xs

pub audits_from_first :
    (f : Function) (budget : ℕ) (names : List (Kind × Kind)) (d : Kind × Kind) (x : BlockAudit)
    (old pushed new : List BlockAudit)
    → 1 ≤ length names → IsBlockAudit f budget ((get_or names 0 d).0, (get_or names 0 d).1) x → pushed ≡ old ++ x ∷ []
    → AuditsBehind f budget (behind names) pushed new → AuditsBehind f budget names old new
audits_from_first f budget [] d x old pushed new some is more those = absurd (omega arith)
audits_from_first f budget (name ∷ names) d x old pushed new some is more (xs, rest, are) = (
  x ∷ xs,
  rest ∙ ap (λ (l : List BlockAudit). l ++ xs) more ∙ append_assoc old (x ∷ []) xs,
  (is, subst (λ (l : List (Kind × Kind)). AreAudits f budget l xs) (take_rest (name ∷ names) 1) are),
)

pub long_behind :
    (f : Function) (budget : ℕ) (names : List (Kind × Kind)) → 1 ≤ length names → HasLong f budget (behind names)
    → HasLong f budget names
long_behind f budget [] some is = absurd (omega arith)
long_behind f budget (name ∷ names) some is =
    inr (subst (λ (l : List (Kind × Kind)). HasLong f budget l) (take_rest (name ∷ names) 1) is)

-- by what two functions are on the first block
pub compared_from_first :
    (f g : Function) (budget : ℕ) (names : List (Kind × Kind)) (d : Kind × Kind) (same : Same) → 1 ≤ length names
    → {x agree : Agree} → x ≡ agree → IsAgreedAs f g (get_or names 0 d).0 (get_or names 0 d).1 budget x
    → GoesOnWhereSame ((get_or names 0 d).0, (get_or names 0 d).1) agree (AreCompared f g budget (behind names)) same
    → AreCompared f g budget names same
compared_from_first f g budget [] d same some alike is goes = absurd (omega arith)
compared_from_first f g budget (name ∷ names) d same some {agree = agree} alike is goes = (
  agree,
  subst (λ (y : Agree). IsAgreedAs f g name.0 name.1 budget y) alike is,
  subst (λ (l : List (Kind × Kind)). GoesOnWhereSame name agree (AreCompared f g budget l) same)
      (take_rest (name ∷ names) 1) goes,
)
