-- A proof shows that all plans of its level hold.
use Rattle.std.proofs.Common.{◌≡◌, ℕ, true, IsTrue, List, [], ◌∷◌, Ok, subst}
use Rattle.std.specs.List.{AllByRecursion, list_all}
use Rattle.fn_rules.specs.declared.function.Level.{Level}
use Rattle.fn_rules.specs.declared.function.ObName.{ObName}
use Rattle.fn_rules.specs.Functions.{Function}
use Rattle.fn_rules.specs.Obligations.{is_obligation, obligations_of}
use Rattle.ask_core.specs.Plans.{Plan, value}
use Rattle.proof_trees.specs.Starts.{unmarked, Comparison, MarkedPlan, IsMarkedBy, IsLawful}
use Rattle.proof_trees.specs.Truth.{HoldsUnder}
use Rattle.ot_questions.specs.declared.why.Why.{Why}
use Rattle.ot_questions.specs.Obligation.{plan_of}
use Rattle.ot_questions.specs.Meaning.{AllHold}
use Rattle.start_laws.specs.Starts.{Start, compare_starts, meaning}
use Rattle.start_laws.specs.Marking.{marked_plan}
use Rattle.proof_sections.specs.Judgement.{proof_judged}
use Rattle.ot_confirm.specs.Judgement.{judgement_of}
use Rattle.ot_confirm.proofs.Listed.{all_parts}

module _ (f : Function) (same : (ob : ObName) → unmarked (marked_plan f ob) ≡ plan_of f ob) where
  are_marked :
      ((ob : ObName) → IsTrue (is_obligation f.head ob) → IsMarkedBy (meaning f) (marked_plan f ob))
      → (obs : List ObName)
      → list_all (is_obligation f.head) obs ≡ true
      → AllByRecursion (λ ob. IsMarkedBy (meaning f) (marked_plan f ob)) obs
  are_marked marked [] listed = tt
  are_marked marked (ob ∷ obs) listed =
      let both = all_parts (is_obligation f.head) ob obs listed in
      (marked ob both.0, are_marked marked obs both.1)

  all_hold : (obs : List ObName)
      → AllByRecursion (λ ob. HoldsUnder [] (unmarked (marked_plan f ob))) obs → AllHold f obs
  all_hold [] hold = tt
  all_hold (ob ∷ obs) hold =
      (λ v zero. subst (λ (p : Plan Why). value p v ≡ true) (same ob) (hold.0 v tt), all_hold obs hold.1)

  -- where bytes are judged to be a proof at a level, all plans of the level hold
  pub proof_shows :
      ((compare : Comparison Start) (meant : Start → Plan Why) (plan : ObName → MarkedPlan Start Why) (names : Level
      → List ObName) (bytes : List ℕ) (level : Level) → IsLawful compare meant
      → AllByRecursion (λ name. IsMarkedBy meant (plan name)) (names level)
      → proof_judged compare plan names bytes ≡ Ok level
      → AllByRecursion (λ name. HoldsUnder [] (unmarked (plan name))) (names level))
      → IsLawful compare_starts (meaning f)
      → ((ob : ObName) → IsTrue (is_obligation f.head ob) → IsMarkedBy (meaning f) (marked_plan f ob))
      → (level : Level) → list_all (is_obligation f.head) (obligations_of f.head level) ≡ true
      → (bytes : List ℕ) → judgement_of f bytes ≡ Ok level → AllHold f (obligations_of f.head level)
  unfolding judgement_of
  proof_shows law lawful marked level listed bytes judged =
      all_hold (obligations_of f.head level)
      (law compare_starts (meaning f) (marked_plan f) (obligations_of f.head) bytes level lawful
      (are_marked marked (obligations_of f.head level) listed) judged)
