-- What is answered is one.
use Rattle.std.proofs.Common.{◌≡◌, ℕ, List, [], ◌∷◌, sym, ◌∙◌, subst}
use Rattle.ot_model.specs.declared.op.Kind.{Kind}
use Rattle.fn_rules.specs.Functions.{Function}
use Rattle.ot_terms.specs.Goals.{GoalTree}
use Rattle.ot_audit.specs.declared.found.Sought.{Sought}
use Rattle.ot_audit.specs.declared.found.Sought.TheVariants as sought
use Rattle.ot_audit.specs.Findings.{IsSoughtIn}
use Rattle.ot_audit.specs.declared.back.Back.{Back}
use Rattle.ot_reverse.specs.Answers.{AreSearched, GoesOnUnlessFound}
use Rattle.ot_reverse.specs.Goals.{reversal_goal}

-- what the law of audits says
abbrev pub OneSought : Type 0
OneSought =
    (f : Function) (k l : Kind) (g : GoalTree) (budget : ℕ) (one other : Sought) → IsSoughtIn f k l g budget one
    → IsSoughtIn f k l g budget other → one ≡ other

goes_once :
    (f e : Function) (found : Sought) (Behind : Back → Type 0)
    → ((one other : Back) → Behind one → Behind other → one ≡ other)
    → (one other : Back) → GoesOnUnlessFound f e found Behind one
    → GoesOnUnlessFound f e found Behind other → one ≡ other
goes_once f e sought.Nowhere Behind once one other is so = once one other is so
goes_once f e (sought.At cells a b) Behind once one other is so = is ∙ sym so
goes_once f e sought.Spent Behind once one other is so = is ∙ sym so

pub pairs_once :
    OneSought → (f e : Function) (budget : ℕ) (pairs : List (Kind × Kind)) (one other : Back)
    → AreSearched f e budget pairs one
    → AreSearched f e budget pairs other → one ≡ other
pairs_once one_sought f e budget [] one other is so = is ∙ sym so
pairs_once one_sought f e budget (pair ∷ pairs) one other (found, is, goes) (another, so, also) =
    let same : another ≡ found =
    one_sought f pair.0 pair.1 (reversal_goal f e pair.0 pair.1) budget another found so is in
    goes_once f e found (AreSearched f e budget pairs) (pairs_once one_sought f e budget pairs) one other goes
    (subst (λ (x : Sought). GoesOnUnlessFound f e x (AreSearched f e budget pairs) other) same also)
