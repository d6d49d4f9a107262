-- What is answered of a function and of one that is to reverse it: what the search of each ordered pair of kinds comes
-- to, and what that says of all documents.
use Rattle.std.specs.Prelude.{◌≡◌, ℕ, List, [], ◌∷◌}
use Rattle.ot_model.specs.declared.op.Kind.{Kind}
use Rattle.fn_rules.specs.Functions.{Function}
use Rattle.fn_rules.specs.Obligations.{declared_pairs}
use Rattle.fn_rules.specs.Properties.{AreConcurrent}
use Rattle.fn_rules.specs.Transformation.{transform_of}
use Rattle.ot_values.specs.Values.{live_cells}
use Rattle.ot_audit.specs.declared.found.Sought.{Sought}
use Rattle.ot_audit.specs.declared.found.Sought.TheVariants as sought
use Rattle.ot_audit.specs.Findings.{IsSoughtIn}
use Rattle.ot_audit.specs.declared.back.Back.{Back}
use Rattle.ot_audit.specs.declared.back.Back.TheVariants.{Yes, No, Spent}
use Rattle.ot_reverse.specs.Goals.{reversal_goal}
use Rattle.ot_reverse.specs.Reversal.{IsTakenBack, Reverses, back_of}

-- by what the search of a pair of kinds comes to: where it finds nothing, what is answered behind it counts
abbrev pub GoesOnUnlessFound : Function → Function → Sought → (Back → Type 0) → Back → Type 0
GoesOnUnlessFound f e sought.Nowhere Behind answer = Behind answer
GoesOnUnlessFound f e (sought.At cells a b) Behind answer =
    answer ≡ No (live_cells cells) a b (transform_of f a b) (back_of e b (transform_of f a b))
GoesOnUnlessFound f e sought.Spent Behind answer = answer ≡ Spent

-- what is answered of pairs of kinds, up to the first in which something is found, or which has more questions
abbrev pub AreSearched : Function → Function → ℕ → List (Kind × Kind) → Back → Type 0
AreSearched f e budget [] answer = answer ≡ Yes
AreSearched f e budget (pair ∷ pairs) answer =
    (found : Sought) × IsSoughtIn f pair.0 pair.1 (reversal_goal f e pair.0 pair.1) budget found
    × GoesOnUnlessFound f e found (AreSearched f e budget pairs) answer

-- the second function reverses the first; or it does not, and here is an instance: what becomes of the first operation,
-- and what comes back
abbrev pub TellsReversal : Function → Function → Back → Type 0
TellsReversal f e Yes = Reverses e f
TellsReversal f e (No doc a b there back) =
    AreConcurrent f doc (a ∷ b ∷ []) × (IsTakenBack f e a b → ⊥) × (there ≡ transform_of f a b)
    × (back ≡ back_of e b (transform_of f a b))
TellsReversal f e Spent = Unit {0}

-- what is answered of two functions by so many questions at the most for each ordered pair of kinds
pub record IsReversedAs (f e : Function) (budget : ℕ) (answer : Back) : Type 0 where
  pub searched : AreSearched f e budget (declared_pairs f.head) answer
  pub tells : TellsReversal f e answer
