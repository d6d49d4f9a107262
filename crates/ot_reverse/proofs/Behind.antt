-- What is found of the first of pairs, and of those behind it, is found of them all.
use Rattle.std.proofs.Common.{◌≡◌, ◌≢◌, ℕ, List, [], ◌∷◌, length, get_or, subst, ◌≤◌, arith}
use Rattle.std.proofs.lemmas.List.{take_rest}
use Rattle.ot_model.specs.declared.op.Kind.{Kind}
use Rattle.fn_rules.specs.Functions.{Function}
use Rattle.ot_audit.specs.declared.found.Sought.{Sought}
use Rattle.ot_audit.specs.declared.found.Sought.TheVariants as sought
use Rattle.ot_audit.proofs.Behind.{behind}
use Rattle.ot_audit.specs.declared.back.Back.{Back}
use Rattle.ot_audit.specs.declared.back.Back.TheVariants.{Yes}
use Rattle.ot_reverse.specs.Answers.{AreSearched, GoesOnUnlessFound}

module _ (f e : Function) (budget : ℕ) where
  yes_goes_on :
      (found : Sought) (Behind : Back → Type 0) (answer : Back)
      → GoesOnUnlessFound f e found (λ back. back ≡ Yes) Yes → Behind answer
      → GoesOnUnlessFound f e found Behind answer
  yes_goes_on sought.Nowhere Behind answer is rest = rest
  yes_goes_on (sought.At cells a b) Behind answer is rest = absurd (cc)
  yes_goes_on sought.Spent Behind answer is rest = absurd (cc)

  other_ends :
      (found : Sought) (Behind : Back → Type 0) (answer : Back)
      → GoesOnUnlessFound f e found (λ back. back ≡ Yes) answer
      → answer ≢ Yes → GoesOnUnlessFound f e found Behind answer
  other_ends sought.Nowhere Behind answer is other = absurd (other is)
  other_ends (sought.At cells a b) Behind answer is other = is
  other_ends sought.Spent Behind answer is other = is

  -- the first is taken back: it goes on behind it
  pub searched_behind :
      (pairs : List (Kind × Kind)) (d : Kind × Kind) (answer : Back) → 1 ≤ length pairs
      → AreSearched f e budget (((get_or pairs 0 d).0, (get_or pairs 0 d).1) ∷ []) Yes
      → AreSearched f e budget (behind pairs) answer
      → AreSearched f e budget pairs answer
  searched_behind [] d answer some first rest = absurd (omega arith)
  searched_behind (pair ∷ pairs) d answer some (found, is, goes) rest = (
    found,
    is,
    yes_goes_on found (AreSearched f e budget pairs) answer goes
        (subst (λ (l : List (Kind × Kind)). AreSearched f e budget l answer) (take_rest (pair ∷ pairs) 1) rest),
  )

  -- it is not, or has too many questions
  pub searched_first :
      (pairs : List (Kind × Kind)) (d : Kind × Kind) (answer : Back) → 1 ≤ length pairs → answer ≢ Yes
      → AreSearched f e budget (((get_or pairs 0 d).0, (get_or pairs 0 d).1) ∷ []) answer
      → AreSearched f e budget pairs answer
  searched_first [] d answer some other first = absurd (omega arith)
  searched_first (pair ∷ pairs) d answer some other (found, is, goes) =
      (found, is, other_ends found (AreSearched f e budget pairs) answer goes other)
