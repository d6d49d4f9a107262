-- What was found of the cases of a block so far.
use Rattle.std.proofs.Common.{ℕ, ◌≡◌, ◌+◌, Option, List, [], ◌∷◌, ◌++◌, length, subst, arith}
use Rattle.ot_model.specs.declared.op.Kind.{Kind}
use Rattle.ot_model.specs.declared.op.Op.{Op}
use Rattle.fn_rules.specs.Functions.{Function}
use Rattle.ot_audit.specs.declared.target.Target.TheVariants.{Case}
use Rattle.ot_audit.specs.Answers.{IsReachedAs}
use Rattle.ot_audit.specs.Audits.{AreCases, found_of}

module _ (f : Function) (k l : Kind) (budget : ℕ) where
  more_from :
      (i j : ℕ) (xs : List (Option (Op × Op))) (x : Option (Op × Op)) → AreCases f k l budget i xs → j ≡ i + length xs
      → IsReachedAs f k l (Case j) budget (found_of x) → AreCases f k l budget i (xs ++ x ∷ [])
  more_from i j [] x is at reached =
      (subst (λ (n : ℕ). IsReachedAs f k l (Case n) budget (found_of x)) (omega (arith, at)) reached, tt)
  more_from i j (y ∷ ys) x is at reached = (is.0, more_from (i + 1) j ys x is.1 (omega (arith, at)) reached)

  -- with one more at its end
  pub one_case_more :
      (j : ℕ) (xs : List (Option (Op × Op))) (x : Option (Op × Op)) → length xs ≡ j → AreCases f k l budget 0 xs
      → IsReachedAs f k l (Case j) budget (found_of x) → AreCases f k l budget 0 (xs ++ x ∷ [])
  one_case_more j xs x count is reached = more_from 0 j xs x is (omega (arith, count)) reached
