-- Lines and their fronts.
use Rattle.std.proofs.Common.{◌≡◌, ℕ, Bool, true, List, ◌++◌, length, drop, ap, ◌∙◌, arith, nat_eq}
use Rattle.std.proofs.lemmas.List.{append-nil, drop_all}
use Rattle.std.proofs.lemmas.Slice.Eq.{starts_is}
use Rattle.std.proofs.lemmas.Bool.Decides.{Decides-eqb}
use Rattle.std.specs.List.{starts_with}

-- a line begins with a front, as the test says
pub record Begins (line front : List ℕ) (answer : Bool) : Type 0 where
  pub rest : answer ≡ true → line ≡ front ++ drop (length front) line
  pub only : (more : List ℕ) → line ≡ front ++ more → answer ≡ true

pub begins : (line front : List ℕ) (answer : Bool) → answer ≡ starts_with nat_eq line front → Begins line front answer
begins line front answer is = let told = starts_is Decides-eqb line front answer is in
    record { rest = told.0; only = told.1 }

-- a line that begins with a front of its length is the front
pub same_length : (line front : List ℕ) → line ≡ front ++ drop (length front) line
    → length line ≡ length front → line ≡ front
same_length line front is len =
    is ∙ ap (λ (l : List ℕ). front ++ l) (drop_all (length front) line (omega arith)) ∙ append-nil front
