-- What is told to a search, turn by turn.
use Rattle.std.proofs.Common.{ℕ, arith}
use Rattle.proof_search.specs.Counting.{HasAsked}

-- nothing was asked or told yet
pub none_asked : {budget asked told : ℕ} → HasAsked budget asked asked told told 0
none_asked =
    record { rises = omega arith; counted = (omega arith, λ small. omega arith); spent = λ some. omega (arith, some) }

-- what was asked first, and what was asked then
pub HasAsked-trans :
    {budget first_asked then_asked last_asked first_told then_told last_told besides : ℕ}
    → HasAsked budget first_asked then_asked first_told then_told 0
    → HasAsked budget then_asked last_asked then_told last_told besides
    → HasAsked budget first_asked last_asked first_told last_told besides
HasAsked-trans one two = record {
  rises = omega (arith, one.rises, two.rises);
  counted = (
    omega (arith, one.rises, two.rises, one.counted.0, two.counted.0),
    λ small. omega (arith, small, one.rises, two.rises, one.counted.0, two.counted.0, one.counted.1, two.counted.1),
  );
  spent = two.spent;
}
