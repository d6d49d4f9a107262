-- What a walk that writes may still ask, step by step.
use Rattle.std.proofs.Common.{◌≡◌, ℕ, arith}
use Rattle.proof_trees.specs.Starters.{HasCounted}
use Rattle.proof_writer.specs.declared.place.WriterStep.{WriterStep}
use Rattle.proof_writer.specs.Counting.{HasTaken, TakesNone, unasked_at}

module _ {was_left left was_told told : ℕ} where
  -- nothing was asked or told yet
  pub none_taken : left ≡ was_left → told ≡ was_told → HasTaken was_left left was_told told 0
  none_taken same_left same_told = record {
    falls = omega (arith, same_left);
    counted = (omega (arith, same_left, same_told), λ small. omega (arith, same_left, same_told));
    spent = λ some. omega (arith, some);
  }

  -- a step asked nothing, and nothing was told
  pub step_tells_none :
      HasCounted was_told 0 told → (step : WriterStep) → TakesNone step was_left left
      → HasTaken was_left left was_told told (unasked_at step)
  step_tells_none counted step takes = record {
    falls = omega (arith, takes.1);
    counted = (omega (arith, takes.0, takes.1, counted.0), λ small. omega (arith, small, takes.0, takes.1, counted.1));
    spent = λ some. omega (arith, some, takes.0);
  }

  -- a step asked nothing, and the count stayed
  pub step_takes_none :
      told ≡ was_told → (step : WriterStep) → TakesNone step was_left left
      → HasTaken was_left left was_told told (unasked_at step)
  step_takes_none same_told = step_tells_none (omega (arith, same_told), λ small. omega (arith, same_told))

-- what was asked first, and what was asked then
pub HasTaken-trans :
    {first_left then_left last_left first_told then_told last_told besides : ℕ}
    → HasTaken first_left then_left first_told then_told 0 → HasTaken then_left last_left then_told last_told besides
    → HasTaken first_left last_left first_told last_told besides
HasTaken-trans one two = record {
  falls = omega (arith, one.falls, two.falls);
  counted = (
    omega (arith, one.falls, two.falls, one.counted.0, two.counted.0),
    λ small. omega (arith, small, one.falls, two.falls, one.counted.0, two.counted.0, one.counted.1, two.counted.1),
  );
  spent = two.spent;
}
