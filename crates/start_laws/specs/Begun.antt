-- What is in memory of a start: how far the transformations have come, and the result that was delivered after that.
use Rattle.std.specs.Prelude.{◌≡◌, ◌≤◌, Option, Some, None, List, [], ◌∷◌, ◌++◌, length}
use Rattle.std.specs.List.{AllByRecursion}
use Rattle.ot_questions.specs.declared.place.SymOp.{SymOp}
use Rattle.ot_questions.specs.Nears.{IsNearOp}
use Rattle.ot_terms.specs.declared.goal.GoalProgress.{GoalProgress}
use Rattle.ot_terms.specs.Standing.{results_of}
use Rattle.start_laws.specs.Starts.{Start}

-- the results, with the one that was delivered
abbrev pub results_with : List SymOp → Option SymOp → List SymOp
results_with got None = got
results_with got (Some last) = got ++ last ∷ []

-- the start after the progress and the result that was delivered
abbrev pub start_after : GoalProgress → Option SymOp → Start
start_after progress last =
    record { ob = progress.ob; ops = progress.ops; got = results_with (results_of progress) last }

-- there are few results, at small offsets
pub record IsBegunProgress (progress : GoalProgress) (last : Option SymOp) : Type 0 where
  pub room : length progress.got ≡ 6
  pub few : length (start_after progress last).got ≤ 6
  pub count : progress.count ≤ 6
  pub near : AllByRecursion (IsNearOp 1000) (start_after progress last).got
