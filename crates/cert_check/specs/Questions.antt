-- Questions at the first of some open places, and what taking them leaves.
use Rattle.std.specs.Prelude.{◌≡◌, ℕ, ◌<◌, List, length, Ok}
use Rattle.ask_core.specs.declared.tree.Tok.TheVariants as token
use Rattle.ask_core.specs.Plans.{Plan, Ask}
use Rattle.ask_core.specs.Trees.{Branch}
use Rattle.ask_core.specs.Paths.{OpenPlace, first_plan}
use Rattle.cert_check.specs.declared.question.Question.{Question}
use Rattle.cert_check.specs.Steps.{after}

-- the plan at the first place asks the question, and goes on as its two nodes say, which are own ones
pub record IsAskedFirst {N W : Type 0} (is_own : N → Type 0) (plan : N → Plan W) (q : Question N)
    (places : List (OpenPlace N)) : Type 0 where
  pub some : 0 < length places
  pub own_yes : is_own q.yes
  pub own_no : is_own q.no
  pub asks : first_plan plan places ≡ Ask q.lit (plan q.yes) (plan q.no)

-- `?` is taken at the old branches, then the cycle that the picks name, and they leave the new branches
abbrev pub SkipsTo : {W : Type 0} → List ℕ → List (Branch W) → List (Branch W) → Type 0
SkipsTo {W} picks old new =
    (next : List (Branch W)) × (after token.Ask old ≡ Ok next) × (after (token.Cycle picks) next ≡ Ok new)
