-- What is met where forms are sought and counted.
use Rattle.std.specs.Prelude.{◌≡◌, ℕ, ◌+◌, ◌-◌, cond, nat_eq, List, [], ◌∷◌, length, Option, Some, None, is_none}
use Rattle.fn_rules.specs.Functions.{Function}
use Rattle.ot_causal.specs.Past.{Past}
use Rattle.ot_causal.specs.Forms.{form}
use Rattle.ot_causal.specs.Counting.{FormName, is_among, sought, counted}
use Rattle.ot_session.specs.declared.limits.TheConstants.{MAX_FORMS}

-- why forms are sought no further
pub data Obstacle : Type 0 where
  -- a form does not exist; so many were counted, with it
  Missing : ℕ → Obstacle
  -- one more is to be counted, and as many were counted as are allowed
  Exhausted : Obstacle

-- what is met first where forms are sought in this order at a site that has counted some, while so many were counted
-- in all: a form that the site has not counted is counted, and then made
abbrev pub first_obstacle : Function → Past → ℕ → List FormName → List FormName → Option Obstacle
first_obstacle f past total names [] = None
first_obstacle f past total names (name ∷ more) =
    cond (is_among names name)
    (first_obstacle f past total names more)
    (cond (nat_eq total MAX_FORMS)
    (Some Exhausted)
    (cond (is_none (form f past name.of name.behind))
    (Some (Missing (total + 1)))
    (first_obstacle f past (total + 1) (name ∷ names) more)))

-- the count is spent where the form of an operation is sought at a site that has integrated the list
abbrev pub IsCountSpent : Function → Past → ℕ → List ℕ → ℕ → Type 0
IsCountSpent f past total seen o = first_obstacle f past total (counted past seen) (sought past o seen) ≡ Some Exhausted

-- how many of the forms that are sought for an operation a site that has integrated the list has not counted
abbrev pub uncounted : Past → List ℕ → ℕ → ℕ
uncounted past seen o = length (counted past (o ∷ seen)) - length (counted past seen)

-- how many are counted in all, where so many were before and so many more are sought, unless this is in the way
abbrev pub count_at : Option Obstacle → ℕ → ℕ → ℕ
count_at None total more = total + more
count_at (Some (Missing counted)) total more = counted
count_at (Some Exhausted) total more = MAX_FORMS

-- how many are counted in all once the form of an operation was sought at a site that has integrated the list
abbrev pub count_behind : Function → Past → ℕ → List ℕ → ℕ → ℕ
count_behind f past total seen o = count_at (first_obstacle f past total (counted past seen) (sought past o seen)) total
    (uncounted past seen o)
