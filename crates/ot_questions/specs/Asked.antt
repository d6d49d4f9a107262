-- What is kept of what a plan asks: each question keeps the limits and compares like with like. It is so of
-- the questions about operations, whose names are of the right sorts.
use Rattle.std.specs.Prelude.{◌≡◌, ℕ, ◌≤◌, ◌<◌, ℤ, pos, true, Some}
use Rattle.diff_graph.specs.declared.lit.Lit.{Lit}
use Rattle.fn_rules.specs.declared.guard.Sort.{Sort}
use Rattle.fn_rules.specs.declared.guard.Sort.TheVariants.{Pos, Site, Char}
use Rattle.ask_core.specs.Plans.{Plan, Ask, Holds, Fails}
use Rattle.ask_core.specs.Askers.{is_fine_literal, longest_path}
use Rattle.ot_questions.specs.declared.place.Place.{Place}
use Rattle.ot_questions.specs.declared.place.SymOp.{SymOp}
use Rattle.ot_questions.specs.declared.why.Why.{Why}
use Rattle.ot_questions.specs.Nears.{IsNear}
use Rattle.ot_questions.specs.Places.{place, sym_at, sym_site, sym_char}
use Rattle.ot_questions.specs.Sorts.{sort_name, IsLike}

-- the name is one of so many
abbrev pub IsBelow : ℕ → ℕ → Type 0
IsBelow count x = x < count

-- an offset of a place: sites and characters have none
abbrev pub IsSteady : Sort → ℤ → Type 0
IsSteady Pos k = Unit {0}
IsSteady Site k = k ≡ pos 0
IsSteady Char k = k ≡ pos 0

-- a place of a sort, whose name may be used, with an offset of at most n either way
pub record PlaceStands (Free : ℕ → Type 0) (n : ℕ) (sort : Sort) (p : Place) : Type 0 where
  pub is : sort_name p.var ≡ sort
  pub free : Free p.var
  pub steady : IsSteady sort p.off
  pub near : IsNear n p.off

-- an operation whose parts are so
pub record OpStands (Free : ℕ → Type 0) (n : ℕ) (o : SymOp) : Type 0 where
  pub at : PlaceStands Free n Pos (sym_at o)
  pub site : (s : ℕ) → sym_site o ≡ Some s → PlaceStands Free n Site (place s (pos 0))
  pub ch : (c : ℕ) → sym_char o ≡ Some c → PlaceStands Free n Char (place c (pos 0))

-- what is shown of each question
pub record IsGood (count : ℕ) (l : Lit) : Type 0 where
  pub like : IsLike l
  pub fine : is_fine_literal count l ≡ true

-- each question of the plan is so
abbrev pub AllAsked : ℕ → Plan Why → Type 0
AllAsked count (Ask l on_yes on_no) = IsGood count l × AllAsked count on_yes × AllAsked count on_no
AllAsked count Holds = Unit {0}
AllAsked count (Fails why) = Unit {0}

-- and no path has more than m questions
pub record IsKept (count m : ℕ) (p : Plan Why) : Type 0 where
  pub asked : AllAsked count p
  pub short : longest_path p ≤ m
