-- The sort of what a name stands for, and questions that compare like with like.
use Rattle.std.specs.Prelude.{◌≡◌, ◌⊎◌, ℕ, ℤ, pos, negsuc, ◌≤ℤ◌, Bool, false, ◌||◌, IsTrue, if◌then◌else◌, nat_eq, List}
use Rattle.std.specs.Prelude.{[], ◌∷◌}
use Rattle.std.specs.List.{AllByRecursion}
use Rattle.diff_graph.specs.declared.lit.Lit.{Lit}
use Rattle.fn_rules.specs.declared.guard.Sort.{Sort}
use Rattle.fn_rules.specs.declared.guard.Sort.TheVariants.{Pos, Site, Char}
use Rattle.ask_core.specs.Plans.{Plan, Ask, Holds, Fails}

-- the sort of what a name stands for: zero, the length and the index are positions too
abbrev pub sort_name : ℕ → Sort
sort_name x =
    if nat_eq x 4 || nat_eq x 7 || nat_eq x 10 then Site
    else (if nat_eq x 5 || nat_eq x 8 || nat_eq x 11 then Char else Pos)

-- an offset between two names of a sort: of sites and characters the first is at most the second, or less
abbrev pub IsStill : Sort → ℤ → Type 0
IsStill Pos k = Unit {0}
IsStill Site k = (k ≡ pos 0) ⊎ (k ≡ negsuc 0)
IsStill Char k = (k ≡ pos 0) ⊎ (k ≡ negsuc 0)

-- the literal compares like with like: two names of one sort, and sites and characters by their order alone
pub record IsLike (l : Lit) : Type 0 where
  pub sorts : sort_name l.x ≡ sort_name l.y
  pub still : IsStill (sort_name l.x) l.k

-- each literal of the list does so
abbrev pub AreLike : List Lit → Type 0
AreLike w = AllByRecursion (λ l. IsLike l) w

-- each question of the plan does so
abbrev pub AsksLike : {W : Type 0} → Plan W → Type 0
AsksLike (Ask l on_yes on_no) = IsLike l × AsksLike on_yes × AsksLike on_no
AsksLike Holds = Unit {0}
AsksLike (Fails why) = Unit {0}

-- one of the literals is about the name
abbrev pub speaks_of : List Lit → ℕ → Bool
speaks_of [] x = false
speaks_of (l ∷ w) x = nat_eq l.x x || nat_eq l.y x || speaks_of w x

-- no position that the literals are about is negative
abbrev pub HasNoNegativePosition : List Lit → (ℕ → ℤ) → Type 0
HasNoNegativePosition w v = (x : ℕ) → sort_name x ≡ Pos → IsTrue (speaks_of w x) → pos 0 ≤ℤ v x
