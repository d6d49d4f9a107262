-- Lists of numbers of operations, the newest member first, and the sets that they hold.
use Rattle.std.specs.Prelude.{◌≡◌, ℕ, Bool, false, cond, ◌&&◌, ◌||◌, nat_eq, List, [], ◌∷◌}
use Rattle.std.specs.List.{list_all}

-- the number is a member of the list
abbrev pub has : List ℕ → ℕ → Bool
has [] x = false
has (y ∷ l) x = nat_eq x y || has l x

-- the list without the newest member that is this number
abbrev pub without : ℕ → List ℕ → List ℕ
without x [] = []
without x (y ∷ l) = cond (nat_eq x y) l (y ∷ without x l)

-- the lists have the same members
pub record HaveOneSet (l m : List ℕ) : Type 0 where
  pub at : (x : ℕ) → has l x ≡ has m x

-- the same as a test
abbrev pub have_one_set : List ℕ → List ℕ → Bool
have_one_set l m = list_all (has m) l && list_all (has l) m

-- the list has some members of the other one, in their order
pub data IsSublist : List ℕ → List ℕ → Type 0 where
  none : IsSublist [] []
  keep : (x : ℕ) (l m : List ℕ) → IsSublist l m → IsSublist (x ∷ l) (x ∷ m)
  skip : (x : ℕ) (l m : List ℕ) → IsSublist l m → IsSublist l (x ∷ m)
