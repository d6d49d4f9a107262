-- What is read from a table that stands for a list.
use Rattle.std.proofs.Common.{◌≡◌, ℕ, ◌<◌, ◌≤◌, ℤ, true, List, [], ◌∷◌, ◌++◌, length, Option, Some, None, option_map}
use Rattle.std.proofs.Common.{refl, ap, arith}
use Rattle.std.proofs.lemmas.Int.{ints}
use Rattle.diff_graph.specs.declared.lit.Lit.{Lit}
use Rattle.diff_tables.specs.declared.hop.Hop.{Hop}
use Rattle.diff_graph.specs.Limits.{AreSmall, IsNamed}
use Rattle.diff_tables.specs.Tables.{Numbered, literals_of, kept_of, StandsFor, IsAtMost}
use Rattle.diff_tables.specs.Steps.{keeps, AreModest, IsModest}
use Rattle.diff_bounds.specs.Kept.{AreBounds, IsTightest}

-- a table of few names keeps no offset far from 0
abbrev pub KeepsModest : Type 0
KeepsModest =
    (n : ℕ) (t : ℕ → ℕ → Option Hop) (ps : List Numbered)
    → StandsFor n t ps → AreSmall (literals_of ps) → n ≤ 256 → (x y : ℕ) → IsModest 1000000 (t x y)

module _ (n : ℕ) (rows : List (List (Option Hop))) (bounds : AreBounds n rows) where
  -- so do rows in arrays
  pub AreModest-from_bounds : KeepsModest → AreModest rows
  AreModest-from_bounds modest =
      modest n (kept_of rows) bounds.list bounds.stands bounds.small (omega (arith, bounds.few))

  -- there are as many rows as names
  pub IsNamed-from_bounds : (l : Lit) → IsNamed n l → IsNamed (length rows) l
  IsNamed-from_bounds l named = (omega (arith, named.0, bounds.len), omega (arith, named.1, bounds.len))

-- what is at most k is kept by the test
pub keeps-from_at_most : (o : Option Hop) (k : ℤ) → IsAtMost o k → keeps o k ≡ true
keeps-from_at_most None k most = absurd most
keeps-from_at_most (Some h) k most = grind (arith, ints)

-- what is kept is tightest
pub IsTightest-kept :
    (n : ℕ) (t : ℕ → ℕ → Option Hop) (ps : List Numbered) → StandsFor n t ps
    → (x y : ℕ) → x < n → y < n → (o : Option Hop) → t x y ≡ o
    → IsTightest (literals_of ps) x y (option_map (λ h. h.k) o)
IsTightest-kept n t ps stands x y xn yn None is_kept = λ k follows. rw is_kept at (stands.tight x y xn yn k).1 follows
IsTightest-kept n t ps stands x y xn yn (Some h) is_kept = (
  (stands.tight x y xn yn h.k).0 (rw is_kept (omega (arith, ints))),
  λ j follows. rw is_kept at (stands.tight x y xn yn j).1 follows,
)

-- numbers put behind a list, the first one alone
pub append_on : (xs : List ℕ) (x : ℕ) (ys : List ℕ) → (xs ++ x ∷ []) ++ ys ≡ xs ++ x ∷ ys
append_on [] x ys = refl
append_on (y ∷ xs) x ys = ap (λ (zs : List ℕ). y ∷ zs) (append_on xs x ys)
