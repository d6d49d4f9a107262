-- What was made in a session, and what was known where it was made.
use Rattle.std.specs.Prelude.{◌≡◌, ◌≢◌, ℕ, suc, ◌<◌, ◌≤◌, ◌⊎◌, Bool, true, false, List, [], ◌∷◌, length, unwrap_or}
use Rattle.ot_model.specs.declared.op.Op.{Op}
use Rattle.ot_model.specs.Operations.{site_of}
use Rattle.ot_causal.specs.Members.{has, without}

-- the operations made so far, numbered from 0: of numbers from `count` on nothing is said
pub record Past : Type 0 where
  pub count : ℕ
  pub operation : ℕ → Op
  -- the first had been integrated at the site of the second when the second was made there
  pub before : ℕ → ℕ → Bool

-- the site that made the operation
abbrev pub maker : Past → ℕ → ℕ
maker past o = unwrap_or (site_of (past.operation o)) 0

-- the operation was made, is none of the list, and all that are before it are
pub record IsNext (past : Past) (l : List ℕ) (o : ℕ) : Type 0 where
  pub made : o < past.count
  pub new : has l o ≡ false
  pub knows : (x : ℕ) → past.before x o ≡ true → has l x ≡ true

-- each member was made, is none of the older members, and stands behind all that are before it, which are older
-- members
abbrev pub IsClosed : Past → List ℕ → Type 0
IsClosed past [] = Unit {0}
IsClosed past (o ∷ l) = IsNext past l o × IsClosed past l

-- the list is closed, lacks the operation and holds all that are before it
abbrev pub IsReady : Past → ℕ → List ℕ → Type 0
IsReady past o l = IsClosed past (o ∷ l)

-- each member of the list was made
pub record AreMade (past : Past) (l : List ℕ) : Type 0 where
  pub at : (o : ℕ) → has l o ≡ true → o < past.count

-- being before is an order of the operations made, in which those of each site stand one behind the other
pub record IsOrderly (past : Past) : Type 0 where
  pub itself : (o : ℕ) → o < past.count → past.before o o ≡ false
  pub through : (x y o : ℕ) → o < past.count → past.before x y ≡ true → past.before y o ≡ true → past.before x o ≡ true
  pub ordered : (x y : ℕ) → x < past.count → y < past.count → maker past x ≡ maker past y → x ≢ y
      → (past.before x y ≡ true) ⊎ (past.before y x ≡ true)

-- the operation is before no member of the list
pub record IsFree (past : Past) (x : ℕ) (l : List ℕ) : Type 0 where
  pub at : (o : ℕ) → has l o ≡ true → past.before x o ≡ false

-- a member that is neither before the operation nor behind it, and before no member: the list without it is
-- ready for both
pub record IsOpening (past : Past) (o : ℕ) (l : List ℕ) (x : ℕ) : Type 0 where
  pub made : x < past.count
  pub member : has l x ≡ true
  pub differ : x ≢ o
  pub apart : past.before x o ≡ false
  pub apart_back : past.before o x ≡ false
  pub free : IsFree past x l
  pub closed : IsClosed past (without x l)
  pub next : IsNext past (without x l) o
  pub next_member : IsNext past (without x l) x
  pub shorter : length l ≡ suc (length (without x l))

-- a later past: what was made stays as it was, and has the same operations before it
pub record Extends (old new : Past) : Type 0 where
  pub more : old.count ≤ new.count
  pub operations : (o : ℕ) → o < old.count → new.operation o ≡ old.operation o
  pub befores : (x o : ℕ) → o < old.count → new.before x o ≡ old.before x o
