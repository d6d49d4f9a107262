-- The spelling of the numbers of a cycle.
use Rattle.std.specs.Prelude.{◌≡◌, ℕ, ◌<◌, ◌≤◌, false, List, [], ◌∷◌, ◌++◌, length}
use Rattle.std.specs.Fmt.{decimal}
use Rattle.std.specs.List.{AllByRecursion}
use Rattle.std.specs.Char.{is_ascii_digit}

-- a number of a cycle is below this, so that it has at most five digits
abbrev pub PICK_LIMIT : ℕ
PICK_LIMIT = 100000

-- further numbers of a cycle, each behind a comma
abbrev pub more_numbers_text : List ℕ → List ℕ
more_numbers_text [] = []
more_numbers_text (n ∷ ns) = 44 ∷ decimal n ++ more_numbers_text ns

-- the numbers of a cycle, with commas between them
abbrev pub numbers_text : List ℕ → List ℕ
numbers_text [] = []
numbers_text (n ∷ ns) = decimal n ++ more_numbers_text ns

-- each number has at most five digits
abbrev pub AreShort : List ℕ → Type 0
AreShort picks = AllByRecursion (λ n. n < PICK_LIMIT) picks

-- a cycle has 1 to 12 numbers of at most five digits
abbrev pub IsSpellableCycle : List ℕ → Type 0
IsSpellableCycle picks = (1 ≤ length picks) × (length picks ≤ 12) × AreShort picks

-- what may stand behind a number: no digit
abbrev pub IsBehindNumber : List ℕ → Type 0
IsBehindNumber [] = Unit {0}
IsBehindNumber (b ∷ bs) = is_ascii_digit b ≡ false
