-- Insertions, changes of one cell and deletions of one, as recursions on the document.
use Rattle.std.proofs.Common.{◌≡◌, ℕ, zero, suc, ◌+◌, ◌<◌, ◌≤◌, List, [], ◌∷◌, length, take, drop, map, refl, ap, ◌∙◌}
use Rattle.std.proofs.Common.{arith}
use Rattle.ot_model.specs.declared.cell.Cell.{Cell}
use Rattle.ot_model.specs.Cells.{with_cells}

-- a document with a cell more at a place
abbrev pub put : ℕ → Cell → List Cell → List Cell
put zero x d = x ∷ d
put (suc n) x [] = x ∷ []
put (suc n) x (y ∷ d) = y ∷ put n x d

-- a document with the cell at a place changed
abbrev pub alter : (Cell → Cell) → ℕ → List Cell → List Cell
alter g n [] = []
alter g zero (y ∷ d) = g y ∷ d
alter g (suc n) (y ∷ d) = y ∷ alter g n d

-- the edit behind the first cell
with_cells-suc : (n count : ℕ) (cells d : List Cell) (y : Cell)
    → with_cells (suc n) count cells (y ∷ d) ≡ y ∷ with_cells n count cells d
with_cells-suc n count cells d y = let next : suc n + count ≡ suc (n + count) = omega arith in rw next refl

-- the edit that is an insertion
pub with_cells-put : (n : ℕ) (x : Cell) (d : List Cell) → with_cells n 0 (x ∷ []) d ≡ put n x d
with_cells-put zero x d = refl
with_cells-put (suc n) x [] = let next : suc n + 0 ≡ suc n = omega arith in rw next refl
with_cells-put (suc n) x (y ∷ d) = with_cells-suc n 0 (x ∷ []) d y ∙ ap (λ l. y ∷ l) (with_cells-put n x d)

-- the edit that changes a cell
pub with_cells-alter : (g : Cell → Cell) (n : ℕ) (d : List Cell)
    → with_cells n 1 (map g (take 1 (drop n d))) d ≡ alter g n d
with_cells-alter g zero [] = refl
with_cells-alter g (suc n) [] = let next : suc n + 1 ≡ suc (suc n) = omega arith in rw next refl
with_cells-alter g zero (y ∷ d) = refl
with_cells-alter g (suc n) (y ∷ d) =
    with_cells-suc n 1 (map g (take 1 (drop n d))) d y ∙ ap (λ l. y ∷ l) (with_cells-alter g n d)

-- an insertion makes the document longer by one cell
pub length-put : (n : ℕ) (x : Cell) (d : List Cell) → length (put n x d) ≡ suc (length d)
length-put zero x d = refl
length-put (suc n) x [] = refl
length-put (suc n) x (y ∷ d) = ap suc (length-put n x d)

-- a change leaves it as long
pub length-alter : (g : Cell → Cell) (n : ℕ) (d : List Cell) → length (alter g n d) ≡ length d
length-alter g n [] = refl
length-alter g zero (y ∷ d) = refl
length-alter g (suc n) (y ∷ d) = ap suc (length-alter g n d)

-- two insertions, the one at the smaller place first or last
pub put-put : (m n : ℕ) (x y : Cell) (d : List Cell) → m ≤ n → n ≤ length d
    → put (suc n) y (put m x d) ≡ put m x (put n y d)
put-put zero n x y d order fits = refl
put-put (suc m) zero x y d order fits = absurd (omega arith)
put-put (suc m) (suc n) x y [] order fits = absurd (omega arith)
put-put (suc m) (suc n) x y (z ∷ d) order fits = ap (λ l. z ∷ l) (put-put m n x y d (omega arith) (omega arith))

-- a change in front of an insertion
pub alter-put : (g : Cell → Cell) (m n : ℕ) (x : Cell) (d : List Cell) → n < m → m ≤ length d
    → alter g n (put m x d) ≡ put m x (alter g n d)
alter-put g zero n x d order fits = absurd (omega arith)
alter-put g (suc m) n x [] order fits = absurd (omega arith)
alter-put g (suc m) zero x (z ∷ d) order fits = refl
alter-put g (suc m) (suc n) x (z ∷ d) order fits = ap (λ l. z ∷ l) (alter-put g m n x d (omega arith) (omega arith))

-- a change at the place of an insertion or behind it
pub alter-put_behind : (g : Cell → Cell) (m n : ℕ) (x : Cell) (d : List Cell) → m ≤ n
    → alter g (suc n) (put m x d) ≡ put m x (alter g n d)
alter-put_behind g zero n x d order = refl
alter-put_behind g (suc m) zero x d order = absurd (omega arith)
alter-put_behind g (suc m) (suc n) x [] order = refl
alter-put_behind g (suc m) (suc n) x (z ∷ d) order = ap (λ l. z ∷ l) (alter-put_behind g m n x d (omega arith))

-- two changes, which commute where they are of one cell
pub alter-alter : (g h : Cell → Cell) (m n : ℕ) (d : List Cell) → (m ≡ n → (y : Cell) → g (h y) ≡ h (g y))
    → alter g m (alter h n d) ≡ alter h n (alter g m d)
alter-alter g h m n [] commute = refl
alter-alter g h zero zero (z ∷ d) commute = ap (λ y. y ∷ d) (commute refl z)
alter-alter g h zero (suc n) (z ∷ d) commute = refl
alter-alter g h (suc m) zero (z ∷ d) commute = refl
alter-alter g h (suc m) (suc n) (z ∷ d) commute =
    ap (λ l. z ∷ l) (alter-alter g h m n d (λ same. commute (ap suc same)))

-- of two changes of one cell the second one leaves nothing of the first
pub alter-over : (g h : Cell → Cell) (n : ℕ) (d : List Cell) → ((y : Cell) → g (h y) ≡ g y)
    → alter g n (alter h n d) ≡ alter g n d
alter-over g h n [] over = refl
alter-over g h zero (z ∷ d) over = ap (λ y. y ∷ d) (over z)
alter-over g h (suc n) (z ∷ d) over = ap (λ l. z ∷ l) (alter-over g h n d over)

-- a document without the cell at a place
abbrev pub remove : ℕ → List Cell → List Cell
remove n [] = []
remove zero (y ∷ d) = d
remove (suc n) (y ∷ d) = y ∷ remove n d

-- the edit that takes a cell out
pub with_cells-remove : (n : ℕ) (d : List Cell) → with_cells n 1 [] d ≡ remove n d
with_cells-remove zero [] = refl
with_cells-remove (suc n) [] = let next : suc n + 1 ≡ suc (suc n) = omega arith in rw next refl
with_cells-remove zero (y ∷ d) = refl
with_cells-remove (suc n) (y ∷ d) = with_cells-suc n 1 [] d y ∙ ap (λ l. y ∷ l) (with_cells-remove n d)

-- which makes the document shorter by one
pub length-remove : (n : ℕ) (d : List Cell) → n < length d → suc (length (remove n d)) ≡ length d
length-remove n [] there = absurd (omega arith)
length-remove zero (y ∷ d) there = refl
length-remove (suc n) (y ∷ d) there = ap suc (length-remove n d (omega arith))

-- a deletion at the place of an insertion or behind it
pub remove-put_behind : (m n : ℕ) (x : Cell) (d : List Cell) → m ≤ n → remove (suc n) (put m x d) ≡ put m x (remove n d)
remove-put_behind zero n x d order = refl
remove-put_behind (suc m) zero x d order = absurd (omega arith)
remove-put_behind (suc m) (suc n) x [] order = refl
remove-put_behind (suc m) (suc n) x (z ∷ d) order = ap (λ l. z ∷ l) (remove-put_behind m n x d (omega arith))

-- a deletion in front of an insertion
pub remove-put : (m n : ℕ) (x : Cell) (d : List Cell) → n ≤ m → n < length d
    → remove n (put (suc m) x d) ≡ put m x (remove n d)
remove-put m n x [] order there = absurd (omega arith)
remove-put m zero x (z ∷ d) order there = refl
remove-put zero (suc n) x (z ∷ d) order there = absurd (omega arith)
remove-put (suc m) (suc n) x (z ∷ d) order there = ap (λ l. z ∷ l) (remove-put m n x d (omega arith) (omega arith))

-- two deletions
pub remove-remove : (m n : ℕ) (d : List Cell) → m ≤ n → remove n (remove m d) ≡ remove m (remove (suc n) d)
remove-remove m n [] order = refl
remove-remove zero n (z ∷ d) order = refl
remove-remove (suc m) zero (z ∷ d) order = absurd (omega arith)
remove-remove (suc m) (suc n) (z ∷ d) order = ap (λ l. z ∷ l) (remove-remove m n d (omega arith))

-- a change of the cell that is deleted
pub remove-alter : (g : Cell → Cell) (n : ℕ) (d : List Cell) → remove n (alter g n d) ≡ remove n d
remove-alter g n [] = refl
remove-alter g zero (z ∷ d) = refl
remove-alter g (suc n) (z ∷ d) = ap (λ l. z ∷ l) (remove-alter g n d)

-- a change of a cell behind it
pub alter-remove_behind : (g : Cell → Cell) (m n : ℕ) (d : List Cell) → m ≤ n
    → alter g n (remove m d) ≡ remove m (alter g (suc n) d)
alter-remove_behind g m n [] order = refl
alter-remove_behind g zero n (z ∷ d) order = refl
alter-remove_behind g (suc m) zero (z ∷ d) order = absurd (omega arith)
alter-remove_behind g (suc m) (suc n) (z ∷ d) order = ap (λ l. z ∷ l) (alter-remove_behind g m n d (omega arith))

-- a change of a cell in front of it
pub alter-remove : (g : Cell → Cell) (m n : ℕ) (d : List Cell) → n < m → alter g n (remove m d) ≡ remove m (alter g n d)
alter-remove g m n [] order = refl
alter-remove g zero n (z ∷ d) order = absurd (omega arith)
alter-remove g (suc m) zero (z ∷ d) order = refl
alter-remove g (suc m) (suc n) (z ∷ d) order = ap (λ l. z ∷ l) (alter-remove g m n d (omega arith))
