-- Insertions and tombstones as recursions on the document.
use Rattle.std.proofs.Common.{◌≡◌, ℕ, zero, suc, ◌+◌, ◌<◌, ◌≤◌, List, [], ◌∷◌, length, take, drop, map, refl, ap, ◌∙◌}
use Rattle.std.proofs.Common.{arith}
use Rattle.ot_model.specs.declared.cell.Cell.{Cell}
use Rattle.ot_model.specs.Cells.{dead_cell, with_cells}

-- a document with a cell more at a place
abbrev pub put : ℕ → Cell → List Cell → List Cell
put zero x d = x ∷ d
put (suc n) x [] = x ∷ []
put (suc n) x (y ∷ d) = y ∷ put n x d

-- a document with a tombstone at a place
abbrev pub mark : ℕ → List Cell → List Cell
mark n [] = []
mark zero (y ∷ d) = dead_cell y ∷ d
mark (suc n) (y ∷ d) = y ∷ mark n d

-- the edit behind the first cell
with_cells-suc : (n count : ℕ) (cells d : List Cell) (y : Cell)
    → with_cells (suc n) count cells (y ∷ d) ≡ y ∷ with_cells n count cells d
with_cells-suc n count cells d y = let next : suc n + count ≡ suc (n + count) = omega arith in rw next refl

-- the edit that is an insertion
pub with_cells-put : (n : ℕ) (x : Cell) (d : List Cell) → with_cells n 0 (x ∷ []) d ≡ put n x d
with_cells-put zero x d = refl
with_cells-put (suc n) x [] = let next : suc n + 0 ≡ suc n = omega arith in rw next refl
with_cells-put (suc n) x (y ∷ d) = with_cells-suc n 0 (x ∷ []) d y ∙ ap (λ l. y ∷ l) (with_cells-put n x d)

-- the edit that leaves a tombstone
pub with_cells-mark : (n : ℕ) (d : List Cell) → with_cells n 1 (map dead_cell (take 1 (drop n d))) d ≡ mark n d
with_cells-mark zero [] = refl
with_cells-mark (suc n) [] = let next : suc n + 1 ≡ suc (suc n) = omega arith in rw next refl
with_cells-mark zero (y ∷ d) = refl
with_cells-mark (suc n) (y ∷ d) =
    with_cells-suc n 1 (map dead_cell (take 1 (drop n d))) d y ∙ ap (λ l. y ∷ l) (with_cells-mark n d)

-- an insertion makes the document longer by one cell
pub length-put : (n : ℕ) (x : Cell) (d : List Cell) → length (put n x d) ≡ suc (length d)
length-put zero x d = refl
length-put (suc n) x [] = refl
length-put (suc n) x (y ∷ d) = ap suc (length-put n x d)

-- a tombstone leaves it as long
pub length-mark : (n : ℕ) (d : List Cell) → length (mark n d) ≡ length d
length-mark n [] = refl
length-mark zero (y ∷ d) = refl
length-mark (suc n) (y ∷ d) = ap suc (length-mark n d)

-- two insertions, the one at the smaller place first or last
pub put-put : (m n : ℕ) (x y : Cell) (d : List Cell) → m ≤ n → n ≤ length d
    → put (suc n) y (put m x d) ≡ put m x (put n y d)
put-put zero n x y d order fits = refl
put-put (suc m) zero x y d order fits = absurd (omega arith)
put-put (suc m) (suc n) x y [] order fits = absurd (omega arith)
put-put (suc m) (suc n) x y (z ∷ d) order fits = ap (λ l. z ∷ l) (put-put m n x y d (omega arith) (omega arith))

-- a tombstone in front of an insertion
pub mark-put : (m n : ℕ) (x : Cell) (d : List Cell) → n < m → m ≤ length d → mark n (put m x d) ≡ put m x (mark n d)
mark-put zero n x d order fits = absurd (omega arith)
mark-put (suc m) n x [] order fits = absurd (omega arith)
mark-put (suc m) zero x (z ∷ d) order fits = refl
mark-put (suc m) (suc n) x (z ∷ d) order fits = ap (λ l. z ∷ l) (mark-put m n x d (omega arith) (omega arith))

-- a tombstone at the place of an insertion or behind it
pub mark-put_behind : (m n : ℕ) (x : Cell) (d : List Cell) → m ≤ n → mark (suc n) (put m x d) ≡ put m x (mark n d)
mark-put_behind zero n x d order = refl
mark-put_behind (suc m) zero x d order = absurd (omega arith)
mark-put_behind (suc m) (suc n) x [] order = refl
mark-put_behind (suc m) (suc n) x (z ∷ d) order = ap (λ l. z ∷ l) (mark-put_behind m n x d (omega arith))

-- two tombstones, maybe of one cell
pub mark-mark : (m n : ℕ) (d : List Cell) → mark m (mark n d) ≡ mark n (mark m d)
mark-mark m n [] = refl
mark-mark zero zero (z ∷ d) = refl
mark-mark zero (suc n) (z ∷ d) = refl
mark-mark (suc m) zero (z ∷ d) = refl
mark-mark (suc m) (suc n) (z ∷ d) = ap (λ l. z ∷ l) (mark-mark m n d)
