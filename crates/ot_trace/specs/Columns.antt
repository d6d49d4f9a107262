-- Columns of a line. Texts are bytes.
use Rattle.std.specs.Prelude.{ℕ, List, [], ◌∷◌, ◌++◌}
use Rattle.ot_steps.specs.Columns.{padded}

-- a line of three columns
abbrev pub columns : List ℕ → List ℕ → List ℕ → List ℕ
columns first second last = padded 22 first ++ padded 14 second ++ last ++ 10 ∷ []

-- a line of two columns
abbrev pub two_columns : List ℕ → List ℕ → List ℕ
two_columns first second = padded 22 first ++ second ++ 10 ∷ []
