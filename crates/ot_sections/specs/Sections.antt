-- The part of a certificate that is for one obligation, and the lines around all of them.
use Rattle.std.specs.Prelude.{◌≡◌, List}
use Rattle.fn_rules.specs.declared.function.ObName.{ObName}
use Rattle.cert_text.specs.Places.{PartPlace, Start, Line, Tree, Finish}

-- the place is before a line, where these obligations are still to come
abbrev pub IsLineWith : List ObName → PartPlace → Type 0
IsLineWith obs (Line came names) = names ≡ obs
IsLineWith obs (Start tp1 tp2) = ⊥
IsLineWith obs (Tree came names branches) = ⊥
IsLineWith obs Finish = ⊥
