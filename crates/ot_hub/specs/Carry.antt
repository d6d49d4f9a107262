-- Carrying an operation over others that it crossed, and these over it: what a server that fixes one order and its
-- clients do (D. A. Nichols, P. Curtis, M. Dixon and J. Lamping, "High-Latency, Low-Bandwidth Windowing in the Jupiter
-- Collaboration System", UIST 1995).
use Rattle.std.specs.Prelude.{ℕ, nat_le, List, [], ◌∷◌, ◌++◌, filter, Option, Some}
use Rattle.std.specs.Option.{option_and_then, option_map}
use Rattle.ot_model.specs.declared.op.Op.{Op}
use Rattle.fn_rules.specs.Functions.{Function}
use Rattle.fn_rules.specs.Transformation.{transform_of}
use Rattle.ot_hub.specs.declared.carry.Crossed.{Crossed}
use Rattle.ot_hub.specs.declared.placed.PlacedOp.{PlacedOp}

-- two operations, each transformed by the other; none where one of the two transformations has no result
abbrev pub crossed : Function → Op → Op → Option Crossed
crossed f own other =
    option_and_then (λ p. option_map (λ q. record { own = p; other = q }) (transform_of f other own))
    (transform_of f own other)

-- an operation that was carried over a list, and the list that was carried over it
pub record Carried : Type 0 where
  pub op : Op
  pub list : List PlacedOp

-- the same, with others before the list
abbrev pub carried_behind : List PlacedOp → Carried → Carried
carried_behind before carried = record carried { list = before ++ carried.list }

-- the operation, transformed by each of the list in turn, and each of the list, transformed by the operation as it then
-- was; none where one of these transformations has no result
abbrev pub carry : Function → Op → List PlacedOp → Option Carried
carry f o [] = Some (record { op = o; list = [] })
carry f o (b ∷ bs) =
    option_and_then (λ both. option_map (carried_behind (record b { op = both.other } ∷ [])) (carry f both.own bs))
    (crossed f o b.op)

-- those of a list from a place of the log on
abbrev pub from_place : ℕ → List PlacedOp → List PlacedOp
from_place place list = filter (λ b. nat_le place b.place) list

-- what an operation becomes that is carried
abbrev pub carried_op : Option Carried → Option Op
carried_op carried = option_map (λ c. c.op) carried

-- what a list becomes that is carried
abbrev pub carried_list : Option Carried → Option (List PlacedOp)
carried_list carried = option_map (λ c. c.list) carried
