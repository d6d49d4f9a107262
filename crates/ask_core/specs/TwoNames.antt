-- A small plan over two names, for tests and examples.
use Rattle.std.specs.Prelude.{ℕ, pos, negsuc, Bool, true, false, if◌then◌else◌}
use Rattle.std.proofs.Common.{lit≤, refl}
use Rattle.diff_graph.specs.declared.lit.Lit.{Lit}
use Rattle.ask_core.specs.Plans.{Plan, Ask, Holds, Fails}
use Rattle.ask_core.specs.Askers.{IsFine}

-- name 0 is at most name 1
abbrev pub at_most : Lit
at_most = record { x = 0; y = 1; k = pos 0 }

-- name 1 is below name 0, or where `strict` is false at most name 0
abbrev pub is_under : Bool → Lit
is_under strict = record { x = 1; y = 0; k = if strict then negsuc 0 else pos 0 }

-- after yes to the first question: fails at yes, holds at no
abbrev pub second_plan : Bool → Plan ℕ
second_plan strict = Ask (is_under strict) (Fails 7) Holds

-- holds at no to the first question
abbrev pub two_name_plan : Bool → Plan ℕ
two_name_plan strict = Ask at_most (second_plan strict) Holds

-- both forms of both plans
pub IsFine-two_name_plan : (strict : Bool) → IsFine 2 (two_name_plan strict)
IsFine-two_name_plan true = record { literals = refl; paths = lit≤ tt }
IsFine-two_name_plan false = record { literals = refl; paths = lit≤ tt }

pub IsFine-second_plan : (strict : Bool) → IsFine 2 (second_plan strict)
IsFine-second_plan true = record { literals = refl; paths = lit≤ tt }
IsFine-second_plan false = record { literals = refl; paths = lit≤ tt }
