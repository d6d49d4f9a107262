-- Goals whose front is a question or an end.
use Rattle.std.specs.Prelude.{Bool, true, false, not, nat_eq}
use Rattle.ot_terms.specs.Forms.{FormTree, True, Le, Lt, Eq, And, Or, Not}
use Rattle.ot_terms.specs.Goals.{GoalTree, Holds, Fails, If, Choose, Deliver, Same}

-- the form is a question: two different names are compared by `Le`
abbrev pub is_question : FormTree → Bool
is_question True = false
is_question (Le x y) = not (nat_eq x.var y.var)
is_question (Lt x y) = false
is_question (Eq x y) = false
is_question (And g h) = false
is_question (Or g h) = false
is_question (Not g) = false

-- nothing is left to be rewritten: the goal holds or fails, or asks a question
abbrev pub is_at_front : GoalTree → Bool
is_at_front Holds = true
is_at_front (Fails why) = true
is_at_front (If g on_yes on_no) = is_question g
is_at_front (Choose case a b progress) = false
is_at_front (Deliver r progress) = false
is_at_front (Same left right) = false
