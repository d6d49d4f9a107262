-- The goal that an obligation begins with.
use Rattle.std.specs.Prelude.{ℕ, ℤ, pos, Bool, if◌then◌else◌, Option, Some, None, List, [], ◌∷◌, replicate}
use Rattle.ot_model.specs.declared.op.Kind.{Kind}
use Rattle.fn_rules.specs.declared.function.Head.{Head}
use Rattle.fn_rules.specs.declared.function.ObName.{ObName}
use Rattle.fn_rules.specs.declared.function.ObName.TheVariants.{Pair, Triple}
use Rattle.ot_questions.specs.declared.name.Who.TheVariants.{A, B, C}
use Rattle.ot_questions.specs.declared.place.Place.{Place}
use Rattle.ot_questions.specs.declared.place.SymOp.{SymOp}
use Rattle.ot_questions.specs.declared.place.SymOp.TheVariants.{Ins, Del, Upd, Nop}
use Rattle.ot_questions.specs.Places.{place, zero_place, length_and, sym_op, sym_site, sym_char}
use Rattle.ot_terms.specs.Forms.{FormTree, True, Le, Lt, Eq, And}
use Rattle.ot_terms.specs.Goals.{GoalTree, Holds, If, Choose}

-- the place is at least 0, and its end is as a form says
abbrev pub within : Place → FormTree → FormTree
within at last = And (Le zero_place at) last

-- the operation is enabled on a document of the length plus an offset
abbrev pub enabled_form : SymOp → ℤ → FormTree
enabled_form (Ins at ch site) off = within at (Le at (length_and off))
enabled_form (Del at site) off = within at (Lt at (length_and off))
enabled_form (Upd at ch site) off = within at (Lt at (length_and off))
enabled_form Nop off = True

-- where both names are there, they are to stand for different integers; where not, nothing is to be shown
abbrev pub if_differ : Option ℕ → Option ℕ → GoalTree → GoalTree
if_differ None y next = next
if_differ (Some x) None next = next
if_differ (Some x) (Some y) next = If (Eq (place x (pos 0)) (place y (pos 0))) Holds next

-- the same where it is assumed
abbrev pub if_assumed : Bool → Option ℕ → Option ℕ → GoalTree → GoalTree
if_assumed assumed x y next = if assumed then if_differ x y next else next

-- the two operations are to differ in what is assumed to differ
abbrev pub if_allowed : Head → SymOp → SymOp → GoalTree → GoalTree
if_allowed head a b next =
    if_assumed head.sites_differ (sym_site a) (sym_site b)
    (if_assumed head.chars_differ (sym_char a) (sym_char b) next)

-- the operation is to be enabled on the document itself
abbrev pub if_enabled : SymOp → GoalTree → GoalTree
if_enabled o next = If (enabled_form o (pos 0)) next Holds

-- each of the operations is to be
abbrev pub if_all_enabled : List SymOp → GoalTree → GoalTree
if_all_enabled [] next = next
if_all_enabled (o ∷ os) next = if_enabled o (if_all_enabled os next)

-- the length is to be one
abbrev pub if_length : GoalTree → GoalTree
if_length next = If (Le zero_place (length_and (pos 0))) next Holds

-- what the second operation becomes behind the first is the first result
abbrev pub first_choice : ObName → SymOp → SymOp → SymOp → GoalTree
first_choice ob a b third = Choose 0 b a (record {
  ob = ob;
  ops = a ∷ b ∷ third
      ∷ [];
  got = replicate 6 Nop;
  count = 0;
})

abbrev pub start_pair : Head → Kind → Kind → GoalTree
start_pair head k l =
    let a = sym_op k A in
    let b = sym_op l B in
    if_length (if_all_enabled (a ∷ b ∷ []) (if_allowed head a b (first_choice (Pair k l) a b Nop)))

abbrev pub start_triple : Head → Kind → Kind → Kind → GoalTree
start_triple head k l m =
    let a = sym_op k A in
    let b = sym_op l B in
    let c = sym_op m C in
    if_length
    (if_all_enabled (a ∷ b ∷ c ∷ [])
    (if_allowed head a b (if_allowed head a c (if_allowed head b c (first_choice (Triple k l m) a b c)))))

-- the goal of an obligation
abbrev pub start_goal_of : Head → ObName → GoalTree
start_goal_of head (Pair k l) = start_pair head k l
start_goal_of head (Triple k l m) = start_triple head k l m
