-- Starts of an obligation: the places where a transformation begins; and under which conditions two of them have one
-- value.
use Rattle.std.specs.Prelude.{◌-ℤ◌, Bool, false, ◌&&◌, if◌then◌else◌, nat_eq, Option, Some, None, List, [], ◌∷◌, ◌++◌}
use Rattle.std.specs.Prelude.{length}
use Rattle.std.specs.Option.{option_eq}
use Rattle.std.specs.Ordering.{int_eq}
use Rattle.std.specs.Cmp.Lexicographic.{pointwise}
use Rattle.diff_graph.specs.declared.lit.Lit.{Lit}
use Rattle.ot_model.specs.Kinds.{is_same_kind}
use Rattle.fn_rules.specs.declared.function.ObName.{ObName}
use Rattle.fn_rules.specs.declared.function.ObName.TheVariants.{Pair, Triple}
use Rattle.fn_rules.specs.Functions.{Function}
use Rattle.ask_core.specs.Plans.{Plan}
use Rattle.ot_questions.specs.declared.place.Place.{Place}
use Rattle.ot_questions.specs.declared.place.SymOp.{SymOp}
use Rattle.ot_questions.specs.declared.why.Why.{Why}
use Rattle.ot_questions.specs.Places.{sym_kind, sym_at, sym_site, sym_char}
use Rattle.ot_terms.specs.Standing.{ask_after}

-- what was done before the transformation: the obligation, its operations, and the results of the transformations
-- before, in their order
pub record Start : Type 0 where
  pub ob : ObName
  pub ops : List SymOp
  pub got : List SymOp

-- the plan that begins at a start
abbrev pub meaning : Function → Start → Plan Why
meaning f s = ask_after f s.ob s.ops s.got

-- the results that are read from here on: of a triple the first two are read until the third is there
abbrev pub still_read : ObName → List SymOp → List SymOp
still_read (Pair k l) got = got
still_read (Triple k l m) [] = []
still_read (Triple k l m) (b_after_a ∷ []) = b_after_a ∷ []
still_read (Triple k l m) (b_after_a ∷ c_after_a ∷ []) = b_after_a ∷ c_after_a ∷ []
still_read (Triple k l m) (b_after_a ∷ c_after_a ∷ left ∷ got) = left ∷ got

abbrev pub is_same_ob : ObName → ObName → Bool
is_same_ob (Pair j k) (Pair l m) = is_same_kind j l && is_same_kind k m
is_same_ob (Pair j k) (Triple l m n) = false
is_same_ob (Triple i j k) (Pair l m) = false
is_same_ob (Triple i j k) (Triple l m n) = is_same_kind i l && is_same_kind j m && is_same_kind k n

abbrev pub is_same_place : Place → Place → Bool
is_same_place p q = nat_eq p.var q.var && int_eq p.off q.off

-- the two operations have one kind, site and character: they differ in their positions alone
abbrev pub is_same_but_position : SymOp → SymOp → Bool
is_same_but_position a b =
    option_eq is_same_kind (sym_kind a) (sym_kind b) && option_eq nat_eq (sym_site a) (sym_site b)
    && option_eq nat_eq (sym_char a) (sym_char b)

abbrev pub is_same_op : SymOp → SymOp → Bool
is_same_op a b = is_same_but_position a b && is_same_place (sym_at a) (sym_at b)

-- under which conditions two places have one integer: of one name the offsets decide; of two names, that each
-- place is at most the other one
abbrev pub conditions_at : Place → Place → Option (List Lit)
conditions_at there here =
    if nat_eq there.var here.var then (if int_eq there.off here.off then Some [] else None)
    else Some (record { x = here.var; y = there.var; k = there.off -ℤ here.off }
    ∷ record { x = there.var; y = here.var; k = here.off -ℤ there.off } ∷ [])

-- under which conditions two results are one operation
abbrev pub conditions_of : SymOp → SymOp → Option (List Lit)
conditions_of there here = if is_same_but_position there here then conditions_at (sym_at there) (sym_at here) else None

-- the conditions of both, where both are there
abbrev pub all_conditions : Option (List Lit) → Option (List Lit) → Option (List Lit)
all_conditions None others = None
all_conditions (Some es) None = None
all_conditions (Some es) (Some others) = Some (es ++ others)

-- under which conditions each result is one operation with the result beside it
abbrev pub conditions_of_each : List SymOp → List SymOp → Option (List Lit)
conditions_of_each [] [] = Some []
conditions_of_each [] (r ∷ rs) = None
conditions_of_each (o ∷ os) [] = None
conditions_of_each (o ∷ os) (r ∷ rs) = all_conditions (conditions_of o r) (conditions_of_each os rs)

-- Under which conditions the start of a lemma and the start here have one value: none unless the same number of
-- transformations of one obligation was done, with the same operations. Results that are not read any more may be any.
abbrev pub compare_starts : Start → Start → Option (List Lit)
compare_starts there here =
    if nat_eq (length there.got) (length here.got) && is_same_ob there.ob here.ob && pointwise is_same_op there.ops
    here.ops
    then conditions_of_each (still_read there.ob there.got) (still_read here.ob here.got)
    else None
