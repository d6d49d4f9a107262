-- What is asked to decide whether a function is reversed, as a goal of each ordered pair of kinds: both operations are
-- enabled, and differ in what the first function assumes to differ; then the guards of the first function, those of the
-- second one for the form against the other operation, and the position of what comes back.
use Rattle.std.specs.Prelude.{List, [], ◌∷◌, Option, Some, None}
use Rattle.ot_model.specs.declared.op.Kind.{Kind}
use Rattle.fn_rules.specs.Functions.{Function, GuardedCase, cases_of}
use Rattle.ot_questions.specs.declared.name.Who.TheVariants.{A, B}
use Rattle.ot_questions.specs.declared.place.SymOp.{SymOp}
use Rattle.ot_questions.specs.declared.why.Why.TheVariants.{Undefined}
use Rattle.ot_questions.specs.Places.{sym_op, sym_kind, sym_at}
use Rattle.ot_terms.specs.Goals.{GoalTree, Holds, Fails}
use Rattle.ot_terms.specs.Starting.{if_allowed, if_all_enabled, if_length}
use Rattle.ot_audit.specs.Goals.{with_first_result, unless_one_place}

-- that there is no result is a cause
abbrev pub undefined : GoalTree
undefined = Fails Undefined

-- what comes back is to be there, and to be the operation itself: only its position can differ, but for nop
abbrev pub unless_itself : SymOp → Option SymOp → GoalTree
unless_itself a None = undefined
unless_itself a (Some back) = unless_one_place (sym_kind back) (sym_kind a) (sym_at back) (sym_at a)

-- by the kind of the form, which nop has not: what these cases make of it against `b` is to be `a`
abbrev pub unless_back : List GuardedCase → SymOp → SymOp → SymOp → Option Kind → GoalTree
unless_back ds a b there None = Holds
unless_back ds a b there (Some k) = with_first_result ds there b (λ back. unless_itself a back)

-- the form is to be there, and to come back
abbrev pub unless_there : List GuardedCase → SymOp → SymOp → Option SymOp → GoalTree
unless_there ds a b None = undefined
unless_there ds a b (Some there) = unless_back ds a b there (sym_kind there)

-- what the first cases make of `a` against `b` is to come back by the second ones
abbrev pub unless_taken_back : List GuardedCase → List GuardedCase → SymOp → SymOp → GoalTree
unless_taken_back cs ds a b = with_first_result cs a b (λ there. unless_there ds a b there)

-- where the second function does not take back what the first one makes of operations of two kinds
abbrev pub reversal_goal : Function → Function → Kind → Kind → GoalTree
reversal_goal f e k l =
    if_length
    (if_all_enabled (sym_op k A ∷ sym_op l B ∷ [])
    (if_allowed f.head (sym_op k A) (sym_op l B)
    (unless_taken_back (cases_of f k l) (cases_of e k l) (sym_op k A) (sym_op l B))))
