-- The first goal of two deletions whose sites are assumed to differ: a condition of the
-- length and one of each deletion, then their sites, and then the second deletion is
-- transformed behind the first. `start_goal` gives exactly this.
use Rattle.std.specs.Prelude.{◌≡◌, pos, true, false, refl}
use Rattle.ot_model.specs.declared.op.Kind.TheVariants as kinds
use Rattle.ot_model.specs.declared.op.Mode.TheVariants.{Tomb}
use Rattle.fn_rules.specs.declared.function.Head.{Head}
use Rattle.fn_rules.specs.declared.function.ObName.TheVariants.{Pair}
use Rattle.ot_questions.specs.declared.name.Who.TheVariants.{A, B}
use Rattle.ot_questions.specs.declared.place.SymOp.{SymOp}
use Rattle.ot_questions.specs.declared.place.SymOp.TheVariants.{Nop}
use Rattle.ot_questions.specs.Places.{place, zero_place, length_and, sym_op}
use Rattle.ot_terms.specs.Forms.{Le, Eq}
use Rattle.ot_terms.specs.Goals.{Holds, If}
use Rattle.ot_terms.specs.Starting.{start_goal_of, enabled_form, first_choice}

abbrev deletions : Head
deletions = record { mode = Tomb; ins = false; del = true; upd = false; sites_differ = true; chars_differ = false }

abbrev a : SymOp
a = sym_op kinds.Del A

abbrev b : SymOp
b = sym_op kinds.Del B

first_goal :
    start_goal_of deletions (Pair kinds.Del kinds.Del)
    ≡ If (Le zero_place (length_and (pos 0)))
    (If (enabled_form a (pos 0))
    (If (enabled_form b (pos 0))
    (If (Eq (place 4 (pos 0)) (place 7 (pos 0))) Holds (first_choice (Pair kinds.Del kinds.Del) a b Nop))
    Holds)
    Holds)
    Holds
first_goal = refl
