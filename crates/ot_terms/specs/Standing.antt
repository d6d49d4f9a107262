-- The plan that a term stands for: what is asked of it, in the words of the questions of an obligation.
use Rattle.std.specs.Prelude.{ℕ, List, [], ◌∷◌, ◌++◌, take, drop}
use Rattle.ot_model.specs.declared.op.Mode.{Mode}
use Rattle.fn_rules.specs.declared.function.ObName.{ObName}
use Rattle.fn_rules.specs.declared.function.ObName.TheVariants.{Pair, Triple}
use Rattle.fn_rules.specs.Functions.{Function}
use Rattle.ask_core.specs.Plans as plans
use Rattle.ask_core.specs.Plans.{Plan}
use Rattle.ot_questions.specs.declared.cell.Finished.{Finished}
use Rattle.ot_questions.specs.declared.place.SymOp.{SymOp}
use Rattle.ot_questions.specs.declared.place.SymOp.TheVariants as ops
use Rattle.ot_questions.specs.declared.why.Why.{Why}
use Rattle.ot_questions.specs.Names.{zero_name}
use Rattle.ot_questions.specs.Questions.{ask_places, ask_transform}
use Rattle.ot_questions.specs.Reading.{put_cell, buried_cell, replaced_cell, ask_cell, ask_same}
use Rattle.ot_questions.specs.Obligation.{ask_converge, ask_ways, ask_behind, ask_commute, ask_same_form}
use Rattle.ot_terms.specs.declared.goal.GoalProgress.{GoalProgress}
use Rattle.ot_terms.specs.Forms.{FormTree, by_form}
use Rattle.ot_terms.specs.Documents as documents
use Rattle.ot_terms.specs.Documents.{DocTree}
use Rattle.ot_terms.specs.Cells as cells
use Rattle.ot_terms.specs.Cells.{CellTree}
use Rattle.ot_terms.specs.Goals as goals
use Rattle.ot_terms.specs.Goals.{GoalTree}

-- whether a form is true, asked by literals
unfoldable pub ask_form : FormTree → Plan Why → Plan Why → Plan Why
ask_form g on_yes on_no = by_form ask_places g on_yes on_no

-- the operations that made the document, the last one first; reading asks for no site
abbrev pub changes_of : DocTree → List SymOp
changes_of documents.Base = []
changes_of (documents.Put d at ch) = ops.Ins at ch zero_name ∷ changes_of d
changes_of (documents.Cut d at) = ops.Del at zero_name ∷ changes_of d
changes_of (documents.Mark d at) = ops.Del at zero_name ∷ changes_of d
changes_of (documents.Over d at ch) = ops.Upd at ch zero_name ∷ changes_of d

-- reads a cell; goes on with the finished cell
unfoldable pub ask_read : Mode → CellTree → (Finished → Plan Why) → Plan Why
ask_read mode (cells.At d at) go = ask_cell mode (changes_of d) at.off go
ask_read mode (cells.Char ch) go = go (put_cell ch)
ask_read mode (cells.Dead cell) go = ask_read mode cell (λ x. go (buried_cell x))
ask_read mode (cells.Over ch cell) go = ask_read mode cell (λ x. go (replaced_cell ch x))
ask_read mode (cells.If g on_yes on_no) go = ask_form g (ask_read mode on_yes go) (ask_read mode on_no go)

-- the function without the first cases of each pair of kinds
abbrev pub from_case : ℕ → Function → Function
from_case n f = record { head = f.head; cases = λ k l. drop n (f.cases k l) }

-- what is left of a pair after the results of its first transformations
unfoldable pub ask_pair_after : Function → SymOp → SymOp → List SymOp → Plan Why
ask_pair_after f a b [] = ask_converge f a b
ask_pair_after f a b (b_after_a ∷ []) =
    ask_transform f a b (λ a_after_b. ask_ways f.head.mode a b_after_a b a_after_b)
ask_pair_after f a b (b_after_a ∷ a_after_b ∷ got) = ask_ways f.head.mode a b_after_a b a_after_b

-- what is left of a triple whose third operation has this form behind the first two, after the results
-- of the transformations of the other way
unfoldable pub ask_second_way_after : Function → SymOp → SymOp → SymOp → SymOp → List SymOp → Plan Why
ask_second_way_after f a b c left [] = ask_behind f b a c (λ right. ask_same_form left right)
ask_second_way_after f a b c left (a_after_b ∷ []) =
    ask_transform f c b (λ c_after_b. ask_transform f c_after_b a_after_b (λ right. ask_same_form left right))
ask_second_way_after f a b c left (a_after_b ∷ c_after_b ∷ []) =
    ask_transform f c_after_b a_after_b (λ right. ask_same_form left right)
ask_second_way_after f a b c left (a_after_b ∷ c_after_b ∷ right ∷ got) = ask_same_form left right

-- what is left of a triple after the results of its first transformations
unfoldable pub ask_triple_after : Function → SymOp → SymOp → SymOp → List SymOp → Plan Why
ask_triple_after f a b c [] = ask_commute f a b c
ask_triple_after f a b c (b_after_a ∷ []) =
    ask_transform f c a
    (λ c_after_a. ask_transform f c_after_a b_after_a (λ left. ask_second_way_after f a b c left []))
ask_triple_after f a b c (b_after_a ∷ c_after_a ∷ []) =
    ask_transform f c_after_a b_after_a (λ left. ask_second_way_after f a b c left [])
ask_triple_after f a b c (b_after_a ∷ c_after_a ∷ left ∷ got) = ask_second_way_after f a b c left got

-- what is left of an obligation with these operations after these results
unfoldable pub ask_after : Function → ObName → List SymOp → List SymOp → Plan Why
ask_after f (Pair k l) (a ∷ b ∷ os) got = ask_pair_after f a b got
ask_after f (Pair k l) (a ∷ []) got = plans.Holds
ask_after f (Pair k l) [] got = plans.Holds
ask_after f (Triple k l m) (a ∷ b ∷ c ∷ os) got = ask_triple_after f a b c got
ask_after f (Triple k l m) (a ∷ b ∷ []) got = plans.Holds
ask_after f (Triple k l m) (a ∷ []) got = plans.Holds
ask_after f (Triple k l m) [] got = plans.Holds

-- the results that are there
abbrev pub results_of : GoalProgress → List SymOp
results_of progress = take progress.count progress.got

-- what is left with one more result
abbrev pub ask_with : Function → GoalProgress → SymOp → Plan Why
ask_with f progress r = ask_after f progress.ob progress.ops (results_of progress ++ r ∷ [])

-- what is left to be asked of a goal
unfoldable pub ask_goal : Function → GoalTree → Plan Why
ask_goal f goals.Holds = plans.Holds
ask_goal f (goals.Fails why) = plans.Fails why
ask_goal f (goals.If g on_yes on_no) = ask_form g (ask_goal f on_yes) (ask_goal f on_no)
ask_goal f (goals.Choose case a b progress) = ask_transform (from_case case f) a b (ask_with f progress)
ask_goal f (goals.Deliver o progress) = ask_with f progress o
ask_goal f (goals.Same left right) =
    ask_read f.head.mode left (λ x. ask_read f.head.mode right (λ y. ask_same x y))
