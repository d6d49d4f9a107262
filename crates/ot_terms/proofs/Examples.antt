-- The definitions, computed on small terms.
use Rattle.std.proofs.Common.{◌≡◌, ℕ, zero, suc, ◌<◌, ℤ, pos, negsuc, Bool, true, false, List, [], ◌∷◌, refl, lit≤}
use Rattle.diff_graph.specs.declared.lit.Lit.{Lit}
use Rattle.ot_model.specs.declared.op.Kind.TheVariants as kinds
use Rattle.ot_model.specs.declared.op.Mode.TheVariants.{Tomb}
use Rattle.fn_rules.specs.declared.guard.Cmp.TheVariants as cmp
use Rattle.fn_rules.specs.declared.function.ObName.TheVariants.{Pair}
use Rattle.fn_rules.specs.Formulas as guards
use Rattle.fn_rules.specs.Shipped.{marks, ties, p1_to_p2}
use Rattle.ask_core.specs.Plans.{Plan}
use Rattle.ask_core.specs.Plans as plans
use Rattle.ot_questions.specs.declared.name.Who.TheVariants.{A, B}
use Rattle.ot_questions.specs.declared.next.Next.TheVariants.{Asked, Fails}
use Rattle.ot_questions.specs.declared.why.Why.{Why}
use Rattle.ot_questions.specs.declared.why.Why.TheVariants.{Undefined}
use Rattle.ot_questions.specs.Nexts.{next_after}
use Rattle.ot_questions.specs.Obligation.{ask_converge, ask_ways, ask_lengths, ask_documents}
use Rattle.ot_questions.specs.Places.{place, index_and, sym_op}
use Rattle.ot_questions.specs.Questions.{ask_le, ask_lt, ask_eq, ask_compared, ask_atom, ask_guard, ask_transform}
use Rattle.ot_questions.specs.Questions.{ask_enabled}
use Rattle.ot_questions.specs.Reading.{ask_cell, ask_same, ask_same_source}
use Rattle.ot_terms.specs.Forms.{FormTree, form_holds}
use Rattle.ot_terms.specs.declared.goal.GoalProgress.{GoalProgress}
use Rattle.ot_terms.specs.Forms as forms
use Rattle.ot_terms.specs.Documents as documents
use Rattle.ot_terms.specs.Cells.{CellTree}
use Rattle.ot_terms.specs.Cells as cells
use Rattle.ot_terms.specs.Goals as goals
use Rattle.ot_terms.specs.Meaning.{BaseDocument, cell_of, char_cell, killed}
use Rattle.ot_terms.specs.Placing.{guard_form}
use Rattle.ot_terms.specs.Standing.{ask_form, ask_read, ask_goal, ask_after, ask_pair_after}
use Rattle.ot_terms.specs.Starting.{start_goal_of}
use Rattle.ot_terms.specs.Weights.{cell_weight, goal_weight}

-- the literal `x <= y + k`
abbrev lit : ℕ → ℕ → ℤ → Lit
lit x y k = record { x = x; y = y; k = k }

-- the questions that are asked along the answers
abbrev asked_along : Plan Why → List Bool → List Lit
asked_along (plans.Ask l on_yes on_no) (true ∷ w) = l ∷ asked_along on_yes w
asked_along (plans.Ask l on_yes on_no) (false ∷ w) = l ∷ asked_along on_no w
asked_along (plans.Ask l on_yes on_no) [] = []
asked_along plans.Holds w = []
asked_along (plans.Fails why) w = []

abbrev yes_times : ℕ → List Bool
yes_times zero = []
yes_times (suc n) = true ∷ yes_times n

-- the first of two deletions does not stand at most two behind the second: one question is asked
abbrev placed_guard : FormTree
placed_guard = guard_form (guards.Not (p1_to_p2 cmp.Le (pos 2))) (sym_op kinds.Del A) (sym_op kinds.Del B)

-- `j <= p`, and for `j = p` each form
abbrev at_most : FormTree
at_most = forms.Le (place 2 (pos 0)) (place 3 (pos 0))

abbrev before : FormTree
before = forms.Lt (place 2 (pos 0)) (place 3 (pos 0))

equal_holds : form_holds (λ x. pos 4) (forms.And at_most (forms.Not before)) ≡ true
equal_holds = refl

placed_asks : asked_along (ask_form placed_guard plans.Holds (plans.Fails Undefined)) (true ∷ []) ≡ lit 3 6 (pos 2) ∷ []
unfolding ask_form ask_le
placed_asks = refl

placed_fails_at_yes : next_after (ask_form placed_guard plans.Holds (plans.Fails Undefined))
    (true ∷ []) ≡ Fails Undefined
unfolding ask_form ask_le
placed_fails_at_yes = refl

-- two insertions, transformed from the case behind the last one on: none is left
no_case_left : ask_goal ties (goals.Choose 2 (sym_op kinds.Ins B) (sym_op kinds.Ins A)
    (record { ob = Pair kinds.Ins kinds.Ins; ops = []; got = []; count = 0 })) ≡ plans.Fails Undefined
unfolding ask_goal ask_transform
no_case_left = refl

-- from the second case on, its guard is asked
second_case : next_after (ask_goal ties (goals.Choose 1 (sym_op kinds.Ins B) (sym_op kinds.Ins A)
    (record { ob = Pair kinds.Ins kinds.Ins; ops = []; got = []; count = 0 }))) [] ≡ Asked (lit 3 6 (negsuc 0))
unfolding ask_goal ask_transform ask_guard ask_atom ask_compared ask_lt ask_le
second_case = refl

-- an insertion of the character 8 at name 6, of a document in which the cell at name 3 was made dead
abbrev read_through : CellTree
read_through =
    cells.At (documents.Put (documents.Mark documents.Base (place 3 (pos 0))) (place 6 (pos 0)) 8) (index_and (pos 0))

-- behind the insertion the index is lower by one
read_behind : asked_along (ask_read Tomb read_through (λ x. plans.Holds)) (false ∷ false ∷ true ∷ [])
    ≡ lit 2 6 (negsuc 0) ∷ lit 2 6 (pos 0) ∷ lit 2 3 (pos 0) ∷ []
unfolding ask_read ask_cell ask_lt ask_le
read_behind = refl

-- making dead what was written over still reads what lies below
dead_over_reads : next_after (ask_read Tomb (cells.Dead (cells.Over 5 read_through)) (λ x. plans.Holds)) []
    ≡ Asked (lit 2 6 (negsuc 0))
unfolding ask_read ask_cell ask_lt ask_le
dead_over_reads = refl

-- the names are all 4, but for the index, which is 5
abbrev at_five : ℕ → ℤ
at_five (suc (suc zero)) = pos 5
at_five x = pos 4

-- a document that has the character 70 at 4, and the character 71 everywhere else
abbrev one_cell : BaseDocument
one_cell = record { placed = (pos 4, char_cell (pos 70)) ∷ []; elsewhere = char_cell (pos 71) }

read_dead : cell_of one_cell at_five read_through ≡ killed (char_cell (pos 70))
read_dead = refl

written_over : cell_of one_cell at_five (cells.Over 5 read_through) ≡ killed (char_cell (pos 4))
written_over = refl

-- one step of reading makes a cell lighter
reading_falls : cell_weight (cells.If before (cells.At documents.Base (index_and (pos 0)))
    (cells.If at_most (cells.Dead (cells.At documents.Base (index_and (pos 0))))
    (cells.At documents.Base (index_and (pos 0)))))
    < cell_weight (cells.At (documents.Mark documents.Base (place 3 (pos 0))) (index_and (pos 0)))
reading_falls = lit≤ tt

-- two deletions, with so many results
abbrev two_deletions : ℕ → GoalProgress
two_deletions n = record { ob = Pair kinds.Del kinds.Del; ops = []; got = []; count = n }

-- the second transformation weighs less than the first result, and the comparison less than the second
second_falls : goal_weight marks (goals.Choose 0 (sym_op kinds.Del A) (sym_op kinds.Del B) (two_deletions 1))
    < goal_weight marks (goals.Deliver (sym_op kinds.Del B) (two_deletions 0))
second_falls = lit≤ tt

abbrev twice_dead : CellTree
twice_dead =
    cells.At (documents.Mark (documents.Mark documents.Base (place 3 (pos 0))) (place 6 (pos 0))) (index_and (pos 0))

comparison_falls : goal_weight marks (goals.Same twice_dead twice_dead)
    < goal_weight marks (goals.Deliver (sym_op kinds.Del A) (two_deletions 1))
comparison_falls = lit≤ tt

-- two deletions: the questions of the first goal
marks_begin : asked_along (ask_goal marks (start_goal_of marks.head (Pair kinds.Del kinds.Del))) (yes_times 11)
    ≡ lit 0 1 (pos 0) ∷ lit 0 3 (pos 0) ∷ lit 3 1 (negsuc 0) ∷ lit 0 6 (pos 0) ∷ lit 6 1 (negsuc 0) ∷ lit 0 6 (pos 0)
    ∷ lit 6 1 (negsuc 0) ∷ lit 0 3 (pos 0) ∷ lit 3 1 (negsuc 0) ∷ lit 0 2 (pos 0) ∷ lit 2 1 (negsuc 0) ∷ []
unfolding ask_goal ask_form ask_after ask_pair_after ask_converge ask_ways ask_lengths ask_documents ask_le ask_lt
    ask_eq ask_compared ask_atom ask_guard ask_transform ask_enabled ask_cell ask_same ask_same_source
marks_begin = refl
