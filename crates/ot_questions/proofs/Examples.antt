-- The plans of small functions, computed.
use Rattle.std.proofs.Common.{◌≡◌, ℕ, zero, suc, ℤ, pos, negsuc, Bool, true, false, List, [], ◌∷◌, ◌++◌, Option, Some}
use Rattle.std.proofs.Common.{None, refl}
use Rattle.diff_graph.specs.declared.lit.Lit.{Lit}
use Rattle.ot_model.specs.declared.op.Kind.TheVariants.{Ins, Del, Upd}
use Rattle.fn_rules.specs.declared.function.ObName.TheVariants.{Pair, Triple}
use Rattle.fn_rules.specs.Shipped.{marks, far, lastu, ttfu}
use Rattle.ask_core.specs.Plans.{Plan}
use Rattle.ask_core.specs.Plans as plans
use Rattle.ot_questions.specs.declared.cell.Finished.{Finished}
use Rattle.ot_questions.specs.declared.next.Next.TheVariants.{Asked, Holds, Fails}
use Rattle.ot_questions.specs.declared.name.Who.TheVariants.{A, B}
use Rattle.ot_questions.specs.declared.place.SymOp.{SymOp}
use Rattle.ot_questions.specs.declared.why.Why.{Why}
use Rattle.ot_questions.specs.declared.why.Why.TheVariants.{Undefined, Cells, Operations}
use Rattle.ot_questions.specs.Nexts.{next_after}
use Rattle.ot_questions.specs.Places.{sym_op}
use Rattle.ot_questions.specs.Obligation.{plan_of, plan_below, ask_pair, ask_triple, ask_all_enabled, ask_converge}
use Rattle.ot_questions.specs.Obligation.{ask_ways, ask_lengths, ask_documents, ask_commute, ask_behind, ask_same_form}
use Rattle.ot_questions.specs.Obligation.{ask_one_place}
use Rattle.ot_questions.specs.Questions.{ask_le, ask_lt, ask_eq, ask_compared, ask_atom, ask_guard, ask_result}
use Rattle.ot_questions.specs.Questions.{ask_transform, ask_enabled, ask_differ, ask_allowed}
use Rattle.ot_questions.specs.Reading.{base_cell, put_cell, buried_cell, replaced_cell, cells_cause, ask_cell, ask_same}
use Rattle.ot_questions.specs.Reading.{ask_same_source}

-- the literal `x <= y + k`
abbrev lit : ℕ → ℕ → ℤ → Lit
lit x y k = record { x = x; y = y; k = k }

-- the questions that are asked along the answers
abbrev asked_along : Plan Why → List Bool → List Lit
asked_along (plans.Ask l on_yes on_no) (true ∷ w) = l ∷ asked_along on_yes w
asked_along (plans.Ask l on_yes on_no) (false ∷ w) = l ∷ asked_along on_no w
asked_along (plans.Ask l on_yes on_no) [] = []
asked_along plans.Holds w = []
asked_along (plans.Fails why) w = []

abbrev yes_times : ℕ → List Bool
yes_times zero = []
yes_times (suc n) = true ∷ yes_times n

-- two deletions: each is asked twice whether it is enabled, on the document and behind the other; then the
-- index is asked whether it is within the documents
marks_begin : asked_along (plan_of marks (Pair Del Del)) (yes_times 11)
    ≡ lit 0 1 (pos 0) ∷ lit 0 3 (pos 0) ∷ lit 3 1 (negsuc 0) ∷ lit 0 6 (pos 0) ∷ lit 6 1 (negsuc 0) ∷ lit 0 6 (pos 0)
    ∷ lit 6 1 (negsuc 0) ∷ lit 0 3 (pos 0) ∷ lit 3 1 (negsuc 0) ∷ lit 0 2 (pos 0) ∷ lit 2 1 (negsuc 0) ∷ []
unfolding plan_of ask_pair ask_all_enabled ask_converge ask_ways ask_lengths ask_documents ask_le ask_lt ask_eq
    ask_compared ask_atom ask_guard ask_transform ask_enabled ask_differ ask_allowed ask_cell ask_same ask_same_source
    ask_triple ask_commute ask_behind ask_same_form ask_one_place
marks_begin = refl

-- then the left document is read, from the deletion that came last
marks_reads : next_after (plan_of marks (Pair Del Del)) (yes_times 11) ≡ Asked (lit 2 6 (negsuc 0))
unfolding plan_of ask_pair ask_all_enabled ask_converge ask_ways ask_lengths ask_documents ask_le ask_lt ask_eq
    ask_compared ask_atom ask_guard ask_transform ask_enabled ask_differ ask_allowed ask_cell ask_same ask_same_source
    ask_triple ask_commute ask_behind ask_same_form ask_one_place
marks_reads = refl

-- where the index is before both places, one base cell is read on both sides
marks_before_both : next_after (plan_of marks (Pair Del Del)) (yes_times 15) ≡ Holds
unfolding plan_of ask_pair ask_all_enabled ask_converge ask_ways ask_lengths ask_documents ask_le ask_lt ask_eq
    ask_compared ask_atom ask_guard ask_transform ask_enabled ask_differ ask_allowed ask_cell ask_same ask_same_source
    ask_triple ask_commute ask_behind ask_same_form ask_one_place
marks_before_both = refl

-- the left document is read before both places, the right one at the place of the first deletion
marks_differs : next_after (plan_of marks (Pair Del Del)) (yes_times 13 ++ false ∷ true ∷ true ∷ [])
    ≡ Fails (Cells (Some (pos 0)) None)
unfolding plan_of ask_pair ask_all_enabled ask_converge ask_ways ask_lengths ask_documents ask_le ask_lt ask_eq
    ask_compared ask_atom ask_guard ask_transform ask_enabled ask_differ ask_allowed ask_cell ask_same ask_same_source
    ask_triple ask_commute ask_behind ask_same_form ask_one_place
marks_differs = refl

-- where a deletion is not enabled, nothing is to be shown
marks_not_enabled : next_after (plan_of marks (Pair Del Del)) (true ∷ true ∷ false ∷ []) ≡ Holds
unfolding plan_of ask_pair ask_all_enabled ask_converge ask_ways ask_lengths ask_documents ask_le ask_lt ask_eq
    ask_compared ask_atom ask_guard ask_transform ask_enabled ask_differ ask_allowed ask_cell ask_same ask_same_source
    ask_triple ask_commute ask_behind ask_same_form ask_one_place
marks_not_enabled = refl

-- two insertions: after the guards, the forms are asked on a document that is longer by one
far_begin : asked_along (plan_of far (Pair Ins Ins)) (yes_times 14)
    ≡ lit 0 1 (pos 0) ∷ lit 0 3 (pos 0) ∷ lit 3 1 (pos 0) ∷ lit 0 6 (pos 0) ∷ lit 6 1 (pos 0) ∷ lit 6 3 (pos 99)
    ∷ lit 3 6 (pos 99) ∷ lit 0 6 (pos 0) ∷ lit 6 1 (pos 1) ∷ lit 0 3 (pos 0) ∷ lit 3 1 (pos 1)
    ∷ lit 0 2 (pos 0) ∷ lit 2 1 (pos 1)
    ∷ lit 2 6 (negsuc 0) ∷ []
unfolding plan_of ask_pair ask_all_enabled ask_converge ask_ways ask_lengths ask_documents ask_le ask_lt ask_eq
    ask_compared ask_atom ask_guard ask_transform ask_enabled ask_differ ask_allowed ask_cell ask_same ask_same_source
    ask_triple ask_commute ask_behind ask_same_form ask_one_place
far_begin = refl

-- where no guard is true, the form is undefined
far_undefined : next_after (plan_of far (Pair Ins Ins)) (yes_times 5 ++ false ∷ []) ≡ Fails Undefined
unfolding plan_of ask_pair ask_all_enabled ask_converge ask_ways ask_lengths ask_documents ask_le ask_lt ask_eq
    ask_compared ask_atom ask_guard ask_transform ask_enabled ask_differ ask_allowed ask_cell ask_same ask_same_source
    ask_triple ask_commute ask_behind ask_same_form ask_one_place
far_undefined = refl

-- a result goes on with none there
abbrev holds_at_none : Option SymOp → Plan Why
holds_at_none None = plans.Holds
holds_at_none (Some r) = plans.Fails Operations

far_goes_on : next_after (ask_result far (sym_op Ins B) (sym_op Ins A) holds_at_none) (false ∷ []) ≡ Holds
unfolding ask_le ask_compared ask_atom ask_guard
far_goes_on = refl

far_has_result : next_after (ask_result far (sym_op Ins B) (sym_op Ins A) holds_at_none) (true ∷ []) ≡ Fails Operations
unfolding ask_le ask_compared ask_atom ask_guard
far_has_result = refl

-- documents of fewer than three cells: at most two cells are asked for, and where there are more, nothing is
-- to be shown
far_below : next_after (plan_below far (Some 3) (Pair Ins Ins)) [] ≡ Asked (lit 1 0 (pos 2))
far_below = refl

far_not_below : next_after (plan_below far (Some 3) (Pair Ins Ins)) (false ∷ []) ≡ Holds
far_not_below = refl

-- two insertions at one place, each before the other: the two characters are compared
far_compares : asked_along (plan_of far (Pair Ins Ins)) (yes_times 13 ++ false ∷ true ∷ false ∷ true ∷ true ∷ true ∷ [])
    ≡ lit 0 1 (pos 0) ∷ lit 0 3 (pos 0) ∷ lit 3 1 (pos 0) ∷ lit 0 6 (pos 0) ∷ lit 6 1 (pos 0) ∷ lit 6 3 (pos 99)
    ∷ lit 3 6 (pos 99) ∷ lit 0 6 (pos 0) ∷ lit 6 1 (pos 1) ∷ lit 0 3 (pos 0) ∷ lit 3 1 (pos 1)
    ∷ lit 0 2 (pos 0) ∷ lit 2 1 (pos 1)
    ∷ lit 2 6 (negsuc 0) ∷ lit 2 6 (pos 0) ∷ lit 2 3 (negsuc 0) ∷ lit 2 3 (pos 0)
    ∷ lit 8 5 (pos 0) ∷ lit 5 8 (pos 0) ∷ []
unfolding plan_of ask_pair ask_all_enabled ask_converge ask_ways ask_lengths ask_documents ask_le ask_lt ask_eq
    ask_compared ask_atom ask_guard ask_transform ask_enabled ask_differ ask_allowed ask_cell ask_same ask_same_source
    ask_triple ask_commute ask_behind ask_same_form ask_one_place
far_compares = refl

-- three deletions: the third stays where it is on both ways
marks_triple : asked_along (plan_of marks (Triple Del Del Del)) (yes_times 8)
    ≡ lit 0 1 (pos 0) ∷ lit 0 3 (pos 0) ∷ lit 3 1 (negsuc 0) ∷ lit 0 6 (pos 0) ∷ lit 6 1 (negsuc 0) ∷ lit 0 9 (pos 0)
    ∷ lit 9 1 (negsuc 0) ∷ []
unfolding plan_of ask_pair ask_all_enabled ask_converge ask_ways ask_lengths ask_documents ask_le ask_lt ask_eq
    ask_compared ask_atom ask_guard ask_transform ask_enabled ask_differ ask_allowed ask_cell ask_same ask_same_source
    ask_triple ask_commute ask_behind ask_same_form ask_one_place
marks_triple = refl

-- and so it has one form, which nothing need be asked for
marks_triple_holds : next_after (plan_of marks (Triple Del Del Del)) (yes_times 7) ≡ Holds
unfolding plan_of ask_pair ask_all_enabled ask_converge ask_ways ask_lengths ask_documents ask_le ask_lt ask_eq
    ask_compared ask_atom ask_guard ask_transform ask_enabled ask_differ ask_allowed ask_cell ask_same ask_same_source
    ask_triple ask_commute ask_behind ask_same_form ask_one_place
marks_triple_holds = refl

-- three insertions: `b` behind `a`, `c` behind `a`, and `c` behind both
far_triple : asked_along (plan_of far (Triple Ins Ins Ins)) (yes_times 14)
    ≡ lit 0 1 (pos 0) ∷ lit 0 3 (pos 0) ∷ lit 3 1 (pos 0) ∷ lit 0 6 (pos 0) ∷ lit 6 1 (pos 0)
    ∷ lit 0 9 (pos 0) ∷ lit 9 1 (pos 0)
    ∷ lit 6 3 (pos 99) ∷ lit 9 3 (pos 99) ∷ lit 9 6 (pos 99) ∷ lit 3 6 (pos 99)
    ∷ lit 9 6 (pos 99) ∷ lit 9 3 (pos 99) ∷ []
unfolding plan_of ask_pair ask_all_enabled ask_converge ask_ways ask_lengths ask_documents ask_le ask_lt ask_eq
    ask_compared ask_atom ask_guard ask_transform ask_enabled ask_differ ask_allowed ask_cell ask_same ask_same_source
    ask_triple ask_commute ask_behind ask_same_form ask_one_place
far_triple = refl

-- two updates of one cell: each side has the character of the other's update over the flag of the cell, and
-- the two characters are compared
abbrev both_at_one_cell : List Bool
both_at_one_cell = yes_times 11 ++ false ∷ true ∷ false ∷ true ∷ false ∷ true ∷ false ∷ true ∷ []

lastu_compares : next_after (plan_of lastu (Pair Upd Upd)) both_at_one_cell ≡ Asked (lit 8 5 (pos 0))
unfolding plan_of ask_pair ask_all_enabled ask_converge ask_ways ask_lengths ask_documents ask_le ask_lt ask_eq
    ask_compared ask_atom ask_guard ask_transform ask_enabled ask_differ ask_allowed ask_cell ask_same ask_same_source
    ask_triple ask_commute ask_behind ask_same_form ask_one_place
lastu_compares = refl

lastu_differs : next_after (plan_of lastu (Pair Upd Upd)) (both_at_one_cell ++ false ∷ [])
    ≡ Fails (Cells (Some (pos 0)) None)
unfolding plan_of ask_pair ask_all_enabled ask_converge ask_ways ask_lengths ask_documents ask_le ask_lt ask_eq
    ask_compared ask_atom ask_guard ask_transform ask_enabled ask_differ ask_allowed ask_cell ask_same ask_same_source
    ask_triple ask_commute ask_behind ask_same_form ask_one_place
lastu_differs = refl

lastu_equal : next_after (plan_of lastu (Pair Upd Upd)) (both_at_one_cell ++ true ∷ true ∷ []) ≡ Holds
unfolding plan_of ask_pair ask_all_enabled ask_converge ask_ways ask_lengths ask_documents ask_le ask_lt ask_eq
    ask_compared ask_atom ask_guard ask_transform ask_enabled ask_differ ask_allowed ask_cell ask_same ask_same_source
    ask_triple ask_commute ask_behind ask_same_form ask_one_place
lastu_equal = refl

-- a deletion and an update of one cell: on both sides it is the update's character in a dead cell
ttfu_buries : next_after (plan_of ttfu (Pair Del Upd))
    (yes_times 5 ++ false ∷ yes_times 6 ++ false ∷ true ∷ false ∷ true ∷ false ∷ true ∷ false ∷ true ∷ []) ≡ Holds
unfolding plan_of ask_pair ask_all_enabled ask_converge ask_ways ask_lengths ask_documents ask_le ask_lt ask_eq
    ask_compared ask_atom ask_guard ask_transform ask_enabled ask_differ ask_allowed ask_cell ask_same ask_same_source
    ask_triple ask_commute ask_behind ask_same_form ask_one_place
ttfu_buries = refl

-- which cells a cause names: a half cell has to be dead beside a live character and beside another half
-- cell, but not beside its own base cell
abbrev half : ℤ → Finished
half k = replaced_cell 5 (base_cell k)

half_beside_live : cells_cause (half (pos 0)) (put_cell 8) ≡ Cells (Some (pos 0)) (Some (pos 0))
half_beside_live = refl

live_beside_half : cells_cause (put_cell 8) (half (pos 1)) ≡ Cells None (Some (pos 1))
live_beside_half = refl

half_beside_half : cells_cause (half (pos 0)) (half (pos 1)) ≡ Cells (Some (pos 0)) (Some (pos 0))
half_beside_half = refl

one_half : cells_cause (half (pos 0)) (replaced_cell 8 (base_cell (pos 0))) ≡ Cells (Some (pos 0)) None
one_half = refl

half_beside_base : cells_cause (base_cell (pos 1)) (half (pos 0)) ≡ Cells (Some (pos 1)) None
half_beside_base = refl

half_beside_dead : cells_cause (half (pos 0)) (buried_cell (put_cell 8)) ≡ Cells (Some (pos 0)) None
half_beside_dead = refl
