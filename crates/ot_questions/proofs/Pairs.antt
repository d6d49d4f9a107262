-- The plan of a pair at a valuation, and TP1 at the operations that the names stand for.
use Rattle.std.proofs.Common.{◌≡◌, ℕ, ℤ, pos, negsuc, ◌+ℤ◌, ◌≤ℤ◌, ◌<ℤ◌, Bool, true, ◌&&◌, if◌then◌else◌, int_le, int_lt}
use Rattle.std.proofs.Common.{Option, Some, None, option_map, List, [], ◌∷◌, length, refl, ap, sym, ◌∙◌, arith}
use Rattle.std.specs.Ordering.{int_eq}
use Rattle.std.proofs.lemmas.Int.{ints}
use Rattle.std.proofs.lemmas.List.{get_or_default}
use Rattle.ot_model.specs.declared.cell.Cell.{Cell}
use Rattle.ot_model.specs.declared.op.Mode.{Mode}
use Rattle.ot_model.specs.Effect.{IsEnabled, document_after}
use Rattle.fn_rules.specs.Functions.{Function}
use Rattle.fn_rules.specs.Transformation.{transform_of}
use Rattle.ask_core.specs.Plans.{Plan, Holds, Fails, end_of}
use Rattle.ot_model.specs.declared.op.Mode.TheVariants.{Plain, Tomb}
use Rattle.ot_questions.specs.declared.place.SymOp.{SymOp}
use Rattle.ot_questions.specs.declared.place.SymOp.TheVariants.{Ins, Del, Upd, Nop}
use Rattle.ot_questions.specs.declared.why.Why.{Why}
use Rattle.ot_questions.specs.declared.why.Why.TheVariants.{OutOfRange, Lengths}
use Rattle.ot_questions.specs.Places.{zero_place, length_and, index_and, growth}
use Rattle.ot_questions.specs.Questions.{ask_lt, ask_enabled, ask_allowed, ask_transform}
use Rattle.ot_questions.specs.Reading.{ask_cell, ask_same}
use Rattle.ot_questions.specs.Obligation.{ask_documents, ask_lengths, ask_ways, ask_converge, ask_all_enabled, ask_pair}
use Rattle.ot_questions.specs.Meaning.{op_at}
use Rattle.ot_questions.proofs.Tests.{plus-assoc, if_and}
use Rattle.ot_questions.proofs.Values.{if_end, by_test, end-le, end-lt, end-transform, end-enabled, end-allowed}
use Rattle.ot_questions.proofs.Values.{end-cell, sym_transformed, sym_allowed, goes_on, enabled_to, seen}
use Rattle.ot_questions.proofs.Operations.{IsCounted, transform_of-op_at}
use Rattle.ot_questions.proofs.Documents.{cell_at, shown, cell_at-document_after, shown-same, op_growth}
use Rattle.ot_questions.proofs.Documents.{length-document_after}
use Rattle.ot_questions.proofs.Seen.{meant, seen_at}

growth-op_at : (mode : Mode) (v : ℕ → ℤ) (o : SymOp) → op_growth mode (op_at v o) ≡ growth mode o
growth-op_at Plain v (Ins p c s) = refl
growth-op_at Tomb v (Ins p c s) = refl
growth-op_at Plain v (Del p s) = refl
growth-op_at Tomb v (Del p s) = refl
growth-op_at Plain v (Upd p c s) = refl
growth-op_at Tomb v (Upd p c s) = refl
growth-op_at Plain v Nop = refl
growth-op_at Tomb v Nop = refl

-- the lengths after one operation and after two
pub length_after :
    (v : ℕ → ℤ) (mode : Mode) (o : SymOp) (d : List Cell) (n : ℤ) → n ≡ pos (length d)
    → IsEnabled (op_at v o) (length d)
    → n +ℤ growth mode o ≡ pos (length (document_after mode (op_at v o) d))
length_after v mode o d n e h =
    ap (λ x. x +ℤ growth mode o) e
    ∙ (ap (λ y. pos (length d) +ℤ y) (sym (growth-op_at mode v o)) ∙ sym (length-document_after mode (op_at v o) d h))

pub length_after_two :
    (v : ℕ → ℤ) (mode : Mode) (o p : SymOp) (d : List Cell) → v 1 ≡ pos (length d) → IsEnabled (op_at v o) (length d)
    → IsEnabled (op_at v p) (length (document_after mode (op_at v o) d))
    → v 1 +ℤ (growth mode o +ℤ growth mode p)
    ≡ pos (length (document_after mode (op_at v p) (document_after mode (op_at v o) d)))
length_after_two v mode o p d e h g =
    plus-assoc (v 1) (growth mode o) (growth mode p)
    ∙ length_after v mode p (document_after mode (op_at v o) d) (v 1 +ℤ growth mode o)
    (length_after v mode o d (v 1) e h) g

-- the cell that a document after two operations has at the index
pub cell_seen :
    (v : ℕ → ℤ) (mode : Mode) (o p : SymOp) (d : List Cell) (x : Cell) → IsEnabled (op_at v o) (length d)
    → IsEnabled (op_at v p) (length (document_after mode (op_at v o) d))
    → cell_at x (document_after mode (op_at v p) (document_after mode (op_at v o) d)) (v 2 +ℤ pos 0)
    ≡ meant v (cell_at x d) (seen v mode (p ∷ o ∷ []) (pos 0))
cell_seen v mode o p d x h g =
    cell_at-document_after x mode (op_at v p) (document_after mode (op_at v o) d) (v 2 +ℤ pos 0) g
    ∙ (shown-same mode (op_at v p) (cell_at x (document_after mode (op_at v o) d))
    (shown mode (op_at v o) (cell_at x d))
    (λ i. cell_at-document_after x mode (op_at v o) d i h) (v 2 +ℤ pos 0)
    ∙ seen_at v mode (p ∷ o ∷ []) (cell_at x d) (pos 0))

-- where the questions about the final documents end
abbrev pub documents_end : (ℕ → ℤ) → Mode → List SymOp → List SymOp → ℤ → Option Why
documents_end v mode left right k =
    if int_le (v 0 +ℤ pos 0) (v 2 +ℤ pos 0)
    then (if int_lt (v 2 +ℤ pos 0) (v 1 +ℤ k)
    then end_of (ask_same (seen v mode left (pos 0)) (seen v mode right (pos 0))) v else None)
    else None

-- the questions about the final documents end where the tests at the valuation lead
end-documents :
    (v : ℕ → ℤ) (mode : Mode) (left right : List SymOp) (k : ℤ)
    → end_of (ask_documents mode left right k) v ≡ documents_end v mode left right k
unfolding ask_documents
end-documents v mode left right k =
    end-le zero_place (index_and (pos 0))
    (ask_lt (index_and (pos 0)) (length_and k)
    (ask_cell mode left (pos 0) (λ x. ask_cell mode right (pos 0) (λ y. ask_same x y)))
    Holds)
    Holds v
    ∙ ap (λ e. if int_le (v 0 +ℤ pos 0) (v 2 +ℤ pos 0) then e else None)
    (end-lt (index_and (pos 0)) (length_and k)
    (ask_cell mode left (pos 0) (λ x. ask_cell mode right (pos 0) (λ y. ask_same x y))) Holds v
    ∙ ap (λ e. if int_lt (v 2 +ℤ pos 0) (v 1 +ℤ k) then e else None)
    (end-cell mode left (pos 0) (λ x. ask_cell mode right (pos 0) (λ y. ask_same x y)) v
    ∙ end-cell mode right (pos 0) (λ y. ask_same (seen v mode left (pos 0)) y) v))

abbrev pub lengths_end : (ℕ → ℤ) → Mode → SymOp → SymOp → SymOp → SymOp → Option Why
lengths_end v mode a p b q =
    if int_eq (growth mode a +ℤ growth mode p) (growth mode b +ℤ growth mode q)
    then documents_end v mode (p ∷ a ∷ []) (q ∷ b ∷ []) (growth mode a +ℤ growth mode p)
    else Some Lengths

end-lengths : (v : ℕ → ℤ) (mode : Mode) (a p b q : SymOp)
    → end_of (ask_lengths mode a p b q) v ≡ lengths_end v mode a p b q
unfolding ask_lengths
end-lengths v mode a p b q =
    if_end (int_eq (growth mode a +ℤ growth mode p) (growth mode b +ℤ growth mode q))
    (ask_documents mode (p ∷ a ∷ []) (q ∷ b ∷ []) (growth mode a +ℤ growth mode p)) (Fails Lengths) v
    ∙ ap (λ e. if int_eq (growth mode a +ℤ growth mode p) (growth mode b +ℤ growth mode q) then e else Some Lengths)
    (end-documents v mode (p ∷ a ∷ []) (q ∷ b ∷ []) (growth mode a +ℤ growth mode p))

abbrev pub ways_end : (ℕ → ℤ) → Mode → SymOp → SymOp → SymOp → SymOp → Option Why
ways_end v mode a p b q =
    if enabled_to (op_at v p) (v 1 +ℤ growth mode a)
    then (if enabled_to (op_at v q) (v 1 +ℤ growth mode b) then lengths_end v mode a p b q else Some OutOfRange)
    else Some OutOfRange

end-ways : (v : ℕ → ℤ) (mode : Mode) (a p b q : SymOp) → v 0 ≡ pos 0
    → end_of (ask_ways mode a p b q) v ≡ ways_end v mode a p b q
unfolding ask_ways
end-ways v mode a p b q z =
    end-enabled p (growth mode a) (ask_enabled q (growth mode b) (ask_lengths mode a p b q) (Fails OutOfRange))
    (Fails OutOfRange) v z
    ∙ ap (λ e. if enabled_to (op_at v p) (v 1 +ℤ growth mode a) then e else Some OutOfRange)
    (end-enabled q (growth mode b) (ask_lengths mode a p b q) (Fails OutOfRange) v z
    ∙ ap (λ e. if enabled_to (op_at v q) (v 1 +ℤ growth mode b) then e else Some OutOfRange)
    (end-lengths v mode a p b q))

pub goes_on-same : (o : Option SymOp) (g h : SymOp → Option Why) → ((r : SymOp) → g r ≡ h r) → goes_on o g ≡ goes_on o h
goes_on-same None g h e = refl
goes_on-same (Some r) g h e = e r

-- the questions about two operations go on with both forms at the valuation, if they are there
pub end-converge :
    (v : ℕ → ℤ) (f : Function) (a b : SymOp) → v 0 ≡ pos 0
    → end_of (ask_converge f a b) v ≡ goes_on (sym_transformed v f b a)
    (λ p. goes_on (sym_transformed v f a b) (λ q. ways_end v f.head.mode a p b q))
unfolding ask_converge
end-converge v f a b z =
    end-transform f b a (λ p. ask_transform f a b (λ q. ask_ways f.head.mode a p b q)) v
    ∙ goes_on-same (sym_transformed v f b a) _ _
    (λ p.
    end-transform f a b (λ q. ask_ways f.head.mode a p b q) v
    ∙ goes_on-same (sym_transformed v f a b) _ _ (λ q. end-ways v f.head.mode a p b q z))

-- within a document the blank is of no account
pub blank_free : (d : List Cell) (x y : Cell) (j : ℤ) → pos 0 ≤ℤ j → j <ℤ pos (length d) → cell_at x d j ≡ cell_at y d j
blank_free d x y (pos i) low high = get_or_default d i x y (omega (arith, ints, high))
blank_free d x y (negsuc i) low high = absurd (omega (arith, ints, low))

-- the forms at the valuation are those of the operations
pub form_at :
    (v : ℕ → ℤ) (f : Function) (a b p : SymOp) → v 0 ≡ pos 0 → IsCounted v a → IsCounted v b
    → sym_transformed v f a b ≡ Some p
    → transform_of f (op_at v a) (op_at v b) ≡ Some (op_at v p)
form_at v f a b p z ca cb e = transform_of-op_at v z a b ca cb f ∙ ap (option_map (op_at v)) e

-- each operation is enabled on the document itself
abbrev pub all_enabled : (ℕ → ℤ) → List SymOp → Bool
all_enabled v [] = true
all_enabled v (o ∷ os) = enabled_to (op_at v o) (v 1 +ℤ pos 0) && all_enabled v os

pub end-all_enabled :
    (v : ℕ → ℤ) (os : List SymOp) (p : Plan Why) → v 0 ≡ pos 0
    → end_of (ask_all_enabled os p) v ≡ by_test (all_enabled v os) p Holds v
unfolding ask_all_enabled
end-all_enabled v [] p z = refl
end-all_enabled v (o ∷ os) p z =
    end-enabled o (pos 0) (ask_all_enabled os p) Holds v z
    ∙ (ap (λ e. if enabled_to (op_at v o) (v 1 +ℤ pos 0) then e else None) (end-all_enabled v os p z)
    ∙ if_and (enabled_to (op_at v o) (v 1 +ℤ pos 0)) (all_enabled v os) (end_of p v) None)

-- where the plan of a pair leads
pub end-pair :
    (v : ℕ → ℤ) (f : Function) (a b : SymOp) → v 0 ≡ pos 0
    → end_of (ask_pair f a b) v ≡ (if int_le (v 0 +ℤ pos 0) (v 1 +ℤ pos 0)
    then (if all_enabled v (a ∷ b ∷ [])
    then (if sym_allowed v f.head a b then end_of (ask_converge f a b) v else None) else None)
    else None)
unfolding ask_pair
end-pair v f a b z =
    end-le zero_place (length_and (pos 0))
    (ask_all_enabled (a ∷ b ∷ []) (ask_allowed f.head a b (ask_converge f a b))) Holds v
    ∙ ap (λ e. if int_le (v 0 +ℤ pos 0) (v 1 +ℤ pos 0) then e else None)
    (end-all_enabled v (a ∷ b ∷ []) (ask_allowed f.head a b (ask_converge f a b)) z
    ∙ ap (λ e. if all_enabled v (a ∷ b ∷ []) then e else None) (end-allowed f.head a b (ask_converge f a b) v))
