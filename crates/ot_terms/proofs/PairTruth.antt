-- What is left of a pair after some results is true exactly where what is left to be asked ends in `Holds`.
use Rattle.std.proofs.Common.{◌≡◌, ℕ, zero, suc, ℤ, pos, ◌+ℤ◌, if◌then◌else◌, Option, Some, None, List, [], ◌∷◌, ap}
use Rattle.std.proofs.Common.{sym, ◌∙◌}
use Rattle.std.specs.Prelude.{◌↔◌}
use Rattle.std.specs.Ordering.{int_eq}
use Rattle.std.proofs.lemmas.Bool.Decides.{Decides-int_eq}
use Rattle.ot_model.specs.declared.op.Kind.{Kind}
use Rattle.ot_model.specs.declared.op.Mode.{Mode}
use Rattle.fn_rules.specs.declared.function.ObName.TheVariants.{Pair}
use Rattle.fn_rules.specs.Functions.{Function}
use Rattle.ask_core.specs.Plans.{Plan, Holds, Fails, end_of}
use Rattle.ot_questions.specs.declared.cell.Finished.{Finished}
use Rattle.ot_questions.specs.declared.place.SymOp.{SymOp}
use Rattle.ot_questions.specs.declared.why.Why.{Why}
use Rattle.ot_questions.specs.declared.why.Why.TheVariants.{OutOfRange, Lengths}
use Rattle.ot_questions.specs.Places.{index_and, growth}
use Rattle.ot_questions.specs.Questions.{ask_enabled, ask_transform, ask_le, ask_lt, ask_eq}
use Rattle.ot_questions.specs.Reading.{ask_cell, ask_same}
use Rattle.ot_questions.specs.Obligation.{ask_documents, ask_lengths, ask_ways, ask_converge}
use Rattle.ot_questions.proofs.Values.{if_end, by_test, end-cell, seen}
use Rattle.ot_terms.specs.Forms.{form_holds}
use Rattle.ot_terms.specs.Changes.{doc_of}
use Rattle.ot_terms.specs.Cells as cells
use Rattle.ot_terms.specs.Standing.{ask_form, ask_after, ask_pair_after}
use Rattle.ot_terms.specs.Starting.{enabled_form}
use Rattle.ot_terms.specs.Truth.{AreSameCell, index_form, GiveOneDocument, HoldsAfter}
use Rattle.ot_terms.proofs.Forms.{end_form}
use Rattle.ot_terms.proofs.Starts.{ask_form-enabled_form}
use Rattle.ot_terms.proofs.ReadCells.{read_made}
use Rattle.ot_terms.proofs.Comparisons.{found_where_same, same_where_found}
use Rattle.ot_terms.proofs.Choices.{along, required, supposed}
use Rattle.ot_terms.proofs.Results.{result_holds}

module _ (v : ℕ → ℤ) where
  end-enabled_form :
      (o : SymOp) (off : ℤ) (p q : Plan Why)
      → end_of (ask_enabled o off p q) v ≡ by_test (form_holds v (enabled_form o off)) p q v
  end-enabled_form o off p q =
      ap (λ x. end_of x v) (sym (ask_form-enabled_form o off p q)) ∙ end_form (enabled_form o off) p q v

  -- two documents that operations made, the last one first
  module _ (mode : Mode) (left right : List SymOp) where
    abbrev cells_end : Option Why
    cells_end = end_of (ask_same (seen v mode left (pos 0)) (seen v mode right (pos 0))) v

    end-documents : (off : ℤ)
        → end_of (ask_documents mode left right off) v ≡ (if form_holds v (index_form off) then cells_end else None)
    unfolding ask_documents ask_form ask_le ask_lt ask_eq
    end-documents off =
        let compared = ask_cell mode left (pos 0) (λ x. ask_cell mode right (pos 0) (λ y. ask_same x y)) in
        end_form (index_form off) compared Holds v
        ∙ ap (λ e. if form_holds v (index_form off) then e else None)
        (end-cell mode left (pos 0) (λ x. ask_cell mode right (pos 0) (λ y. ask_same x y)) v
        ∙ end-cell mode right (pos 0) (λ y. ask_same (seen v mode left (pos 0)) y) v)

    cells_hold :
        AreSameCell v (cells.At (doc_of mode left) (index_and (pos 0)))
        (cells.At (doc_of mode right) (index_and (pos 0)))
        ↔ (cells_end ≡ None)
    cells_hold =
        let x : Finished = seen v mode left (pos 0) in
        let y : Finished = seen v mode right (pos 0) in (
          λ h. found_where_same v x y
              (λ base. sym (read_made base v mode left (pos 0)) ∙ (h base ∙ read_made base v mode right (pos 0))),
          λ e base. read_made base v mode left (pos 0)
              ∙ (same_where_found v x y e base ∙ sym (read_made base v mode right (pos 0))),
        )

  -- two operations and their forms
  module _ (mode : Mode) (a p b q : SymOp) where
    abbrev documents_end : Option Why
    documents_end =
        if form_holds v (index_form (growth mode a +ℤ growth mode p))
        then cells_end mode (p ∷ a ∷ []) (q ∷ b ∷ []) else None

    abbrev lengths_end : Option Why
    lengths_end = if int_eq (growth mode a +ℤ growth mode p) (growth mode b +ℤ growth mode q)
        then documents_end else Some Lengths

    end-lengths : end_of (ask_lengths mode a p b q) v ≡ lengths_end
    unfolding ask_lengths
    end-lengths =
        let t = int_eq (growth mode a +ℤ growth mode p) (growth mode b +ℤ growth mode q) in
        if_end t (ask_documents mode (p ∷ a ∷ []) (q ∷ b ∷ []) (growth mode a +ℤ growth mode p)) (Fails Lengths) v
        ∙ ap (λ e. if t then e else Some Lengths)
        (end-documents mode (p ∷ a ∷ []) (q ∷ b ∷ []) (growth mode a +ℤ growth mode p))

    abbrev ways_end : Option Why
    ways_end =
        if form_holds v (enabled_form p (growth mode a))
        then (if form_holds v (enabled_form q (growth mode b)) then lengths_end else Some OutOfRange)
        else Some OutOfRange

    end-ways : end_of (ask_ways mode a p b q) v ≡ ways_end
    unfolding ask_ways
    end-ways =
        end-enabled_form p (growth mode a)
        (ask_enabled q (growth mode b) (ask_lengths mode a p b q) (Fails OutOfRange)) (Fails OutOfRange)
        ∙ ap (λ e. if form_holds v (enabled_form p (growth mode a)) then e else Some OutOfRange)
        (end-enabled_form q (growth mode b) (ask_lengths mode a p b q) (Fails OutOfRange)
        ∙ ap (λ e. if form_holds v (enabled_form q (growth mode b)) then e else Some OutOfRange) end-lengths)

    -- both ways give one document exactly where the questions about them end with no cause
    pub ways_hold : GiveOneDocument v mode a p b q ↔ (end_of (ask_ways mode a p b q) v ≡ None)
    ways_hold =
        let lengths = Decides-int_eq (growth mode a +ℤ growth mode p) (growth mode b +ℤ growth mode q) in
        let found =
        along _ _ _ end-ways
        (required (form_holds v (enabled_form p (growth mode a))) _ _ OutOfRange
        (required (form_holds v (enabled_form q (growth mode b))) _ _ OutOfRange
        (required (int_eq (growth mode a +ℤ growth mode p) (growth mode b +ℤ growth mode q)) _ _ Lengths
        (supposed (form_holds v (index_form (growth mode a +ℤ growth mode p))) _ _
        (cells_hold mode (p ∷ a ∷ []) (q ∷ b ∷ []))))))
        in (
          λ h. found.0 (h.b_enabled, (h.a_enabled, (lengths.1 h.lengths, h.cells))),
          λ n. let h = found.1 n in record {
            b_enabled = h.0;
            a_enabled = h.1.0;
            lengths = lengths.0 h.1.1.0;
            cells = h.1.1.1;
          },
        )

  module _ (f : Function) (k l : Kind) (a b : SymOp) (os : List SymOp) where
    abbrev After : ℕ → List SymOp → Type 0
    After most got = HoldsAfter most f v (Pair k l) (a ∷ b ∷ os) got

    after_two : (most : ℕ) (p q : SymOp) (got : List SymOp)
        → After most (p ∷ q ∷ got) ↔ (end_of (ask_ways f.head.mode a p b q) v ≡ None)
    after_two zero p q got = ways_hold f.head.mode a p b q
    after_two (suc most) p q got = ways_hold f.head.mode a p b q

    after_one :
        (most : ℕ) (p : SymOp)
        → After (suc most) (p ∷ []) ↔ (end_of (ask_transform f a b (λ q. ask_ways f.head.mode a p b q)) v ≡ None)
    after_one most p =
        result_holds v a b f 0 (λ q. After most (p ∷ q ∷ [])) (λ q. ask_ways f.head.mode a p b q)
        (λ q. after_two most p q [])

    after_none : (most : ℕ) → After (suc (suc most)) [] ↔ (end_of (ask_converge f a b) v ≡ None)
    unfolding ask_converge
    after_none most =
        result_holds v b a f 0 (λ p. After (suc most) (p ∷ []))
        (λ p. ask_transform f a b (λ q. ask_ways f.head.mode a p b q)) (after_one most)

    pub pair_after : (got : List SymOp) → After 2 got ↔ (end_of (ask_after f (Pair k l) (a ∷ b ∷ os) got) v ≡ None)
    unfolding ask_after ask_pair_after
    pair_after [] = after_none 0
    pair_after (p ∷ []) = after_one 1 p
    pair_after (p ∷ q ∷ got) = after_two 2 p q got
