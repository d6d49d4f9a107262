-- A trace ends as the integration does.
use Rattle.std.proofs.Common.{◌≡◌, ℕ, ◌+◌, List, [], ◌∷◌, ◌++◌, length, map, Option, Some, None, refl, inl}
use Rattle.std.proofs.Common.{inr}
use Rattle.std.proofs.lemmas.Bool.{cases_Bool}
use Rattle.ot_model.specs.declared.cell.Cell.{Cell}
use Rattle.ot_model.specs.declared.op.Op.{Op}
use Rattle.ot_model.specs.Effect.{is_enabled, document_after}
use Rattle.fn_rules.specs.Functions.{Function}
use Rattle.fn_rules.specs.Orders.{StuckAt, through, with_form, outcome_from, operation_at}
use Rattle.ot_trace.specs.Orders.{end_of, behind, after_end, ends_with, traces_from}

-- from a document and executed forms on: by what comes of the first operation that is left
pub traces_end : (f : Function) (d : List Cell) (ops executed : List Op) (place : ℕ) (order : List ℕ)
    → ends_with place d (traces_from f d ops executed order)
    ≡ outcome_from f d executed place (map (operation_at ops) order)
traces_end f d ops executed place [] = refl
traces_end f d ops executed place (i ∷ others) =
    by (through f (operation_at ops i) executed)
    (λ p. traces_end f (document_after f.head.mode p d) ops (executed ++ p ∷ []) (place + 1) others)
  where
    by : (form : Option Op)
        → ((p : Op) → ends_with (place + 1) (document_after f.head.mode p d)
        (traces_from f (document_after f.head.mode p d) ops (executed ++ p ∷ []) others)
        ≡ outcome_from f (document_after f.head.mode p d) (executed ++ p ∷ []) (place + 1)
        (map (operation_at ops) others))
        → after_end (end_of f d form)
        (λ next. ends_with (place + 1) next
        (behind (end_of f d form) (λ p new. traces_from f new ops (executed ++ p ∷ []) others))) (StuckAt place)
        ≡ with_form form d
        (λ p. outcome_from f (document_after f.head.mode p d) (executed ++ p ∷ []) (place + 1)
        (map (operation_at ops) others)) (StuckAt place)
    by None rest = refl
    by (Some p) rest = elim (cases_Bool (is_enabled p (length d)))
        [ inl enabled ↦ rw enabled (rest p) | inr refused ↦ rw refused refl ]
