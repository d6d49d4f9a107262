-- What came of an operation of an order, and what follows on it.
use Rattle.std.proofs.Common.{◌≡◌, ℕ, ◌+◌, ◌<◌, true, false, List, [], ◌∷◌, ◌++◌, length, drop, get_or, Option, Some}
use Rattle.std.proofs.Common.{None, refl, sym, ap, inl, inr}
use Rattle.std.proofs.lemmas.Bool.{cases_Bool}
use Rattle.std.proofs.lemmas.List.{drop_more}
use Rattle.ot_model.specs.declared.cell.Cell.{Cell}
use Rattle.ot_model.specs.declared.op.Op.{Op}
use Rattle.ot_model.specs.Effect.{is_enabled, document_after}
use Rattle.fn_rules.specs.Functions.{Function}
use Rattle.fn_rules.specs.Orders.{through, operation_at}
use Rattle.ot_trace.specs.Orders.{Executed, NotEnabled, OpTrace, end_of, op_trace, behind, traces_from}
use Rattle.ot_trace.specs.Orders.{HasEnded}

-- a form was executed on a document
pub record WasExecuted (f : Function) (d : List Cell) (form : Option Op) (p : Op) (new : List Cell) : Type 0 where
  pub is : form ≡ Some p
  pub enabled : is_enabled p (length d) ≡ true
  pub document : new ≡ document_after f.head.mode p d
  pub end : end_of f d form ≡ Executed p new

-- where an order goes on with an operation, that operation was the form, enabled and executed
pub was_executed : (f : Function) (d : List Cell) (form : Option Op) (p : Op) (new : List Cell)
    → HasEnded (end_of f d form) d (Some p) new
    → WasExecuted f d form p new
was_executed f d None p new (wrong, same) = cc
was_executed f d (Some q) p new ended = elim (cases_Bool (is_enabled q (length d))) [
  | inl enabled ↦
      (let done : HasEnded (Executed q (document_after f.head.mode q d)) d (Some p) new = rw enabled at ended in
      let same : q ≡ p = cc in
      rw (← same) (record {
        is = refl;
        enabled = enabled;
        document = done.1;
        end = rw enabled (ap (Executed q) (sym done.1));
      }))
  | inr refused ↦
      (let done : HasEnded (NotEnabled q (length d)) d (Some p) new = rw refused at ended in
      absurd (let wrong = done.0 in cc))
]

-- nothing follows on a form that was not executed
pub nothing_behind : (f : Function) (d : List Cell) (form : Option Op) (new : List Cell) (rest : Op
    → List Cell → List OpTrace)
    → HasEnded (end_of f d form) d None new → behind (end_of f d form) rest ≡ []
nothing_behind f d None new rest ended = refl
nothing_behind f d (Some q) new rest ended = elim (cases_Bool (is_enabled q (length d))) [
  | inl enabled ↦
      (let done : HasEnded (Executed q (document_after f.head.mode q d)) d None new = rw enabled at ended in
      absurd (let wrong = done.0 in cc))
  | inr refused ↦ rw refused refl
]

module _ (f : Function) (d : List Cell) (ops executed : List Op) (order : List ℕ) (i : ℕ)
    (inside : i < length order) where
  abbrev number : ℕ
  number = get_or order i 0

  abbrev form : Option Op
  form = through f (operation_at ops number) executed

  -- the next operation was executed
  pub traces-next : (p : Op) (new : List Cell) → end_of f d form ≡ Executed p new
      → traces_from f d ops executed (drop i order)
      ≡ op_trace f d ops executed number ∷ traces_from f new ops (executed ++ p ∷ []) (drop (i + 1) order)
  traces-next p new is = rw (drop_more order i 0 inside, is) refl

  -- it was not
  pub traces-last : (new : List Cell) → HasEnded (end_of f d form) d None new
      → traces_from f d ops executed (drop i order) ≡ op_trace f d ops executed number ∷ []
  traces-last new ended =
      rw (drop_more order i 0 inside)
      (ap (λ (rest : List OpTrace). op_trace f d ops executed number ∷ rest)
      (nothing_behind f d form new (λ p next. traces_from f next ops (executed ++ p ∷ []) (drop (i + 1) order)) ended))

-- a form that is enabled is executed, and one that is not is not
pub end_of-enabled : (f : Function) (d : List Cell) (p : Op) → is_enabled p (length d) ≡ true
    → end_of f d (Some p) ≡ Executed p (document_after f.head.mode p d)
end_of-enabled f d p enabled = rw enabled refl

pub end_of-refused : (f : Function) (d : List Cell) (p : Op) → is_enabled p (length d) ≡ false
    → end_of f d (Some p) ≡ NotEnabled p (length d)
end_of-refused f d p refused = rw refused refl
