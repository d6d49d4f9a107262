-- What became of the operations of an order, one after the other.
use Rattle.std.specs.Prelude.{◌≡◌, ℕ, ◌+◌, if◌then◌else◌, List, [], ◌∷◌, ◌++◌, length, Option, Some, None}
use Rattle.ot_model.specs.declared.cell.Cell.{Cell}
use Rattle.ot_model.specs.declared.op.Op.{Op}
use Rattle.ot_model.specs.Effect.{is_enabled, document_after}
use Rattle.fn_rules.specs.Functions.{Function}
use Rattle.fn_rules.specs.Orders.{Outcome, Document, StuckAt, through, operation_at}
use Rattle.ot_ways.specs.declared.one_step.Step.{Step}
use Rattle.ot_trace.specs.Steps.{steps_over}

-- what came of an operation: its form was executed, and this is the document behind it; it has no form, or one that is
-- not enabled on so many cells
pub data OpEnd : Type 0 where
  Executed : Op → List Cell → OpEnd
  NoForm : OpEnd
  NotEnabled : Op → ℕ → OpEnd

-- an operation of an order: its number, as it was made, how it was carried over those before it, and what came of it
pub record OpTrace : Type 0 where
  pub number : ℕ
  pub op : Op
  pub steps : List Step
  pub end : OpEnd

-- what comes of a form on a document
abbrev pub end_of : Function → List Cell → Option Op → OpEnd
end_of f d None = NoForm
end_of f d (Some p) =
    if is_enabled p (length d) then Executed p (document_after f.head.mode p d) else NotEnabled p (length d)

-- the operation with a number, carried over those that were executed before it
abbrev pub op_trace : Function → List Cell → List Op → List Op → ℕ → OpTrace
op_trace f d ops executed i = record {
  number = i;
  op = operation_at ops i;
  steps = steps_over f (operation_at ops i) executed;
  end = end_of f d (through f (operation_at ops i) executed);
}

-- what follows on an operation that was executed
abbrev pub behind : OpEnd → (Op → List Cell → List OpTrace) → List OpTrace
behind (Executed p d) rest = rest p d
behind NoForm rest = []
behind (NotEnabled p cells) rest = []

-- the operations that an order still names, where these forms were executed
-- before, up to the first that is not executed
abbrev pub traces_from : Function → List Cell → List Op → List Op → List ℕ → List OpTrace
traces_from f d ops executed [] = []
traces_from f d ops executed (i ∷ others) =
    op_trace f d ops executed i
    ∷ behind (end_of f d (through f (operation_at ops i) executed))
    (λ p next. traces_from f next ops (executed ++ p ∷ []) others)

-- the operations of an order
abbrev pub order_trace : Function → List Cell → List Op → List ℕ → List OpTrace
order_trace f d ops order = traces_from f d ops [] order

-- what follows on what came of an operation: from its document on, or where it was not executed
abbrev pub after_end : OpEnd → (List Cell → Outcome) → Outcome → Outcome
after_end (Executed p d) go stuck = go d
after_end NoForm go stuck = stuck
after_end (NotEnabled p cells) go stuck = stuck

-- how an order ends whose operations came to this, from a document on, where so many places are done
abbrev pub ends_with : ℕ → List Cell → List OpTrace → Outcome
ends_with place d [] = Document d
ends_with place d (t ∷ ts) = after_end t.end (λ next. ends_with (place + 1) next ts) (StuckAt place)

-- what came of a form that was to be executed on a document, as it stands then: the form where it was, none where not
abbrev pub HasEnded : OpEnd → List Cell → Option Op → List Cell → Type 0
HasEnded (Executed p next) d done new = (done ≡ Some p) × (new ≡ next)
HasEnded NoForm d done new = (done ≡ None) × (new ≡ d)
HasEnded (NotEnabled p cells) d done new = (done ≡ None) × (new ≡ d)
