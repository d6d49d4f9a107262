use Rattle.std.proofs.Common.{ℕ, ◌↔◌, ◌++◌, ◌∙◌, ap, sym, subst, length, List, arith}
use Rattle.std.specs.Prelude.{IfSome, IsNone}
use Rattle.std.proofs.lemmas.Option.{IfSome_then}
use Rattle.std.proofs.lemmas.Result.{IfOk-weaker}
use Rattle.diff_graph.specs.declared.lit.Lit.{Lit}
use Rattle.diff_graph.specs.Literals.{Meets, AreMet, IsPossible}
use Rattle.diff_graph.specs.Limits.{AreNamed, AreSmall}
use Rattle.diff_tables.specs.Solutions.{AreLeast, AreLeastMeeting, IsPossibleAbove, floors_from, IsBoundedBelow}
use Rattle.diff_tables.proofs.AddingSteps.{All-append}
use Rattle.diff_tables.proofs.FloorSteps.{AreNamed-floors_from, AreSmall-floors_from, length-floors_from}
use Rattle.diff_tables.proofs.FloorSteps.{IsBoundedBelow-floors_from, AreLeast-from_meeting, All-first, All-second}
use Rattle.diff_tables.proofs.FloorSteps.{AreMet-floors_from, floors-from_met}
use Rattle.diff_tables.proofs.floors.least_of_named.Goals as goal

pub least_in-requires-clause-bounds_named : goal.least_in-requires-clause-bounds_named
least_in-requires-clause-bounds_named c =
    let bounds = c.deref.ensures.value ∙ c.in_ok-bounds.ensures in
    let len = ap length c.deref_mut.ensures.value ∙ c.in_ok-rows.ensures.0 in
    subst (λ (ls : List Lit). AreNamed (length c.deref_mut.result.now) ls) (sym bounds)
    (subst (λ (n : ℕ). AreNamed n (floors_from 0 c.args.floors.now)) (sym len)
    (AreNamed-floors_from (length c.args.floors.now) 0 c.args.floors.now c.requires.names (omega arith)))

pub least_in-requires-clause-bounds_small : goal.least_in-requires-clause-bounds_small
least_in-requires-clause-bounds_small c =
    let bounds = c.deref.ensures.value ∙ c.in_ok-bounds.ensures in
    subst (λ (ls : List Lit). AreSmall ls) (sym bounds) (AreSmall-floors_from 0 c.args.floors.now c.requires.floors)

pub least_in-requires-clause-bounds_count : goal.least_in-requires-clause-bounds_count
least_in-requires-clause-bounds_count c =
    let bounds = c.deref.ensures.value ∙ c.in_ok-bounds.ensures in
    omega (arith, ap length bounds, length-floors_from 0 c.args.floors.now)

pub least_in-requires-clause-bounded : goal.least_in-requires-clause-bounded
least_in-requires-clause-bounded c =
    let bounds = c.deref.ensures.value ∙ c.in_ok-bounds.ensures in
    let len = ap length c.deref_mut.ensures.value ∙ c.in_ok-rows.ensures.0 in
    subst (λ (ls : List Lit). IsBoundedBelow (length c.deref_mut.result.now) ls) (sym bounds)
    (subst (λ (n : ℕ). IsBoundedBelow n (floors_from 0 c.args.floors.now)) (sym len)
    (IsBoundedBelow-floors_from c.args.floors.now))

pub returns-clause-least : goal.returns-clause-least
returns-clause-least c =
    let bounds = c.deref.ensures.value ∙ c.in_ok-bounds.ensures in
    let len = ap length c.deref_mut.ensures.value ∙ c.in_ok-rows.ensures.0 in
    let n = length c.deref_mut.result.now in
    let lits = c.args.lits.now in
    IfOk-weaker c.least_in.result
    (λ found. IfSome found (λ values. AreLeastMeeting n (lits ++ c.deref.result.now) values.items))
    (λ found. IfSome found (λ values. AreLeast lits c.args.floors.now values.items))
    (λ found least. IfSome_then found least (λ values meeting.
    AreLeast-from_meeting lits c.args.floors.now values.items n len
    (subst (λ (ls : List Lit). AreLeastMeeting n (lits ++ ls) values.items) bounds meeting)))
    c.least_in.ensures.least

-- none come exactly where no integers that are at least the floors meet the literals
pub returns-clause-none : goal.returns-clause-none
returns-clause-none c =
    let bounds = c.deref.ensures.value ∙ c.in_ok-bounds.ensures in
    let lits = c.args.lits.now in
    let floors = c.args.floors.now in
    IfOk-weaker c.least_in.result (λ found. IsNone found ↔ ¬ IsPossible (lits ++ c.deref.result.now))
    (λ found. IsNone found ↔ ¬ IsPossibleAbove floors lits)
    (λ found both. (
      λ none above.
          both.0 none (
            above.0,
            above.1,
            subst (λ (ls : List Lit). AreMet above.0 (lits ++ ls)) (sym bounds)
                (All-append (λ m. Meets above.0 m) lits (floors_from 0 floors) above.2
                (AreMet-floors_from floors above.0 above.1 above.3)),
          ),
      λ not. both.1 (λ possible.
          (let met : AreMet possible.0
          (lits ++ floors_from 0 floors) =
          subst (λ (ls : List Lit). AreMet possible.0 (lits ++ ls)) bounds possible.2 in
          not (
            possible.0,
            possible.1,
            All-first (λ m. Meets possible.0 m) lits (floors_from 0 floors) met,
            floors-from_met floors possible.0 possible.1
                (All-second (λ m. Meets possible.0 m) lits (floors_from 0 floors) met),
          ))),
    )) c.least_in.ensures.none
