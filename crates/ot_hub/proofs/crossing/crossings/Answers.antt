use Rattle.std.proofs.Common.{◌≡◌, ℕ, ◌+◌, ◌<◌, List, [], ◌∷◌, ◌++◌, length, drop, get_or, refl, sym, ap, ◌∙◌, arith}
use Rattle.std.proofs.Common.{add-zero, append_assoc}
use Rattle.std.proofs.lemmas.List.{append-nil, drop_all}
use Rattle.std.proofs.lemmas.List.Elements.{All-nil, All-push}
use Rattle.std.specs.Prelude.{Some}
use Rattle.ot_model.specs.declared.op.Op.{Op}
use Rattle.fn_rules.specs.Functions.{Function}
use Rattle.fn_rules.specs.Rules.{function_of}
use Rattle.ot_hub.specs.declared.carry.Crossed.{Crossed}
use Rattle.ot_hub.specs.declared.crossing.Crossing.{Crossing}
use Rattle.ot_hub.specs.declared.placed.PlacedOp.{PlacedOp}
use Rattle.ot_hub.specs.Carry.{crossed, from_place}
use Rattle.ot_hub.specs.Crossings.{CanBothMove, crossings}
use Rattle.ot_hub.specs.Usable.{farthest_carried}
use Rattle.ot_hub.proofs.Carrying.{no_one, from_true, from_false, rest-dropped}
use Rattle.ot_hub.proofs.Crossings.{crossings-next, crossings-stuck}
use Rattle.ot_hub.proofs.Near.{KeepsNear, keeps_near, CanCross, CanCross-next, IsUsable-next, IsUsable-passed}
use Rattle.ot_hub.proofs.crossing.crossings.Goals as goal
use Rattle.ot_hub.proofs.crossing.crossings.Goals.{then-other-place+in_ok-push+in-Some, else-other-place}

pub loop-other-init : goal.loop-other-init
loop-other-init c = record {
  same = rw c.new-found.ensures refl;
  usable = rw add-zero c.requires.op;
  all = rw c.new-found.ensures (All-nil (CanBothMove (function_of c.args.rules.now)));
}

-- the next two can cross
pub cross-requires : goal.cross-requires
cross-requires c =
    let f : Function = function_of c.args.rules.now in
    let i : ℕ = c.loop-other.other-index in
    let both : CanCross f c.loop-other.form (get_or c.args.list.now i no_one).op =
    CanCross-next f (keeps_near f c.functions_keep_forms.ensures c.transform_stays_near.ensures
    c.enabled_operations_are_near.ensures.wider c.rules_are_valid.ensures)
    c.args.list.now (farthest_carried (length c.args.list.now)) i c.loop-other.form c.loop-other-test.true
    c.loop-other.invariant.usable c.requires.list (omega (arith, c.loop-other-test.true, c.requires.few)) in
    record { own = both.own; other = both.other }

-- one of the list more: it was crossed, or stands before the place
pub loop-other-preserved : goal.loop-other-preserved
loop-other-preserved c =
    let f : Function = function_of c.args.rules.now in
    let list : List PlacedOp = c.args.list.now in
    let i : ℕ = c.loop-other.other-index in
    let o : Op = c.loop-other.form in
    let m : ℕ = farthest_carried (length list) in
    let here : PlacedOp = get_or list i no_one in
    let inside : i < length list = c.loop-other-test.true in
    let has : KeepsNear f =
    keeps_near f c.functions_keep_forms.ensures c.transform_stays_near.ensures
    c.enabled_operations_are_near.ensures.wider c.rules_are_valid.ensures in
    let both_can : CanCross f o here.op = CanCross-next f has list m i o inside c.loop-other.invariant.usable
    c.requires.list (omega (arith, inside, c.requires.few)) in
    let pair : Crossing = record { own = o; other = here.op } in
    elim c.if-other-place.branch [
      | then-other-place+in_ok-push+in-Some w ↦
          (let both : Crossed = w.in-Some.both in
          let is : crossed f o here.op ≡ Some both = sym w.in-Some.ensures in
          let pushed : w.push.new.self ≡ c.loop-other.found ++ pair ∷ [] = w.in_ok-push.ensures.ok in
          rw (w.form-is, w.found-is, pushed) (record {
            same = c.loop-other.invariant.same
                ∙ ap (λ rest. c.loop-other.found ++ rest)
                (crossings-next f list c.args.place i inside o both
                (from_true c.args.place here.place w.if-other-place.true) is)
                ∙ simp (append_assoc) refl;
            usable = IsUsable-next f has list m i o inside c.loop-other.invariant.usable c.requires.list both is;
            all = All-push (CanBothMove f) c.loop-other.found pair c.loop-other.invariant.all
                (record { own = both_can.own; other = both_can.other });
          }))
      | else-other-place w ↦ rw (w.form-is, w.found-is) (record {
        same = c.loop-other.invariant.same
            ∙ ap (λ bs. c.loop-other.found ++ crossings f o bs)
            (rest-dropped f list c.args.place i inside (from_false c.args.place here.place w.if-other-place.false));
        usable = IsUsable-passed f has list m i o inside c.loop-other.invariant.usable c.requires.list;
        all = c.loop-other.invariant.all;
      })
    ]

-- two that cross, of which one has no result, are the last
pub returns-in_default-clause-usable : goal.returns-in_default-clause-usable
returns-in_default-clause-usable c =
    let f : Function = function_of c.args.rules.now in
    let list : List PlacedOp = c.args.list.now in
    let i : ℕ = c.loop-other.other-index in
    let o : Op = c.loop-other.form in
    let here : PlacedOp = get_or list i no_one in
    let both_can : CanCross f o here.op =
    CanCross-next f (keeps_near f c.functions_keep_forms.ensures c.transform_stays_near.ensures
    c.enabled_operations_are_near.ensures.wider c.rules_are_valid.ensures)
    list (farthest_carried (length list)) i o c.loop-other-test.true c.loop-other.invariant.usable c.requires.list
    (omega (arith, c.loop-other-test.true, c.requires.few)) in
    rw c.in_ok-push.ensures.ok
    (All-push (CanBothMove f) c.loop-other.found (record { own = o; other = here.op }) c.loop-other.invariant.all
    (record { own = both_can.own; other = both_can.other }))
