use Rattle.std.proofs.Common.{◌≡◌, ℕ, ◌+◌, ◌<◌, List, [], ◌∷◌, length, drop, get_or, refl, sym, ap, ◌∙◌, arith}
use Rattle.std.proofs.Common.{add-zero}
use Rattle.std.specs.Prelude.{Some}
use Rattle.std.proofs.lemmas.List.{drop_all}
use Rattle.ot_model.specs.declared.op.Op.{Op}
use Rattle.fn_rules.specs.Functions.{Function}
use Rattle.fn_rules.specs.Rules.{function_of}
use Rattle.ot_hub.specs.declared.carry.Crossed.{Crossed}
use Rattle.ot_hub.specs.declared.placed.PlacedOp.{PlacedOp}
use Rattle.ot_hub.specs.Carry.{crossed, carry, from_place, carried_op}
use Rattle.ot_hub.specs.Usable.{farthest_carried}
use Rattle.ot_hub.proofs.Carrying.{no_one, from_true, from_false, rest-dropped, carry-next, carry-stuck}
use Rattle.ot_hub.proofs.Carrying.{carried_op-carried_behind}
use Rattle.ot_hub.proofs.Near.{KeepsNear, keeps_near, CanCross, CanCross-next, IsUsable-next, IsUsable-passed}
use Rattle.ot_hub.proofs.carry.carried.Goals as goal
use Rattle.ot_hub.proofs.carry.carried.Goals.{then-other-place+in_ok-form, else-other-place}

pub loop-other-init : goal.loop-other-init
loop-other-init c = record { same = refl; usable = rw add-zero c.requires.op }

pub cross-requires : goal.cross-requires
cross-requires c =
    let f : Function = function_of c.args.rules.now in
    let i : ℕ = c.loop-other.other-index in
    let m : ℕ = farthest_carried (length c.args.list.now) in
    let both : CanCross f c.loop-other.form (get_or c.args.list.now i no_one).op =
    CanCross-next f (keeps_near f c.functions_keep_forms.ensures c.transform_stays_near.ensures
    c.enabled_operations_are_near.ensures.wider c.rules_are_valid.ensures)
    c.args.list.now m i c.loop-other.form c.loop-other-test.true c.loop-other.invariant.usable c.requires.list
    (omega (arith, c.loop-other-test.true, c.requires.few)) in
    record { own = both.own; other = both.other }

-- one of the list more: it was crossed, or stands before the place
pub loop-other-preserved : goal.loop-other-preserved
loop-other-preserved c =
    let f : Function = function_of c.args.rules.now in
    let list : List PlacedOp = c.args.list.now in
    let i : ℕ = c.loop-other.other-index in
    let o : Op = c.loop-other.form in
    let m : ℕ = farthest_carried (length list) in
    let here : PlacedOp = get_or list i no_one in
    let inside : i < length list = c.loop-other-test.true in
    let has : KeepsNear f =
    keeps_near f c.functions_keep_forms.ensures c.transform_stays_near.ensures
    c.enabled_operations_are_near.ensures.wider c.rules_are_valid.ensures in
    elim c.if-other-place.branch [
      | then-other-place+in_ok-form w ↦
          (let both : Crossed = w.in_ok-form.field-0 in
          let is : crossed f o here.op ≡ Some both = sym w.in_ok-form.ensures in
          rw w.form-is (record {
            same = c.loop-other.invariant.same
                ∙ ap carried_op (carry-next f list c.args.place i inside o both
                (from_true c.args.place here.place w.if-other-place.true) is)
                ∙ carried_op-carried_behind (record here { op = both.other } ∷ [])
                (carry f both.own (from_place c.args.place (drop (i + 1) list)));
            usable = IsUsable-next f has list m i o inside c.loop-other.invariant.usable c.requires.list both is;
          }))
      | else-other-place w ↦ rw w.form-is (record {
        same = c.loop-other.invariant.same
            ∙ ap (λ bs. carried_op (carry f o bs))
            (rest-dropped f list c.args.place i inside (from_false c.args.place here.place w.if-other-place.false));
        usable = IsUsable-passed f has list m i o inside c.loop-other.invariant.usable c.requires.list;
      })
    ]

-- one that the operation can't cross
pub returns-in_err-form : goal.returns-in_err-form
returns-in_err-form c =
    let f : Function = function_of c.args.rules.now in
    let list : List PlacedOp = c.args.list.now in
    let i : ℕ = c.loop-other.other-index in
    c.from_residual.ensures
    ∙ sym (c.loop-other.invariant.same
    ∙ ap carried_op (carry-stuck f list c.args.place i c.loop-other-test.true c.loop-other.form
    (from_true c.args.place (get_or list i no_one).place c.if-other-place.true) (sym c.in_err-form.ensures)))

pub returns : goal.returns
returns c = sym (c.loop-other.invariant.same
    ∙ ap (λ bs. carried_op (carry (function_of c.args.rules.now) c.loop-other.form (from_place c.args.place bs)))
    (drop_all c.loop-other.other-index c.args.list.now (omega (arith, c.loop-other-test.false))))
