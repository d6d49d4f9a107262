use Rattle.std.proofs.Common.{◌≡◌, ℕ, ◌+◌, ◌<◌, true, false, List, [], ◌∷◌, ◌++◌, length, drop, get_or, sym, ap, ◌∙◌}
use Rattle.std.proofs.Common.{arith, add-zero, subst, Option, None, is_some}
use Rattle.std.proofs.lemmas.List.{append-nil, drop_all}
use Rattle.std.specs.Prelude.{Some}
use Rattle.std.specs.Option.{option_map}
use Rattle.ot_model.specs.declared.op.Op.{Op}
use Rattle.fn_rules.specs.Functions.{Function}
use Rattle.fn_rules.specs.Rules.{function_of}
use Rattle.ot_hub.specs.declared.carry.Crossed.{Crossed}
use Rattle.ot_hub.specs.declared.placed.PlacedOp.{PlacedOp}
use Rattle.ot_hub.specs.Carry.{Carried, crossed, carried_behind, carry, carried_list, from_place}
use Rattle.ot_hub.specs.Usable.{farthest_carried}
use Rattle.ot_hub.proofs.Carrying.{no_one, from_true, from_false, rest-dropped, carry-next, carry-stuck}
use Rattle.ot_hub.proofs.Carrying.{carried_behind-carried_behind, carried_behind-nothing}
use Rattle.ot_hub.proofs.Near.{KeepsNear, keeps_near, CanCross-next, IsUsable-next, IsUsable-passed}
use Rattle.ot_hub.proofs.carry.carry_list.Goals as goal
use Rattle.ot_hub.proofs.carry.carry_list.Goals.{then-other-place+in-Some+in_ok-push, else-other-place}

pub loop-other-init : goal.loop-other-init
loop-other-init c =
    let start = carry (function_of c.args.rules.now) c.args.op (from_place c.args.place c.args.list.now) in
    record {
      same = rw c.new-new.ensures (sym (carried_behind-nothing start));
      usable = rw add-zero c.requires.usable.op;
    }

pub cross-requires-clause-own : goal.cross-requires-clause-own
cross-requires-clause-own c =
    let f : Function = function_of c.args.rules.now in
    let i : ℕ = c.loop-other.other-index in
    (CanCross-next f (keeps_near f c.functions_keep_forms.ensures c.transform_stays_near.ensures
    c.enabled_operations_are_near.ensures.wider c.rules_are_valid.ensures)
    c.args.list.now (farthest_carried (length c.args.list.now)) i c.loop-other.form c.loop-other-test.true
    c.loop-other.invariant.usable c.requires.usable.list
    (omega (arith, c.loop-other-test.true, c.requires.usable.few))).own

pub cross-requires-clause-other : goal.cross-requires-clause-other
cross-requires-clause-other c =
    let f : Function = function_of c.args.rules.now in
    let i : ℕ = c.loop-other.other-index in
    (CanCross-next f (keeps_near f c.functions_keep_forms.ensures c.transform_stays_near.ensures
    c.enabled_operations_are_near.ensures.wider c.rules_are_valid.ensures)
    c.args.list.now (farthest_carried (length c.args.list.now)) i c.loop-other.form c.loop-other-test.true
    c.loop-other.invariant.usable c.requires.usable.list
    (omega (arith, c.loop-other-test.true, c.requires.usable.few))).other

-- the operation can be carried over all of them
pub unreachable-requires : goal.unreachable-requires
unreachable-requires c =
    let f : Function = function_of c.args.rules.now in
    let list : List PlacedOp = c.args.list.now in
    let i : ℕ = c.loop-other.other-index in
    let none : carry f c.args.op (from_place c.args.place list) ≡ None =
    c.loop-other.invariant.same ∙ ap (option_map (carried_behind c.loop-other.new))
    (carry-stuck f list c.args.place i c.loop-other-test.true c.loop-other.form
    (from_true c.args.place (get_or list i no_one).place c.if-other-place.true) (sym c.in_default.ensures)) in
    let wrong : false ≡ true = subst (λ (found : Option Carried). is_some found ≡ true) none c.requires.carried in
    cc

-- one of the list more: what it becomes was added, or it stands before the place
pub loop-other-preserved : goal.loop-other-preserved
loop-other-preserved c =
    let f : Function = function_of c.args.rules.now in
    let list : List PlacedOp = c.args.list.now in
    let i : ℕ = c.loop-other.other-index in
    let o : Op = c.loop-other.form in
    let m : ℕ = farthest_carried (length list) in
    let here : PlacedOp = get_or list i no_one in
    let inside : i < length list = c.loop-other-test.true in
    let has : KeepsNear f =
    keeps_near f c.functions_keep_forms.ensures c.transform_stays_near.ensures
    c.enabled_operations_are_near.ensures.wider c.rules_are_valid.ensures in
    elim c.if-other-place.branch [
      | then-other-place+in-Some+in_ok-push w ↦
          (let both : Crossed = w.in-Some.both in
          let is : crossed f o here.op ≡ Some both = sym w.in-Some.ensures in
          let moved : List PlacedOp = record here { op = both.other } ∷ [] in
          let pushed : w.push.new.self ≡ c.loop-other.new ++ moved = w.in_ok-push.ensures.ok in
          rw (w.form-is, w.new-is, pushed) (record {
            same = c.loop-other.invariant.same
                ∙ ap (option_map (carried_behind c.loop-other.new))
                (carry-next f list c.args.place i inside o both
                (from_true c.args.place here.place w.if-other-place.true) is)
                ∙ carried_behind-carried_behind c.loop-other.new moved
                (carry f both.own (from_place c.args.place (drop (i + 1) list)));
            usable = IsUsable-next f has list m i o inside c.loop-other.invariant.usable c.requires.usable.list both is;
          }))
      | else-other-place w ↦ rw (w.form-is, w.new-is) (record {
        same = c.loop-other.invariant.same
            ∙ ap (λ bs. option_map (carried_behind c.loop-other.new) (carry f o bs))
            (rest-dropped f list c.args.place i inside (from_false c.args.place here.place w.if-other-place.false));
        usable = IsUsable-passed f has list m i o inside c.loop-other.invariant.usable c.requires.usable.list;
      })
    ]

pub returns : goal.returns
returns c =
    let f : Function = function_of c.args.rules.now in
    let new : List PlacedOp = c.loop-other.new in
    ap carried_list (c.loop-other.invariant.same
    ∙ ap (λ bs. option_map (carried_behind new) (carry f c.loop-other.form (from_place c.args.place bs)))
    (drop_all c.loop-other.other-index c.args.list.now c.loop-other-test.false))
    ∙ ap (λ (list : List PlacedOp). Some list) (append-nil new)
