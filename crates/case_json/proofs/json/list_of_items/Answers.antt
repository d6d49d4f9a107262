use Rattle.std.proofs.Common.{◌≡◌, ◌+◌, ◌<◌, ◌∷◌, ℕ, List, Some, get_or, length, map, drop, sym, ap, ◌∙◌}
use Rattle.std.proofs.lemmas.List.{append-nil, drop_all, drop_more}
use Rattle.serde_json.specs.Data.{Data}
use Rattle.serde_json.specs.View.{view}
use Rattle.serde_json.specs.declared.value.Value.{Value}
use Rattle.case_json.specs.Json.{each}
use Rattle.case_json.proofs.Elements.{found_before, found_before-nothing, found-none, found-one_more}
use Rattle.case_json.proofs.json.list_of_items.Goals as goal

-- those from a place on
rest_is : (items : List Value) (i : ℕ) (item : Value) → i < length items → item ≡ get_or items i item
    → map view (drop i items) ≡ view item ∷ map view (drop (i + 1) items)
rest_is items i item inside is =
    ap (λ (vs : List Value). map view vs) (drop_more items i item inside)
    ∙ ap (λ (v : Value). view v ∷ map view (drop (i + 1) items)) (sym is)

pub loop-item-init : goal.loop-item-init
loop-item-init g c =
    let whole = each g.T.Element.meant (map view c.args.items.now) in
    sym (found_before-nothing whole)
    ∙ ap (λ (list : List g.row.T.Denot). found_before list whole) (sym c.new-list.ensures)

-- the item stands for an element
pub loop-item-preserved : goal.loop-item-preserved
loop-item-preserved g c =
    let reader = g.T.Element.meant in
    let items : List Value = c.args.items.now in
    let i : ℕ = c.loop-item.item-index in
    let item : Value = c.item-item.result in
    let behind : List Data = map view (drop (i + 1) items) in
    c.loop-item.invariant
    ∙ ap (λ (rest : List Data). found_before c.loop-item.list (each reader rest))
    (rest_is items i item c.loop-item-test.true c.item-item.is)
    ∙ found-one_more reader c.loop-item.list (view item) behind c.in-Some.element
    (sym c.in_ok-element.ensures ∙ c.in-Some.is)
    ∙ ap (λ (list : List g.row.T.Denot). found_before list (each reader behind)) (sym c.in_ok-push.ensures.ok)

-- it stands for none
pub returns-in_default : goal.returns-in_default
returns-in_default g c =
    let reader = g.T.Element.meant in
    let items : List Value = c.args.items.now in
    let i : ℕ = c.loop-item.item-index in
    let item : Value = c.item-item.result in
    sym (c.loop-item.invariant
    ∙ ap (λ (rest : List Data). found_before c.loop-item.list (each reader rest))
    (rest_is items i item c.loop-item-test.true c.item-item.is)
    ∙ found-none reader c.loop-item.list (view item) (map view (drop (i + 1) items))
    (sym c.in_ok-element.ensures ∙ c.in_default.is))

pub returns : goal.returns
returns g c =
    let list = c.loop-item.list in
    sym (c.loop-item.invariant
    ∙ ap (λ (vs : List Value). found_before list (each g.T.Element.meant (map view vs)))
    (drop_all c.loop-item.item-index c.args.items.now c.loop-item-test.false)
    ∙ ap Some (append-nil list))
