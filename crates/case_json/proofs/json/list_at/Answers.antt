use Rattle.std.proofs.Common.{◌≤◌, ℕ, List, Option, Bor, length, map, arith, sym, ap, ◌∙◌}
use Rattle.std.specs.Option.{option_map, ok_or}
use Rattle.std.proofs.lemmas.List.{length-map}
use Rattle.serde_json.specs.Find.{get}
use Rattle.serde_json.specs.View.{view}
use Rattle.serde_json.specs.declared.value.Value.{Value}
use Rattle.case_json.specs.declared.fault.CaseFault.TheVariants.{Field}
use Rattle.case_json.specs.Cases.{elements_from}
use Rattle.case_json.proofs.Elements.{elements-found, not_too_many, too_many}
use Rattle.case_json.proofs.json.list_at.Goals as goal

-- there is no array
pub returns-in_default : goal.returns-in_default
returns-in_default g c =
    let part = c.args.part in
    let most : ℕ = c.args.most in
    let reader = g.T.Element.meant in
    let found = elements-found (λ (value : Bor Value). view value.now)
    (λ (items : Bor (List Value)). map view items.now) c.get.result
    (get c.args.key.now (view c.args.json.now)) c.and_then.result c.get.ensures c.and_then.ensures in
    ap (elements_from part most reader)
    (found
    ∙ ap (λ (answer : Option (Bor (List Value))). option_map (λ items. map view items.now) answer) c.in_default.is)

pub returns-then-items-most : goal.returns-then-items-most
returns-then-items-most g c =
    let part = c.args.part in
    let most : ℕ = c.args.most in
    let reader = g.T.Element.meant in
    let found = elements-found (λ (value : Bor Value). view value.now)
    (λ (items : Bor (List Value)). map view items.now) c.get.result
    (get c.args.key.now (view c.args.json.now)) c.and_then.result c.get.ensures c.and_then.ensures in
    let items : List Value = c.in-Some.items.now in
    let some = found
    ∙ ap (λ (answer : Option (Bor (List Value))). option_map (λ items. map view items.now) answer) c.in-Some.is in
    ap (elements_from part most reader) some
    ∙ too_many part most reader (map view items) (omega (arith, length-map items view, c.if-items-most.true))

-- each of the items stands for an element
pub returns-in-Some-2 : goal.returns-in-Some-2
returns-in-Some-2 g c =
    let part = c.args.part in
    let most : ℕ = c.args.most in
    let reader = g.T.Element.meant in
    let found = elements-found (λ (value : Bor Value). view value.now)
    (λ (items : Bor (List Value)). map view items.now) c.get.result
    (get c.args.key.now (view c.args.json.now)) c.and_then.result c.get.ensures c.and_then.ensures in
    let items : List Value = c.in-Some.items.now in
    let some = found
    ∙ ap (λ (answer : Option (Bor (List Value))). option_map (λ items. map view items.now) answer) c.in-Some.is in
    let few : length (map view items) ≤ most = omega (arith, length-map items view, c.if-items-most.false) in
    ap (elements_from part most reader) some ∙ not_too_many part most reader (map view items) few
    ∙ ap (λ (read : Option (List g.row.T.Denot)). ok_or read (Field part)) (sym c.in_ok-list.ensures ∙ c.in-Some-2.is)

-- one of them stands for none
pub returns-in-None : goal.returns-in-None
returns-in-None g c =
    let part = c.args.part in
    let most : ℕ = c.args.most in
    let reader = g.T.Element.meant in
    let found = elements-found (λ (value : Bor Value). view value.now)
    (λ (items : Bor (List Value)). map view items.now) c.get.result
    (get c.args.key.now (view c.args.json.now)) c.and_then.result c.get.ensures c.and_then.ensures in
    let items : List Value = c.in-Some.items.now in
    let some = found
    ∙ ap (λ (answer : Option (Bor (List Value))). option_map (λ items. map view items.now) answer) c.in-Some.is in
    let few : length (map view items) ≤ most = omega (arith, length-map items view, c.if-items-most.false) in
    ap (elements_from part most reader) some ∙ not_too_many part most reader (map view items) few
    ∙ ap (λ (read : Option (List g.row.T.Denot)). ok_or read (Field part)) (sym c.in_ok-list.ensures ∙ c.in-None.is)
