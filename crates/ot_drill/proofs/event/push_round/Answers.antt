use Rattle.std.proofs.Common.{◌≡◌, ◌++◌, ◌∷◌, ◌-◌, ℕ, [], map, ap, ◌∙◌, arith}
use Rattle.std.specs.List.{range_with_len}
use Rattle.case_json.specs.declared.script.Event.{Event}
use Rattle.case_json.specs.declared.script.Event.TheVariants.{Make}
use Rattle.ot_drill.specs.Events.{round_operation}
use Rattle.ot_drill.proofs.Ranges.{next_item}
use Rattle.ot_drill.proofs.event.push_round.Goals as goal

pub loop-site-preserved : goal.loop-site-preserved
loop-site-preserved c =
    let s : ℕ = c.loop-site.site in
    let made : ℕ → Event = λ t. Make t (round_operation c.args.round t) in
    c.in_ok-push.ensures.items
    ∙ ap (λ o. c.loop-site.events.items ++ Make s o ∷ []) c.operation_in-op.ensures
    ∙ next_item made c.args.events.now.items c.loop-site.events.items s c.loop-site.auto.site c.loop-site.invariant

pub returns : goal.returns
returns c =
    let made : ℕ → Event = λ t. Make t (round_operation c.args.round t) in
    let all : c.loop-site.site - 1 ≡ 3 = omega (arith, c.loop-site.auto.site-end) in
    c.loop-site.invariant ∙ ap (λ n. c.args.events.now.items ++ map made (range_with_len 1 n)) all
