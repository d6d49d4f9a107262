use Rattle.std.proofs.Common.{◌≡◌, ◌+◌, ◌++◌, ◌∷◌, ℕ, List, [], take, get_or, sym, ap, ◌∙◌, append_assoc}
use Rattle.std.proofs.lemmas.List.{append-nil, map-append, take_all, take_more}
use Rattle.case_json.specs.declared.script.Event.{Event}
use Rattle.case_json.specs.declared.script.Event.TheVariants.{Take}
use Rattle.ot_drill.specs.Events.{takes_of}
use Rattle.ot_drill.proofs.event.push_takes.Goals as goal

pub loop-number-init : goal.loop-number-init
loop-number-init c = sym (append-nil c.args.events.now.items)

pub loop-number-preserved : goal.loop-number-preserved
loop-number-preserved c =
    let old : List Event = c.args.events.now.items in
    let s : ℕ = c.args.site in
    let i : ℕ = c.loop-number.number-index in
    let numbers : List ℕ = c.args.numbers.now in
    let one : List Event = Take s (get_or numbers i 0) ∷ [] in
    let more : takes_of s (take (i + 1) numbers) ≡ takes_of s (take i numbers) ++ one =
    ap (λ (l : List ℕ). takes_of s l) (take_more numbers i 0 c.loop-number-test.true)
    ∙ map-append (Take s) (take i numbers) (get_or numbers i 0 ∷ []) in
    c.in_ok-push.ensures.items
    ∙ ap (λ (l : List Event). l ++ one) c.loop-number.invariant
    ∙ append_assoc old (takes_of s (take i numbers)) one
    ∙ ap (λ (l : List Event). old ++ l) (sym more)

pub returns : goal.returns
returns c =
    c.loop-number.invariant
    ∙ ap (λ (l : List ℕ). c.args.events.now.items ++ takes_of c.args.site l)
    (take_all c.loop-number.number-index c.args.numbers.now c.loop-number-test.false)
