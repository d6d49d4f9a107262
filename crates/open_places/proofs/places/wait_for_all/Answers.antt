use Rattle.std.proofs.Common.{◌≡◌, length, take, ◌∙◌}
use Rattle.open_places.proofs.PlaceLemmas.{cycles_cut}
use Rattle.open_places.proofs.places.wait_for_all.Goals as goal

pub returns-in-Err-clause-err : goal.returns-in-Err-clause-err
returns-in-Err-clause-err g c =
    let old = c.args.waiting.now.items in
    let long : c.len-before.result ≡ length old = c.len-before.ensures ∙ c.args.waiting.now.ok.0 in
    let cut : take c.len-before.result c.wait_for_cycles-2.new.waiting.items ≡ old =
    rw (long, c.in-Err.ensures.err)
    (cycles_cut c.args.depth c.args.conditions.now old c.wait_for_cycles.new.waiting.items
    c.in_ok-wait_for_cycles.ensures.ok) in
    c.truncate.ensures.items ∙ cut
