use Rattle.std.proofs.Common.{◌+◌, ℕ, List, sym, ◌∙◌, arith}
use Rattle.std.proofs.lemmas.List.{ext_get_or}
use Rattle.std.proofs.lemmas.List.FromFn.{get_or-map-range_with_len}
use Rattle.ot_causal.specs.Past.{Past}
use Rattle.ot_causal.specs.Counting.{from_site}
use Rattle.ot_session.specs.Past.{past_of}
use Rattle.ot_session.specs.Lists.{clock}
use Rattle.ot_session.proofs.form.counts_of.Goals as goal

pub returns : goal.returns
returns c =
    let past : Past = past_of c.args.made.now in
    let l : List ℕ = c.args.list.now in
    ext_get_or 0 c.loop-place.count-items (clock past l) c.loop-place-test.array_long
    (λ i below.
    c.loop-place.invariant i (omega (arith, below, c.loop-place-test.array_long, c.loop-place-test.false))
    ∙ sym (get_or-map-range_with_len (λ t. from_site past t l) 1 16 i (i + 1) 0
    (omega (arith, below, c.loop-place-test.array_long)) (omega arith)))
