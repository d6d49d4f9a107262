use Rattle.std.proofs.Common.{◌≤◌, ℕ, length, arith}
use Rattle.ot_ways.proofs.ways.document_way.Goals as goal

pub step-transformed-requires-clause-a_in_range : goal.step-transformed-requires-clause-a_in_range
step-transformed-requires-clause-a_in_range c =
    let n : ℕ = length c.args.doc.now in
    let few : n ≤ 1099511627776 = omega (arith, c.requires.few) in
    c.enabled_operations_are_near.ensures.wider n 1099511627776 c.args.other.now few
    (c.enabled_operations_are_near.ensures.enabled n c.args.other.now c.requires.other.enabled)

pub step-transformed-requires-clause-b_in_range : goal.step-transformed-requires-clause-b_in_range
step-transformed-requires-clause-b_in_range c =
    let n : ℕ = length c.args.doc.now in
    let few : n ≤ 1099511627776 = omega (arith, c.requires.few) in
    c.enabled_operations_are_near.ensures.wider n 1099511627776 c.args.first.now few
    (c.enabled_operations_are_near.ensures.enabled n c.args.first.now c.requires.first.enabled)
