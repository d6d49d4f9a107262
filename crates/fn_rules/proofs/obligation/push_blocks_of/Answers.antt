use Rattle.std.proofs.Common.{sym, ◌∙◌}
use Rattle.fn_rules.specs.Functions.{is_declared_of}
use Rattle.fn_rules.proofs.Pushing.{chosen_more, chosen_same, chosen_all}
use Rattle.fn_rules.proofs.obligation.push_blocks_of.Goals as goal
use Rattle.fn_rules.proofs.obligation.push_blocks_of.Goals.{then-declares_pair+in_ok-push, else-declares_pair}

pub loop-second-preserved : goal.loop-second-preserved
loop-second-preserved c =
    let old = c.args.blocks.now.items in
    let now = c.loop-second.blocks.items in
    elim c.if-declares_pair.branch [
      | then-declares_pair+in_ok-push w ↦
          rw w.blocks-is
          (chosen_more (is_declared_of c.args.head.now) (λ l. (c.args.first, l)) old now w.push.new.self.items
          c.args.kinds.now c.loop-second.second-index _ c.loop-second-test.true c.loop-second.invariant
          (sym c.declares_pair.ensures ∙ w.if-declares_pair.true) w.in_ok-push.ensures.items)
      | else-declares_pair w ↦
          rw w.blocks-is
          (chosen_same (is_declared_of c.args.head.now) (λ l. (c.args.first, l)) old now c.args.kinds.now
          c.loop-second.second-index _ c.loop-second-test.true c.loop-second.invariant
          (sym c.declares_pair.ensures ∙ w.if-declares_pair.false))
    ]

pub returns : goal.returns
returns c =
    chosen_all (is_declared_of c.args.head.now) (λ l. (c.args.first, l)) c.args.blocks.now.items
    c.loop-second.blocks.items
    c.args.kinds.now c.loop-second.second-index c.loop-second-test.false c.loop-second.invariant
