use Rattle.std.proofs.Common.{inl, inr, sym}
use Rattle.std.proofs.lemmas.Bool.{cases_Bool}
use Rattle.fn_rules.specs.Orders.{names_below}
use Rattle.fn_rules.proofs.Naming.{names_below-names}
use Rattle.case_json.proofs.first_fault.names_all_below.Goals as goal

pub returns-then-not-contains : goal.returns-then-not-contains
returns-then-not-contains c =
    elim (cases_Bool (names_below c.args.count c.args.order.now)) [
      | inl all ↦
          let named = names_below-names c.args.count c.loop-i.i c.args.order.now all c.loop-i-test.true in
          let missing = c.if-not-contains.ensures.value in
          cc
      | inr some ↦ sym some
    ]
