use Rattle.ask_core.specs.declared.tree.Tok.TheVariants.{Cycle}
use Rattle.cert_text.proofs.TreeTextLemmas.{pushed_token, IsTreeAt-pushed, HasWords-cycle}
use Rattle.cert_text.proofs.tree.Tree.push_cycle.Goals as goal

pub invariant_of-self-2 : goal.invariant_of-self-2
invariant_of-self-2 c =
    IsTreeAt-pushed c.self.inside.start c.self.inside.text.items c.write_cycle.new.out.items (Cycle c.args.numbers.now)
    c.self.invariant (HasWords-cycle c.args.numbers.now c.type_inv.numbers) c.in_ok-write_cycle.ensures.ok

pub returns-clause-ok : goal.returns-clause-ok
returns-clause-ok c =
    pushed_token c.self.inside.start c.self.inside.text.items c.write_cycle.new.out.items (Cycle c.args.numbers.now)
    c.args.self.now c.self.invariant
    c.self.view_is (HasWords-cycle c.args.numbers.now c.type_inv.numbers) c.in_ok-write_cycle.ensures.ok
