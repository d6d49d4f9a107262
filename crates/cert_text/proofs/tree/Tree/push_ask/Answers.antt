use Rattle.std.proofs.Common.{◌≡◌, ◌++◌}
use Rattle.ask_core.specs.declared.tree.Tok.TheVariants.{Ask}
use Rattle.cert_text.specs.Spelling.{token_text}
use Rattle.cert_text.proofs.TreeTextLemmas.{pushed_token, IsTreeAt-pushed}
use Rattle.cert_text.proofs.tree.Tree.push_ask.Goals as goal

pub invariant_of-self-2 : goal.invariant_of-self-2
invariant_of-self-2 c =
    let text : c.push_reserved.new.self.items ≡ c.self.inside.text.items ++ token_text Ask =
    rw c.reserve.ensures.items at c.push_reserved.ensures.items in
    IsTreeAt-pushed c.self.inside.start c.self.inside.text.items c.push_reserved.new.self.items
    Ask c.self.invariant tt text

pub returns-clause-ok : goal.returns-clause-ok
returns-clause-ok c =
    let text : c.push_reserved.new.self.items ≡ c.self.inside.text.items ++ token_text Ask =
    rw c.reserve.ensures.items at c.push_reserved.ensures.items in
    pushed_token c.self.inside.start c.self.inside.text.items c.push_reserved.new.self.items Ask c.args.self.now
    c.self.invariant c.self.view_is tt text
