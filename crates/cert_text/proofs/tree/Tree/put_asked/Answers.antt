-- Two tokens are put one behind the other, where there is room.
use Rattle.std.proofs.Common.{◌∷◌, ◌++◌, refl}
use Rattle.ask_core.specs.declared.tree.Tok.TheVariants.{Ask, Cycle}
use Rattle.cert_text.specs.Spelling.{token_text}
use Rattle.cert_text.specs.TreeTexts.{with_token}
use Rattle.cert_text.proofs.TreeTextLemmas.{behind_question, pushed_token, IsTreeAt-pushed}
use Rattle.cert_text.proofs.tree.Tree.put_asked.Goals as goal

pub invariant_of-self : goal.invariant_of-self
invariant_of-self g c =
    let old = c.self.inside.text.items in
    let picks = c.args.first ∷ g.C.CycleNumbers.left c.args.others in
    let between = IsTreeAt-pushed c.self.inside.start old (old ++ token_text Ask) Ask c.self.invariant tt refl in
    IsTreeAt-pushed c.self.inside.start (old ++ token_text Ask) c.put_asked.new.out.items (Cycle picks) between
    (c.put_asked.ensures.words c.if-put_asked.true)
    (behind_question old c.put_asked.new.out.items picks (c.put_asked.ensures.put c.if-put_asked.true))

pub returns-then-put_asked-clause-put : goal.returns-then-put_asked-clause-put
returns-then-put_asked-clause-put g c put =
    let old = c.self.inside.text.items in
    let picks = c.args.first ∷ g.C.CycleNumbers.left c.args.others in
    let between = IsTreeAt-pushed c.self.inside.start old (old ++ token_text Ask) Ask c.self.invariant tt refl in
    pushed_token c.self.inside.start (old ++ token_text Ask) c.put_asked.new.out.items (Cycle picks)
    (with_token c.args.self.now Ask) between (pushed_token c.self.inside.start old (old ++ token_text Ask) Ask
    c.args.self.now c.self.invariant c.self.view_is tt refl) (c.put_asked.ensures.words c.if-put_asked.true)
    (behind_question old c.put_asked.new.out.items picks (c.put_asked.ensures.put c.if-put_asked.true))
