use Rattle.std.proofs.Common.{Ok, ap, ◌∙◌, length, drop}
use Rattle.proof_check.specs.Judging.{standing_at}
use Rattle.proof_sections.proofs.Trees.{front_leads, token_refused, token_unread}
use Rattle.proof_sections.proofs.tree.judge_token.Goals as goal

pub returns-in-Ok-judge-clause-leads : goal.returns-in-Ok-judge-clause-leads
returns-in-Ok-judge-clause-leads g c =
    let starts = g.A.Starter.starts in
    front_leads c.tokens_are_found_exactly.ensures (starts c.args.checker.now.asker).compare (length c.args.bytes.now)
    c.in-Ok-judge.progress c.read_token.new.tok (drop c.args.at c.args.bytes.now) (drop c.in-Ok.next c.args.bytes.now)
    (standing_at starts c.args.checker.now) (starts c.judge.new.self.asker) c.judge.new.self.places c.in-Ok.ensures.2
    c.in-Ok-judge.ensures.step (λ more. c.judge.ensures.open (c.in-Ok-judge.is ∙ ap Ok more))
    (λ done. c.judge.ensures.closed (c.in-Ok-judge.is ∙ ap Ok done))

pub returns-in-Err-judge-clause-refused : goal.returns-in-Err-judge-clause-refused
returns-in-Err-judge-clause-refused g c =
    let starts = g.A.Starter.starts in
    rw c.refusal_at.ensures
    (token_refused c.tokens_are_found_exactly.ensures (starts c.args.checker.now.asker).compare c.args.bytes.now
    c.args.at (standing_at starts c.args.checker.now) c.requires.place c.read_token.new.tok _ c.in-Err-judge.refusal
    c.in-Ok.ensures.2 (c.in-Err-judge.ensures.why c.requires.fresh))

pub returns-in-Err-clause-refused : goal.returns-in-Err-clause-refused
returns-in-Err-clause-refused g c =
    let starts = g.A.Starter.starts in
    rw c.unread_part.ensures
    (token_unread c.tokens_are_found_exactly.ensures (starts c.args.checker.now.asker).compare c.args.bytes.now
    c.args.at (standing_at starts c.args.checker.now) c.requires.place c.in-Err.unread c.in-Err.ensures)
