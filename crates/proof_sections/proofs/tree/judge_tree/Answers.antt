use Rattle.std.proofs.Common.{◌-◌, List, ℕ, Result, Err, drop, take, length, sym, ap, subst, ◌∙◌}
use Rattle.cert_check.specs.declared.verdict.Progress.TheVariants.{More, Done}
use Rattle.proof_trees.specs.Starts.{Comparison}
use Rattle.proof_check.specs.Judging.{standing_at}
use Rattle.proof_check.specs.Steps.{Standing}
use Rattle.proof_sections.specs.declared.refusal.ConfirmError.{ConfirmError}
use Rattle.proof_sections.specs.Judgement.{FrontLeadsTo, Judges, tree_judged}
use Rattle.proof_sections.proofs.Fronts.{front_ends, front_goes_on}
use Rattle.proof_sections.proofs.tree.judge_tree.Goals as goal

pub loop-len-preserved-in-Some-More-default : goal.loop-len-preserved-in-Some-More-default
loop-len-preserved-in-Some-More-default g c =
    let starts = g.A.Starter.starts in
    let way = c.loop-len.invariant in
    let was = c.loop-len.checker in
    let new = c.take_front.new.checker in
    let slice = take (length c.args.bytes.now - c.loop-len.at) (drop c.loop-len.at c.args.bytes.now) in
    let leads =
    subst (λ (x : Comparison _). FrontLeadsTo x slice More (standing_at starts was) (standing_at starts new)
    c.in-Some-More-default.len) way.3
    (rw c.in-Some-More-default.field-0-0-is at c.in-Some-More-default.ensures.leads) in
    let on =
    front_goes_on (starts c.args.asker).compare c.args.bytes.now c.loop-len.at c.in-Some-More-default.len
    (standing_at starts was) (standing_at starts new) _ way.0 way.4 leads in (
      on.0,
      c.in-Some-More-default.ensures.open c.in-Some-More-default.field-0-0-is,
      c.take_front.ensures.fresh,
      c.take_front.ensures.compare ∙ way.3,
      on.1,
    )

pub returns-in-Some-Done-default : goal.returns-in-Some-Done-default
returns-in-Some-Done-default g c =
    let starts = g.A.Starter.starts in
    let way = c.loop-len.invariant in
    let was = c.loop-len.checker in
    let new = c.take_front.new.checker in
    let slice = take (length c.args.bytes.now - c.loop-len.at) (drop c.loop-len.at c.args.bytes.now) in
    let leads =
    subst (λ (x : Comparison _). FrontLeadsTo x slice Done (standing_at starts was) (standing_at starts new)
    c.in-Some-Done-default.len) way.3
    (rw c.in-Some-Done-default.field-0-0-is at c.in-Some-Done-default.ensures.leads) in
    front_ends (starts c.args.asker).compare c.args.bytes.now c.loop-len.at c.in-Some-Done-default.len
    (standing_at starts was) (standing_at starts new) _ way.0 way.4 leads

-- what is refused at the place is refused of the whole
pub returns-in-Err : goal.returns-in-Err
returns-in-Err g c =
    let starts = g.A.Starter.starts in
    let way = c.loop-len.invariant in
    let new = c.take_front.new.checker in
    let left = drop c.loop-len.at c.args.bytes.now in
    let total = length c.args.bytes.now in
    let same = way.4 ∙ ap (λ (s : Standing _ _). tree_judged (starts c.args.asker).compare total s left)
    (sym c.in-None.ensures.none) in
    subst (λ (r : Result (List ℕ) ConfirmError). Judges c.args.bytes.now r (Err c.in-Err.end)) (sym same)
    (subst (λ (x : Comparison _). Judges c.args.bytes.now (tree_judged x total (standing_at starts new) left)
    (Err c.in-Err.end)) (c.take_front.ensures.compare ∙ way.3) c.in-Err.ensures.refused)
