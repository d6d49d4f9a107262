use Rattle.std.proofs.Common.{◌<◌, inl, refl, subst, length}
use Rattle.fn_rules.specs.Rules.{function_of}
use Rattle.ot_mend.specs.Members.{Member, members_after}
use Rattle.fewest_edits.specs.Candidates.{member_of}
use Rattle.fewest_edits.proofs.Layers.{answered}
use Rattle.fewest_edits.proofs.searching.answer_at.Goals as goal

pub returns-then-branch : goal.returns-then-branch
returns-then-branch g c =
    answered (g.D.Decider.decides c.args.level) (function_of c.args.rules.now) c.args.budget c.args.count
    (member_of c.in_ok-start.start) _ c.scan_after.new.scan c.answer_of.result refl refl c.in_ok-start.ensures
    (rw c.if-branch.true at c.in_ok-scan_after.ensures) c.answer_of.ensures

pub returns-else-branch : goal.returns-else-branch
returns-else-branch g c =
    inl (subst (λ (m : Member). c.args.budget < length (members_after c.args.count 0 m)) c.in_ok-start.ensures
    (rw c.if-branch.false at c.in_ok-scan_after.ensures))
