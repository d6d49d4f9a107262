use Rattle.std.proofs.Common.{◌-◌, ap, sym, subst, ◌∙◌, arith, IfOk, List}
use Rattle.std.specs.List.{flat_map}
use Rattle.ot_mend.specs.Members.{Member, members_after, next_members}
use Rattle.fewest_edits.specs.Candidates.{member_of}
use Rattle.fewest_edits.specs.Scans.{IsScanOf}
use Rattle.fewest_edits.proofs.Improving.{ends_at, members_after-further, over_all, over_more, over_not_next}
use Rattle.fewest_edits.proofs.scanning.«+scan».Goals as goal

pub scan_after-returns : goal.scan_after-returns
scan_after-returns g t c =
    let m = member_of c.args.candidate in
    subst
    (λ (ms : List Member).
    IfOk c.scan_edits.result (IsScanOf (g.D.Decider.decides c.args.level) ms c.args.scan.now c.scan_edits.new.scan))
    (ap (λ es. flat_map (next_members (members_after (c.args.further - 1)) c.args.stage m) es)
    (c.deref.ensures.value ∙ c.in_ok-edits.ensures)
    ∙ sym (members_after-further c.args.further c.args.stage m (omega (arith, c.if-further-eq0.false))))
    c.scan_edits.ensures

pub scan_edits-returns-then-not-branch : goal.scan_edits-returns-then-not-branch
scan_edits-returns-then-not-branch g t c =
    ends_at (g.D.Decider.decides c.args.level)
    (next_members (members_after c.args.further) c.args.stage (member_of c.args.candidate.now)) c.args.edits.now
    c.loop-edit.edit-index _ c.args.scan.now c.loop-edit.scan c.loop-edit-test.true c.loop-edit.invariant
    (rw c.if-not-branch.true at c.in_ok-scan_next.ensures)

pub scan_edits-loop-edit-preserved : goal.scan_edits-loop-edit-preserved
scan_edits-loop-edit-preserved g t c =
    over_more (g.D.Decider.decides c.args.level)
    (next_members (members_after c.args.further) c.args.stage (member_of c.args.candidate.now)) c.args.edits.now
    c.loop-edit.edit-index _ c.args.scan.now c.loop-edit.scan c.scan_next.new.scan c.loop-edit-test.true
    c.loop-edit.invariant (rw c.if-not-branch.false at c.in_ok-scan_next.ensures)

pub scan_edits-returns : goal.scan_edits-returns
scan_edits-returns g t c =
    over_all (g.D.Decider.decides c.args.level)
    (next_members (members_after c.args.further) c.args.stage (member_of c.args.candidate.now)) c.args.edits.now
    c.loop-edit.edit-index c.args.scan.now c.loop-edit.scan c.loop-edit-test.false c.loop-edit.invariant

pub scan_next-returns-in-None : goal.scan_next-returns-in-None
scan_next-returns-in-None g t c =
    over_not_next (g.D.Decider.decides c.args.level) (members_after c.args.further) c.args.stage
    (member_of c.args.candidate.now) c.args.edit.now c.args.scan.now (rw c.in-None.is at c.in_ok-next.ensures)
