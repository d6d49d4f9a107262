use Rattle.std.proofs.Common.{◌+◌, ◌*◌, take}
use Rattle.std.specs.List.{flat_map}
use Rattle.ot_mend.specs.Members.{members_after, next_members}
use Rattle.fewest_edits.specs.Candidates.{member_of}
use Rattle.fewest_edits.specs.Scans.{GoesOver}
use Rattle.fewest_edits.proofs.scanning.«+scan».Given as goal

abbrev pub decreases-scan_next : goal.decreases-scan_next
decreases-scan_next g l = 3 * l.further + 1

abbrev pub decreases-scan_edits : goal.decreases-scan_edits
decreases-scan_edits g l = 3 * l.further + 2

abbrev pub decreases-scan_after : goal.decreases-scan_after
decreases-scan_after g l = 3 * l.further

abbrev pub invariant-scan_edits-loop-edit : goal.invariant-scan_edits-loop-edit
invariant-scan_edits-loop-edit g l =
    GoesOver (g.D.Decider.decides l.level)
    (flat_map (next_members (members_after l.further) l.stage (member_of l.candidate)) (take l.edit-index l.edits))
    l.initial.scan l.scan
