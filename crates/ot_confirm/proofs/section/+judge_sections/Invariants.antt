use Rattle.std.proofs.Common.{length}
use Rattle.ot_confirm.proofs.section.+judge_sections.Given as goal

abbrev pub decreases-judge_sections : goal.decreases-judge_sections
decreases-judge_sections l = length l.names.now
