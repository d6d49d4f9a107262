use Rattle.std.proofs.Common.{length}
use Rattle.ot_audit.proofs.auditing.+audit_blocks.Given as goal

abbrev pub decreases-audit_blocks : goal.decreases-audit_blocks
decreases-audit_blocks l = length l.names.now
