use Rattle.std.proofs.Common.{◌≡◌, ◌++◌, drop}
use Rattle.std.specs.List.{flat_map}
use Rattle.ot_replies.specs.AuditTexts.{block_text}
use Rattle.ot_replies.proofs.texts.audits.write_blocks.Given as goal

-- the lines of the blocks that are left are still to be written
abbrev pub invariant-loop-block : goal.invariant-loop-block
invariant-loop-block l =
    l.out.items ++ flat_map block_text (drop l.block-index l.blocks) ≡ flat_map block_text l.blocks
