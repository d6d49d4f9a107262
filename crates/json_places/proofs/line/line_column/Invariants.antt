use Rattle.std.proofs.Common.{◌≡◌, ◌≤◌, ◌+◌, drop, take}
use Rattle.json_places.specs.Lines.{behind_bytes, line_column}
use Rattle.json_places.proofs.line.line_column.Given as goal

-- the bytes that are left lead from here to where all lead; each moves the line and the column by at most one
abbrev pub invariant-loop-byte : goal.invariant-loop-byte
invariant-loop-byte l = record {
  same : behind_bytes l.at (drop l.byte-index (take l.offset l.text)) ≡ line_column l.text l.offset;
  line : l.at.line ≤ l.byte-index + 1;
  column : l.at.column ≤ l.byte-index + 1;
}
