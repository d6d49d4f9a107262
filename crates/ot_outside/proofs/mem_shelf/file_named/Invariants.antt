use Rattle.std.proofs.Common.{◌≡◌, drop}
use Rattle.ot_outside.specs.Files.{held}
use Rattle.ot_outside.proofs.mem_shelf.file_named.Given as goal

-- no file before the i-th has the name
abbrev pub invariant-loop-i : goal.invariant-loop-i
invariant-loop-i l = held l.files l.name ≡ held (drop l.i l.files) l.name
