use Rattle.std.proofs.Common.{◌≡◌, ◌+◌, ◌*◌, ◌++◌, All, length, drop}
use Rattle.fn_rules.specs.Rules.{function_of}
use Rattle.ot_hub.specs.Carry.{from_place}
use Rattle.ot_hub.specs.Crossings.{CanBothMove, crossings}
use Rattle.ot_hub.specs.Usable.{IsUsable, farthest_carried}
use Rattle.ot_hub.proofs.crossing.crossings.Given as goal

-- the pairs that are left are those of what the operation has become
abbrev pub invariant-loop-other : goal.invariant-loop-other
invariant-loop-other l = record {
  same : crossings (function_of l.rules) l.fn.op (from_place l.place l.list)
      ≡ l.found ++ crossings (function_of l.rules) l.form (from_place l.place (drop l.other-index l.list));
  usable : IsUsable (function_of l.rules) (farthest_carried (length l.list) + 99 * l.other-index) l.form;
  all : All (CanBothMove (function_of l.rules)) l.found;
}
