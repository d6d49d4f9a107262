use Rattle.std.proofs.Common.{◌≡◌, ◌+◌, ◌*◌, length, drop}
use Rattle.std.specs.Option.{option_map}
use Rattle.fn_rules.specs.Rules.{function_of}
use Rattle.ot_hub.specs.Carry.{carry, from_place, carried_behind}
use Rattle.ot_hub.specs.Usable.{IsUsable, farthest_carried}
use Rattle.ot_hub.proofs.carry.carry_list.Given as goal

abbrev pub invariant-loop-other : goal.invariant-loop-other
invariant-loop-other l = record {
  same : carry (function_of l.rules) l.fn.op (from_place l.place l.list)
      ≡ option_map (carried_behind l.new)
      (carry (function_of l.rules) l.form (from_place l.place (drop l.other-index l.list)));
  usable : IsUsable (function_of l.rules) (farthest_carried (length l.list) + 99 * l.other-index) l.form;
}
