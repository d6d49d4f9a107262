use Rattle.fn_rules.specs.Rules.{function_of}
use Rattle.ot_decide.proofs.searching.search_ob.Goals as goal

pub search_in-requires : goal.search_in-requires
search_in-requires c = record { listed = c.requires.listed; bounded = c.requires.bounded; empty = c.requires.empty }

pub returns : goal.returns
returns c = record {
  decides = c.search_in.ensures.decides;
  short =
      (c.shorter_plans_keep_limits.ensures (function_of c.args.rules.now) c.args.below c.args.ob
      c.rules_are_valid.ensures c.requires.bounded).paths;
  front = c.search_in.ensures.front;
}
