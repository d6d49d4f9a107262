use Rattle.std.proofs.Common.{List, [], ◌∷◌}
use Rattle.ot_model.specs.declared.op.Kind.{Kind}
use Rattle.ot_model.specs.declared.op.Kind.TheVariants.{Ins, Del, Upd}
use Rattle.fn_rules.specs.Rules.{function_of}
use Rattle.ot_mend.specs.Offers.{block_edits}
use Rattle.ot_mend.proofs.Pairs.{behind_each_other}
use Rattle.ot_mend.proofs.offer.push_all_blocks.Goals as goal

abbrev with_first : Kind → List (Kind × Kind)
with_first k = (k, Ins) ∷ (k, Del) ∷ (k, Upd) ∷ []

pub returns : goal.returns
returns c =
    behind_each_other (block_edits (function_of c.args.rules.now)) c.args.out.now.items c.push_blocks.new.out.items
    c.push_blocks-2.new.out.items c.push_blocks-3.new.out.items (with_first Ins) (with_first Del) (with_first Upd)
    c.in_ok-push_blocks.ensures c.in_ok-push_blocks-2.ensures c.in_ok-push_blocks-3.ensures
