-- By what the two functions are on the first block.
use Rattle.std.proofs.Common.{rules, refl}
use Rattle.std.proofs.lemmas.Result.{IfOk-weaker}
use Rattle.ot_model.specs.declared.op.Kind.TheVariants.{Ins}
use Rattle.fn_rules.specs.Rules.{function_of}
use Rattle.ot_audit.specs.declared.audits.Same.TheVariants as sames
use Rattle.ot_audit.specs.Audits.{AreCompared}
use Rattle.ot_audit.proofs.Behind.{behind, behind_declared, compared_from_first, first_declared}
use Rattle.ot_audit.proofs.comparing.+same_blocks.Goals as goal

pub agree-requires-clause-declared : goal.agree-requires-clause-declared
agree-requires-clause-declared t c =
    first_declared (function_of c.args.rules.now).head c.args.names.now (Ins, Ins) c.requires.declared
    c.in-len1-up.len_at_least

pub agree-requires-clause-heads : goal.agree-requires-clause-heads
agree-requires-clause-heads t c = c.requires.heads

pub same_blocks-requires : goal.same_blocks-requires
same_blocks-requires t c = (
  search rules,
  (
    behind_declared (function_of c.args.rules.now).head c.args.names.now c.requires.declared c.in-len1-up.len_at_least,
    c.requires.heads,
  ),
)

pub returns-in-Same : goal.returns-in-Same
returns-in-Same t c =
    let f = function_of c.args.rules.now in
    let g = function_of c.args.others.now in
    let names = c.args.names.now in
    IfOk-weaker c.same_blocks.result (AreCompared f g c.args.budget (behind names))
    (AreCompared f g c.args.budget names)
    (λ same. compared_from_first f g c.args.budget names (Ins, Ins) same c.in-len1-up.len_at_least c.in-Same.is
    c.in_ok-agree-in-len1-up.ensures)
    c.same_blocks.ensures

pub returns-in-Pair : goal.returns-in-Pair
returns-in-Pair t c =
    compared_from_first (function_of c.args.rules.now) (function_of c.args.others.now) c.args.budget c.args.names.now
    (Ins, Ins) _ c.in-len1-up.len_at_least c.in-Pair.is c.in_ok-agree-in-len1-up.ensures refl

pub returns-in-Spent : goal.returns-in-Spent
returns-in-Spent t c =
    compared_from_first (function_of c.args.rules.now) (function_of c.args.others.now) c.args.budget c.args.names.now
    (Ins, Ins) sames.Spent c.in-len1-up.len_at_least c.in-Spent.is c.in_ok-agree-in-len1-up.ensures refl
