-- By what the first pair comes to.
use Rattle.std.proofs.Common.{rules}
use Rattle.std.proofs.lemmas.Result.{IfOk-weaker}
use Rattle.ot_model.specs.declared.op.Kind.TheVariants.{Ins}
use Rattle.fn_rules.specs.Rules.{function_of}
use Rattle.ot_audit.proofs.Behind.{behind, behind_declared, first_declared}
use Rattle.ot_reverse.specs.Answers.{AreSearched}
use Rattle.ot_reverse.proofs.Behind.{searched_behind, searched_first}
use Rattle.ot_reverse.proofs.reversing.+reverses_pairs.Goals as goal

pub reverses_pair-requires-clause-declared : goal.reverses_pair-requires-clause-declared
reverses_pair-requires-clause-declared t c =
    first_declared (function_of c.args.rules.now).head c.args.pairs.now (Ins, Ins) c.requires.declared
    c.in-len1-up.len_at_least

pub reverses_pair-requires-clause-alike : goal.reverses_pair-requires-clause-alike
reverses_pair-requires-clause-alike t c = c.requires.alike

pub reverses_pairs-requires : goal.reverses_pairs-requires
reverses_pairs-requires t c = (
  search rules,
  (
    behind_declared (function_of c.args.rules.now).head c.args.pairs.now c.requires.declared c.in-len1-up.len_at_least,
    c.requires.alike,
  ),
)

pub returns-in-Yes : goal.returns-in-Yes
returns-in-Yes t c =
    let f = function_of c.args.rules.now in
    let e = function_of c.args.others.now in
    let pairs = c.args.pairs.now in
    let first = rw c.in-Yes.is at c.in_ok-back-in-len1-up.ensures in
    IfOk-weaker c.reverses_pairs.result (AreSearched f e c.args.budget (behind pairs))
    (AreSearched f e c.args.budget pairs)
    (λ back. searched_behind f e c.args.budget pairs (Ins, Ins) back c.in-len1-up.len_at_least first)
    c.reverses_pairs.ensures

pub returns-in_default : goal.returns-in_default
returns-in_default t c =
    searched_first (function_of c.args.rules.now) (function_of c.args.others.now) c.args.budget c.args.pairs.now
    (Ins, Ins) _ c.in-len1-up.len_at_least c.in_default.not-Yes c.in_ok-back-in-len1-up.ensures
