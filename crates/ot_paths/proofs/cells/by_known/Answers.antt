use Rattle.std.proofs.Common.{sym, subst, List}
use Rattle.std.specs.List.{All}
use Rattle.std.proofs.lemmas.Result.{IfOk-weaker}
use Rattle.fn_rules.specs.Rules.{function_of}
use Rattle.ot_terms.specs.Cells.{cell_tree}
use Rattle.ot_paths.specs.declared.kept.Compared.{Compared}
use Rattle.ot_paths.specs.Sharing.{IsKeptRead}
use Rattle.ot_paths.proofs.LaidGoals.{laid_known}
use Rattle.ot_paths.proofs.cells.by_known.Goals as goal

-- what is left of the comparison is known
pub returns-in-Some-clause-alike : goal.returns-in-Some-clause-alike
returns-in-Some-clause-alike c =
    let f = function_of c.args.rules.now in
    let right = cell_tree c.args.right in
    c.in-Some.ensures f right
    (subst (λ (kept : List Compared). All (IsKeptRead f right) kept) (sym c.deref.ensures.value) c.requires.known)

pub returns-in-Some-clause-known : goal.returns-in-Some-clause-known
returns-in-Some-clause-known c = c.requires.known

pub by_right-requires-clause-goal : goal.by_right-requires-clause-goal
by_right-requires-clause-goal c = c.requires.goal

pub by_right-requires-clause-read : goal.by_right-requires-clause-read
by_right-requires-clause-read c = c.requires.read

-- and so it is from now on
pub returns-clause-alike : goal.returns-clause-alike
returns-clause-alike c =
    laid_known _ _ c.in_ok-built.built.now c.learnt_read.result c.in_ok-built.ensures c.learnt_read.ensures.same

pub returns-clause-known : goal.returns-clause-known
returns-clause-known c =
    IfOk-weaker c.learnt_read.result _ _
    (λ r told. told (function_of c.args.rules.now) (cell_tree c.args.right) c.requires.known c.in_ok-built.ensures)
    c.learnt_read.ensures.known
