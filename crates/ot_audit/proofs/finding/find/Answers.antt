-- What is found is what was sought, but for the length.
use Rattle.std.proofs.Common.{ℕ, Option, Some, None, MatchOption, subst}
use Rattle.ot_model.specs.declared.op.Kind.{Kind}
use Rattle.ot_model.specs.declared.op.Op.{Op}
use Rattle.fn_rules.specs.Functions.{Function}
use Rattle.fn_rules.specs.Rules.{function_of}
use Rattle.ask_core.specs.Questions.{FailingEnd}
use Rattle.ot_questions.specs.declared.why.Why.{Why}
use Rattle.ot_terms.specs.Goals.{GoalTree, goal_tree}
use Rattle.ot_audit.specs.declared.found.Found.{Found}
use Rattle.ot_audit.specs.declared.found.Found.TheVariants as found
use Rattle.ot_audit.specs.declared.found.Sought.{Sought}
use Rattle.ot_audit.specs.declared.found.Sought.TheVariants.{Nowhere, At, Spent}
use Rattle.ot_audit.specs.Findings.{AreLeastOps, IsFoundIn, IsLeastInstance, IsNearSought, IsSoughtIn}
use Rattle.ot_audit.proofs.finding.find.Goals as goal

abbrev but_for_the_length : Sought → Found
but_for_the_length Nowhere = found.Never
but_for_the_length (At cells a b) = found.Pair a b
but_for_the_length Spent = found.Spent

least_there :
    (k l : Kind) (o : Option (FailingEnd Why)) (cells : ℕ) (a b : Op)
    → MatchOption o ⊥ (λ e. IsLeastInstance k l e.answers cells a b)
    → MatchOption o ⊥ (λ e. AreLeastOps k l e.answers a b)
least_there k l None cells a b least = least
least_there k l (Some e) cells a b least = least.ops

is_found :
    (f : Function) (k l : Kind) (g : GoalTree) (budget : ℕ) (answer : Sought) → IsSoughtIn f k l g budget answer
    → IsFoundIn f k l g budget (but_for_the_length answer)
is_found f k l g budget Nowhere is = record { questions = is.questions; listed = is.listed; told = is.told }
is_found f k l g budget (At cells a b) is = record {
  questions = is.questions;
  listed = is.listed;
  told = (is.told.0, least_there k l is.questions.failing cells a b is.told.1);
}
is_found f k l g budget Spent is = record { questions = is.questions; listed = is.listed; told = is.told }

pub returns-in-Nowhere-clause-found : goal.returns-in-Nowhere-clause-found
returns-in-Nowhere-clause-found c =
    let f = function_of c.args.rules.now in
    let g = goal_tree c.args.goal.now in
    is_found f c.args.first c.args.second g c.args.budget Nowhere
    (subst (λ (x : Sought). IsSoughtIn f c.args.first c.args.second g c.args.budget x) c.in-Nowhere.is
    c.in_ok-seek.ensures.sought)

pub returns-in-At-clause-found : goal.returns-in-At-clause-found
returns-in-At-clause-found c =
    let f = function_of c.args.rules.now in
    let g = goal_tree c.args.goal.now in
    is_found f c.args.first c.args.second g c.args.budget _
    (subst (λ (x : Sought). IsSoughtIn f c.args.first c.args.second g c.args.budget x) c.in-At.is
    c.in_ok-seek.ensures.sought)

pub returns-in-At-clause-near : goal.returns-in-At-clause-near
returns-in-At-clause-near c = subst (λ (x : Sought). IsNearSought x) c.in-At.is c.in_ok-seek.ensures.near

pub returns-in-Spent-clause-found : goal.returns-in-Spent-clause-found
returns-in-Spent-clause-found c =
    let f = function_of c.args.rules.now in
    let g = goal_tree c.args.goal.now in
    is_found f c.args.first c.args.second g c.args.budget Spent
    (subst (λ (x : Sought). IsSoughtIn f c.args.first c.args.second g c.args.budget x) c.in-Spent.is
    c.in_ok-seek.ensures.sought)
