use Rattle.std.proofs.Common.{◌≡◌, ◌≤◌, ℕ, IfOk, IfSome, Option, Some, None, ap, subst, sym, arith, ◌∙◌}
use Rattle.fn_rules.specs.declared.function.ObName.{ObName}
use Rattle.fn_rules.specs.declared.function.ObName.TheVariants.{Pair, Triple}
use Rattle.fn_rules.specs.Rules.{function_of}
use Rattle.ask_core.specs.Askers.{IsFine}
use Rattle.ask_core.specs.Plans.{Plan}
use Rattle.ot_questions.specs.declared.why.Why.{Why}
use Rattle.ot_questions.specs.Names.{name_count}
use Rattle.ot_questions.specs.Obligation.{plan_below, plan_of}
use Rattle.ot_paths.specs.Given.{own_plan}
use Rattle.ot_prove.specs.Outcomes.{IsDecided}
use Rattle.ot_sections.specs.Stands.{plan_behind}
use Rattle.ot_sections.specs.declared.premise.TheConstants.{MAX_BOUND}
use Rattle.ask_core.specs.declared.asker.TheConstants.{MAX_NAMES}
use Rattle.ot_decide.specs.Below.{IsBound}
use Rattle.ot_decide.proofs.searching.search_in.Goals as goal

few_names : (ob : ObName) → name_count ob ≤ MAX_NAMES
few_names (Pair k l) = omega arith
few_names (Triple k l m) = omega arith

bound_few : (below : Option ℕ) → IsBound below → IfSome below (λ bound. bound ≤ MAX_BOUND)
bound_few None is = tt
bound_few (Some bound) is = is

pub premise_below-requires : goal.premise_below-requires
premise_below-requires c = bound_few c.args.below c.requires.bounded

-- the plan behind the question of the bound keeps the limits
pub search_behind-requires : goal.search_behind-requires
search_behind-requires c =
    let f = function_of c.args.rules.now in
    let ob = c.args.ob in
    let asker = c.new-asker.result in
    let premise = c.premise_below.result in
    let own : own_plan (function_of asker.rules.now) asker.ob asker.goal ≡ plan_of f ob = c.new-asker.ensures.root in
    let fine : IsFine (name_count ob) (plan_behind premise (plan_of f ob)) =
    subst (λ (p : Plan Why). IsFine (name_count ob) p) (sym (c.premise_below.ensures.plan f ob))
    (c.shorter_plans_keep_limits.ensures f c.args.below ob c.rules_are_valid.ensures c.requires.bounded) in
    let of_own : IsFine (name_count ob)
    (plan_behind premise (own_plan (function_of asker.rules.now) asker.ob asker.goal)) =
    subst (λ (p : Plan Why). IsFine (name_count ob) (plan_behind premise p)) (sym own) fine in
    record {
      empty = c.requires.empty;
      few = few_names asker.ob;
      fine =
          subst
          (λ (o : ObName). IsFine (name_count o) (plan_behind premise
          (own_plan (function_of asker.rules.now) asker.ob asker.goal))) (sym c.new-asker.ensures.obligation) of_own;
    }

pub returns : goal.returns
returns c =
    let f = function_of c.args.rules.now in
    let own : plan_behind c.premise_below.result
    (own_plan (function_of c.new-asker.result.rules.now) c.new-asker.result.ob c.new-asker.result.goal)
    ≡ plan_below f c.args.below c.args.ob =
    ap (λ (p : Plan Why). plan_behind c.premise_below.result p) c.new-asker.ensures.root
    ∙ c.premise_below.ensures.plan f c.args.ob in
    record {
      decides = subst (λ (p : Plan Why). IfOk c.search_behind.result (IsDecided p c.args.budget)) own
          c.search_behind.ensures.decides;
      front = c.search_behind.ensures.front;
    }
