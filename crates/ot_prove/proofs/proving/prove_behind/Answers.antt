use Rattle.std.proofs.Common.{ℕ, List, ◌∙◌, ap, arith, subst}
use Rattle.std.proofs.lemmas.Result.{IfOk-weaker}
use Rattle.ask_core.specs.Plans.{Plan}
use Rattle.ask_core.specs.Askers.{IsFine}
use Rattle.std.specs.Prelude.{IfOk}
use Rattle.ot_prove.specs.Outcomes.{IsDecided, StandsBehind}
use Rattle.ot_prove.specs.Searching.{AgreesWithLists}
use Rattle.ot_prove.proofs.Steps.{SamePlans-trans, IsSearching-begun, IsDecided-by_list}
use Rattle.ot_prove.proofs.proving.prove_behind.Goals as goal

pub returns-in_err-first-clause-same : goal.returns-in_err-first-clause-same
returns-in_err-first-clause-same g c = c.start.ensures.same

pub returns-in_err-search-clause-same : goal.returns-in_err-search-clause-same
returns-in_err-search-clause-same g c = c.start.ensures.same

pub search_through-requires-clause-names : goal.search_through-requires-clause-names
search_through-requires-clause-names g c = omega (arith, c.start.ensures.count_kept, c.requires.names)

-- the search has begun
pub search_through-requires-clause-searching : goal.search_through-requires-clause-searching
search_through-requires-clause-searching g c =
    let A = g.A.Asker in
    let now = c.start.new.self in
    let first = c.in_ok-first.first in
    let begins = c.in_ok-first.ensures.begins in
    let search = c.in_ok-search.search in
    let at = c.in_ok-search.ensures in
    rw (at.path, at.nothing.0, c.requires.empty, at.nothing.1)
    (IsSearching-begun (A.is_own now) (A.plan now) (A.root now) c.args.budget (A.name_count now) first search.possible
    search.cycles search.tables.items begins (g.met.A.Asker.fine now first begins.0) at.cycles at.tables)

pub returns-in_err-ended-clause-same : goal.returns-in_err-ended-clause-same
returns-in_err-ended-clause-same g c = SamePlans-trans c.start.ensures.same c.search_through.ensures.kept.same

pub returns-in_err-ended-clause-root_kept : goal.returns-in_err-ended-clause-root_kept
returns-in_err-ended-clause-root_kept g c = c.search_through.ensures.kept.root_kept ∙ c.start.ensures.root_kept

pub returns-in_err-ended-clause-count_kept : goal.returns-in_err-ended-clause-count_kept
returns-in_err-ended-clause-count_kept g c = c.search_through.ensures.kept.count_kept ∙ c.start.ensures.count_kept

pub outcome_of-requires : goal.outcome_of-requires
outcome_of-requires g c = (c.args.budget, c.in_ok-ended.ensures.ended)

-- the plan has a question list
pub returns-clause-decides : goal.returns-clause-decides
returns-clause-decides g c =
    let A = g.A.Asker in
    let W = g.row.A-Why.Denot in
    let root = A.root c.args.asker.now in
    let now = c.start.new.self in
    let first = c.in_ok-first.first in
    let begins = c.in_ok-first.ensures.begins in
    let found =
    c.plans_have_one_question_list.ensures.some (A.name_count now) root
    (subst (λ (p : Plan W). IsFine (A.name_count now) p) (begins.1 ∙ c.start.ensures.root_kept)
    (g.met.A.Asker.fine now first begins.0)) in
    let agreed = c.outcome_of.ensures.agrees in
    IfOk-weaker c.outcome_of.result _ (IsDecided root c.args.budget)
    (λ o agrees.
    IsDecided-by_list root c.args.budget o c.question_lists_are_possible.ensures found
    (subst (λ (p : Plan W). AgreesWithLists p c.args.budget o)
    (c.search_through.ensures.kept.root_kept ∙ c.start.ensures.root_kept)
    (agrees c.args.budget c.in_ok-ended.ensures.ended))) agreed

pub returns-clause-front : goal.returns-clause-front
returns-clause-front g c =
    subst (λ (front : List ℕ). IfOk c.outcome_of.result (StandsBehind front))
    (c.in_ok-ended.ensures.front ∙ ap (λ t. t.front) c.in_ok-search.ensures.nothing.0) c.outcome_of.ensures.front

pub returns-clause-same : goal.returns-clause-same
returns-clause-same g c =
    SamePlans-trans c.start.ensures.same
    (SamePlans-trans c.search_through.ensures.kept.same c.outcome_of.ensures.kept.same)

pub returns-clause-root_kept : goal.returns-clause-root_kept
returns-clause-root_kept g c =
    c.outcome_of.ensures.kept.root_kept ∙ c.search_through.ensures.kept.root_kept ∙ c.start.ensures.root_kept

pub returns-clause-count_kept : goal.returns-clause-count_kept
returns-clause-count_kept g c =
    c.outcome_of.ensures.kept.count_kept ∙ c.search_through.ensures.kept.count_kept ∙ c.start.ensures.count_kept
