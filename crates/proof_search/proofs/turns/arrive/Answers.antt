use Rattle.std.proofs.Common.{◌≡◌, arith}
use Rattle.std.proofs.lemmas.Result.{on_ok_weaker}
use Rattle.proof_search.specs.Owning.{closed_search}
use Rattle.proof_search.specs.Scouts.{MayGoBack}
use Rattle.proof_search.proofs.Keeping.{KeepsStarts-trans}
use Rattle.proof_search.proofs.Owning.{own_asked, own_level, own_none, search_kept}
use Rattle.proof_search.proofs.Scouting.{asked_back, own_gone_back}
use Rattle.proof_search.proofs.turns.arrive.Goals as goal

-- the place is left
pub returns-then-branch-clause-own : goal.returns-then-branch-clause-own
returns-then-branch-clause-own g c = c.in_ok-is_left.ensures.own

pub returns-then-branch-clause-same : goal.returns-then-branch-clause-same
returns-then-branch-clause-same g c = c.is_left.ensures.same

pub follow-requires : goal.follow-requires
follow-requires g c = (c.is_left.ensures.same.own c.args.node).0 c.requires.node

pub returns-in_err-lit-clause-same : goal.returns-in_err-lit-clause-same
returns-in_err-lit-clause-same g c = KeepsStarts-trans c.is_left.ensures.same c.follow.ensures.same

-- a question is asked there
pub returns-then-search-budget-clause-own : goal.returns-then-search-budget-clause-own
returns-then-search-budget-clause-own g c =
    search_kept c.follow.ensures.same c.is_left.new.search c.in_ok-is_left.ensures.own

pub returns-then-search-budget-clause-same : goal.returns-then-search-budget-clause-same
returns-then-search-budget-clause-same g c = KeepsStarts-trans c.is_left.ensures.same c.follow.ensures.same

pub returns-in_err-ask_at-in-Ask-clause-same : goal.returns-in_err-ask_at-in-Ask-clause-same
returns-in_err-ask_at-in-Ask-clause-same g c = KeepsStarts-trans c.is_left.ensures.same c.follow.ensures.same

pub returns-in_ok-ask_at-in-Ask-clause-own : goal.returns-in_ok-ask_at-in-Ask-clause-own
returns-in_ok-ask_at-in-Ask-clause-own g c =
    let is_own = g.A.Asker.is_own c.follow.new.self in
    let keeps = KeepsStarts-trans c.is_left.ensures.same c.follow.ensures.same in
    let own = search_kept c.follow.ensures.same c.is_left.new.search c.in_ok-is_left.ensures.own in
    let parts = rw c.in-Ask.is at c.in_ok-lit.ensures.begins in
    let asked = c.in_ok-ask_at-in-Ask.ensures in
    own_asked is_own asked.0 c.ask_at.new.search
    (own_level is_own c.is_left.new.search asked.0 own c.args.node ((keeps.own c.args.node).0 c.requires.node) asked.1)
    c.in-Ask.yes c.in-Ask.no parts.0 parts.1 asked.2

pub returns-in_ok-ask_at-in-Ask-clause-within : goal.returns-in_ok-ask_at-in-Ask-clause-within
returns-in_ok-ask_at-in-Ask-clause-within g c =
    let asked = c.in_ok-ask_at-in-Ask.ensures in
    omega (arith, asked.2.asked, asked.1.asked, c.in_ok-is_left.ensures.asked, c.requires.within)

pub returns-in_ok-ask_at-in-Ask-clause-same : goal.returns-in_ok-ask_at-in-Ask-clause-same
returns-in_ok-ask_at-in-Ask-clause-same g c = KeepsStarts-trans c.is_left.ensures.same c.follow.ensures.same

-- the plan holds there
pub returns-in-Holds-clause-own : goal.returns-in-Holds-clause-own
returns-in-Holds-clause-own g c =
    own_none (g.A.Asker.is_own c.follow.new.self) c.is_left.new.search
    (search_kept c.follow.ensures.same c.is_left.new.search c.in_ok-is_left.ensures.own)

pub returns-in-Holds-clause-same : goal.returns-in-Holds-clause-same
returns-in-Holds-clause-same g c = KeepsStarts-trans c.is_left.ensures.same c.follow.ensures.same

-- the plan fails there
pub returns-in-Fails-clause-own : goal.returns-in-Fails-clause-own
returns-in-Fails-clause-own g c =
    on_ok_weaker c.fail.result
    (own_gone_back (g.A.Asker.is_own c.follow.new.self) c.is_left.new.search c.fail.new.search
    (search_kept c.follow.ensures.same c.is_left.new.search c.in_ok-is_left.ensures.own)) c.fail.ensures.gone

pub returns-in-Fails-clause-within : goal.returns-in-Fails-clause-within
returns-in-Fails-clause-within g c =
    on_ok_weaker c.fail.result
    (λ (gone : MayGoBack (closed_search c.is_left.new.search) c.fail.new.search).
    let back : c.fail.new.search.asked ≡ c.is_left.new.search.asked =
    asked_back c.is_left.new.search c.fail.new.search gone in
    omega (arith, back, c.in_ok-is_left.ensures.asked, c.requires.within)) c.fail.ensures.gone

pub returns-in-Fails-clause-same : goal.returns-in-Fails-clause-same
returns-in-Fails-clause-same g c = KeepsStarts-trans c.is_left.ensures.same c.follow.ensures.same
