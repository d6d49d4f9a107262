use Rattle.std.proofs.Common.{◌≡◌, ℕ, ◌<◌, Bool, true, false, List, ◌∷◌, Option, None, length, reverse, subst, arith}
use Rattle.diff_graph.specs.Limits.{IsNamed}
use Rattle.ask_core.specs.Plans.{Plan}
use Rattle.ask_core.specs.declared.tree.Tok.{Tok}
use Rattle.ask_core.specs.declared.tree.Tok.TheVariants.{Ask}
use Rattle.cert_text.specs.TreeTexts.{with_token}
use Rattle.ask_core.specs.Paths.{OpenPlace, branches_at, first_answers, first_plan}
use Rattle.diff_bounds.specs.Kept.{Rows}
use Rattle.ask_core.specs.declared.asker.TheConstants.{MAX_NAMES}
use Rattle.search_places.specs.Sides.{IsAsked, StandsForSome, last_rows}
use Rattle.search_places.specs.Changes.{known_by}
use Rattle.ot_prove.specs.Searching.{LeadsTo, IsSearching, IsSearchUnderWay, weight_of}
use Rattle.ot_prove.proofs.Steps.{IsSearching-asked, IsSearching-holds, spent_at_first, failing_at_first}
use Rattle.ot_prove.proofs.Steps.{first_is_reached, first_has_table, asked_literal, weight_of-asked, weight_of-close}
use Rattle.ot_prove.proofs.Steps.{without_last}
use Rattle.ot_prove.proofs.search.take_turn.Given.{Over}
use Rattle.ot_prove.proofs.search.take_turn.Goals.{In-Ask, In_ok-ask-in-Ask}
use Rattle.ot_prove.proofs.search.take_turn.Goals as goal

-- a first place that is known to be possible
known_first :
    {N W : Type 0} {is_own : N → Type 0} {plan : N → Plan W} {root : Plan W} {budget : ℕ} {places : List (OpenPlace N)}
    {cycles : List (Option (List ℕ))} {tables : List Rows} {tree : List Tok} {asked : ℕ} (possible : Bool)
    → possible ≡ true
    → IsSearching is_own plan root budget places (known_by possible cycles) tables tree asked
    → IsSearching is_own plan root budget places (None ∷ cycles) tables tree asked
known_first true is s = s
known_first false is s = absurd (cc)

-- the question that is asked
literal : (g : Over) (c : In-Ask g) → IsNamed MAX_NAMES c.in-Ask.lit × IsAsked c.in-Ask.lit
literal g c =
    let A = g.A.Asker in
    let now = c.args.asker.now in
    let begins = rw c.in-Ask.is at c.requires.begins in
    asked_literal (A.name_count now) (first_plan (A.plan now) c.args.search.now.path) c.in-Ask.lit
    (A.plan now c.in-Ask.yes) (A.plan now c.in-Ask.no) c.requires.fine begins.2 c.requires.names

-- the table of the first place
table : (g : Over) (c : In-Ask g)
    → (0 < length c.args.search.now.tables.items) × StandsForSome MAX_NAMES (last_rows c.args.search.now.tables.items)
table g c =
    let A = g.A.Asker in
    let now = c.args.asker.now in
    let s = c.args.search.now in
    first_has_table (A.is_own now) (A.plan now) (A.root now) c.args.budget s.path s.cycles s.tables.items s.tree.tokens
    s.asked c.requires.opened (known_first s.possible c.requires.possible c.requires.searching)

-- behind a question the search goes on at the sides that have room
asked :
    (g : Over) (c : In_ok-ask-in-Ask g)
    → IsSearchUnderWay (g.A.Asker.is_own c.args.asker.now) (g.A.Asker.plan c.args.asker.now)
    (g.A.Asker.root c.args.asker.now) c.args.budget c.ask.new.self
asked g c =
    let A = g.A.Asker in
    let now = c.args.asker.now in
    let s = c.args.search.now in
    let after = c.in_ok-ask-in-Ask.ensures in
    let judged = after.judged in
    rw (after.possible, c.requires.possible, after.asked)
    (IsSearching-asked (A.is_own now) (A.plan now) (A.root now) c.args.budget s.path c.ask.new.self.path s.cycles
    c.ask.new.self.cycles s.tables.items (reverse c.ask.new.self.tables.items) s.tree c.ask.new.self.tree s.asked
    c.in-Ask.lit c.in-Ask.yes c.in-Ask.no c.in_ok-ask-in-Ask.field-0 judged.0 c.requires.opened
    c.negative_cycles_are_never_met.ensures (known_first s.possible c.requires.possible c.requires.searching)
    (rw c.in-Ask.is at c.requires.begins) c.if-search-budget.false judged.1 judged.2)

-- and its places weigh less
falls :
    (g : Over) (c : In_ok-ask-in-Ask g)
    → weight_of (branches_at (g.A.Asker.plan c.args.asker.now) c.ask.new.self.path)
    < weight_of (branches_at (g.A.Asker.plan c.args.asker.now) c.args.search.now.path)
falls g c =
    let s = c.args.search.now in
    let begins = rw c.in-Ask.is at c.requires.begins in
    let judged = c.in_ok-ask-in-Ask.ensures.judged in
    weight_of-asked (g.A.Asker.plan c.args.asker.now) c.in_ok-ask-in-Ask.field-0 judged.0 s.path c.ask.new.self.path
    s.cycles c.ask.new.self.cycles (with_token s.tree Ask) c.ask.new.self.tree c.in-Ask.lit c.in-Ask.yes c.in-Ask.no
    c.requires.opened begins.2 judged.2

pub returns-then-search-budget-clause-step : goal.returns-then-search-budget-clause-step
returns-then-search-budget-clause-step g c =
    let A = g.A.Asker in
    let now = c.args.asker.now in
    let s = c.args.search.now in
    let begins = rw c.in-Ask.is at c.requires.begins in
    spent_at_first (A.is_own now) (A.plan now) (A.root now) c.args.budget s.path s.cycles s.tables.items s.tree.tokens
    s.asked c.in-Ask.lit (A.plan now c.in-Ask.yes) (A.plan now c.in-Ask.no)
    (known_first s.possible c.requires.possible c.requires.searching) begins.2 c.if-search-budget.true

pub ask-requires-clause-named : goal.ask-requires-clause-named
ask-requires-clause-named g c = (literal g (goal.at.ask-requires-clause-named g c).In-Ask).0

pub ask-requires-clause-asked : goal.ask-requires-clause-asked
ask-requires-clause-asked g c = (literal g (goal.at.ask-requires-clause-asked g c).In-Ask).1

pub ask-requires-clause-some : goal.ask-requires-clause-some
ask-requires-clause-some g c = (table g (goal.at.ask-requires-clause-some g c).In-Ask).0

pub ask-requires-clause-stands : goal.ask-requires-clause-stands
ask-requires-clause-stands g c = (table g (goal.at.ask-requires-clause-stands g c).In-Ask).1

pub pass_on-requires-clause-searching : goal.pass_on-requires-clause-searching
pass_on-requires-clause-searching g c = asked g (goal.at.pass_on-requires-clause-searching g c).In_ok-ask-in-Ask

pub returns-else-eq-clause-step : goal.returns-else-eq-clause-step
returns-else-eq-clause-step g c = asked g (goal.at.returns-else-eq-clause-step g c).In_ok-ask-in-Ask

pub returns-else-eq-clause-falls : goal.returns-else-eq-clause-falls
returns-else-eq-clause-falls g c = falls g (goal.at.returns-else-eq-clause-falls g c).In_ok-ask-in-Ask

pub returns-then-eq-clause-step : goal.returns-then-eq-clause-step
returns-then-eq-clause-step g c = c.in_ok-pass_on-in-Ask.ensures.searching

pub returns-then-eq-clause-falls : goal.returns-then-eq-clause-falls
returns-then-eq-clause-falls g c =
    omega (
      arith,
      falls g (goal.at.returns-then-eq-clause-falls g c).In_ok-ask-in-Ask,
      c.in_ok-pass_on-in-Ask.ensures.falls,
    )

-- behind an end that holds the search goes on at the next place
pub returns-in_ok-close_holds-in-Holds-clause-step : goal.returns-in_ok-close_holds-in-Holds-clause-step
returns-in_ok-close_holds-in-Holds-clause-step g c =
    let A = g.A.Asker in
    let now = c.args.asker.now in
    let s = c.args.search.now in
    let less = without_last s.tables.items c.pop.new.self.items s.tables.len s.tables.ok.0 c.pop.ensures.rest in
    rw c.in_ok-close_holds-in-Holds.ensures
    (IsSearching-holds (A.is_own now) (A.plan now) (A.root now) c.args.budget s.path s.cycles s.tables.items
    c.pop.new.self.items s.tree.tokens s.asked c.requires.opened
    (known_first s.possible c.requires.possible c.requires.searching) (rw c.in-Holds.is at c.requires.begins) less)

pub returns-in_ok-close_holds-in-Holds-clause-falls : goal.returns-in_ok-close_holds-in-Holds-clause-falls
returns-in_ok-close_holds-in-Holds-clause-falls g c =
    rw c.in_ok-close_holds-in-Holds.ensures
    (weight_of-close (g.A.Asker.plan c.args.asker.now) c.args.search.now.path c.requires.opened)

-- the failing end is that of the question list, and the answers lead there
pub returns-in-Fails-clause-step : goal.returns-in-Fails-clause-step
returns-in-Fails-clause-step g c =
    let A = g.A.Asker in
    let now = c.args.asker.now in
    let s = c.args.search.now in
    let begins = rw c.in-Fails.is at c.requires.begins in
    let searching = known_first s.possible c.requires.possible c.requires.searching in
    let reached =
    first_is_reached (A.is_own now) (A.plan now) (A.root now) c.args.budget s.path _ _ s.tree.tokens s.asked
    c.requires.opened searching in (
      c.requires.opened,
      record {
        leads = subst (λ (p : Plan g.row.A-Why.Denot). LeadsTo (A.root now) (first_answers s.path) p) begins reached;
        lists = λ q list.
            failing_at_first (A.is_own now) (A.plan now) (A.root now) c.args.budget s.path s.cycles s.tables.items
            s.tree.tokens s.asked c.in-Fails.why q searching begins list;
      },
    )
