use Rattle.std.proofs.Common.{◌≡◌, ℕ, ◌+◌, ◌<◌, ◌∷◌, List, Option, None, drop, length, reverse, refl, ap, ◌∙◌, subst}
use Rattle.std.proofs.Common.{arith}
use Rattle.ask_core.specs.declared.tree.Tok.TheVariants.{Ask, Cycle}
use Rattle.cert_text.specs.TreeTexts.{Written, with_token}
use Rattle.ask_core.specs.Paths.{OpenPlace, after_question, branches_at, first_answers, first_plan}
use Rattle.diff_graph.specs.Limits.{IsNamed}
use Rattle.search_places.specs.declared.split.Room.TheVariants.{OnlyNo}
use Rattle.ask_core.specs.declared.asker.TheConstants.{MAX_NAMES}
use Rattle.ot_prove.specs.Searching.{HasPassed, IsSearching, weight_of}
use Rattle.search_places.specs.Sides.{HasRoomForSides, IsAsked, StandsForSome, cycle_along, last_rows}
use Rattle.ot_prove.proofs.Steps.{IsSearching-passed, asked_literal, first_is_short, first_table_is_read}
use Rattle.ot_prove.proofs.Steps.{weight_of-passed}
use Rattle.ot_prove.proofs.passing.passed.Given.{Over}
use Rattle.ot_prove.proofs.passing.passed.Goals.{After-answers, After-put_no}
use Rattle.ot_prove.proofs.passing.passed.Goals as goal

-- the question that is at hand
literal : (g : Over) (c : After-answers g) → IsNamed MAX_NAMES c.in-Some.question.0 × IsAsked c.in-Some.question.0
literal g c =
    let A = g.A.Asker in
    let now = c.args.asker.now in
    let asks = c.in-Some.ensures.asks in
    asked_literal (A.name_count now) (first_plan (A.plan now) c.questions.passed.path) c.in-Some.question.0
    (A.plan now asks.0) (A.plan now c.in-Some.question.1) c.look_at.ensures.fine asks.1.2 c.requires.names

-- the table is that of the first place, behind whatever cycles
table :
    (g : Over) (c : After-answers g) (cycles : List (Option (List ℕ)))
    → IsSearching (g.A.Asker.is_own c.args.asker.now) (g.A.Asker.plan c.args.asker.now)
    (g.A.Asker.root c.args.asker.now) c.args.budget
    c.args.path (None ∷ cycles) (reverse c.args.tables.now.items) c.args.tree.tokens c.args.asked
    → (last_rows c.args.tables.now.items ≡ c.index-table.result.now) × StandsForSome MAX_NAMES c.index-table.result.now
table g c cycles begun =
    let A = g.A.Asker in
    let now = c.args.asker.now in
    let known = c.questions.invariant in
    first_table_is_read (A.is_own now) (A.plan now) (A.root now) c.args.budget c.questions.passed.path cycles
    c.args.tables.now.items c.questions.passed.tree.tokens c.questions.passed.asked
    c.index-table.result.now c.args.tables.now.len
    c.len.result known.opened (known.searching cycles begun) c.args.tables.now.ok.0 c.len.ensures c.index-table.ensures

-- one question more is passed, in whatever room its answers stand
one_more :
    (g : Over) (c : After-put_no g) (new : List (OpenPlace g.row.A-Node.Denot))
    → ((yes : g.row.A-Node.Denot)
    → new ≡ drop 1 (after_question c.in-Some.question.0 yes c.in-Some.question.1 c.questions.passed.path))
    → HasPassed (g.A.Asker.is_own c.args.asker.now) (g.A.Asker.plan c.args.asker.now) (g.A.Asker.root c.args.asker.now)
    c.args.budget c.args.tables.now.items (record { path = c.args.path; tree = c.args.tree; asked = c.args.asked })
    (record { path = new; tree = c.put_yes.new.tree; asked = c.questions.passed.asked + 1 })
    × (weight_of (branches_at (g.A.Asker.plan c.args.asker.now) new)
    < weight_of (branches_at (g.A.Asker.plan c.args.asker.now) c.questions.passed.path))
one_more g c new put =
    let A = g.A.Asker in
    let now = c.args.asker.now in
    let asks = c.in-Some.ensures.asks in
    let known = c.questions.invariant in
    let falls =
    weight_of-passed (A.plan now) c.questions.passed.path new c.in-Some.question.0 asks.0 c.in-Some.question.1
    known.opened asks.1.2 (put asks.0) in
    let same : length c.answers.result.now ≡ length (first_answers c.questions.passed.path) =
    ap length c.answers.ensures in
    let written = c.put_yes.ensures.put c.if-not-put_yes.false in
    let excluded = c.excludes_yes.ensures.excluded c.if-not-excludes_yes.false in (
      record {
        opened = falls.0;
        searching = λ cycles begun.
            IsSearching-passed (A.is_own now) (A.plan now) (A.root now) c.args.budget c.questions.passed.path new cycles
            c.args.tables.now.items c.index-table.result.now c.questions.passed.tree
            c.put_yes.new.tree c.questions.passed.asked c.in-Some.question.0 c.in-Some.question.1 known.opened
            c.negative_cycles_are_never_met.ensures (table g (goal.at.After-put_no g c).After-answers cycles begun).0
            (known.searching cycles begun) asks c.if-passed-budget.false (subst (λ (n : ℕ).
            HasRoomForSides c.index-table.result.now n c.in-Some.question.0 OnlyNo) same excluded) put (subst
            (λ (n : ℕ).
            c.put_yes.new.tree
            ≡ with_token (with_token c.questions.passed.tree Ask)
            (Cycle (cycle_along c.index-table.result.now n c.in-Some.question.0))) same written);
        falls = omega (arith, falls.1, known.falls);
        front = ap (λ (t : Written). t.front) written ∙ known.front;
      },
      falls.1,
    )

pub look_at-requires-clause-opened : goal.look_at-requires-clause-opened
look_at-requires-clause-opened g c = c.questions.invariant.opened

pub look_at-requires-clause-own : goal.look_at-requires-clause-own
look_at-requires-clause-own g c = (c.questions.invariant.searching c.requires.searching.0 c.requires.searching.1).own

pub overflow_cast-number : goal.overflow_cast-number
overflow_cast-number g c =
    let A = g.A.Asker in
    let now = c.args.asker.now in
    let s = c.questions.invariant.searching c.requires.searching.0 c.requires.searching.1 in
    let short =
    first_is_short (A.is_own now) (A.plan now) (A.root now) c.args.budget c.questions.passed.path _ _
    c.questions.passed.tree.tokens c.questions.passed.asked s in
    let same : length c.answers.result.now ≡ length (first_answers c.questions.passed.path) =
    ap length c.answers.ensures in
    omega (arith, short, same)

pub excludes_yes-requires-clause-named : goal.excludes_yes-requires-clause-named
excludes_yes-requires-clause-named g c = (literal g (goal.at.excludes_yes-requires-clause-named g c).After-answers).0

pub excludes_yes-requires-clause-asked : goal.excludes_yes-requires-clause-asked
excludes_yes-requires-clause-asked g c = (literal g (goal.at.excludes_yes-requires-clause-asked g c).After-answers).1

pub excludes_yes-requires-clause-stands : goal.excludes_yes-requires-clause-stands
excludes_yes-requires-clause-stands g c =
    (table g (goal.at.excludes_yes-requires-clause-stands g c).After-answers c.requires.searching.0
    c.requires.searching.1).1

pub put_yes-requires-clause-named : goal.put_yes-requires-clause-named
put_yes-requires-clause-named g c = (literal g (goal.at.put_yes-requires-clause-named g c).After-answers).0

-- the table's cycle has few numbers
pub put_yes-requires-clause-few : goal.put_yes-requires-clause-few
put_yes-requires-clause-few g c =
    let read = table g (goal.at.put_yes-requires-clause-few g c).After-answers c.requires.searching.0
    c.requires.searching.1 in
    let excluded = c.excludes_yes.ensures.excluded c.if-not-excludes_yes.false in
    (excluded.1 read.1.0 read.1.1).few

pub overflow_add-asked : goal.overflow_add-asked
overflow_add-asked g c =
    let s = c.questions.invariant.searching c.requires.searching.0 c.requires.searching.1 in
    omega (arith, s.within, c.if-passed-budget.false, c.ranges.budget.fits)

pub questions-init : goal.questions-init
questions-init g c =
    record { opened = c.requires.opened; searching = λ cycles begun. begun; falls = omega arith; front = refl }

pub questions-smaller : goal.questions-smaller
questions-smaller g c =
    (one_more g (goal.at.questions-smaller g c).After-put_no c.put_no.new.self
    (c.put_no.ensures.put c.if-not-put_no.false)).1

pub questions-preserved : goal.questions-preserved
questions-preserved g c =
    (one_more g (goal.at.questions-preserved g c).After-put_no c.put_no.new.self
    (c.put_no.ensures.put c.if-not-put_no.false)).0

-- where nothing more is passed, the search is as far as it was
pub returns-in_default : goal.returns-in_default
returns-in_default g c = c.questions.invariant

pub returns-then-passed-budget : goal.returns-then-passed-budget
returns-then-passed-budget g c = c.questions.invariant

pub returns-then-not-excludes_yes : goal.returns-then-not-excludes_yes
returns-then-not-excludes_yes g c = c.questions.invariant

pub returns-then-not-put_yes : goal.returns-then-not-put_yes
returns-then-not-put_yes g c = rw (c.put_yes.ensures.kept c.if-not-put_yes.true) c.questions.invariant

-- one more is passed where the answers had no room at hand
pub returns-then-not-put_no : goal.returns-then-not-put_no
returns-then-not-put_no g c =
    (one_more g (goal.at.returns-then-not-put_no g c).After-put_no c.in_ok-path.path
    (rw (c.put_no.ensures.kept c.if-not-put_no.true) at c.in_ok-path.ensures)).0
