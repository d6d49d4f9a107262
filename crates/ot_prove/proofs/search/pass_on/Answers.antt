use Rattle.std.proofs.Common.{refl, arith}
use Rattle.ask_core.specs.Paths.{first_plan}
use Rattle.ot_prove.proofs.Steps.{asked_literal, first_has_table, first_table_is_read}
use Rattle.ot_prove.proofs.search.pass_on.Goals as goal

pub returns-clause-searching : goal.returns-clause-searching
returns-clause-searching g c =
    let begun = rw c.requires.possible at c.requires.searching in
    let further = c.in_ok-path.ensures.searching c.args.search.now.cycles in
    rw c.requires.possible ((rw (c.replace-path.ensures.value, c.replace-tree.ensures.value) at further) begun)

pub returns-in_default-clause-searching : goal.returns-in_default-clause-searching
returns-in_default-clause-searching g c = c.requires.searching

pub returns-in_default-clause-falls : goal.returns-in_default-clause-falls
returns-in_default-clause-falls g c = omega arith

pub returns-in_default-clause-front : goal.returns-in_default-clause-front
returns-in_default-clause-front g c = refl

pub returns-then-not-excludes_yes-clause-searching : goal.returns-then-not-excludes_yes-clause-searching
returns-then-not-excludes_yes-clause-searching g c = c.requires.searching

pub returns-then-not-excludes_yes-clause-falls : goal.returns-then-not-excludes_yes-clause-falls
returns-then-not-excludes_yes-clause-falls g c = omega arith

pub returns-then-not-excludes_yes-clause-front : goal.returns-then-not-excludes_yes-clause-front
returns-then-not-excludes_yes-clause-front g c = refl

pub passed-requires-clause-opened : goal.passed-requires-clause-opened
passed-requires-clause-opened g c = rw c.replace-path.ensures.value c.requires.opened

pub passed-requires-clause-searching : goal.passed-requires-clause-searching
passed-requires-clause-searching g c = (
  c.args.search.now.cycles,
  rw (c.replace-path.ensures.value, c.replace-tree.ensures.value) (rw c.requires.possible at c.requires.searching),
)

pub returns-clause-falls : goal.returns-clause-falls
returns-clause-falls g c = rw c.replace-path.ensures.value at c.in_ok-path.ensures.falls

pub returns-clause-front : goal.returns-clause-front
returns-clause-front g c = rw c.replace-tree.ensures.value at c.in_ok-path.ensures.front

pub excludes_yes-requires-clause-named : goal.excludes_yes-requires-clause-named
excludes_yes-requires-clause-named g c =
    let A = g.A.Asker in
    let now = c.args.asker.now in
    let asks = c.in-Some.ensures.asks in
    (asked_literal (A.name_count now) (first_plan (A.plan now) c.args.search.now.path) c.in-Some.lit (A.plan now asks.0)
    _ c.look_at.ensures.fine asks.1.2 c.requires.names).0

pub excludes_yes-requires-clause-asked : goal.excludes_yes-requires-clause-asked
excludes_yes-requires-clause-asked g c =
    let A = g.A.Asker in
    let now = c.args.asker.now in
    let asks = c.in-Some.ensures.asks in
    (asked_literal (A.name_count now) (first_plan (A.plan now) c.args.search.now.path) c.in-Some.lit (A.plan now asks.0)
    _ c.look_at.ensures.fine asks.1.2 c.requires.names).1

pub overflow_sub-last : goal.overflow_sub-last
overflow_sub-last g c =
    let A = g.A.Asker in
    let now = c.args.asker.now in
    let s = c.args.search.now in
    let table =
    first_has_table (A.is_own now) (A.plan now) (A.root now) c.args.budget s.path s.cycles s.tables.items s.tree.tokens
    s.asked c.requires.opened (rw c.requires.possible at c.requires.searching) in
    omega (arith, table.0, s.tables.ok.0, c.len-last.ensures)

pub excludes_yes-requires-clause-stands : goal.excludes_yes-requires-clause-stands
excludes_yes-requires-clause-stands g c =
    let A = g.A.Asker in
    let now = c.args.asker.now in
    let s = c.args.search.now in
    (first_table_is_read (A.is_own now) (A.plan now) (A.root now) c.args.budget s.path
    s.cycles s.tables.items s.tree.tokens s.asked c.index.result.now s.tables.len c.len-last.result c.requires.opened
    (rw c.requires.possible at c.requires.searching) s.tables.ok.0 c.len-last.ensures c.index.ensures).1
