use Rattle.std.proofs.Common.{◌≡◌, ◌+◌, ◌<◌, ◌++◌, ℕ, List, length, subst, sym, ◌∙◌}
use Rattle.std.proofs.lemmas.List.{take_all}
use Rattle.diff_graph.specs.declared.lit.Lit.{Lit}
use Rattle.diff_graph.specs.Cycles.{literal_at}
use Rattle.diff_graph.specs.Limits.{AreNamed, IsNamed, IsSmall}
use Rattle.diff_tables.specs.Tables.{StandsFor, kept_of, numbered_from}
use Rattle.diff_tables.proofs.AddingSteps.{All-at, AreModest-adding, IsAdding-more, IsAdding-none}
use Rattle.diff_tables.proofs.adding.add_all.Goals as goal

-- a literal of the list is one over the names of as many rows
named_at : (n m : ℕ) (ls : List Lit) (place : ℕ) → m ≡ n → AreNamed n ls → place < length ls
    → IsNamed m (literal_at ls place)
named_at n m ls place same named inside =
    subst (λ (k : ℕ). IsNamed k (literal_at ls place)) (sym same) (All-at (λ l. IsNamed n l) ls place named inside)

pub loop-place-init : goal.loop-place-init
loop-place-init c =
    let old = c.args.rows.now in
    let none = IsAdding-none old c.args.lits.now c.requires.square in (
      none,
      AreModest-adding (length old) old old c.args.lits.now 0 none c.requires.few c.requires.stands.0
          c.requires.stands.1 c.requires.stands.2 c.requires.small,
    )

pub loop-place-preserved : goal.loop-place-preserved
loop-place-preserved c =
    let old = c.args.rows.now in
    let so_far =
    IsAdding-more (length old) (length c.loop-place.rows) old c.loop-place.rows c.insert.new.rows
    c.args.lits.now c.loop-place.place
    c.loop-place.invariant.0 c.loop-place-test.true c.insert.auto.rows c.insert.ensures.square c.loop-place.auto.rows
    c.insert.ensures.stands in (
      so_far,
      AreModest-adding (length old) old c.insert.new.rows c.args.lits.now (c.loop-place.place + 1) so_far c.requires.few
          c.requires.stands.0 c.requires.stands.1 c.requires.stands.2 c.requires.small,
    )

pub allows-requires-clause-named : goal.allows-requires-clause-named
allows-requires-clause-named c =
    named_at (length c.args.rows.now) (length c.loop-place.rows) c.args.lits.now c.loop-place.place
    c.loop-place.auto.rows c.requires.named c.loop-place-test.true

pub allows-requires-clause-small : goal.allows-requires-clause-small
allows-requires-clause-small c =
    All-at (λ l. IsSmall l) c.args.lits.now c.loop-place.place c.requires.small c.loop-place-test.true

pub insert-requires-clause-named : goal.insert-requires-clause-named
insert-requires-clause-named c =
    named_at (length c.args.rows.now) (length c.loop-place.rows) c.args.lits.now c.loop-place.place
    c.loop-place.auto.rows c.requires.named c.loop-place-test.true

pub insert-requires-clause-small : goal.insert-requires-clause-small
insert-requires-clause-small c =
    All-at (λ l. IsSmall l) c.args.lits.now c.loop-place.place c.requires.small c.loop-place-test.true

pub returns-then-not-allows-clause-stands : goal.returns-then-not-allows-clause-stands
returns-then-not-allows-clause-stands c = c.loop-place.invariant.0.stands

pub returns-then-not-allows-clause-refused : goal.returns-then-not-allows-clause-refused
returns-then-not-allows-clause-refused c = (c.loop-place-test.true, sym c.allows.ensures ∙ c.if-not-allows.true)

pub returns-clause-stands : goal.returns-clause-stands
returns-clause-stands c = λ ps stands.
    subst (λ (ls : List Lit). StandsFor (length c.args.rows.now) (kept_of c.loop-place.rows) (ps ++ numbered_from 0 ls))
    (take_all c.loop-place.place c.args.lits.now c.loop-place-test.false) (c.loop-place.invariant.0.stands ps stands)

pub allows-requires-clause-modest : goal.allows-requires-clause-modest
allows-requires-clause-modest c = c.loop-place.invariant.1

pub insert-requires-clause-modest : goal.insert-requires-clause-modest
insert-requires-clause-modest c = c.loop-place.invariant.1

pub returns-then-not-allows-clause-modest : goal.returns-then-not-allows-clause-modest
returns-then-not-allows-clause-modest c = c.loop-place.invariant.1

pub returns-clause-modest : goal.returns-clause-modest
returns-clause-modest c = c.loop-place.invariant.1
