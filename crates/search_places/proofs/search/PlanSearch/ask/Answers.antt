-- A side that no integers meet has a cycle: that of yes the one along the table, with which it is closed at once.
use Rattle.std.proofs.Common.{◌≡◌, ℕ, false, List, [], length, reverse, refl, sym, subst, ap}
use Rattle.ask_core.specs.Paths.{first_answers}
use Rattle.ask_core.specs.declared.tree.Tok.TheVariants.{Ask, Cycle}
use Rattle.cert_text.specs.TreeTexts.{with_token}
use Rattle.diff_graph.specs.Literals.{answered_of}
use Rattle.diff_tables.specs.Tables.{kept_of}
use Rattle.diff_bounds.specs.Kept.{Rows}
use Rattle.search_places.specs.declared.split.Room.TheVariants.{Both, OnlyYes, OnlyNo}
use Rattle.search_places.specs.Sides.{ClosesCycle, JudgesSides, cycle_along, cycles_of, last_rows}
use Rattle.search_places.proofs.Judged.{JudgesSides-both, JudgesSides-only_yes, JudgesSides-only_no}
use Rattle.search_places.proofs.search.PlanSearch.ask.Goals as goal

pub returns-in_ok-push_possible-in-Both-clause-judged : goal.returns-in_ok-push_possible-in-Both-clause-judged
returns-in_ok-push_possible-in-Both-clause-judged g c =
    let old = c.args.self.now.tables.items in
    let new = c.judge_sides.new.tables.items in
    let cycles = c.args.self.now.cycles in
    let sides = rw c.in-Both.is at c.in_ok-room.ensures in
    rw c.in-Both.is (
      [],
      subst (λ (n : ℕ). JudgesSides c.args.lit n cycles (reverse old) (cycles_of Both [] cycles) (reverse new))
          (ap length c.answers.ensures)
          (JudgesSides-both c.args.lit (length c.answers.result.now) [] old c.requires.some sides.0 sides.1 new cycles
          sides.2 sides.3 sides.4),
      (
        c.in_ok-ask-in-Both.ensures.ok,
        c.in_ok-push_possible-in-Both.ensures,
        c.in_ok-push_ask-in-Both.ensures.ok,
      ),
    )

pub returns-in_ok-wait_impossible-in-OnlyYes-clause-judged : goal.returns-in_ok-wait_impossible-in-OnlyYes-clause-judged
returns-in_ok-wait_impossible-in-OnlyYes-clause-judged g c =
    let old = c.args.self.now.tables.items in
    let new = c.judge_sides.new.tables.items in
    let cycles = c.args.self.now.cycles in
    let number = length c.answers.result.now in
    let sides = rw c.in-OnlyYes.is at c.in_ok-room.ensures in
    let waits = c.in_ok-wait_impossible-in-OnlyYes.ensures in
    let closes =
    subst (λ (tables : List Rows). ClosesCycle (kept_of (last_rows tables)) number (answered_of c.args.lit false)
    waits.0) sides.0 waits.2 in
    rw c.in-OnlyYes.is (
      waits.0,
      subst (λ (tables : List Rows). JudgesSides c.args.lit (length (first_answers c.args.self.now.path)) cycles
          (reverse old) (cycles_of OnlyYes waits.0 cycles) (reverse tables)) (sym sides.0)
          (subst (λ (n : ℕ). JudgesSides c.args.lit n cycles (reverse old) (cycles_of OnlyYes waits.0 cycles)
          (reverse old)) (ap length c.answers.ensures)
          (JudgesSides-only_yes c.args.lit number waits.0 old c.requires.some cycles sides.1.0 closes)),
      (
        c.in_ok-ask-in-OnlyYes.ensures.ok,
        waits.1,
        c.in_ok-push_ask-in-OnlyYes.ensures.ok,
      ),
    )

pub returns-in_ok-close_yes-in-OnlyNo-clause-judged : goal.returns-in_ok-close_yes-in-OnlyNo-clause-judged
returns-in_ok-close_yes-in-OnlyNo-clause-judged g c =
    let old = c.args.self.now.tables.items in
    let new = c.judge_sides.new.tables.items in
    let cycles = c.args.self.now.cycles in
    let number = length c.answers.result.now in
    let numbers = cycle_along (last_rows old) number c.args.lit in
    let sides = rw c.in-OnlyNo.is at c.in_ok-room.ensures in
    rw c.in-OnlyNo.is (
      numbers,
      subst (λ (tables : List Rows). JudgesSides c.args.lit (length (first_answers c.args.self.now.path)) cycles
          (reverse old) (cycles_of OnlyNo numbers cycles) (reverse tables)) (sym sides.0)
          (subst (λ (n : ℕ). JudgesSides c.args.lit n cycles (reverse old) (cycles_of OnlyNo numbers cycles)
          (reverse old)) (ap length c.answers.ensures)
          (JudgesSides-only_no c.args.lit number numbers old c.requires.some cycles sides.1.0 sides.1.1)),
      (
        c.in_ok-ask_no-in-OnlyNo.ensures.ok c.args.yes,
        refl,
        subst
            (λ (tables : List Rows).
            c.close_yes.new.tree ≡ with_token (with_token c.args.self.now.tree Ask)
            (Cycle (cycle_along (last_rows tables) number c.args.lit))) sides.0 c.in_ok-close_yes-in-OnlyNo.ensures,
      ),
    )
