use Rattle.std.proofs.Common.{◌≡◌, ℕ, ◌+◌, ◌-◌, true, false, List, [], ◌∷◌, ◌++◌, length, set, get_or, subst, ap, ◌∙◌}
use Rattle.std.proofs.Common.{arith}
use Rattle.diff_bounds.specs.Kept.{Rows}
use Rattle.search_places.specs.Sides.{AddsAnswer}
use Rattle.search_places.proofs.Splitting.{first_read, second_read, both_written}
use Rattle.search_places.proofs.split.split.Goals as goal

pub returns : goal.returns
returns c =
    let before : List Rows = c.args.tables.now.items in
    let pushed : List Rows = c.push_reserved.new.self.items in
    let last : ℕ = c.len-last.result - 1 in
    let table : Rows = c.index-table.result.now in
    let size : last + 1 ≡ length before = omega (arith, c.len-last.ensures, c.args.tables.now.ok.0, c.requires.some) in
    let place : last ≡ length before - 1 = omega (arith, size) in
    let is : pushed ≡ before ++ table ∷ [] =
    c.push_reserved.ensures.items ∙ ap (λ (l : List Rows). l ++ table ∷ []) c.in_ok-reserve.ensures.items in
    let read = first_read before pushed last table [] size c.index_mut.result.now is c.index_mut.ensures.value in
    let copied = rw c.in_ok-reserve.ensures.items at c.index-table.ensures in
    let copy = second_read before pushed last table [] size c.answer.new.table c.index_mut-2.result.now is copied
    c.index_mut-2.ensures.value in
    let at_last = ap (λ (n : ℕ). get_or before n []) place in
    let of_yes : Rows = c.answer-2.new.table in
    let of_no : Rows = c.answer.new.table in (
      of_yes,
      of_no,
      subst (λ (x : Rows). AddsAnswer c.args.number c.args.lit true x of_yes) (copy ∙ at_last) c.answer-2.ensures,
      subst (λ (x : Rows). AddsAnswer c.args.number c.args.lit false x of_no) (read ∙ at_last) c.answer.ensures,
      both_written before pushed last table [] size of_no of_yes is
          ∙ ap (λ (n : ℕ). set before n of_no ++ of_yes ∷ []) place,
    )
