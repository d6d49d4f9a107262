use Rattle.std.proofs.Common.{◌≡◌, ℕ, List, [], ◌∷◌, ◌++◌, length, get_or, Option, None, ap, ◌∙◌}
use Rattle.std.proofs.lemmas.List.{get_or_read}
use Rattle.diff_tables.specs.declared.hop.Hop.{Hop}
use Rattle.diff_tables.specs.Steps.{numbers_along}
use Rattle.diff_bounds.proofs.Kept.{append_on}
use Rattle.diff_bounds.proofs.rows.append_cycle.Goals as goal

-- the literal's number, and then the numbers on the chain that leads back
pub returns-in-Ok-clause-ok : goal.returns-in-Ok-clause-ok
returns-in-Ok-clause-ok g c =
    let rows = c.args.rows.now in
    let lit = c.args.lit in
    let row : List (Option Hop) = c.index-rows-lit.result in
    let read : row ≡ get_or rows lit.x [] = get_or_read rows lit.x row c.requires.named.0 c.index-rows-lit.is [] in
    let len : length row ≡ length rows = ap length read ∙ c.requires.square lit.x c.requires.named.0 in
    rw c.in-Ok.is at c.push_chain.ensures.ok
    ∙ ap (λ (xs : List ℕ). xs ++ numbers_along (λ x. get_or row x None) (length row) lit.y lit.x)
    (rw c.reserve.ensures.items at c.push_reserved.ensures.items)
    ∙ append_on c.args.picks.now.items c.args.number (numbers_along (λ x. get_or row x None) (length row) lit.y lit.x)
    ∙ ap (λ (n : ℕ). c.args.picks.now.items ++ c.args.number ∷ numbers_along (λ x. get_or row x None) n lit.y lit.x) len
    ∙ ap (λ (r : List (Option Hop)). c.args.picks.now.items ++ c.args.number
    ∷ numbers_along (λ x. get_or r x None) (length rows) lit.y lit.x) read
