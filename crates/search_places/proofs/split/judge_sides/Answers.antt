use Rattle.std.proofs.Common.{◌≡◌, ℕ, ◌-◌, List, length, refl, sym, subst, arith}
use Rattle.diff_bounds.specs.Kept.{Rows}
use Rattle.search_places.specs.declared.split.Room.TheVariants.{OnlyNo}
use Rattle.search_places.specs.Sides.{HasRoomForSides}
use Rattle.search_places.proofs.Judged.{last_at}
use Rattle.search_places.proofs.split.judge_sides.Goals as goal

-- the place of the last table
last_place : (tables : List Rows) (len place : ℕ) → len ≡ length tables → place ≡ len → place - 1 ≡ length tables - 1
last_place tables len place known is = omega arith

pub returns-in-OnlyNo : goal.returns-in-OnlyNo
returns-in-OnlyNo c =
    let tables = c.args.tables.now.items in
    let place = last_place tables c.args.tables.now.len c.len-last.result c.args.tables.now.ok.0 c.len-last.ensures in
    let read = last_at tables c.index.result.now (c.len-last.result - 1) c.requires.some place
    (sym c.index.ensures) in (
      refl,
      subst (λ (x : Rows). HasRoomForSides x c.args.number c.args.lit OnlyNo) (sym read)
          (rw c.in-OnlyNo.is at c.room_of.ensures),
    )
