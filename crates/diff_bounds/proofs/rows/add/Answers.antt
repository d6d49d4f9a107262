use Rattle.std.proofs.Common.{◌≡◌, ℕ, ◌<◌, List, length, get_or, [], Option, None, ap, sym, subst, ◌∙◌, arith, rules}
use Rattle.std.proofs.lemmas.List.{get_or_read}
use Rattle.diff_tables.specs.declared.hop.Hop.{Hop}
use Rattle.diff_graph.specs.declared.lit.Lit.{Lit}
use Rattle.diff_tables.specs.Steps.{way_of, IsModest, IsSquare}
use Rattle.diff_tables.specs.Tables.{kept_of}
use Rattle.diff_bounds.specs.Kept.{lower_way}
use Rattle.diff_bounds.proofs.Led.{IsLed-through, IsLed-left, IsLowered-left, IsModest-lower_way}
use Rattle.diff_bounds.proofs.rows.add.Goals as goal

-- the ways are those of the row that is read
ways_along :
    (rows : List (List (Option Hop))) (row ways : List (Option Hop)) (l : Lit) (number : ℕ)
    → l.x < length rows → IsSquare rows
    → row ≡ get_or rows l.x []
    → ((x : ℕ) → x < length row → get_or ways x None ≡ way_of number l x (get_or row x None))
    → (x : ℕ) → x < length rows → get_or ways x None ≡ way_of number l x (kept_of rows x l.x)
ways_along rows row ways l number x_below square read are x below =
    let len : length row ≡ length rows = ap length read ∙ square l.x x_below in
    are x (omega arith) ∙ ap (λ (r : List (Option Hop)). way_of number l x (get_or r x None)) read

-- those that are left are those that lead lower than what the row of their end keeps
lower_along :
    (rows : List (List (Option Hop))) (row ways left : List (Option Hop)) (from : ℕ)
    → from < length rows → IsSquare rows
    → row ≡ get_or rows from [] → length ways ≡ length rows
    → ((x : ℕ) → x < length ways → get_or left x None ≡ lower_way (get_or row x None) (get_or ways x None))
    → (x : ℕ) → x < length rows → get_or left x None ≡ lower_way (kept_of rows x from) (get_or ways x None)
lower_along rows row ways left from from_below square read len are x below =
    are x (omega (arith, len)) ∙ ap (λ (r : List (Option Hop)). lower_way (get_or r x None) (get_or ways x None)) read

-- the ways that are left are modest, and where that of the first name goes on no lower, none does
pub lower_rows-requires : goal.lower_rows-requires
lower_rows-requires g c =
    let rows = c.args.rows.now in
    let lit = c.args.lit in
    let ps = c.requires.stands.0 in
    let x_below : lit.x < length rows = c.requires.named.0 in
    let y_below : lit.y < length rows = c.requires.named.1 in
    let read : c.index-rows-lit.result ≡ get_or rows lit.x [] =
    get_or_read rows lit.x c.index-rows-lit.result x_below c.index-rows-lit.is [] in
    let read_to : c.index-rows-lit-2.result ≡ get_or rows lit.y [] =
    get_or_read rows lit.y c.index-rows-lit-2.result y_below c.index-rows-lit-2.is [] in
    let len : length c.index-rows-lit.result ≡ length rows = ap length read ∙ c.requires.square lit.x x_below in
    let ways = c.begin_ways.new.ways in
    let ways_len : length ways ≡ length rows = c.begin_ways.ensures.len ∙ len in
    let left = c.drop_ways.new.ways in
    let lower =
    lower_along rows c.index-rows-lit-2.result ways left lit.y y_below c.requires.square read_to ways_len
    c.drop_ways.ensures.lower in (
      search rules,
      (
        x_below,
        (
          y_below,
          (
            c.requires.square,
            (
              c.drop_ways.ensures.len ∙ ways_len,
              (
                λ x below.
                    (let xn : x < length ways = omega (arith, c.drop_ways.ensures.len, below) in
                    subst (λ (o : Option Hop). IsModest 2000000 o) (sym (c.drop_ways.ensures.lower x xn))
                    (IsModest-lower_way 2000000 (get_or c.index-rows-lit-2.result x None) (get_or ways x None)
                    (c.begin_ways.ensures.modest x (omega (arith, xn, c.begin_ways.ensures.len))))),
                (
                  c.requires.modest,
                  λ y yn.
                      IsLed-left rows ways left lit.y ps c.requires.stands.1 c.requires.square y_below lower lit.x
                      y x_below yn (IsLed-through rows ways c.args.number lit ps c.requires.stands.1 c.requires.square
                      c.requires.named (ways_along rows c.index-rows-lit.result ways lit c.args.number x_below
                      c.requires.square read c.begin_ways.ensures.ways) y yn),
                ),
              ),
            ),
          ),
        ),
      ),
    )

-- the lowered rows keep what the table keeps once the literal is added
pub returns-clause-added : goal.returns-clause-added
returns-clause-added g c =
    let rows = c.args.rows.now in
    let lit = c.args.lit in
    let x_below : lit.x < length rows = c.requires.named.0 in
    let y_below : lit.y < length rows = c.requires.named.1 in
    let read : c.index-rows-lit.result ≡ get_or rows lit.x [] =
    get_or_read rows lit.x c.index-rows-lit.result x_below c.index-rows-lit.is [] in
    let read_to : c.index-rows-lit-2.result ≡ get_or rows lit.y [] =
    get_or_read rows lit.y c.index-rows-lit-2.result y_below c.index-rows-lit-2.is [] in
    let len : length c.index-rows-lit.result ≡ length rows = ap length read ∙ c.requires.square lit.x x_below in
    let ways = c.begin_ways.new.ways in
    let ways_len : length ways ≡ length rows = c.begin_ways.ensures.len ∙ len in
    let left = c.drop_ways.new.ways in
    let lower =
    lower_along rows c.index-rows-lit-2.result ways left lit.y y_below c.requires.square read_to ways_len
    c.drop_ways.ensures.lower in
    c.lowered_rows_keep_the_step.ensures.added rows c.lower_rows.new.rows ways c.args.number lit
    c.requires.square c.requires.named c.lower_rows.auto.rows
    (λ y yn.
    IsLowered-left rows ways left lit.y c.requires.stands.0 c.requires.stands.1 c.requires.square y_below lower y
    (get_or c.lower_rows.new.rows y []) yn (c.lower_rows.ensures y yn))
    (ways_along rows c.index-rows-lit.result ways lit c.args.number x_below c.requires.square read
    c.begin_ways.ensures.ways)
