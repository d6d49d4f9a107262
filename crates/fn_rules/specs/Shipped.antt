-- Functions to try the definitions on: `ttf` and `ttfu` have both properties, `sites` has TP1 and lacks TP2. The others
-- are small, or wrong on purpose.
use Rattle.std.specs.Prelude.{ℤ, pos, negsuc, Bool, true, false, List, [], ◌∷◌, ◌++◌}
use Rattle.ot_model.specs.declared.op.Kind.{Kind}
use Rattle.ot_model.specs.declared.op.Kind.TheVariants.{Ins, Del, Upd}
use Rattle.ot_model.specs.declared.op.Mode.{Mode}
use Rattle.ot_model.specs.declared.op.Mode.TheVariants.{Plain, Tomb}
use Rattle.fn_rules.specs.declared.guard.Side.TheVariants.{First, Second}
use Rattle.fn_rules.specs.declared.guard.Sort.TheVariants.{Pos, Site}
use Rattle.fn_rules.specs.declared.guard.Cmp.{Cmp}
use Rattle.fn_rules.specs.declared.guard.Cmp.TheVariants.{Lt, Le, Eq}
use Rattle.fn_rules.specs.declared.function.Res.{Res}
use Rattle.fn_rules.specs.declared.function.Res.TheVariants as results
use Rattle.fn_rules.specs.declared.function.Head.{Head}
use Rattle.fn_rules.specs.Formulas.{Formula, Always, Compare, And, Or}
use Rattle.fn_rules.specs.Functions.{Function, GuardedCase}
use Rattle.fn_rules.specs.Building.{PairCases, function_from}

-- compares the first position with the second one plus an offset
abbrev pub p1_to_p2 : Cmp → ℤ → Formula
p1_to_p2 cmp k = Compare (record { sort = Pos; left = First; cmp = cmp; k = k })

-- compares the second position with the first one
abbrev pub p2_to_p1 : Cmp → Formula
p2_to_p1 cmp = Compare (record { sort = Pos; left = Second; cmp = cmp; k = pos 0 })

-- the first site is smaller than the second
abbrev pub s1_lt_s2 : Formula
s1_lt_s2 = Compare (record { sort = Site; left = First; cmp = Lt; k = pos 0 })

abbrev pub when : Formula → Res → GuardedCase
when guard res = record { guard = guard; res = res }

-- the first position plus an offset
abbrev pub p1_plus : ℤ → Res
p1_plus k = results.Keep First k

-- two insertions: the smaller position, and at one position the smaller site, stays
abbrev pub smaller_stays : List GuardedCase
smaller_stays =
    when (p1_to_p2 Lt (pos 0)) (p1_plus (pos 0))
    ∷ when (And (p1_to_p2 Eq (pos 0)) s1_lt_s2) (p1_plus (pos 0))
    ∷ when Always (p1_plus (pos 1))
    ∷ []

-- a deletion behind an insertion
abbrev pub moved_up : List GuardedCase
moved_up = when (p1_to_p2 Lt (pos 0)) (p1_plus (pos 0)) ∷ when Always (p1_plus (pos 1)) ∷ []

-- nothing moves
abbrev pub stays : List GuardedCase
stays = when Always (p1_plus (pos 0)) ∷ []

-- an insertion behind a deletion, which took a cell out
abbrev pub moved_down : List GuardedCase
moved_down = when (p1_to_p2 Le (pos 0)) (p1_plus (pos 0)) ∷ when Always (p1_plus (negsuc 0)) ∷ []

-- a deletion behind a deletion, which took a cell out, maybe the same
abbrev pub moved_down_or_gone : List GuardedCase
moved_down_or_gone =
    when (p1_to_p2 Lt (pos 0)) (p1_plus (pos 0)) ∷ when (p2_to_p1 Lt) (p1_plus (negsuc 0)) ∷ when Always results.Nop
    ∷ []

-- a function for both kinds that assumes that sites differ
abbrev pub by_sites : Mode → Head
by_sites mode = record { mode = mode; ins = true; del = true; upd = false; sites_differ = true; chars_differ = false }

-- the cases for a pair of kinds
abbrev pub block : Kind → Kind → List GuardedCase → PairCases
block k l cases = record { first = k; second = l; cases = cases }

-- the blocks of insertions and deletions: two insertions, and a deletion behind an insertion, are as above
abbrev pub with_deletions : List GuardedCase → List GuardedCase → List PairCases
with_deletions ins_by_del del_by_del =
    block Ins Ins smaller_stays ∷ block Ins Del ins_by_del ∷ block Del Ins moved_up ∷ block Del Del del_by_del ∷ []

-- deletions leave tombstones
abbrev pub ttf : Function
ttf = function_from (by_sites Tomb) (with_deletions stays stays)

-- deletions take cells out
abbrev pub sites : Function
sites = function_from (by_sites Plain) (with_deletions moved_down moved_down_or_gone)

-- `sites`, but an insertion at the place of a deletion moves too
abbrev pub offby : Function
offby =
    function_from (by_sites Plain)
    (with_deletions (when (p1_to_p2 Lt (pos 0)) (p1_plus (pos 0)) ∷ when Always (p1_plus (negsuc 0)) ∷ [])
    moved_down_or_gone)

-- `sites`, but a second deletion of one cell deletes its neighbour
abbrev pub twice : Function
twice = function_from (by_sites Plain) (with_deletions moved_down moved_down)

-- a plain function for insertions alone
abbrev pub for_insertions : Bool → List GuardedCase → Function
for_insertions sites_differ cases =
    function_from (record {
      mode = Plain;
      ins = true;
      del = false;
      upd = false;
      sites_differ = sites_differ;
      chars_differ = false;
    }) (block Ins Ins cases ∷ [])

-- insertions alone; those at one position have no result
abbrev pub ties : Function
ties = for_insertions true (when (p1_to_p2 Lt (pos 0)) (p1_plus (pos 0)) ∷ when (p2_to_p1 Lt) (p1_plus (pos 1)) ∷ [])

-- insertions alone; those that stand more than 99 behind the other have no result
abbrev pub far : Function
far = for_insertions false (when (p1_to_p2 Le (pos 99)) (p1_plus (pos 0)) ∷ [])

-- deletions that leave tombstones, alone
abbrev pub marks : Function
marks =
    function_from (record {
      mode = Tomb;
      ins = false;
      del = true;
      upd = false;
      sites_differ = false;
      chars_differ = false;
    }) (block Del Del stays ∷ [])

-- two updates: of one cell, that of the smaller site stays
abbrev pub smaller_site_updates : List GuardedCase
smaller_site_updates =
    when (Or (Or (p1_to_p2 Lt (pos 0)) (p2_to_p1 Lt)) s1_lt_s2) (p1_plus (pos 0)) ∷ when Always results.Nop ∷ []

-- `ttf` with updates, which move nothing
abbrev pub ttfu : Function
ttfu =
    function_from (record {
      mode = Tomb;
      ins = true;
      del = true;
      upd = true;
      sites_differ = true;
      chars_differ = false;
    })
    (with_deletions stays stays
    ++ block Ins Upd stays ∷ block Del Upd stays ∷ block Upd Ins moved_up ∷ block Upd Del stays
    ∷ block Upd Upd smaller_site_updates ∷ [])

-- updates alone, of which the last one wins
abbrev pub lastu : Function
lastu =
    function_from (record {
      mode = Plain;
      ins = false;
      del = false;
      upd = true;
      sites_differ = false;
      chars_differ = false;
    }) (block Upd Upd stays ∷ [])
