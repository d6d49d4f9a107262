-- The kinds of operations. They come from one list, `KINDS`, in canonical order; what this module says of
-- a kind is a row for each.
use Rattle.std.specs.Prelude.{ℕ, Bool, true, false, nat_eq, List, map}
use Rattle.std.specs.List.{flat_map, list_all}
use Rattle.ot_model.specs.declared.op.Kind.{Kind}
use Rattle.ot_model.specs.declared.op.Kind.TheVariants.{Ins, Del, Upd}
use Rattle.ot_model.specs.declared.op.TheConstants.{KINDS}

-- the place of a kind in the list
abbrev pub kind_rank : Kind → ℕ
kind_rank Ins = 0
kind_rank Del = 1
kind_rank Upd = 2

-- an operation of the kind has a character
abbrev pub has_char : Kind → Bool
has_char Ins = true
has_char Del = false
has_char Upd = true

-- the two kinds are one
abbrev pub is_same_kind : Kind → Kind → Bool
is_same_kind k l = nat_eq (kind_rank k) (kind_rank l)

-- the ordered pairs of kinds: by the first kind, and then by the second
abbrev pub kind_pairs : List (Kind × Kind)
kind_pairs = flat_map (λ k. map (λ l. (k, l)) KINDS) KINDS

-- each ordered pair of kinds passes the test
abbrev pub each_pair : (Kind → Kind → Bool) → Bool
each_pair test = list_all (λ k. list_all (test k) KINDS) KINDS
