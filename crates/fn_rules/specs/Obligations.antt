-- What has to be shown of a function at a level: pairs for TP1, and pairs and triples for TP2. Both
-- properties are symmetric in their first two operations, so these are enough.
use Rattle.std.specs.Prelude.{Bool, ◌&&◌, List, [], ◌∷◌, ◌++◌, map, filter}
use Rattle.ot_model.specs.declared.op.Kind.{Kind}
use Rattle.ot_model.specs.declared.op.TheConstants.{KINDS}
use Rattle.ot_model.specs.Kinds.{kind_pairs}
use Rattle.fn_rules.specs.declared.function.Head.{Head}
use Rattle.fn_rules.specs.declared.function.Level.{Level}
use Rattle.fn_rules.specs.declared.function.Level.TheVariants.{Tp1, Tp2}
use Rattle.fn_rules.specs.declared.function.ObName.{ObName}
use Rattle.fn_rules.specs.declared.function.ObName.TheVariants.{Pair, Triple}
use Rattle.fn_rules.specs.Functions.{is_declared, is_declared_of}

-- the kinds that the function is for, in canonical order
abbrev pub declared_kinds : Head → List Kind
declared_kinds head = filter (is_declared head) KINDS

-- the ordered pairs of such kinds, for each of which the function has a block, in canonical order
abbrev pub declared_pairs : Head → List (Kind × Kind)
declared_pairs head = filter (is_declared_of head) kind_pairs

-- the pairs of kinds: each kind with itself and with those behind it
abbrev pub pairs_of : List Kind → List ObName
pairs_of [] = []
pairs_of (k ∷ others) = map (Pair k) (k ∷ others) ++ pairs_of others

-- a pair with a third kind
abbrev pub with_third : Kind → ObName → ObName
with_third m (Pair k l) = Triple k l m
with_third m (Triple k l n) = Triple k l m

-- each of the pairs with each of the kinds as its third, kind by kind
abbrev pub with_thirds : List ObName → List Kind → List ObName
with_thirds pairs [] = []
with_thirds pairs (m ∷ others) = map (with_third m) pairs ++ with_thirds pairs others

-- the triples of kinds: each third kind in order, with each pair before it
abbrev pub triples_of : List Kind → List ObName
triples_of kinds = with_thirds (pairs_of kinds) kinds

-- the level whose property an obligation is a part of
abbrev pub level_of : ObName → Level
level_of (Pair k l) = Tp1
level_of (Triple k l m) = Tp2

-- the obligations of a level
abbrev pub obligations_of : Head → Level → List ObName
obligations_of head Tp1 = pairs_of (declared_kinds head)
obligations_of head Tp2 = pairs_of (declared_kinds head) ++ triples_of (declared_kinds head)

-- the function is for each of the obligation's kinds
abbrev pub is_obligation : Head → ObName → Bool
is_obligation head (Pair k l) = is_declared head k && is_declared head l
is_obligation head (Triple k l m) = is_declared head k && is_declared head l && is_declared head m
