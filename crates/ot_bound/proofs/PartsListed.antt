-- The obligations of one property alone: they are some of those of a level.
use Rattle.std.specs.List.{AllByRecursion, list_all}
use Rattle.std.proofs.Common.{◌≡◌, ◌≤◌, Bool, true, List, [], ◌∷◌, ◌++◌, length, map, refl, arith, length-append}
use Rattle.std.proofs.lemmas.Bool.{and_parts}
use Rattle.ot_model.specs.declared.op.Kind.{Kind}
use Rattle.fn_rules.specs.declared.function.Head.{Head}
use Rattle.fn_rules.specs.declared.function.Level.{Level}
use Rattle.fn_rules.specs.declared.function.Level.TheVariants.{Tp1, Tp2}
use Rattle.fn_rules.specs.declared.function.ObName.{ObName}
use Rattle.fn_rules.specs.declared.function.ObName.TheVariants.{Pair, Triple}
use Rattle.fn_rules.specs.Obligations.{level_of, declared_kinds, is_obligation, obligations_of, pairs_of, triples_of}
use Rattle.fn_rules.specs.Obligations.{with_third, with_thirds}
use Rattle.ot_bound.specs.Lows.{parts_of}

-- what is so of all is so of those behind others
all_behind : (p : ObName → Bool) (xs ys : List ObName) → list_all p (xs ++ ys) ≡ true → list_all p ys ≡ true
all_behind p [] ys all = all
all_behind p (x ∷ xs) ys all = all_behind p xs ys (and_parts (p x) (list_all p (xs ++ ys)) all).1

pub parts_listed :
    ((head : Head) (level : Level) → list_all (is_obligation head) (obligations_of head level) ≡ true)
    → (head : Head) (level : Level) → list_all (is_obligation head) (parts_of head level) ≡ true
parts_listed law head Tp1 = law head Tp1
parts_listed law head Tp2 =
    all_behind (is_obligation head) (pairs_of (declared_kinds head)) (triples_of (declared_kinds head)) (law head Tp2)

pub parts_few :
    ((head : Head) (level : Level) → length (obligations_of head level) ≤ 24)
    → (head : Head) (level : Level) → length (parts_of head level) ≤ 24
parts_few law head Tp1 = law head Tp1
parts_few law head Tp2 =
    omega (arith, law head Tp2, length-append (pairs_of (declared_kinds head)) (triples_of (declared_kinds head)))

-- all are parts of one level's property
abbrev AreOf : Level → List ObName → Type 0
AreOf level obs = AllByRecursion (λ ob. level_of ob ≡ level) obs

pairs_before : (k : Kind) (kinds : List Kind) (obs : List ObName) → AreOf Tp1 obs
    → AreOf Tp1 (map (Pair k) kinds ++ obs)
pairs_before k [] obs are = are
pairs_before k (l ∷ kinds) obs are = (refl, pairs_before k kinds obs are)

pairs_are_of : (kinds : List Kind) → AreOf Tp1 (pairs_of kinds)
pairs_are_of [] = tt
pairs_are_of (k ∷ kinds) = pairs_before k (k ∷ kinds) (pairs_of kinds) (pairs_are_of kinds)

third_is_of : (m : Kind) (ob : ObName) → level_of (with_third m ob) ≡ Tp2
third_is_of m (Pair k l) = refl
third_is_of m (Triple k l n) = refl

thirds_before : (m : Kind) (pairs obs : List ObName) → AreOf Tp2 obs → AreOf Tp2 (map (with_third m) pairs ++ obs)
thirds_before m [] obs are = are
thirds_before m (ob ∷ pairs) obs are = (third_is_of m ob, thirds_before m pairs obs are)

thirds_are_of : (pairs : List ObName) (kinds : List Kind) → AreOf Tp2 (with_thirds pairs kinds)
thirds_are_of pairs [] = tt
thirds_are_of pairs (m ∷ kinds) = thirds_before m pairs (with_thirds pairs kinds) (thirds_are_of pairs kinds)

pub parts_are_of : (head : Head) (level : Level) → AreOf level (parts_of head level)
parts_are_of head Tp1 = pairs_are_of (declared_kinds head)
parts_are_of head Tp2 = thirds_are_of (pairs_of (declared_kinds head)) (declared_kinds head)
