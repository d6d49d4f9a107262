-- Which edits a function has, in their order.
use Rattle.std.specs.Prelude.{ℕ, ◌+◌, pos, negsuc, Bool, true, false, ◌&&◌, ◌||◌, if◌then◌else◌, List, []}
use Rattle.std.specs.Prelude.{◌∷◌, ◌++◌, map, drop, length}
use Rattle.std.specs.List.{flat_map}
use Rattle.std.specs.Ordering.{int_eq}
use Rattle.ot_model.specs.declared.op.Kind.{Kind}
use Rattle.ot_model.specs.Kinds.{kind_pairs}
use Rattle.fn_rules.specs.declared.guard.Atom.{Atom}
use Rattle.fn_rules.specs.declared.guard.Cmp.{Cmp}
use Rattle.fn_rules.specs.declared.guard.Cmp.TheVariants.{Lt, Le, Eq}
use Rattle.fn_rules.specs.declared.guard.Side.{Side}
use Rattle.fn_rules.specs.declared.guard.Side.TheVariants.{First, Second}
use Rattle.fn_rules.specs.declared.guard.Sort.{Sort}
use Rattle.fn_rules.specs.declared.guard.Sort.TheVariants.{Pos, Site, Char}
use Rattle.fn_rules.specs.declared.function.Head.{Head}
use Rattle.fn_rules.specs.declared.function.Res.{Res}
use Rattle.fn_rules.specs.declared.function.Res.TheVariants as results
use Rattle.fn_rules.specs.Formulas.{Formula, Always, Compare, And, Or, Not}
use Rattle.fn_rules.specs.Functions.{Function, GuardedCase, cases_of, is_declared_of}
use Rattle.fn_rules.specs.Shipped.{p1_plus}
use Rattle.fn_rules.specs.Validity.{compares_chars}
use Rattle.ot_mend.specs.declared.change.Change.{Change}
use Rattle.ot_mend.specs.declared.change.Change.TheVariants.{NewAtom, NewResult, TakeOut, Exchange, PutIn}
use Rattle.ot_mend.specs.declared.change.NewGuard.{NewGuard}
use Rattle.ot_mend.specs.declared.change.NewGuard.TheVariants as new
use Rattle.ot_mend.specs.declared.edit.Edit.{Edit}
use Rattle.ot_mend.specs.declared.edit.Edit.TheVariants.{InBlock, AssumeSites, AssumeChars}

-- what is said of each thing of a list by its number, where the first one has this number
abbrev pub by_number : {X Y : Type 0} → (ℕ → X → List Y) → ℕ → List X → List Y
by_number says n [] = []
by_number says n (x ∷ xs) = says n x ++ by_number says (n + 1) xs

-- the atoms of a guard from left to right
abbrev pub atoms_in : Formula → List Atom
atoms_in Always = []
atoms_in (Compare atom) = atom ∷ []
atoms_in (And g h) = atoms_in g ++ atoms_in h
atoms_in (Or g h) = atoms_in g ++ atoms_in h
atoms_in (Not g) = atoms_in g

-- two things of a sort are assumed to differ
abbrev pub is_assumed : Head → Sort → Bool
is_assumed head Pos = false
is_assumed head Site = head.sites_differ
is_assumed head Char = head.chars_differ

-- the atom without an offset
abbrev pub plain_atom : Sort → Side → Cmp → Atom
plain_atom sort left cmp = record { sort = sort; left = left; cmp = cmp; k = pos 0 }

-- what an atom of a sort can say; where two of the sort are assumed to differ, `<=` says the same as `<`
abbrev pub plain_atoms : Sort → Bool → List Atom
plain_atoms sort true = plain_atom sort First Lt ∷ plain_atom sort First Eq ∷ plain_atom sort Second Lt ∷ []
plain_atoms sort false =
    plain_atom sort First Lt ∷ plain_atom sort First Le ∷ plain_atom sort First Eq ∷ plain_atom sort Second Lt
    ∷ plain_atom sort Second Le ∷ []

abbrev pub is_same_side : Side → Side → Bool
is_same_side First First = true
is_same_side First Second = false
is_same_side Second First = false
is_same_side Second Second = true

-- the two compare alike, where two of the sort are assumed to differ or are not
abbrev pub is_same_cmp : Bool → Cmp → Cmp → Bool
is_same_cmp assumed Lt Lt = true
is_same_cmp assumed Lt Le = assumed
is_same_cmp assumed Lt Eq = false
is_same_cmp assumed Le Lt = assumed
is_same_cmp assumed Le Le = true
is_same_cmp assumed Le Eq = false
is_same_cmp assumed Eq Lt = false
is_same_cmp assumed Eq Le = false
is_same_cmp assumed Eq Eq = true

-- it is said of both operations alike
abbrev pub is_symmetric : Cmp → Bool
is_symmetric Lt = false
is_symmetric Le = false
is_symmetric Eq = true

-- an atom says the same as an atom of its sort without an offset
abbrev pub says_same : Bool → Atom → Atom → Bool
says_same assumed atom other =
    int_eq atom.k (pos 0) && is_same_cmp assumed atom.cmp other.cmp
    && (is_symmetric other.cmp || is_same_side atom.left other.left)

-- the results that a case can be given
abbrev pub new_results : List Res
new_results = p1_plus (pos 0) ∷ p1_plus (pos 1) ∷ p1_plus (negsuc 0) ∷ results.Nop ∷ []

abbrev pub is_same_res : Res → Res → Bool
is_same_res (results.Keep base k) (results.Keep other j) = is_same_side base other && int_eq k j
is_same_res (results.Keep base k) results.Nop = false
is_same_res results.Nop (results.Keep other j) = false
is_same_res results.Nop results.Nop = true

-- what breaks a tie of two operations at one place; where two of the sort are assumed to differ, `<=` and `=` do not
abbrev pub strict_ties : Sort → List NewGuard
strict_ties sort = new.Tie (plain_atom sort First Lt) ∷ new.Tie (plain_atom sort Second Lt) ∷ []

abbrev pub weak_ties : Sort → List NewGuard
weak_ties sort =
    new.Tie (plain_atom sort First Le) ∷ new.Tie (plain_atom sort Second Le) ∷ new.Tie (plain_atom sort First Eq) ∷ []

abbrev pub ties_by : Sort → Bool → List NewGuard
ties_by sort true = strict_ties sort
ties_by sort false = strict_ties sort ++ weak_ties sort

-- the ties by character, where both operations have one
abbrev pub ties_by_char : Bool → Bool → List NewGuard
ties_by_char true assumed = ties_by Char assumed
ties_by_char false assumed = []

-- the other guards that a new case can have
abbrev pub order_guards : List NewGuard
order_guards =
    new.Compare (plain_atom Pos First Eq) ∷ new.Compare (plain_atom Pos First Lt)
    ∷ new.Compare (plain_atom Pos Second Lt) ∷ new.Compare (plain_atom Pos First Le)
    ∷ new.Compare (plain_atom Pos Second Le) ∷ new.Always ∷ []

-- the guards that a new case can have, in a block that may compare characters or may not
abbrev pub new_guards : Head → Bool → List NewGuard
new_guards head chars = ties_by Site head.sites_differ ++ ties_by_char chars head.chars_differ ++ order_guards

-- the thing, unless the test is true
abbrev pub unless : {X : Type 0} → Bool → X → List X
unless true x = []
unless false x = x ∷ []

-- an atom of a case of this number becomes another one that does not say the same
abbrev pub atom_changes : Head → ℕ → ℕ → Atom → List Change
atom_changes head i n atom =
    flat_map (λ other. unless (says_same (is_assumed head atom.sort) atom other) (NewAtom i n atom other))
    (plain_atoms atom.sort (is_assumed head atom.sort))

-- so it is with each atom of a guard
abbrev pub guard_changes : Head → ℕ → GuardedCase → List Change
guard_changes head i c = by_number (atom_changes head i) 0 (atoms_in c.guard)

-- the result of a case of this number becomes another one
abbrev pub result_changes : ℕ → GuardedCase → List Change
result_changes i c = flat_map (λ other. unless (is_same_res c.res other) (NewResult i c.res other)) new_results

-- a case is taken out, or changes places with the next one
abbrev pub taken_out : ℕ → GuardedCase → List Change
taken_out i c = TakeOut i ∷ []

abbrev pub exchanged : ℕ → GuardedCase → List Change
exchanged i c = Exchange i ∷ []

-- a case of one of these guards is put in at a place
abbrev pub new_cases : List NewGuard → ℕ → List Change
new_cases guards i = flat_map (λ guard. map (PutIn i guard) new_results) guards

-- the same in front of a case
abbrev pub put_in : List NewGuard → ℕ → GuardedCase → List Change
put_in guards i c = new_cases guards i

-- the changes of the cases that there are
abbrev pub changes_of_cases : Head → List GuardedCase → List Change
changes_of_cases head cs =
    by_number (guard_changes head) 0 cs
    ++ by_number result_changes 0 cs
    ++ by_number taken_out 0 cs
    ++ by_number exchanged 0 (drop 1 cs)

-- the changes of a block's cases, where they may compare characters or may not
abbrev pub changes_of : Head → Bool → List GuardedCase → List Change
changes_of head chars cs =
    changes_of_cases head cs
    ++ by_number (put_in (new_guards head chars)) 0 cs
    ++ new_cases (new_guards head chars) (length cs)

-- the edits of the block of a pair of kinds, where the function is for both
abbrev pub block_edits : Function → Kind × Kind → List Edit
block_edits f pair =
    if is_declared_of f.head pair
    then map (InBlock pair.0 pair.1)
    (changes_of f.head (compares_chars pair.0 pair.1) (cases_of f pair.0 pair.1))
    else []

-- what is not assumed can be assumed
abbrev pub assumptions : Head → List Edit
assumptions head = unless head.sites_differ AssumeSites ++ unless head.chars_differ AssumeChars

-- the edits of a function: block by block in canonical order, and then the assumptions
abbrev pub edits_of : Function → List Edit
edits_of f = flat_map (block_edits f) kind_pairs ++ assumptions f.head
