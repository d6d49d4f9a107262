-- Goals about guards ask what the questions about operations ask, and the offsets of valid cases are small.
use Rattle.std.proofs.Common.{◌≡◌, ℕ, ℤ, pos, Bool, true, false, ◌&&◌, nat_le, if◌then◌else◌, Option, Some, None, List}
use Rattle.std.proofs.Common.{[], ◌∷◌, length, refl, ap, ◌∙◌, arith}
use Rattle.std.specs.Ordering.{int_eq}
use Rattle.std.specs.List.{AllByRecursion, list_all}
use Rattle.std.proofs.lemmas.Bool.{and_parts}
use Rattle.std.proofs.lemmas.Bool.Decides.{Decides-int_eq}
use Rattle.std.proofs.lemmas.Int.{ints}
use Rattle.fn_rules.specs.declared.guard.Atom.{Atom}
use Rattle.fn_rules.specs.declared.guard.Cmp.{Cmp}
use Rattle.fn_rules.specs.declared.guard.Cmp.TheVariants as cmp
use Rattle.fn_rules.specs.declared.guard.Sort.{Sort}
use Rattle.fn_rules.specs.declared.guard.Sort.TheVariants.{Pos, Site, Char}
use Rattle.fn_rules.specs.declared.guard.Tightness.TheVariants.{Loose}
use Rattle.fn_rules.specs.declared.function.Res.{Res}
use Rattle.fn_rules.specs.declared.function.Res.TheVariants as results
use Rattle.fn_rules.specs.declared.limits.TheConstants.{MAX_CASES, MAX_ATOMS, MAX_NESTING}
use Rattle.fn_rules.specs.Formulas.{Formula, Always, Compare, And, Or, Not}
use Rattle.fn_rules.specs.Functions.{Function, GuardedCase}
use Rattle.fn_rules.specs.Validity.{is_offset, is_offset_for, has_valid_atoms, atoms_of, nesting_of, is_valid_res}
use Rattle.fn_rules.specs.Validity.{is_valid_case, are_valid_cases}
use Rattle.ask_core.specs.Plans.{Plan}
use Rattle.ot_questions.specs.declared.place.Place.{Place}
use Rattle.ot_questions.specs.declared.place.SymOp.{SymOp}
use Rattle.ot_questions.specs.declared.why.Why.{Why}
use Rattle.ot_questions.specs.Nears.{IsNear, HasNearAtoms, IsNearCase}
use Rattle.ot_questions.specs.Places.{offset_of, sym_site, sym_char}
use Rattle.ot_questions.specs.Questions.{ask_compared, ask_atom, ask_guard, ask_differ, ask_allowed, ask_le, ask_lt}
use Rattle.ot_questions.specs.Questions.{ask_eq}
use Rattle.ot_terms.specs.Goals.{GoalTree}
use Rattle.ot_terms.specs.Placing.{compared, atom_form, guard_form}
use Rattle.ot_terms.specs.Standing.{ask_form, ask_goal}
use Rattle.ot_terms.specs.Starting.{if_differ, if_assumed, if_allowed}

ask_form-compared : (c : Cmp) (x y : Place) (p q : Plan Why) → ask_form (compared c x y) p q ≡ ask_compared c x y p q
unfolding ask_form ask_compared ask_le ask_lt ask_eq
ask_form-compared cmp.Lt x y p q = refl
ask_form-compared cmp.Le x y p q = refl
ask_form-compared cmp.Eq x y p q = refl

ask_form-atom_form : (atom : Atom) (a b : SymOp) (p q : Plan Why)
    → ask_form (atom_form atom a b) p q ≡ ask_atom atom a b p q
unfolding ask_atom
ask_form-atom_form atom a b p q = ask_form-compared atom.cmp _ _ p q

-- a guard as a form asks what the guard asks
pub ask_form-guard_form : (g : Formula) (a b : SymOp) (p q : Plan Why)
    → ask_form (guard_form g a b) p q ≡ ask_guard g a b p q
unfolding ask_form ask_guard ask_le ask_lt ask_eq
ask_form-guard_form Always a b p q = refl
ask_form-guard_form (Compare atom) a b p q = ask_form-atom_form atom a b p q
ask_form-guard_form (And g h) a b p q =
    ask_form-guard_form g a b (ask_form (guard_form h a b) p q) q
    ∙ ap (λ t. ask_guard g a b t q) (ask_form-guard_form h a b p q)
ask_form-guard_form (Or g h) a b p q =
    ask_form-guard_form g a b p (ask_form (guard_form h a b) p q)
    ∙ ap (λ t. ask_guard g a b p t) (ask_form-guard_form h a b p q)
ask_form-guard_form (Not g) a b p q = ask_form-guard_form g a b q p

module _ (f : Function) where
  ask_goal-if_differ : (x y : Option ℕ) (next : GoalTree)
      → ask_goal f (if_differ x y next) ≡ ask_differ x y (ask_goal f next)
  unfolding ask_goal ask_form ask_differ ask_le ask_lt ask_eq
  ask_goal-if_differ None y next = refl
  ask_goal-if_differ (Some x) None next = refl
  ask_goal-if_differ (Some x) (Some y) next = refl

  ask_goal-if_assumed :
      (assumed : Bool) (x y : Option ℕ) (next : GoalTree)
      → ask_goal f (if_assumed assumed x y next)
      ≡ (if assumed then ask_differ x y (ask_goal f next) else ask_goal f next)
  ask_goal-if_assumed true x y next = ask_goal-if_differ x y next
  ask_goal-if_assumed false x y next = refl

  -- what is assumed to differ is asked as the questions ask it
  pub ask_goal-if_allowed :
      (a b : SymOp) (next : GoalTree)
      → ask_goal f (if_allowed f.head a b next) ≡ ask_allowed f.head a b (ask_goal f next)
  unfolding ask_allowed
  ask_goal-if_allowed a b next =
      ask_goal-if_assumed f.head.sites_differ (sym_site a) (sym_site b)
      (if_assumed f.head.chars_differ (sym_char a) (sym_char b) next)
      ∙ ap (λ p. if f.head.sites_differ then ask_differ (sym_site a) (sym_site b) p else p)
      (ask_goal-if_assumed f.head.chars_differ (sym_char a) (sym_char b) next)

near_offset : (k : ℤ) → is_offset k ≡ true → IsNear 99 k
near_offset k e = record { low = grind (arith, ints); high = grind (arith, ints) }

near_nothing : (k : ℤ) → k ≡ pos 0 → IsNear 99 k
near_nothing k e = record { low = omega (arith, ints); high = omega (arith, ints) }

near_offset_for : (chars : Bool) (sort : Sort) (k : ℤ) → is_offset_for chars sort k ≡ true → IsNear 99 k
near_offset_for chars Pos k e = near_offset k e
near_offset_for chars Site k e = near_nothing k ((Decides-int_eq k (pos 0)).0 e)
near_offset_for chars Char k e = near_nothing k ((Decides-int_eq k (pos 0)).0 (and_parts chars (int_eq k (pos 0)) e).1)

near_atoms : (chars : Bool) (g : Formula) → has_valid_atoms chars g ≡ true → HasNearAtoms g
near_atoms chars Always e = tt
near_atoms chars (Compare atom) e = near_offset_for chars atom.sort atom.k e
near_atoms chars (And g h) e =
    let both = and_parts (has_valid_atoms chars g) (has_valid_atoms chars h) e in
    (near_atoms chars g both.0, near_atoms chars h both.1)
near_atoms chars (Or g h) e =
    let both = and_parts (has_valid_atoms chars g) (has_valid_atoms chars h) e in
    (near_atoms chars g both.0, near_atoms chars h both.1)
near_atoms chars (Not g) e = near_atoms chars g e

near_res : (res : Res) → is_valid_res res ≡ true → IsNear 99 (offset_of res)
near_res (results.Keep base k) e = near_offset k e
near_res results.Nop e = near_nothing (pos 0) refl

near_case : (chars : Bool) (c : GuardedCase) → is_valid_case chars c ≡ true → IsNearCase c
near_case chars c e =
    let atoms = has_valid_atoms chars c.guard in
    let few = nat_le (atoms_of c.guard) MAX_ATOMS in
    let flat = nat_le (nesting_of Loose c.guard) MAX_NESTING in
    let res = and_parts (atoms && few && flat) (is_valid_res c.res) e in
    (near_atoms chars c.guard (and_parts atoms few (and_parts (atoms && few) flat res.0).0).0, near_res c.res res.1)

near_all : (chars : Bool) (cs : List GuardedCase) → list_all (is_valid_case chars) cs ≡ true
    → AllByRecursion IsNearCase cs
near_all chars [] e = tt
near_all chars (c ∷ cs) e =
    let both = and_parts (is_valid_case chars c) (list_all (is_valid_case chars) cs) e in
    (near_case chars c both.0, near_all chars cs both.1)

pub near_cases : (chars : Bool) (cs : List GuardedCase) → are_valid_cases chars cs ≡ true → AllByRecursion IsNearCase cs
near_cases chars cs e =
    near_all chars cs (and_parts (nat_le (length cs) MAX_CASES) (list_all (is_valid_case chars) cs) e).1
