-- Where the first failing end is one of a triple, all pairs hold, since they are asked first.
use Rattle.std.specs.List.{AllByRecursion}
use Rattle.std.proofs.Common.{◌≡◌, ℕ, ℤ, true, List, [], ◌∷◌, ◌++◌, map, Option, Some, None, refl, ap, subst}
use Rattle.ot_model.specs.declared.op.Kind.{Kind}
use Rattle.fn_rules.specs.declared.function.Level.TheVariants.{Tp2}
use Rattle.fn_rules.specs.declared.function.ObName.{ObName}
use Rattle.fn_rules.specs.declared.function.ObName.TheVariants.{Pair, Triple}
use Rattle.fn_rules.specs.Functions.{Function}
use Rattle.fn_rules.specs.Obligations.{declared_kinds, obligations_of, pairs_of, triples_of}
use Rattle.ask_core.specs.Plans.{Plan, value}
use Rattle.ask_core.specs.Questions.{Questions, QuestionList, FailingEnd}
use Rattle.ot_questions.specs.declared.why.Why.{Why}
use Rattle.ot_questions.specs.Meaning.{AllHold, ObligationHolds}
use Rattle.ot_questions.specs.Obligation.{plan_of}
use Rattle.ot_decide.specs.Verdicts.{ObQuestions, FailingOb, AreAsked, failing_in}
use Rattle.ot_decide.proofs.Lists.{Joins, asked_of, first_failing}

-- a plan whose question list has no failing end holds at every valuation
abbrev pub ListsShow : Type 0
ListsShow =
    (p : Plan Why) (q : Questions Why) → QuestionList p [] q → q.failing ≡ None → (v : ℕ → ℤ) → value p v ≡ true

abbrev IsPair : ObName → Type 0
IsPair (Pair k l) = Unit {0}
IsPair (Triple k l m) = ⊥

abbrev ArePairs : List ObName → Type 0
ArePairs obs = AllByRecursion IsPair obs

pairs_before : (k : Kind) (kinds : List Kind) (obs : List ObName) → ArePairs obs → ArePairs (map (Pair k) kinds ++ obs)
pairs_before k [] obs pairs = pairs
pairs_before k (l ∷ kinds) obs pairs = (tt, pairs_before k kinds obs pairs)

pairs_are_pairs : (kinds : List Kind) → ArePairs (pairs_of kinds)
pairs_are_pairs [] = tt
pairs_are_pairs (k ∷ kinds) = pairs_before k (k ∷ kinds) (pairs_of kinds) (pairs_are_pairs kinds)

-- the obligation that fails, or else another one
abbrev ob_or : ObName → Option (FailingOb Why) → ObName
ob_or other None = other
ob_or other (Some failing) = failing.ob

module _ (lists_show : ListsShow) (f : Function) (k l m : Kind) (end : FailingEnd Why) where
  -- the first failing end is that of the triple
  abbrev IsTriple : Option (FailingOb Why) → Type 0
  IsTriple failing = failing ≡ Some (record { ob = Triple k l m; end = end })

  abbrev FailsFirst : List (ObQuestions Why) → Type 0
  FailsFirst lists = IsTriple (failing_in lists)

  no_pair : (ob : ObName) (e : FailingEnd Why) → IsPair ob → IsTriple (first_failing ob (Some e) None) → ⊥
  no_pair ob e pair is =
      let same : ob ≡ Triple k l m = ap (ob_or ob) is in subst IsPair same pair

  -- an obligation in front of others that is a pair
  pair_holds :
      (ob : ObName) (obs : List ObName) (q : Questions Why) (failing : Option (FailingEnd Why))
      (lists : List (ObQuestions Why))
      → IsPair ob → QuestionList (plan_of f ob) [] q → q.failing ≡ failing → Joins (plan_of f) ob obs q failing lists
      → FailsFirst lists
      → ObligationHolds f ob × ((later : List (ObQuestions Why)) × AreAsked (plan_of f) obs later × FailsFirst later)
  pair_holds ob obs q None lists pair listed holds (later, asked, is) first =
      let first_is : FailsFirst (asked_of ob q ∷ later) = subst FailsFirst is first in
      let first_later : FailsFirst later =
      subst (λ (o : Option (FailingEnd Why)). IsTriple (first_failing ob o (failing_in later))) holds first_is in
      (λ v zero. lists_show (plan_of f ob) q listed holds v, (later, asked, first_later))
  pair_holds ob obs q (Some e) lists pair listed fails is first =
      let first_is : FailsFirst (asked_of ob q ∷ []) = subst FailsFirst is first in
      absurd
      (no_pair ob e pair (subst (λ (o : Option (FailingEnd Why)). IsTriple (first_failing ob o None)) fails first_is))

  -- all pairs in front of others
  pairs_hold :
      (obs later : List ObName) (lists : List (ObQuestions Why)) → ArePairs obs
      → AreAsked (plan_of f) (obs ++ later) lists
      → FailsFirst lists → AllHold f obs
  pairs_hold [] later lists pairs asked first = tt
  pairs_hold (ob ∷ obs) later lists pairs (q, listed, joins) first =
      let one = pair_holds ob (obs ++ later) q q.failing lists pairs.0 listed refl joins first in
      (one.0, pairs_hold obs later one.1.0 pairs.1 one.1.1 one.1.2)

  pub all_pairs_hold :
      (lists : List (ObQuestions Why)) → AreAsked (plan_of f) (obligations_of f.head Tp2) lists → FailsFirst lists
      → AllHold f (pairs_of (declared_kinds f.head))
  all_pairs_hold lists asked first =
      pairs_hold (pairs_of (declared_kinds f.head)) (triples_of (declared_kinds f.head)) lists
      (pairs_are_pairs (declared_kinds f.head)) asked first
