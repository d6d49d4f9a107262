-- The goal that an obligation begins with asks what the obligation asks.
use Rattle.std.proofs.Common.{◌≡◌, ℕ, ℤ, pos, Bool, true, false, if◌then◌else◌, Option, Some, None, List, [], ◌∷◌, refl}
use Rattle.std.proofs.Common.{ap, ◌∙◌}
use Rattle.ot_model.specs.declared.op.Kind.{Kind}
use Rattle.fn_rules.specs.declared.function.ObName.{ObName}
use Rattle.fn_rules.specs.declared.function.ObName.TheVariants.{Pair, Triple}
use Rattle.fn_rules.specs.Functions.{Function}
use Rattle.ask_core.specs.Plans as plans
use Rattle.ask_core.specs.Plans.{Plan}
use Rattle.ot_questions.specs.declared.name.Who.TheVariants.{A, B, C}
use Rattle.ot_questions.specs.declared.place.SymOp.{SymOp}
use Rattle.ot_questions.specs.declared.place.SymOp.TheVariants.{Ins, Del, Upd, Nop}
use Rattle.ot_questions.specs.declared.why.Why.{Why}
use Rattle.ot_questions.specs.Places.{zero_place, length_and, sym_op, sym_site, sym_char}
use Rattle.ot_questions.specs.Questions.{ask_le, ask_enabled, ask_differ, ask_allowed, ask_lt, ask_eq}
use Rattle.ot_questions.specs.Obligation.{ask_converge, ask_all_enabled, ask_pair, ask_behind, ask_commute, ask_triple}
use Rattle.ot_questions.specs.Obligation.{plan_of}
use Rattle.ot_terms.specs.Goals.{GoalTree}
use Rattle.ot_terms.specs.Standing.{ask_form, ask_goal, ask_after, ask_pair_after, ask_triple_after}
use Rattle.ot_terms.specs.Standing.{ask_second_way_after}
use Rattle.ot_terms.specs.Starting.{enabled_form, if_differ, if_assumed, if_allowed, if_all_enabled, if_length}
use Rattle.ot_terms.specs.Starting.{first_choice, start_goal_of}

pub ask_form-enabled_form :
    (o : SymOp) (off : ℤ) (p q : Plan Why) → ask_form (enabled_form o off) p q ≡ ask_enabled o off p q
unfolding ask_form ask_enabled ask_le ask_lt ask_eq
ask_form-enabled_form (Ins at ch site) off p q = refl
ask_form-enabled_form (Del at site) off p q = refl
ask_form-enabled_form (Upd at ch site) off p q = refl
ask_form-enabled_form Nop off p q = refl

module _ (f : Function) where
  ask_goal-if_differ :
      (x y : Option ℕ) (next : GoalTree) → ask_goal f (if_differ x y next) ≡ ask_differ x y (ask_goal f next)
  unfolding ask_goal ask_form ask_differ ask_le ask_lt ask_eq
  ask_goal-if_differ None y next = refl
  ask_goal-if_differ (Some x) None next = refl
  ask_goal-if_differ (Some x) (Some y) next = refl

  ask_goal-if_assumed :
      (assumed : Bool) (x y : Option ℕ) (next : GoalTree)
      → ask_goal f (if_assumed assumed x y next)
      ≡ (if assumed then ask_differ x y (ask_goal f next) else ask_goal f next)
  ask_goal-if_assumed true x y next = ask_goal-if_differ x y next
  ask_goal-if_assumed false x y next = refl

  ask_goal-if_allowed :
      (a b : SymOp) (next : GoalTree)
      → ask_goal f (if_allowed f.head a b next) ≡ ask_allowed f.head a b (ask_goal f next)
  unfolding ask_allowed
  ask_goal-if_allowed a b next =
      ask_goal-if_assumed f.head.sites_differ (sym_site a) (sym_site b)
      (if_assumed f.head.chars_differ (sym_char a) (sym_char b) next)
      ∙ ap (λ p. if f.head.sites_differ then ask_differ (sym_site a) (sym_site b) p else p)
      (ask_goal-if_assumed f.head.chars_differ (sym_char a) (sym_char b) next)

  ask_goal-if_all_enabled :
      (os : List SymOp) (next : GoalTree) → ask_goal f (if_all_enabled os next) ≡ ask_all_enabled os (ask_goal f next)
  unfolding ask_goal ask_all_enabled
  ask_goal-if_all_enabled [] next = refl
  ask_goal-if_all_enabled (o ∷ os) next =
      ask_form-enabled_form o (pos 0) (ask_goal f (if_all_enabled os next)) plans.Holds
      ∙ ap (λ p. ask_enabled o (pos 0) p plans.Holds) (ask_goal-if_all_enabled os next)

  ask_goal-if_length :
      (next : GoalTree)
      → ask_goal f (if_length next) ≡ ask_le zero_place (length_and (pos 0)) (ask_goal f next) plans.Holds
  unfolding ask_goal ask_form ask_le ask_lt ask_eq
  ask_goal-if_length next = refl

  ask_goal-first_of_two : (k l : Kind) (a b : SymOp) → ask_goal f (first_choice (Pair k l) a b Nop) ≡ ask_converge f a b
  unfolding ask_goal ask_after ask_pair_after ask_converge
  ask_goal-first_of_two k l a b = refl

  ask_goal-first_of_three :
      (k l m : Kind) (a b c : SymOp) → ask_goal f (first_choice (Triple k l m) a b c) ≡ ask_commute f a b c
  unfolding ask_goal ask_after ask_triple_after ask_second_way_after ask_commute ask_behind
  ask_goal-first_of_three k l m a b c = refl

  -- the tests of the operations before what they go on with
  ask_goal-tested :
      (os : List SymOp) (next : GoalTree)
      → ask_goal f (if_length (if_all_enabled os next))
      ≡ ask_le zero_place (length_and (pos 0)) (ask_all_enabled os (ask_goal f next)) plans.Holds
  ask_goal-tested os next =
      ask_goal-if_length (if_all_enabled os next)
      ∙ ap (λ p. ask_le zero_place (length_and (pos 0)) p plans.Holds) (ask_goal-if_all_enabled os next)

  -- the first goal of an obligation asks what its plan asks
  pub ask_goal_start_of : (ob : ObName) → ask_goal f (start_goal_of f.head ob) ≡ plan_of f ob
  unfolding plan_of ask_pair ask_triple
  ask_goal_start_of (Pair k l) =
      let a = sym_op k A in
      let b = sym_op l B in
      let last = first_choice (Pair k l) a b Nop in
      ask_goal-tested (a ∷ b ∷ []) (if_allowed f.head a b last)
      ∙ ap (λ p. ask_le zero_place (length_and (pos 0)) (ask_all_enabled (a ∷ b ∷ []) p) plans.Holds)
      (ask_goal-if_allowed a b last ∙ ap (ask_allowed f.head a b) (ask_goal-first_of_two k l a b))
  ask_goal_start_of (Triple k l m) =
      let a = sym_op k A in
      let b = sym_op l B in
      let c = sym_op m C in
      let last = first_choice (Triple k l m) a b c in
      let last_two = if_allowed f.head b c last in
      let outer_two = if_allowed f.head a c last_two in
      ask_goal-tested (a ∷ b ∷ c ∷ []) (if_allowed f.head a b outer_two)
      ∙ ap (λ p. ask_le zero_place (length_and (pos 0)) (ask_all_enabled (a ∷ b ∷ c ∷ []) p) plans.Holds)
      (ask_goal-if_allowed a b outer_two
      ∙ ap (ask_allowed f.head a b)
      (ask_goal-if_allowed a c last_two
      ∙ ap (ask_allowed f.head a c)
      (ask_goal-if_allowed b c last ∙ ap (ask_allowed f.head b c) (ask_goal-first_of_three k l m a b c))))
