-- What is known of a goal after one rule, and after several.
use Rattle.std.proofs.Common.{◌≡◌, ℕ, zero, suc, Option, Some, None, MatchOption, option_map, Result, Ok, Err, IfOk}
use Rattle.std.proofs.Common.{Bool, true, false, ◌||◌, IsTrue, sym, ap, refl, subst, ◌∙◌}
use Rattle.std.specs.Option.{option_and_then}
use Rattle.fn_rules.specs.declared.function.ObName.{ObName}
use Rattle.fn_rules.specs.Functions.{Function}
use Rattle.ot_terms.specs.Belonging.{IsGoalOf}
use Rattle.ot_terms.specs.Goals.{GoalTree}
use Rattle.ot_rewrite.specs.Table.{rewritten}
use Rattle.ot_rewrite.specs.Fronts.{is_at_front}
use Rattle.ot_rewrite.specs.Reaching.{after_rules, Reaches, IsStep}
use Rattle.start_laws.specs.Marking.{marked_goal, with_start}
use Rattle.start_laws.specs.Settled.{is_begun, is_settled, OpensStart, StandsMarked}

pub of_both :
    {X Y : Type 0} (r : Result X Y) (P Q R : X → Type 0) → ((x : X) → P x → Q x → R x) → IfOk r P → IfOk r Q → IfOk r R
of_both (Ok x) P Q R both p q = both x p q
of_both (Err e) P Q R both p q = tt

pub settled_on : (f : Function) (g h i : GoalTree) → StandsMarked f g h → StandsMarked f h i → StandsMarked f g i
settled_on f g h i first next = record {
  marked = next.marked ∙ first.marked;
  belongs = λ ob is_goal. next.belongs ob (first.belongs ob is_goal);
}

pub opens_on : (f : Function) (g h i : GoalTree) → OpensStart f g h → OpensStart f h i → OpensStart f g i
opens_on f g h i first next = record {
  marked = next.marked ∙ first.marked;
  belongs = λ ob is_goal. next.belongs ob (first.belongs ob is_goal);
}

pub opens_by : (f : Function) (g h i : GoalTree) → OpensStart f g h → StandsMarked f h i → OpensStart f g i
opens_by f g h i first next = record {
  marked = ap (with_start None) next.marked ∙ first.marked;
  belongs = λ ob is_goal. next.belongs ob (first.belongs ob is_goal);
}

-- rules one after the other keep all starts but that at the front
module _ (f : Function) (ob : ObName)
    (opens : (g h : GoalTree) → IsGoalOf f ob g → rewritten f g ≡ Some h
    → with_start None (marked_goal f h) ≡ with_start None (marked_goal f g))
    (stays : (g h : GoalTree) → IsGoalOf f ob g → rewritten f g ≡ Some h → IsGoalOf f ob h) where
  opened_first :
      (g h : GoalTree) (o : Option GoalTree) → rewritten f g ≡ o → IsGoalOf f ob g
      → (others : GoalTree → Option GoalTree)
      → ((k : GoalTree) → IsGoalOf f ob k → others k ≡ Some h
      → with_start None (marked_goal f h) ≡ with_start None (marked_goal f k))
      → option_and_then others o ≡ Some h → with_start None (marked_goal f h) ≡ with_start None (marked_goal f g)
  opened_first g h None e is_goal others go given = absurd (cc)
  opened_first g h (Some k) e is_goal others go given = go k (stays g k is_goal e) given ∙ opens g k is_goal e

  opened_after :
      (n : ℕ) (g h : GoalTree) → IsGoalOf f ob g → after_rules f n g ≡ Some h
      → with_start None (marked_goal f h) ≡ with_start None (marked_goal f g)
  opened_after zero g h is_goal e = let same : g ≡ h = cc in ap (λ t. with_start None (marked_goal f t)) (sym same)
  opened_after (suc n) g h is_goal e =
      opened_first g h (rewritten f g) refl is_goal (after_rules f n) (λ k of given. opened_after n k h of given) e

  pub reached_opens : (g h : GoalTree) → IsGoalOf f ob g → Reaches f g h
      → with_start None (marked_goal f h) ≡ with_start None (marked_goal f g)
  reached_opens g h is_goal r = opened_after r.rules g h is_goal r.reached

or_false : (a b : Bool) → (a || b) ≡ false → a ≡ false
or_false true b e = absurd (cc)
or_false false b e = refl

pub not_begun : (g : GoalTree) → is_settled g ≡ false → is_begun g ≡ false
not_begun g e = or_false (is_begun g) (is_at_front g) e

-- the goal that a rule gives
next_is :
    {X : Type 0} (f : Function) (old : GoalTree) (tree : X → GoalTree) (o : Option X) (next : X) → o ≡ Some next
    → option_map tree o ≡ rewritten f old → MatchOption o (IsTrue (is_at_front old)) (λ g. IsStep f old (tree g))
    → (rewritten f old ≡ Some (tree next)) × IsStep f old (tree next)
next_is f old tree o next is rule kept =
    let given : option_map tree (Some next) ≡ rewritten f old =
    subst (λ t. option_map tree t ≡ rewritten f old) is rule in
    let stepped : IsStep f old (tree next) =
    subst (λ t. MatchOption t (IsTrue (is_at_front old)) (λ g. IsStep f old (tree g))) is kept in
    (sym given, stepped)

pub next_alike :
    {X : Type 0} (f : Function) (old : GoalTree) (tree : X → GoalTree) (o : Option X) (next : X) → o ≡ Some next
    → option_map tree o ≡ rewritten f old → MatchOption o (IsTrue (is_at_front old)) (λ g. IsStep f old (tree g))
    → ((h : GoalTree) → rewritten f old ≡ Some h → marked_goal f h ≡ marked_goal f old) → StandsMarked f old (tree next)
next_alike f old tree o next is rule kept marks =
    let was = next_is f old tree o next is rule kept in
    record { marked = marks (tree next) was.0; belongs = was.1.belongs }

pub next_opens :
    {X : Type 0} (f : Function) (old : GoalTree) (tree : X → GoalTree) (o : Option X) (next : X) → o ≡ Some next
    → option_map tree o ≡ rewritten f old → MatchOption o (IsTrue (is_at_front old)) (λ g. IsStep f old (tree g))
    → ((h : GoalTree) → rewritten f old ≡ Some h
    → with_start None (marked_goal f h) ≡ with_start None (marked_goal f old))
    → OpensStart f old (tree next)
next_opens f old tree o next is rule kept marks =
    let was = next_is f old tree o next is rule kept in
    record { marked = marks (tree next) was.0; belongs = was.1.belongs }
