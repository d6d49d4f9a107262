-- What a rule of a form leaves, under a reading of goals: what the form asks and leaves.
use Rattle.std.proofs.Common.{◌≡◌, negsuc, Bool, true, false, if◌then◌else◌, nat_eq, int_le, Some, None, refl, subst}
use Rattle.std.proofs.Common.{ap, ◌∙◌}
use Rattle.ot_questions.specs.declared.place.Place.{Place}
use Rattle.ot_questions.specs.Places.{plus, by_order}
use Rattle.ot_terms.specs.Forms.{FormTree, True, Le, Lt, Eq, And, Or, Not, by_form}
use Rattle.ot_terms.specs.Goals.{GoalTree, If}
use Rattle.ot_rewrite.specs.Table.{rewrite_if}

-- the goal that a rule names is the one that it gives
pub by_name : {A : Type 0} (reading : GoalTree → A) (g h : GoalTree) (p : A) → Some g ≡ Some h
    → reading g ≡ p → reading h ≡ p
by_name reading g h p e is = let same : g ≡ h = cc in subst (λ t. reading t ≡ p) same is

-- a reading by which a goal that begins with a form is what the form asks and leaves of its two goals
module _ {A : Type 0} (ask : Place → Place → A → A → A) (reading : GoalTree → A)
    (reads : (g : FormTree) (y n : GoalTree) → reading (If g y n) ≡ by_form ask g (reading y) (reading n)) where
  abbrev named : (g h : GoalTree) (p : A) → Some g ≡ Some h → reading g ≡ p → reading h ≡ p
  named = by_name reading

  by_offsets :
      (x y : Place) (p q : GoalTree) (b c : Bool) → (h : GoalTree)
      → (if b then Some (if c then p else q) else None) ≡ Some h
      → reading h ≡ (if b then (if c then reading p else reading q) else ask x y (reading p) (reading q))
  by_offsets x y p q true true h e = named p h _ e refl
  by_offsets x y p q true false h e = named q h _ e refl
  by_offsets x y p q false c h e = absurd (cc)

  -- behind a rule of a form it is so still
  pub rule_through : (g : FormTree) (y n h : GoalTree) → rewrite_if g y n ≡ Some h
      → reading h ≡ by_form ask g (reading y) (reading n)
  rule_through True y n h e = named y h _ e refl
  rule_through (Le s t) y n h e = by_offsets s t y n (nat_eq s.var t.var) (int_le s.off t.off) h e
  rule_through (Lt s t) y n h e =
      named (If (Le s (plus t (negsuc 0))) y n) h _ e (reads (Le s (plus t (negsuc 0))) y n)
  rule_through (Eq s t) y n h e =
      named (If (Le s t) (If (Le t s) y n) n) h _ e
      (reads (Le s t) (If (Le t s) y n) n ∙ ap (λ p. by_order ask s t p (reading n)) (reads (Le t s) y n))
  rule_through (And a b) y n h e =
      named (If a (If b y n) n) h _ e
      (reads a (If b y n) n ∙ ap (λ p. by_form ask a p (reading n)) (reads b y n))
  rule_through (Or a b) y n h e =
      named (If a y (If b y n)) h _ e
      (reads a y (If b y n) ∙ ap (λ q. by_form ask a (reading y) q) (reads b y n))
  rule_through (Not a) y n h e = named (If a n y) h _ e (reads a n y)
