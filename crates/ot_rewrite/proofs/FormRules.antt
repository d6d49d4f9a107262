-- What the rules of a goal that begins with a form keep.
use Rattle.std.proofs.Common.{◌≡◌, ℕ, negsuc, Bool, true, false, if◌then◌else◌, nat_eq, int_le, Some, None, refl, subst}
use Rattle.std.proofs.Common.{arith}
use Rattle.std.proofs.lemmas.Int.{ints}
use Rattle.fn_rules.specs.declared.function.ObName.{ObName}
use Rattle.fn_rules.specs.Functions.{Function}
use Rattle.ot_questions.specs.declared.place.Place.{Place}
use Rattle.ot_questions.specs.Names.{name_count}
use Rattle.ot_questions.specs.Places.{plus}
use Rattle.ot_questions.specs.Questions.{ask_le, ask_lt, ask_eq}
use Rattle.ot_terms.specs.Forms.{FormTree, True, Le, Lt, Eq, And, Or, Not}
use Rattle.ot_terms.specs.Goals.{GoalTree, If}
use Rattle.ot_terms.specs.Standing.{ask_form, ask_goal}
use Rattle.ot_terms.specs.Belonging.{IsPlace, IsLowerable}
use Rattle.ot_rewrite.specs.Table.{rewrite_if}
use Rattle.ot_rewrite.proofs.Rewritings.{IsRewriting}

-- a place that may be lowered is one, and so is the place before it
pub IsPlace-lowerable : (count : ℕ) (y : Place) → IsLowerable count y → IsPlace count y
IsPlace-lowerable count y h = record { name = h.name; near = record { low = omega (arith, ints); high = h.high } }

pub IsPlace-before : (count : ℕ) (y : Place) → IsLowerable count y → IsPlace count (plus y (negsuc 0))
IsPlace-before count y h =
    record { name = h.name; near = record { low = omega (arith, ints); high = omega (arith, ints) } }

-- the goal that a rule names is the one that it gives
pub given : (f : Function) (ob : ObName) (old named got : GoalTree) → Some named ≡ Some got → IsRewriting f ob old named
    → IsRewriting f ob old got
given f ob old named got e h = let same : named ≡ got = cc in subst (IsRewriting f ob old) same h

module _ (f : Function) (ob : ObName) (y n : GoalTree) where
  -- one name is compared with itself by the offsets
  rule_of_offsets :
      (s t : Place) (b c : Bool) → nat_eq s.var t.var ≡ b → int_le s.off t.off ≡ c → (h : GoalTree)
      → (if b then Some (if c then y else n) else None) ≡ Some h → IsRewriting f ob (If (Le s t) y n) h
  unfolding ask_goal ask_form ask_le ask_lt ask_eq
  rule_of_offsets s t true true e o h given_by =
      given f ob (If (Le s t) y n) y h given_by
      (record { asked = rw e (rw o refl); parts = λ p. p.1; lighter = omega arith })
  rule_of_offsets s t true false e o h given_by =
      given f ob (If (Le s t) y n) n h given_by
      (record { asked = rw e (rw o refl); parts = λ p. p.2; lighter = omega arith })
  rule_of_offsets s t false c e o h given_by = absurd (cc)

  -- each rule of a form keeps what is asked and the parts of the goal, which it makes lighter
  pub form_rule : (g : FormTree) (h : GoalTree) → rewrite_if g y n ≡ Some h → IsRewriting f ob (If g y n) h
  unfolding ask_goal ask_form ask_lt ask_eq ask_le
  form_rule True h e =
      given f ob (If True y n) y h e (record { asked = refl; parts = λ p. p.1; lighter = omega arith })
  form_rule (Le s t) h e =
      rule_of_offsets s t (nat_eq s.var t.var) (int_le s.off t.off) refl refl h e
  form_rule (Lt s t) h e =
      given f ob (If (Lt s t) y n) (If (Le s (plus t (negsuc 0))) y n) h e
      (record {
        asked = refl;
        parts = λ p. ((p.0.0, IsPlace-before (name_count ob) t p.0.1), p.1, p.2);
        lighter = omega arith;
      })
  form_rule (Eq s t) h e =
      given f ob (If (Eq s t) y n) (If (Le s t) (If (Le t s) y n) n) h e
      (record {
        asked = refl;
        parts = λ p. (p.0, ((p.0.1, p.0.0), p.1, p.2), p.2);
        lighter = omega arith;
      })
  form_rule (And a b) h e =
      given f ob (If (And a b) y n) (If a (If b y n) n) h e
      (record { asked = refl; parts = λ p. (p.0.0, (p.0.1, p.1, p.2), p.2); lighter = omega arith })
  form_rule (Or a b) h e =
      given f ob (If (Or a b) y n) (If a y (If b y n)) h e
      (record { asked = refl; parts = λ p. (p.0.0, p.1, (p.0.1, p.1, p.2)); lighter = omega arith })
  form_rule (Not a) h e =
      given f ob (If (Not a) y n) (If a n y) h e
      (record { asked = refl; parts = λ p. (p.0, p.2, p.1); lighter = omega arith })
