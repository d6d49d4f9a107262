-- A condition in front of two nodes is a node: what it asks is fine, and asks no more on a path than it compares.
use Rattle.std.proofs.Common.{◌≡◌, ℕ, ◌+◌, ◌≤◌, max, negsuc, Bool, true, false, nat_eq, int_le, IsTrue, refl, arith}
use Rattle.std.proofs.lemmas.Bool.Decides.{nat_tests}
use Rattle.std.proofs.lemmas.Int.{ints}
use Rattle.diff_graph.specs.declared.lit.Lit.{Lit}
use Rattle.fn_rules.specs.declared.function.ObName.{ObName}
use Rattle.fn_rules.specs.Functions.{Function}
use Rattle.fn_rules.specs.Obligations.{is_obligation}
use Rattle.ask_core.specs.declared.asker.TheConstants.{MAX_QUESTIONS}
use Rattle.ask_core.specs.Askers.{has_fine_literals, is_fine_literal, longest_path}
use Rattle.ask_core.specs.Plans.{Plan, Ask}
use Rattle.ot_questions.specs.declared.place.Place.{Place}
use Rattle.ot_questions.specs.declared.why.Why.{Why}
use Rattle.ot_questions.specs.Names.{name_count}
use Rattle.ot_questions.specs.Places.{plus}
use Rattle.ot_questions.specs.Questions.{ask_le, ask_lt, ask_eq}
use Rattle.ot_terms.specs.Belonging.{IsPlace, HasPlaces}
use Rattle.ot_terms.specs.Forms.{FormTree, True, Le, Lt, Eq, And, Or, Not}
use Rattle.ot_terms.specs.Goals as goals
use Rattle.ot_terms.specs.Goals.{GoalTree, If}
use Rattle.ot_terms.specs.Standing.{ask_form, ask_goal}
use Rattle.ot_rewrite.specs.Splits.{comparisons_left}
use Rattle.ot_paths.specs.Nodes.{IsNode, literal}
use Rattle.ot_paths.proofs.LaidForms.{IsPlace-before}

-- what goes on with two plans: its literals are fine where theirs are, and a path has at most so many more questions
record GoesOn (count more : ℕ) (p q r : Plan Why) : Type 0 where
  literals : IsTrue (has_fine_literals count p) → IsTrue (has_fine_literals count q)
      → IsTrue (has_fine_literals count r)
  paths : longest_path r ≤ more + max (longest_path p) (longest_path q)

module _ (count : ℕ) where
  fine_question :
      (x y : Place) → IsPlace count x → IsPlace count y → nat_eq x.var y.var ≡ false
      → IsTrue (is_fine_literal count (literal x y))
  fine_question x y hx hy differ =
      grind (arith, nat_tests, ints, hx.name, hy.name, hx.near.low, hx.near.high, hy.near.low, hy.near.high)

  fine_ask :
      (l : Lit) (p q : Plan Why) → IsTrue (is_fine_literal count l) → IsTrue (has_fine_literals count p)
      → IsTrue (has_fine_literals count q) → IsTrue (has_fine_literals count (Ask l p q))
  fine_ask l p q fine hp hq = grind arith

  -- by whether the two names are one, and then by the offsets
  le_goes_on_by :
      (x y : Place) (p q : Plan Why) (b c : Bool) → IsPlace count x → IsPlace count y → nat_eq x.var y.var ≡ b
      → int_le x.off y.off ≡ c → GoesOn count 1 p q (ask_le x y p q)
  unfolding ask_le
  le_goes_on_by x y p q true true hx hy e o =
      rw e (rw o (record { literals = λ hp hq. hp; paths = omega arith }))
  le_goes_on_by x y p q true false hx hy e o =
      rw e (rw o (record { literals = λ hp hq. hq; paths = omega arith }))
  le_goes_on_by x y p q false c hx hy e o =
      let fine = fine_question x y hx hy e in
      rw e (record { literals = λ hp hq. fine_ask (literal x y) p q fine hp hq; paths = omega arith })

  le_goes_on : (x y : Place) (p q : Plan Why) → IsPlace count x → IsPlace count y → GoesOn count 1 p q (ask_le x y p q)
  le_goes_on x y p q hx hy = le_goes_on_by x y p q (nat_eq x.var y.var) (int_le x.off y.off) hx hy refl refl

  -- the second goes on in the place of the first plan
  on_yes_goes_on :
      (m n : ℕ) (p q r s : Plan Why) → GoesOn count m r q s → GoesOn count n p q r → GoesOn count (m + n) p q s
  on_yes_goes_on m n p q r s first second = record {
    literals = λ hp hq. first.literals (second.literals hp hq) hq;
    paths = omega (arith, first.paths, second.paths);
  }

  on_no_goes_on :
      (m n : ℕ) (p q r s : Plan Why) → GoesOn count m p r s → GoesOn count n p q r → GoesOn count (m + n) p q s
  on_no_goes_on m n p q r s first second = record {
    literals = λ hp hq. first.literals hp (second.literals hp hq);
    paths = omega (arith, first.paths, second.paths);
  }

  -- a form asks fine literals, and on a path at most as many as it compares
  form_goes_on : (g : FormTree) (p q : Plan Why) → HasPlaces count g
      → GoesOn count (comparisons_left g) p q (ask_form g p q)
  unfolding ask_form ask_lt ask_eq ask_le
  form_goes_on True p q h = record { literals = λ hp hq. hp; paths = omega arith }
  form_goes_on (Le x y) p q h = le_goes_on x y p q h.0 h.1
  form_goes_on (Lt x y) p q h = le_goes_on x (plus y (negsuc 0)) p q h.0 (IsPlace-before count y h.1)
  form_goes_on (Eq x y) p q h =
      on_yes_goes_on 1 1 p q (ask_le y x p q) (ask_le x y (ask_le y x p q) q)
      (le_goes_on x y (ask_le y x p q) q h.0 h.1) (le_goes_on y x p q h.1 h.0)
  form_goes_on (And g h) p q both =
      on_yes_goes_on (comparisons_left g) (comparisons_left h) p q (ask_form h p q) (ask_form g (ask_form h p q) q)
      (form_goes_on g (ask_form h p q) q both.0) (form_goes_on h p q both.1)
  form_goes_on (Or g h) p q both =
      on_no_goes_on (comparisons_left g) (comparisons_left h) p q (ask_form h p q) (ask_form g p (ask_form h p q))
      (form_goes_on g p (ask_form h p q) both.0) (form_goes_on h p q both.1)
  form_goes_on (Not g) p q h =
      let turned = form_goes_on g q p h in
      record { literals = λ hp hq. turned.literals hq hp; paths = omega (arith, turned.paths) }

module _ (f : Function) (ob : ObName) where
  pub end_nodes : (why : Why) → IsTrue (is_obligation f.head ob)
      → IsNode f ob goals.Holds × IsNode f ob (goals.Fails why)
  unfolding ask_goal
  end_nodes why declared = (
    record {
      goal = record { declared = declared; parts = tt };
      fine = record { literals = refl; paths = omega arith };
    },
    record {
      goal = record { declared = declared; parts = tt };
      fine = record { literals = refl; paths = omega arith };
    },
  )

  pub condition_paths :
      (g : FormTree) (y n : GoalTree) → HasPlaces (name_count ob) g
      → longest_path (ask_goal f (If g y n))
      ≤ comparisons_left g + max (longest_path (ask_goal f y)) (longest_path (ask_goal f n))
  unfolding ask_goal
  condition_paths g y n places = (form_goes_on (name_count ob) g (ask_goal f y) (ask_goal f n) places).paths

  -- a condition in front of two nodes is a node, if what it compares leaves them room
  pub condition_node :
      (g : FormTree) (y n : GoalTree) → HasPlaces (name_count ob) g → IsNode f ob y → IsNode f ob n
      → comparisons_left g + max (longest_path (ask_goal f y)) (longest_path (ask_goal f n)) ≤ MAX_QUESTIONS
      → IsNode f ob (If g y n)
  unfolding ask_goal
  condition_node g y n places on_yes on_no few =
      let on = form_goes_on (name_count ob) g (ask_goal f y) (ask_goal f n) places in
      record {
        goal = record { declared = on_yes.goal.declared; parts = (places, on_yes.goal.parts, on_no.goal.parts) };
        fine = record {
          literals = on.literals on_yes.fine.literals on_no.fine.literals;
          paths = omega (arith, on.paths, few);
        };
      }
