-- A goal with a question or an end at its front: how its plan begins, and that its parts are nodes where it is one.
use Rattle.std.proofs.Common.{◌≡◌, ℕ, ℤ, Bool, true, false, not, nat_eq, IsTrue, None, refl, sym, ap, subst, ◌∙◌, arith}
use Rattle.std.proofs.lemmas.Int.{ints}
use Rattle.diff_graph.specs.declared.lit.Lit.{Lit}
use Rattle.fn_rules.specs.declared.function.ObName.{ObName}
use Rattle.fn_rules.specs.Functions.{Function}
use denote.Ref.{Bor}
use Rattle.ask_core.specs.declared.turn.Turn.{Turn}
use Rattle.ask_core.specs.declared.turn.Turn.TheVariants as turn
use Rattle.ask_core.specs.Askers.{Begins, IsFine}
use Rattle.ask_core.specs.Plans as plain
use Rattle.ask_core.specs.Plans.{Plan}
use Rattle.proof_trees.specs.Starters.{BeginsAt}
use Rattle.proof_trees.specs.Starts.{Ask, Holds, Fails, start_of, unmarked}
use Rattle.ot_questions.specs.declared.place.Place.{Place}
use Rattle.ot_questions.specs.declared.why.Why.{Why}
use Rattle.ot_questions.specs.Names.{name_count}
use Rattle.ot_questions.specs.Nears.{IsNear}
use Rattle.ot_questions.specs.Obligation.{plan_of}
use Rattle.ot_terms.specs.declared.goal.Goal.{Goal}
use Rattle.ot_terms.specs.Belonging.{IsGoalOf, IsPlace}
use Rattle.ot_terms.specs.Forms.{FormTree, Le}
use Rattle.ot_terms.specs.Goals as goals
use Rattle.ot_terms.specs.Goals.{GoalTree, If, goal_tree}
use Rattle.ot_terms.specs.Standing.{ask_goal}
use Rattle.ot_rewrite.specs.Fronts.{is_question}
use Rattle.ot_paths.specs.Nodes.{IsNode, literal}
use Rattle.start_laws.specs.Marking.{Marked, marked_form, marked_goal, with_start}
use Rattle.start_laws.specs.Settled.{is_settled, StandsMarked, OpensStart}
use Rattle.start_laws.proofs.Unmarked.{unmarked-goal, unmarked-with_start}
use Rattle.ot_starts.specs.Nodes.{IsStop}
use Rattle.ot_starts.specs.Turns.{TurnsAs}

-- a plan that is a question, or an end, but for its start
asks_but_start :
    (p : Marked) (l : Lit) (y n : Marked) → with_start None p ≡ Ask None l y n → p ≡ Ask (start_of p) l y n
asks_but_start (Ask start l on_yes on_no) m y n e = cc
asks_but_start (Holds start) m y n e = absurd (cc)
asks_but_start (Fails start why) m y n e = absurd (cc)

holds_but_start : (p : Marked) → with_start None p ≡ Holds None → p ≡ Holds (start_of p)
holds_but_start (Ask start l on_yes on_no) e = absurd (cc)
holds_but_start (Holds start) e = refl
holds_but_start (Fails start why) e = absurd (cc)

fails_but_start : (p : Marked) (why : Why) → with_start None p ≡ Fails None why → p ≡ Fails (start_of p) why
fails_but_start (Ask start l on_yes on_no) why e = absurd (cc)
fails_but_start (Holds start) why e = absurd (cc)
fails_but_start (Fails start other) why e = cc

fine_yes : (count : ℕ) (l : Lit) (p q : Plan Why) → IsFine count (plain.Ask l p q) → IsFine count p
fine_yes count l p q fine = record { literals = grind arith; paths = grind arith }

fine_no : (count : ℕ) (l : Lit) (p q : Plan Why) → IsFine count (plain.Ask l p q) → IsFine count q
fine_no count l p q fine = record { literals = grind arith; paths = grind arith }

near_1000 : (off : ℤ) → IsNear 200 off → IsNear 1000 off
near_1000 off near = record { low = omega (arith, ints, near.low); high = omega (arith, ints, near.high) }

differs : (b : Bool) → IsTrue (not b) → b ≡ false
differs false q = refl
differs true q = sym q

module _ (f : Function) where
  pub holds_begin : (p : Marked)
      → with_start None p ≡ with_start None (marked_goal f goals.Holds) → p ≡ Holds (start_of p)
  unfolding marked_goal
  holds_begin p e = holds_but_start p e

  pub fails_begin :
      (why : Why) (p : Marked) → with_start None p ≡ with_start None (marked_goal f (goals.Fails why))
      → p ≡ Fails (start_of p) why
  unfolding marked_goal
  fails_begin why p e = fails_but_start p why e

  question_marks :
      (x y : Place) (on_yes on_no : GoalTree) → nat_eq x.var y.var ≡ false
      → marked_goal f (If (Le x y) on_yes on_no) ≡ Ask None (literal x y) (marked_goal f on_yes) (marked_goal f on_no)
  unfolding marked_goal marked_form
  question_marks x y on_yes on_no differ = rw differ refl

  -- the places of a question are near
  pub places_near :
      (ob : ObName) (t : FormTree) (x y : Place) (on_yes on_no : GoalTree) → t ≡ Le x y
      → IsGoalOf f ob (If t on_yes on_no)
      → IsNear 1000 x.off × IsNear 1000 y.off
  places_near ob t x y on_yes on_no is h =
      let places : IsPlace (name_count ob) x × IsPlace (name_count ob) y
      = (subst (λ u. IsGoalOf f ob (If u on_yes on_no)) is h).parts.0 in
      (near_1000 x.off places.0.near, near_1000 y.off places.1.near)

  -- a goal that stands for the plan of a node, without starts, is one
  stop_of :
      (ob : ObName) (g h : GoalTree) → StandsMarked f g h → IsTrue (is_settled h) → IsGoalOf f ob g
      → IsFine (name_count ob) (unmarked (marked_goal f g)) → IsStop f ob h
  stop_of ob g h alike settled of fine = record {
    node = record {
      goal = alike.belongs ob of;
      fine = subst (IsFine (name_count ob)) (ap unmarked (sym alike.marked) ∙ unmarked-goal f h) fine;
    };
    settled = settled;
  }

  module _ (ob : ObName) (x y : Place) (on_yes on_no to_yes to_no : GoalTree)
      (yes_alike : StandsMarked f on_yes to_yes) (yes_settled : IsTrue (is_settled to_yes))
      (no_alike : StandsMarked f on_no to_no) (no_settled : IsTrue (is_settled to_no)) (p : Marked) where
    abbrev AsksOn : FormTree → Type 0
    AsksOn t =
        IsTrue (is_question t) → IsNode f ob (If t on_yes on_no)
        → with_start None p ≡ with_start None (marked_goal f (If t on_yes on_no))
        → IsStop f ob to_yes × IsStop f ob to_no
        × (p ≡ Ask (start_of p) (literal x y) (marked_goal f to_yes) (marked_goal f to_no))

    -- a question at the front asks its literal, and goes on with the two settled goals, which are nodes
    asks_at : AsksOn (Le x y)
    asks_at asked node e =
        let marks = question_marks x y on_yes on_no (differs (nat_eq x.var y.var) asked) in
        let fine : IsFine (name_count ob)
        (plain.Ask (literal x y) (unmarked (marked_goal f on_yes)) (unmarked (marked_goal f on_no)))
        = subst (IsFine (name_count ob)) (sym (unmarked-goal f (If (Le x y) on_yes on_no))
        ∙ ap unmarked marks) node.fine in (
          stop_of ob on_yes to_yes yes_alike yes_settled
              (record { declared = node.goal.declared; parts = node.goal.parts.1 })
              (fine_yes (name_count ob) (literal x y) (unmarked (marked_goal f on_yes))
              (unmarked (marked_goal f on_no)) fine),
          stop_of ob on_no to_no no_alike no_settled
              (record { declared = node.goal.declared; parts = node.goal.parts.2 })
              (fine_no (name_count ob) (literal x y) (unmarked (marked_goal f on_yes))
              (unmarked (marked_goal f on_no)) fine),
          asks_but_start p (literal x y) (marked_goal f to_yes) (marked_goal f to_no)
              (e ∙ ap (with_start None) marks
              ∙ ap (λ t. Ask None (literal x y) t (marked_goal f on_no)) (sym yes_alike.marked)
              ∙ ap (λ t. Ask None (literal x y) (marked_goal f to_yes) t) (sym no_alike.marked)),
        )

    pub question_begins : (t : FormTree) → t ≡ Le x y → AsksOn t
    question_begins t is = subst AsksOn (sym is) asks_at

  -- a node after rules is one
  opened_node : (ob : ObName) (g h : GoalTree) → OpensStart f g h → IsNode f ob g → IsNode f ob h
  opened_node ob g h opens node = record {
    goal = opens.belongs ob node.goal;
    fine = subst (IsFine (name_count ob))
        (sym (unmarked-goal f g) ∙ sym (unmarked-with_start None (marked_goal f g)) ∙ ap unmarked (sym opens.marked)
        ∙ unmarked-with_start None (marked_goal f h) ∙ unmarked-goal f h)
        node.fine;
  }

  -- a turn of a node after rules is one of the node
  pub turns_behind : (g h : GoalTree) → OpensStart f g h → (t : Turn (Bor Goal) Why) → TurnsAs f h t → TurnsAs f g t
  turns_behind g h opens t turns = λ ob p node e. turns ob p (opened_node ob g h opens node) (e ∙ sym opens.marked)

  -- a turn that is right with starts is right without them
  pub begins_plain :
      (is_own : Bor Goal → Type 0) (t : Turn (Bor Goal) Why) (g : GoalTree)
      → BeginsAt is_own (λ n. marked_goal f (goal_tree n.now)) t (marked_goal f g)
      → Begins is_own (λ n. ask_goal f (goal_tree n.now)) t (ask_goal f g)
  begins_plain is_own (turn.Ask l on_yes on_no) g h = (
    h.0,
    h.1,
    sym (unmarked-goal f g) ∙ ap unmarked h.2
        ∙ ap (λ t. plain.Ask l t (unmarked (marked_goal f (goal_tree on_no.now))))
        (unmarked-goal f (goal_tree on_yes.now))
        ∙ ap (λ t. plain.Ask l (ask_goal f (goal_tree on_yes.now)) t) (unmarked-goal f (goal_tree on_no.now)),
  )
  begins_plain is_own turn.Holds g h = sym (unmarked-goal f g) ∙ ap unmarked h
  begins_plain is_own (turn.Fails why) g h = sym (unmarked-goal f g) ∙ ap unmarked h

  -- the goal that the obligation begins with
  pub first_is_stop :
      (ob : ObName) (start g : GoalTree) → IsGoalOf f ob start → ask_goal f start ≡ plan_of f ob
      → IsFine (name_count ob) (plan_of f ob) → StandsMarked f start g → IsTrue (is_settled g) → IsStop f ob g
  first_is_stop ob start g of asks fine alike settled =
      stop_of ob start g alike settled of (subst (IsFine (name_count ob)) (sym (unmarked-goal f start ∙ asks)) fine)

  pub alike_asks : (g h : GoalTree) → StandsMarked f g h → ask_goal f h ≡ ask_goal f g
  alike_asks g h alike = sym (unmarked-goal f h) ∙ ap unmarked alike.marked ∙ unmarked-goal f g
