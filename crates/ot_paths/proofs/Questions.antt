-- A goal with a question at its front: how its plan begins, and that its parts are nodes where it is one.
use Rattle.std.proofs.Common.{◌≡◌, ℕ, ℤ, nat_eq, Bool, not, true, false, IsTrue, refl, sym, subst, ap, ◌∙◌, arith}
use Rattle.std.proofs.lemmas.Int.{ints}
use Rattle.fn_rules.specs.declared.function.ObName.{ObName}
use Rattle.fn_rules.specs.Functions.{Function}
use Rattle.ask_core.specs.Askers.{IsFine}
use Rattle.ask_core.specs.Plans as plans
use Rattle.ask_core.specs.Plans.{Plan}
use Rattle.diff_graph.specs.declared.lit.Lit.{Lit}
use Rattle.ot_questions.specs.declared.place.Place.{Place}
use Rattle.ot_questions.specs.declared.why.Why.{Why}
use Rattle.ot_questions.specs.Names.{name_count}
use Rattle.ot_questions.specs.Nears.{IsNear}
use Rattle.ot_questions.specs.Obligation.{plan_of}
use Rattle.ot_questions.specs.Questions.{ask_le, ask_lt, ask_eq}
use Rattle.ot_terms.specs.declared.form.Form.{Form}
use Rattle.ot_terms.specs.Forms.{FormTree, Le, form_tree}
use Rattle.ot_terms.specs.Goals as goals
use Rattle.ot_terms.specs.Goals.{GoalTree, If}
use Rattle.ot_terms.specs.Standing.{ask_form, ask_goal}
use Rattle.ot_terms.specs.Belonging.{IsGoalOf}
use Rattle.ot_rewrite.specs.Fronts.{is_question}
use Rattle.ot_paths.specs.Nodes.{IsNode, literal}

pub ask_goal_holds : (f : Function) → ask_goal f goals.Holds ≡ plans.Holds
unfolding ask_goal
ask_goal_holds f = refl

pub ask_goal_fails : (f : Function) (why : Why) → ask_goal f (goals.Fails why) ≡ plans.Fails why
unfolding ask_goal
ask_goal_fails f why = refl

-- a form of another kind is no question
pub no_question :
    (form other : Form) → form ≡ other → is_question (form_tree other) ≡ false
    → IsTrue (is_question (form_tree form)) → ⊥
no_question form other same denied asked =
    let e : true ≡ false = sym asked ∙ (ap (λ t. is_question (form_tree t)) same ∙ denied) in cc

-- the first goal is a node, as its plan keeps the limits
pub node_start :
    (f : Function) (ob : ObName) (g : GoalTree) → IsGoalOf f ob g → ask_goal f g ≡ plan_of f ob
    → IsFine (name_count ob) (plan_of f ob)
    → IsNode f ob g
node_start f ob g is_goal same fine =
    record { goal = is_goal; fine = subst (IsFine (name_count ob)) (sym same) fine }

-- two different names are asked for
pub ask_goal_question :
    (f : Function) (x y : Place) (on_yes on_no : GoalTree) → nat_eq x.var y.var ≡ false
    → ask_goal f (If (Le x y) on_yes on_no)
    ≡ plans.Ask (literal x y) (ask_goal f on_yes) (ask_goal f on_no)
unfolding ask_goal ask_form ask_le ask_lt ask_eq
ask_goal_question f x y on_yes on_no differ = rw differ

-- both parts of a question keep the limits where it does
fine_yes : (count : ℕ) (l : Lit) (p q : Plan Why) → IsFine count (plans.Ask l p q) → IsFine count p
fine_yes count l p q fine = record { literals = grind arith; paths = grind arith }

fine_no : (count : ℕ) (l : Lit) (p q : Plan Why) → IsFine count (plans.Ask l p q) → IsFine count q
fine_no count l p q fine = record { literals = grind arith; paths = grind arith }

pub node_yes :
    (f : Function) (ob : ObName) (x y : Place) (on_yes on_no : GoalTree) → nat_eq x.var y.var ≡ false
    → IsNode f ob (If (Le x y) on_yes on_no) → IsNode f ob on_yes
node_yes f ob x y on_yes on_no differ node =
    record {
      goal = record { declared = node.goal.declared; parts = node.goal.parts.1 };
      fine = fine_yes (name_count ob) (literal x y) (ask_goal f on_yes) (ask_goal f on_no)
          (subst (IsFine (name_count ob)) (ask_goal_question f x y on_yes on_no differ) node.fine);
    }

pub node_no :
    (f : Function) (ob : ObName) (x y : Place) (on_yes on_no : GoalTree) → nat_eq x.var y.var ≡ false
    → IsNode f ob (If (Le x y) on_yes on_no) → IsNode f ob on_no
node_no f ob x y on_yes on_no differ node =
    record {
      goal = record { declared = node.goal.declared; parts = node.goal.parts.2 };
      fine = fine_no (name_count ob) (literal x y) (ask_goal f on_yes) (ask_goal f on_no)
          (subst (IsFine (name_count ob)) (ask_goal_question f x y on_yes on_no differ) node.fine);
    }

differs : (b : Bool) → IsTrue (not b) → b ≡ false
differs false q = refl
differs true q = sym q

-- how a question begins
abbrev BeginsAs : Function → ObName → FormTree → Lit → GoalTree → GoalTree → Type 0
BeginsAs f ob t l on_yes on_no =
    IsTrue (is_question t) → IsNode f ob (If t on_yes on_no)
    → IsNode f ob on_yes × IsNode f ob on_no
    × (ask_goal f (If t on_yes on_no) ≡ plans.Ask l (ask_goal f on_yes) (ask_goal f on_no))

-- a comparison that is a question begins with its literal, and its parts are nodes where it is one
pub question_begins :
    (f : Function) (ob : ObName) (t : FormTree) (l : Lit) (x y : Place) (on_yes on_no : GoalTree)
    → t ≡ Le x y → l ≡ literal x y
    → BeginsAs f ob t l on_yes on_no
question_begins f ob t l x y on_yes on_no same is_literal =
    subst (λ m. BeginsAs f ob t m on_yes on_no) (sym is_literal)
    (subst (λ u. BeginsAs f ob u (literal x y) on_yes on_no) (sym same)
    (λ asked node.
    let differ = differs (nat_eq x.var y.var) asked in (
      node_yes f ob x y on_yes on_no differ node,
      node_no f ob x y on_yes on_no differ node,
      ask_goal_question f x y on_yes on_no differ,
    )))

-- both places of a question are near
near_200 : (off : ℤ) → IsNear 200 off → IsNear 1000 off
near_200 off near = grind (arith, ints, near.low, near.high)
