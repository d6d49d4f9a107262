-- A form that is laid out keeps the starts of its two goals.
use Rattle.std.proofs.Common.{◌≡◌, ◌<◌, refl, sym, subst, ap, ◌∙◌, arith}
use Rattle.fn_rules.specs.Functions.{Function}
use Rattle.ot_terms.specs.Weights.{goal_weight}
use Rattle.ot_terms.specs.Forms.{FormTree}
use Rattle.ot_terms.specs.Goals.{GoalTree, If, order_goal, laid_form}
use Rattle.ot_terms.proofs.ByForms.{form_through}
use Rattle.ot_paths.proofs.LaidForms.{alike_laid, yes_is_lighter, no_is_lighter}
use Rattle.start_laws.specs.Marking.{marked_places, marked_form, marked_goal}
use Rattle.start_laws.specs.Settled.{StandsMarked}
use Rattle.ot_starts.proofs.Turns.{alike_asks}

module _ (f : Function) where
  -- a form that is laid out has the starts of its two goals, where the form has them
  laid_marks : (g : FormTree) (p q : GoalTree)
      → marked_goal f (laid_form g p q) ≡ marked_form g (marked_goal f p) (marked_goal f q)
  unfolding marked_goal marked_form
  laid_marks = form_through order_goal marked_places (marked_goal f) (λ x y p q differ. rw differ refl)

  marked_laid :
      (g : FormTree) (y n p q : GoalTree) → StandsMarked f y p → StandsMarked f n q
      → StandsMarked f (If g y n) (laid_form g p q)
  unfolding marked_goal
  marked_laid g y n p q hy hn = record {
    marked = laid_marks g p q
        ∙ ap (λ t. marked_form g t (marked_goal f q)) hy.marked ∙ ap (λ t. marked_form g (marked_goal f y) t) hn.marked;
    belongs = (alike_laid f g y n p q
        (record { asked = alike_asks f y p hy; belongs = hy.belongs })
        (record { asked = alike_asks f n q hn; belongs = hn.belongs })).belongs;
  }

  -- each of the two goals weighs less
  pub yes_falls : (g : FormTree) (y n : GoalTree) → goal_weight f y < goal_weight f (If g y n)
  yes_falls g y n = yes_is_lighter f g y n (If g y n) (omega arith)

  pub no_falls : (g : FormTree) (y n : GoalTree) → goal_weight f n < goal_weight f (If g y n)
  no_falls g y n = no_is_lighter f g y n (If g y n) (omega arith)

  pub if_laid :
      (g : FormTree) (y n p q got : GoalTree) → StandsMarked f y p → StandsMarked f n q → got ≡ laid_form g p q
      → StandsMarked f (If g y n) got
  if_laid g y n p q got hy hn e = subst (StandsMarked f (If g y n)) (sym e) (marked_laid g y n p q hy hn)
