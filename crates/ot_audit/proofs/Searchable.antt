-- The goals may be searched: they keep the limits, and no position is negative that answers to a failing end speak of.
use Rattle.std.proofs.Common.{◌≡◌, ℕ, ◌≤◌, ℤ, pos, ◌≤ℤ◌, true, Some, List, arith, lit<, lit≤}
use Rattle.std.specs.List.{AllByRecursion}
use Rattle.std.proofs.lemmas.Int.{ints}
use Rattle.diff_graph.specs.declared.lit.Lit.{Lit}
use Rattle.diff_graph.specs.Literals.{AreMet}
use Rattle.ot_model.specs.declared.op.Kind.{Kind}
use Rattle.fn_rules.specs.declared.guard.Sort.TheVariants.{Pos}
use Rattle.fn_rules.specs.Functions.{Function, cases_of, is_declared_pair}
use Rattle.ask_core.specs.declared.asker.TheConstants.{MAX_QUESTIONS}
use Rattle.ask_core.specs.Askers.{IsFine}
use Rattle.ask_core.specs.Leading.{LeadTo}
use Rattle.ask_core.specs.Plans.{Plan, end_of}
use Rattle.ot_questions.specs.declared.name.Who.TheVariants.{A, B}
use Rattle.ot_questions.specs.declared.why.Why.{Why}
use Rattle.ot_questions.specs.Asked.{IsKept}
use Rattle.ot_questions.specs.Names.{zero_name}
use Rattle.ot_questions.specs.Nears.{IsNearCase}
use Rattle.ot_questions.specs.Places.{sym_op}
use Rattle.ot_questions.specs.Sorts.{AsksLike, HasNoNegativePosition, sort_name}
use Rattle.ot_terms.specs.Goals.{GoalTree}
use Rattle.ot_terms.specs.Standing.{ask_goal}
use Rattle.ot_audit.specs.declared.target.Target.{Target}
use Rattle.ot_audit.specs.Goals.{if_meant, at_target, target_goal, unless_agreed, difference_goal}
use Rattle.ot_audit.specs.Searchable.{IsSearchable}
use Rattle.ot_audit.proofs.Ends.{EndsAtMost, positions_passed}
use Rattle.ot_audit.proofs.Names.{GoalOf, IsSmallPlace, OfName, OpServes, agreed_of, asks_goal, meant_of, name_serves}
use Rattle.ot_audit.proofs.Names.{op_serves, parts_small, small_first, small_position, small_second, small_zero, spoken}
use Rattle.ot_audit.proofs.Names.{target_of}

abbrev pub FineKept : Type 0
FineKept = (count m : ℕ) (p : Plan Why) → m ≤ MAX_QUESTIONS → IsKept count m p → IsFine count p

abbrev pub LikeKept : Type 0
LikeKept = (count m : ℕ) (p : Plan Why) → IsKept count m p → AsksLike p

abbrev pub EndsThere : Type 0
EndsThere = (v : ℕ → ℤ) (why : Why) (p : Plan Why) (w : List Lit) → LeadTo why p w → AreMet v w → end_of p v ≡ Some why

-- a position is not negative
abbrev pub NotNegative : (ℕ → ℤ) → ℕ → Type 0
NotNegative v x = sort_name x ≡ Pos → pos 0 ≤ℤ v x

module _ (f : Function) (k l : Kind) (next : GoalTree) where
  abbrev posed : GoalTree
  posed = if_meant f.head (sym_op k A) (sym_op l B) next

  -- the goal is one of small places
  small_goal : GoalOf IsSmallPlace next → GoalOf IsSmallPlace posed
  small_goal of_next =
      meant_of IsSmallPlace small_zero (sym_op k A) (sym_op l B) (small_first k) (small_second l) f.head next
      (small_position A (lit< tt)) (small_position B (lit< tt)) of_next

  module _ (at_most : EndsAtMost) (ends : EndsThere) where
    -- names of sites and characters are no positions
    first_serves : (v : ℕ → ℤ) → NotNegative v 0 → pos 0 ≤ℤ v 3 → OpServes (OfName (NotNegative v)) (sym_op k A)
    first_serves v zero low =
        op_serves (OfName (NotNegative v)) k A (name_serves (NotNegative v) 0 zero) (name_serves (NotNegative v) 3 (λ e.
        low)) (name_serves (NotNegative v) 4 (λ e. absurd (cc))) (name_serves (NotNegative v) 5 (λ e. absurd (cc)))

    second_serves : (v : ℕ → ℤ) → NotNegative v 0 → pos 0 ≤ℤ v 6 → OpServes (OfName (NotNegative v)) (sym_op l B)
    second_serves v zero low =
        op_serves (OfName (NotNegative v)) l B (name_serves (NotNegative v) 0 zero) (name_serves (NotNegative v) 6 (λ e.
        low)) (name_serves (NotNegative v) 7 (λ e. absurd (cc))) (name_serves (NotNegative v) 8 (λ e. absurd (cc)))

    -- no position is negative that answers to a failing end speak of
    no_negative :
        ((v : ℕ → ℤ) → NotNegative v 0 → OpServes (OfName (NotNegative v)) (sym_op k A)
        → OpServes (OfName (NotNegative v)) (sym_op l B)
        → GoalOf (OfName (NotNegative v)) next)
        → (why : Why) (w : List Lit) (v : ℕ → ℤ) → LeadTo why (ask_goal f posed) w → v zero_name ≡ pos 0 → AreMet v w
        → HasNoNegativePosition w v
    no_negative of_next why w v lead z met x sort named =
        let low = positions_passed at_most f v z (sym_op k A) (sym_op l B) next why
        (ends v why (ask_goal f posed) w lead met) in
        let zero : NotNegative v 0 = λ e. omega (arith, ints) in
        let first = first_serves v zero low.0 in
        let second = second_serves v zero low.1 in
        let whole =
        meant_of (OfName (NotNegative v)) (name_serves (NotNegative v) 0 zero) (sym_op k A)
        (sym_op l B) first second f.head next
        (λ e. low.0) (λ e. low.1) (of_next v zero first second) in
        spoken (NotNegative v) why (ask_goal f posed) w (asks_goal (NotNegative v) f posed whole) lead x named sort

    -- a goal of operations that are meant may be searched, where its plan is kept and its places are small
    searchable :
        (m : ℕ) → FineKept → LikeKept → is_declared_pair f.head k l ≡ true → m ≤ MAX_QUESTIONS
        → IsKept 9 m (ask_goal f posed)
        → GoalOf IsSmallPlace next
        → ((v : ℕ → ℤ) → NotNegative v 0 → OpServes (OfName (NotNegative v)) (sym_op k A)
        → OpServes (OfName (NotNegative v)) (sym_op l B)
        → GoalOf (OfName (NotNegative v)) next)
        → IsSearchable f k l posed
    searchable m fine like declared few kept small of_next =
        let whole = small_goal small in
        record {
          goal = record { declared = declared; parts = parts_small f k l posed whole };
          fine = fine 9 m (ask_goal f posed) few kept;
          like = like 9 m (ask_goal f posed) kept;
          positions = no_negative of_next;
        }

module _ (at_most : EndsAtMost) (ends : EndsThere) (fine : FineKept) (like : LikeKept) where
  pub target_searchable :
      (f : Function) (k l : Kind) (target : Target) → is_declared_pair f.head k l ≡ true
      → AllByRecursion IsNearCase (cases_of f k l)
      → IsKept 9 2086 (ask_goal f (target_goal f k l target)) → IsSearchable f k l (target_goal f k l target)
  target_searchable f k l target declared near kept =
      searchable f k l (at_target (cases_of f k l) target (sym_op k A) (sym_op l B)) at_most ends 2086 fine
      like declared (lit≤ tt) kept
      (target_of IsSmallPlace small_zero (sym_op k A) (sym_op l B) (small_first k) (small_second l)
      (cases_of f k l) target near)
      (λ v zero first second.
      target_of (OfName (NotNegative v)) (name_serves (NotNegative v) 0 zero) (sym_op k A) (sym_op l B) first second
      (cases_of f k l) target near)

  -- the goal of a difference may be searched
  pub difference_searchable :
      (f g : Function) (k l : Kind) → is_declared_pair f.head k l ≡ true → AllByRecursion IsNearCase (cases_of f k l)
      → AllByRecursion IsNearCase (cases_of g k l) → IsKept 9 36872 (ask_goal f (difference_goal f g k l))
      → IsSearchable f k l (difference_goal f g k l)
  difference_searchable f g k l declared near other_near kept =
      searchable f k l (unless_agreed (cases_of f k l) (cases_of g k l) (sym_op k A) (sym_op l B)) at_most ends 36872
      fine like declared (lit≤ tt) kept
      (agreed_of IsSmallPlace small_zero (sym_op k A) (sym_op l B) (small_first k) (small_second l) (cases_of f k l)
      (cases_of g k l) near other_near)
      (λ v zero first second.
      agreed_of (OfName (NotNegative v)) (name_serves (NotNegative v) 0 zero) (sym_op k A) (sym_op l B) first second
      (cases_of f k l) (cases_of g k l) near other_near)
