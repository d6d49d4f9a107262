-- What the search of a goal says of all operations.
use Rattle.std.proofs.Common.{◌≡◌, ℕ, lit<, ℤ, pos, ◌≤ℤ◌, true, Option, Some, None, List, [], MatchOption, refl, sym}
use Rattle.std.proofs.Common.{subst, arith}
use Rattle.std.specs.Prelude.{is_none}
use Rattle.std.proofs.lemmas.Int.{ints}
use Rattle.diff_graph.specs.declared.lit.Lit.{Lit}
use Rattle.diff_tables.specs.Solutions.{valuation_of}
use Rattle.ot_model.specs.declared.op.Kind.{Kind}
use Rattle.ot_model.specs.declared.op.Op.{Op}
use Rattle.ot_model.specs.Operations.{kind_of}
use Rattle.fn_rules.specs.Functions.{Function, is_declared_pair}
use Rattle.ask_core.specs.Plans.{Plan, end_of}
use Rattle.ask_core.specs.Questions.{Questions, FailingEnd, QuestionList}
use Rattle.ot_prove.specs.Outcomes.{FailsAt, HoldsEverywhere}
use Rattle.ot_questions.specs.declared.name.Who.{Who}
use Rattle.ot_questions.specs.declared.name.Who.TheVariants.{A, B, C}
use Rattle.ot_questions.specs.declared.why.Why.{Why}
use Rattle.ot_questions.specs.declared.why.Why.TheVariants.{Operations}
use Rattle.ot_questions.specs.Instances.{NamesAll, StandsForOperation}
use Rattle.ot_questions.specs.Meaning.{op_at}
use Rattle.ot_questions.specs.Names.{zero_name, site_name, char_name}
use Rattle.ot_questions.specs.Places.{sym_op}
use Rattle.ot_terms.specs.Goals.{GoalTree}
use Rattle.ot_terms.specs.Standing.{ask_goal}
use Rattle.ot_audit.specs.declared.found.Found.{Found}
use Rattle.ot_audit.specs.declared.found.Found.TheVariants.{Never, Pair, Spent}
use Rattle.ot_audit.specs.declared.target.Target.{Target}
use Rattle.ot_audit.specs.Answers.{TellsTarget}
use Rattle.ot_audit.specs.Findings.{AreLeastOps, IsFoundIn}
use Rattle.ot_audit.specs.Goals.{target_goal, difference_goal}
use Rattle.ot_audit.specs.Reached.{Agree, AreMeant}
use Rattle.ot_audit.specs.Searches.{Differs, NamesTwo, ReachesTarget}

-- what the laws of names and of question lists say
abbrev pub NamesStand : Type 0
NamesStand =
    (v : ℕ → ℤ) (k : Kind) (who : Who) → v zero_name ≡ pos 0 → pos 0 ≤ℤ v (site_name who) → pos 0 ≤ℤ v (char_name who)
    → StandsForOperation v (sym_op k who) (op_at v (sym_op k who))

abbrev pub HaveNames : Type 0
HaveNames = (n : ℕ) (i : ℤ) (made : Who → Op) → (v : ℕ → ℤ) × NamesAll v n i made

abbrev pub ListsTell : Type 0
ListsTell =
    (p : Plan Why) (q : Questions Why) → QuestionList p [] q
    → MatchOption q.failing (HoldsEverywhere p) (λ e. FailsAt p e)

-- any two operations have names
two_ops : Op → Op → Who → Op
two_ops a b A = a
two_ops a b B = b
two_ops a b C = b

pub two_named :
    HaveNames → (k l : Kind) (a b : Op) → kind_of a ≡ Some k → kind_of b ≡ Some l → (v : ℕ → ℤ) × NamesTwo k l v a b
unfolding two_ops
two_named names k l a b first second =
    let both = names 0 (pos 0) (two_ops a b) in (
      both.0,
      record { zero = both.1.zero; first = both.1.operations A k first; second = both.1.operations B l second },
    )

pub at_least_0 : (x m : ℤ) → pos 0 ≤ℤ m → m ≤ℤ x → pos 0 ≤ℤ x
at_least_0 x m low high = omega (arith, ints)

-- the least values name the operations that are read off them
pub least_named :
    NamesStand → (k l : Kind) (w : List Lit) (a b : Op) (ops : AreLeastOps k l w a b)
    → NamesTwo k l (valuation_of ops.values) a b
least_named stand k l w a b ops =
    let v = valuation_of ops.values in
    let above = ops.least.above in
    let first : StandsForOperation v (sym_op k A) (op_at v (sym_op k A)) =
    stand v k A ops.least.zero_first (at_least_0 (v 4) (pos 1) (search (arith, ints)) (above 4 (lit< tt)))
    (at_least_0 (v 5) (pos 97) (search (arith, ints)) (above 5 (lit< tt))) in
    let second : StandsForOperation v (sym_op l B) (op_at v (sym_op l B)) =
    stand v l B ops.least.zero_first (at_least_0 (v 7) (pos 2) (search (arith, ints)) (above 7 (lit< tt)))
    (at_least_0 (v 8) (pos 98) (search (arith, ints)) (above 8 (lit< tt))) in
    record {
      zero = ops.least.zero_first;
      first = subst (λ (o : Op). StandsForOperation v (sym_op k A) o) (sym ops.first) first;
      second = subst (λ (o : Op). StandsForOperation v (sym_op l B) o) (sym ops.second) second;
    }

-- a list without a failing end is of a plan that holds everywhere, and one with an end of a plan that fails there
pub none_fails :
    (tell : ListsTell) (p : Plan Why) (q : Questions Why) → QuestionList p [] q → q.failing ≡ None → HoldsEverywhere p
none_fails tell p q list none =
    subst (λ (o : Option (FailingEnd Why)). MatchOption o (HoldsEverywhere p) (λ e. FailsAt p e)) none (tell p q list)

pub ended : (o : Option Why) → is_none o ≡ true → o ≡ None
ended None e = refl
ended (Some x) e = absurd (cc)

-- the failing end at which a finding of two operations stands
end_found :
    (k l : Kind) (p : Plan Why) (o : Option (FailingEnd Why)) (a b : Op)
    → MatchOption o (HoldsEverywhere p) (λ e. FailsAt p e)
    → MatchOption o ⊥ (λ e. AreLeastOps k l e.answers a b)
    → (e : FailingEnd Why) × FailsAt p e × AreLeastOps k l e.answers a b
end_found k l p None a b tells ops = absurd ops
end_found k l p (Some e) a b tells ops = (e, tells, ops)

module _ (stand : NamesStand) (names : HaveNames) (tell : ListsTell) (f : Function) (k l : Kind)
    (g : GoalTree) (budget : ℕ) where
  -- where nothing is found, the plan holds at the names of any operations
  pub found_never :
      IsFoundIn f k l g budget Never → (a b : Op) → kind_of a ≡ Some k → kind_of b ≡ Some l
      → (v : ℕ → ℤ) × NamesTwo k l v a b × (end_of (ask_goal f g) v ≡ None)
  found_never found a b first second =
      let named = two_named names k l a b first second in
      let holds = none_fails tell (ask_goal f g) found.questions found.listed found.told.1 in
      (named.0, named.1, ended (end_of (ask_goal f g) named.0) (holds named.0))

  -- where two operations are found, it fails at their names
  pub found_pair :
      (a b : Op) → IsFoundIn f k l g budget (Pair a b)
      → (v : ℕ → ℤ) × (why : Why) × NamesTwo k l v a b × (end_of (ask_goal f g) v ≡ Some why)
  found_pair a b found =
      let e =
      end_found k l (ask_goal f g) found.questions.failing a b
      (tell (ask_goal f g) found.questions found.listed) found.told.1 in
      let v = valuation_of e.2.values in
      (v, e.0.why, least_named stand k l e.0.answers a b e.2, e.1.1 v e.2.least.met)

-- what the goals mean at one valuation
abbrev pub TargetSought : Type 0
TargetSought =
    (f : Function) (k l : Kind) (target : Target) (v : ℕ → ℤ) (a b : Op) (why : Why)
    → is_declared_pair f.head k l ≡ true
    → NamesTwo k l v a b → end_of (ask_goal f (target_goal f k l target)) v ≡ Some why → ReachesTarget f k l target a b

abbrev pub TargetFails : Type 0
TargetFails =
    (f : Function) (k l : Kind) (target : Target) (v : ℕ → ℤ) (a b : Op) → is_declared_pair f.head k l ≡ true
    → NamesTwo k l v a b → ReachesTarget f k l target a b
    → end_of (ask_goal f (target_goal f k l target)) v ≡ Some Operations

abbrev pub DifferenceSought : Type 0
DifferenceSought =
    (f g : Function) (k l : Kind) (v : ℕ → ℤ) (a b : Op) (why : Why)
    → is_declared_pair f.head k l ≡ true → NamesTwo k l v a b
    → end_of (ask_goal f (difference_goal f g k l)) v ≡ Some why → Differs f g k l a b

abbrev pub DifferenceHeld : Type 0
DifferenceHeld =
    (f g : Function) (k l : Kind) (v : ℕ → ℤ) (a b : Op) → is_declared_pair f.head k l ≡ true → NamesTwo k l v a b
    → AreMeant f k l a b → end_of (ask_goal f (difference_goal f g k l)) v ≡ None → Agree f g a b

not_both : {X : Type 0} (o : Option X) (x : X) → o ≡ None → o ≡ Some x → ⊥
not_both o x none some = cc

module _ (stand : NamesStand) (names : HaveNames) (tell : ListsTell) where
  -- what is found of a target is so: no operations reach it, or these two do
  pub target_told :
      TargetSought → TargetFails → (f : Function) (k l : Kind) (target : Target) (budget : ℕ) (found : Found)
      → is_declared_pair f.head k l ≡ true → IsFoundIn f k l (target_goal f k l target) budget found
      → TellsTarget f k l target found
  target_told sought fails f k l target budget Never declared found = λ a b reaches.
      let at = found_never stand names tell f k l (target_goal f k l target) budget found a b
      reaches.0.first reaches.0.second in
      not_both (end_of (ask_goal f (target_goal f k l target)) at.0) Operations at.2
      (fails f k l target at.0 a b declared at.1 reaches)
  target_told sought fails f k l target budget (Pair a b) declared found =
      let at = found_pair stand names tell f k l (target_goal f k l target) budget a b found in
      sought f k l target at.0 a b at.1 declared at.2 at.3
  target_told sought fails f k l target budget Spent declared found = tt

  pub same_told :
      DifferenceHeld → (f g : Function) (k l : Kind) (budget : ℕ) → is_declared_pair f.head k l ≡ true
      → IsFoundIn f k l (difference_goal f g k l) budget Never → (a b : Op) → AreMeant f k l a b → Agree f g a b
  same_told held f g k l budget declared found a b meant =
      let at = found_never stand names tell f k l (difference_goal f g k l) budget found a b meant.first meant.second in
      held f g k l at.0 a b declared at.1 meant at.2

  pub differ_told :
      DifferenceSought → (f g : Function) (k l : Kind) (budget : ℕ) (a b : Op) → is_declared_pair f.head k l ≡ true
      → IsFoundIn f k l (difference_goal f g k l) budget (Pair a b) → Differs f g k l a b
  differ_told sought f g k l budget a b declared found =
      let at = found_pair stand names tell f k l (difference_goal f g k l) budget a b found in
      sought f g k l at.0 a b at.1 declared at.2 at.3
