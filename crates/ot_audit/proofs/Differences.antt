-- Where the plan of a difference ends at one valuation: in a failing end exactly where the operations are meant and the
-- two functions do not agree.
use Rattle.std.proofs.Common.{◌≡◌, ◌≢◌, ◌⊎◌, ℕ, ℤ, pos, true, Option, Some, None, List, [], ◌∷◌, refl, sym, ◌∙◌, ap}
use Rattle.std.proofs.Common.{subst, inl, inr}
use Rattle.std.specs.Ordering.{int_eq}
use Rattle.std.proofs.lemmas.Bool.{cases_Bool, false≢true}
use Rattle.std.proofs.lemmas.Bool.Decides.{Decides-int_eq}
use Rattle.ot_model.specs.declared.op.Kind.{Kind}
use Rattle.ot_model.specs.declared.op.Kind.TheVariants as kinds
use Rattle.ot_model.specs.declared.op.Op.{Op}
use Rattle.ot_model.specs.declared.op.Op.TheVariants as ops
use Rattle.ot_model.specs.Operations.{kind_of, at_of, site_of, char_of}
use Rattle.fn_rules.specs.Conditions.{IsFormOf}
use Rattle.fn_rules.specs.Functions.{Function, GuardedCase, cases_of, is_declared_pair}
use Rattle.fn_rules.specs.Transformation.{transform_of}
use Rattle.ask_core.specs.Plans.{Plan, end_of}
use Rattle.ot_questions.specs.declared.name.Who.TheVariants.{A, B}
use Rattle.ot_questions.specs.declared.place.SymOp.{SymOp}
use Rattle.ot_questions.specs.declared.place.Place.{Place}
use Rattle.ot_questions.specs.declared.why.Why.{Why}
use Rattle.ot_questions.specs.declared.why.Why.TheVariants.{Operations}
use Rattle.ot_questions.specs.Instances.{StandsForOperation, GoesOnWith}
use Rattle.ot_questions.specs.Names.{zero_name}
use Rattle.ot_questions.specs.Obligation.{ask_same_form, ask_one_place}
use Rattle.ot_questions.specs.Places.{sym_op, sym_kind, sym_at, sym_result}
use Rattle.ot_questions.specs.Questions.{ask_first_result, ask_guard, ask_result, ask_le, ask_lt, ask_eq}
use Rattle.ot_terms.specs.Goals.{GoalTree}
use Rattle.ot_terms.specs.Standing.{ask_form, ask_goal}
use Rattle.ot_audit.specs.Goals.{with_first_result, unless_one_place, unless_same, unless_agreed, difference_goal}
use Rattle.ot_audit.specs.Reached.{AreMeant, Agree}
use Rattle.ot_audit.specs.Searches.{NamesTwo, Differs}
use Rattle.ot_audit.proofs.Ends.{EndsAtMost, EndsGuard, EndsAllowed, AsksGuard, AsksAllowed, TestsAllowed, kind_named}
use Rattle.ot_audit.proofs.Ends.{meant_pass, passed_meant}

-- what the laws of questions and functions say
abbrev pub EndsResult : Type 0
EndsResult =
    (f : Function) (v : ℕ → ℤ) (x y : SymOp) (a b : Op) → v zero_name ≡ pos 0 → StandsForOperation v x a
    → StandsForOperation v y b
    → GoesOnWith v (ask_result f x y) (transform_of f a b)

abbrev pub EndsOneForm : Type 0
EndsOneForm =
    (v : ℕ → ℤ) (x y : SymOp) (a b c : Op) → StandsForOperation v x a → StandsForOperation v y b
    → IsFormOf c a → IsFormOf c b
    → (a ≡ b → end_of (ask_same_form x y) v ≡ None) × (a ≢ b → end_of (ask_same_form x y) v ≡ Some Operations)

abbrev pub KeepsForm : Type 0
KeepsForm = (f : Function) (a b c : Op) → transform_of f a b ≡ Some c → IsFormOf a c

-- two forms of one operation are one or not
by_parts : (a b : Op) → kind_of a ≡ kind_of b → at_of a ≡ at_of b → site_of a ≡ site_of b
    → char_of a ≡ char_of b → a ≡ b
by_parts (ops.Ins at ch site) (ops.Ins to other from) k e f g = cc
by_parts (ops.Del at site) (ops.Del to from) k e f g = cc
by_parts (ops.Upd at ch site) (ops.Upd to other from) k e f g = cc
by_parts ops.Nop ops.Nop k e f g = refl
by_parts a b k e f g = absurd (cc)

one_position : (x y : ℤ) → (x ≡ y) ⊎ (x ≢ y)
one_position x y =
    elim (cases_Bool (int_eq x y)) [
      | inl is ↦ inl ((Decides-int_eq x y).0 is)
      | inr not ↦ inr (λ e. false≢true (sym not ∙ (Decides-int_eq x y).1 e))
    ]

nop_or_not : (a form : Op) (k : Kind) → kind_of a ≡ Some k → kind_of form ≡ kind_of a → form ≢ ops.Nop
nop_or_not a form k is moved e =
    let none : None ≡ Some k = sym (ap kind_of e) ∙ (moved ∙ is) in cc

-- two forms of an operation that is not nop are one, or they are not
pub one_form :
    (a x y : Op) (k : Kind) → kind_of a ≡ Some k → IsFormOf a x → IsFormOf a y → (x ≡ y) ⊎ (x ≢ y)
one_form a x y k is (inl gone) (inl other_gone) = inl (gone ∙ sym other_gone)
one_form a x y k is (inl gone) (inr moved) = inr (λ e. nop_or_not a y k is moved.kind (sym e ∙ gone))
one_form a x y k is (inr moved) (inl gone) = inr (λ e. nop_or_not a x k is moved.kind (e ∙ gone))
one_form a x y k is (inr moved) (inr other) =
    elim (one_position (at_of x) (at_of y)) [
      | inl same ↦
          inl
          (by_parts x y (moved.kind ∙ sym other.kind) same (moved.site ∙ sym other.site) (moved.char ∙ sym other.char))
      | inr differ ↦ inr (λ e. differ (ap at_of e))
    ]

-- the goals ask what the questions ask
module _ (asks_guard : AsksGuard) (h : Function) where
  pub ask_goal-with_first_result :
      (cs : List GuardedCase) (a b : SymOp) (go : Option SymOp → GoalTree)
      → ask_goal h (with_first_result cs a b go) ≡ ask_first_result cs a b (λ x. ask_goal h (go x))
  unfolding ask_goal
  ask_goal-with_first_result [] a b go = refl
  ask_goal-with_first_result (c ∷ cs) a b go =
      asks_guard c.guard a b (ask_goal h (go (Some (sym_result c.res a b)))) (ask_goal h (with_first_result cs a b go))
      ∙ ap (λ p. ask_guard c.guard a b (ask_goal h (go (Some (sym_result c.res a b)))) p)
      (ask_goal-with_first_result cs a b go)

one_place_asked :
    (h : Function) (j k : Option Kind) (at there : Place)
    → ask_goal h (unless_one_place j k at there) ≡ ask_one_place j k at there
unfolding ask_goal ask_form ask_one_place ask_le ask_lt ask_eq
one_place_asked h None None at there = refl
one_place_asked h None (Some l) at there = refl
one_place_asked h (Some k) None at there = refl
one_place_asked h (Some k) (Some l) at there = refl

pub ask_goal-unless_one_place :
    (h : Function) (x y : SymOp)
    → ask_goal h (unless_one_place (sym_kind x) (sym_kind y) (sym_at x) (sym_at y)) ≡ ask_same_form x y
unfolding ask_same_form
ask_goal-unless_one_place h x y = one_place_asked h (sym_kind x) (sym_kind y) (sym_at x) (sym_at y)

-- the result of named operations is that of the block of their kinds
pub ask_result-named :
    (f : Function) (k l : Kind) (go : Option SymOp → Plan Why)
    → ask_result f (sym_op k A) (sym_op l B) go ≡ ask_first_result (cases_of f k l) (sym_op k A) (sym_op l B) go
ask_result-named f kinds.Ins kinds.Ins go = refl
ask_result-named f kinds.Ins kinds.Del go = refl
ask_result-named f kinds.Ins kinds.Upd go = refl
ask_result-named f kinds.Del kinds.Ins go = refl
ask_result-named f kinds.Del kinds.Del go = refl
ask_result-named f kinds.Del kinds.Upd go = refl
ask_result-named f kinds.Upd kinds.Ins go = refl
ask_result-named f kinds.Upd kinds.Del go = refl
ask_result-named f kinds.Upd kinds.Upd go = refl

-- the plan of both results, in the words of the questions
module _ (asks_guard : AsksGuard) (h f g : Function) (k l : Kind) where
  abbrev first_op : SymOp
  first_op = sym_op k A

  abbrev second_op : SymOp
  second_op = sym_op l B

  pub right_asked :
      (x : Option SymOp)
      → ask_goal h (with_first_result (cases_of g k l) first_op second_op (λ y. unless_same x y))
      ≡ ask_result g first_op second_op (λ y. ask_goal h (unless_same x y))
  right_asked x =
      ask_goal-with_first_result asks_guard h (cases_of g k l) first_op second_op (λ y. unless_same x y)
      ∙ sym (ask_result-named g k l (λ y. ask_goal h (unless_same x y)))

  pub left_asked :
      ask_goal h (unless_agreed (cases_of f k l) (cases_of g k l) first_op second_op)
      ≡ ask_result f first_op second_op
      (λ x. ask_goal h (with_first_result (cases_of g k l) first_op second_op (λ y. unless_same x y)))
  left_asked =
      ask_goal-with_first_result asks_guard h (cases_of f k l) first_op second_op
      (λ x. with_first_result (cases_of g k l) first_op second_op (λ y. unless_same x y))
      ∙ sym (ask_result-named f k l
      (λ x. ask_goal h (with_first_result (cases_of g k l) first_op second_op (λ y. unless_same x y))))

-- the plan holds where they agree, and fails where not; and one of the two is so
abbrev Decided : Type 0 → Option Why → Type 0
Decided Agreed end = (Agreed × (end ≡ None)) ⊎ ((Agreed → ⊥) × (end ≡ Some Operations))

module _ (one : EndsOneForm) (h : Function) (v : ℕ → ℤ) (a : Op) (k : Kind) (is : kind_of a ≡ Some k) where
  -- two results that are there
  both_there :
      (x y : SymOp) (p q : Op) → StandsForOperation v x p → StandsForOperation v y q → IsFormOf a p → IsFormOf a q
      → Decided (Some p ≡ Some q) (end_of (ask_goal h (unless_same (Some x) (Some y))) v)
  both_there x y p q sp sq fp fq =
      let law = one v x y p q a sp sq fp fq in
      let asked = ap (λ plan. end_of plan v) (ask_goal-unless_one_place h x y) in
      elim (one_form a p q k is fp fq) [
        | inl same ↦ inl (ap Some same, asked ∙ law.0 same)
        | inr differ ↦ inr ((λ e. differ (cc)), asked ∙ law.1 differ)
      ]

-- what asking for a result comes to
abbrev pub Comes : (ℕ → ℤ) → (Option SymOp → Plan Why) → Option Why → Option Op → Type 0
Comes v go end None = end ≡ end_of (go None) v
Comes v go end (Some r) = (x : SymOp) × StandsForOperation v x r × (end ≡ end_of (go (Some x)) v)

pub goes_to :
    (v : ℕ → ℤ) (ask : (Option SymOp → Plan Why) → Plan Why) (go : Option SymOp → Plan Why) (o : Option Op)
    → GoesOnWith v ask o → Comes v go (end_of (ask go) v) o
goes_to v ask go None goes = goes go
goes_to v ask go (Some r) (x, stands, goes) = (x, stands, goes go)

module _ (at_most : EndsAtMost) (ends_guard : EndsGuard) (ends_allowed : EndsAllowed) (asks_guard : AsksGuard)
    (asks_allowed : AsksAllowed)
    (tests : TestsAllowed)
    (results : EndsResult) (one : EndsOneForm) (keeps : KeepsForm)
    (f g : Function) (k l : Kind) (v : ℕ → ℤ) (a b : Op) (declared : is_declared_pair f.head k l ≡ true)
    (names : NamesTwo k l v a b) where
  abbrev ended : GoalTree → Option Why
  ended goal = end_of (ask_goal f goal) v

  abbrev right_goal : Option SymOp → GoalTree
  right_goal x = with_first_result (cases_of g k l) (sym_op k A) (sym_op l B) (λ y. unless_same x y)

  right_comes : (x : Option SymOp)
      → Comes v (λ y. ask_goal f (unless_same x y)) (ended (right_goal x)) (transform_of g a b)
  right_comes x =
      subst (λ p. Comes v (λ y. ask_goal f (unless_same x y)) (end_of p v) (transform_of g a b))
      (sym (right_asked asks_guard f f g k l x))
      (goes_to v (ask_result g (sym_op k A) (sym_op l B)) (λ y. ask_goal f (unless_same x y)) (transform_of g a b)
      (results g v (sym_op k A) (sym_op l B) a b names.zero names.first names.second))

  left_comes :
      Comes v (λ x. ask_goal f (right_goal x))
      (ended (unless_agreed (cases_of f k l) (cases_of g k l) (sym_op k A) (sym_op l B))) (transform_of f a b)
  left_comes =
      subst (λ p. Comes v (λ x. ask_goal f (right_goal x)) (end_of p v) (transform_of f a b))
      (sym (left_asked asks_guard f f g k l))
      (goes_to v (ask_result f (sym_op k A) (sym_op l B)) (λ x. ask_goal f (right_goal x)) (transform_of f a b)
      (results f v (sym_op k A) (sym_op l B) a b names.zero names.first names.second))

  -- one result that is there, or none, and then the other
  with_right_none :
      (q : Option Op) → Comes v (λ y. ask_goal f (unless_same None y)) (ended (right_goal None)) q
      → Decided (None ≡ q) (ended (right_goal None))
  unfolding ask_goal
  with_right_none None comes = inl (refl, comes)
  with_right_none (Some r) (y, stands, comes) = inr ((λ e. absurd (cc)), comes)

  with_right_some :
      (x : SymOp) (p : Op) (q : Option Op) → StandsForOperation v x p → IsFormOf a p → transform_of g a b ≡ q
      → Comes v (λ y. ask_goal f (unless_same (Some x) y)) (ended (right_goal (Some x))) q
      → Decided (Some p ≡ q) (ended (right_goal (Some x)))
  unfolding ask_goal
  with_right_some x p None stands form e comes = inr ((λ e. absurd (cc)), comes)
  with_right_some x p (Some r) stands form e (y, other, comes) =
      subst (λ end. Decided (Some p ≡ Some r) end) (sym comes)
      (both_there one f v a k (kind_named v k A a names.first) x y p r stands other form (keeps g a b r e))

  with_left :
      (p : Option Op) → transform_of f a b ≡ p
      → Comes v (λ x. ask_goal f (right_goal x))
      (ended (unless_agreed (cases_of f k l) (cases_of g k l) (sym_op k A) (sym_op l B))) p
      → Decided (p ≡ transform_of g a b)
      (ended (unless_agreed (cases_of f k l) (cases_of g k l) (sym_op k A) (sym_op l B)))
  with_left None e comes =
      subst (λ end. Decided (None ≡ transform_of g a b) end) (sym comes)
      (with_right_none (transform_of g a b) (right_comes None))
  with_left (Some p) e (x, stands, comes) =
      subst (λ end. Decided (Some p ≡ transform_of g a b) end) (sym comes)
      (with_right_some x p (transform_of g a b) stands (keeps f a b p e) refl (right_comes (Some x)))

  pub agreed_or_not :
      Decided (Agree f g a b) (ended (unless_agreed (cases_of f k l) (cases_of g k l) (sym_op k A) (sym_op l B)))
  agreed_or_not = with_left (transform_of f a b) refl left_comes

  pub difference_fails : Differs f g k l a b → ended (difference_goal f g k l) ≡ Some Operations
  difference_fails (meant, differ) =
      let both = unless_agreed (cases_of f k l) (cases_of g k l) (sym_op k A) (sym_op l B) in
      meant_pass at_most ends_guard ends_allowed asks_guard asks_allowed tests f k l v a b declared names both meant
      ∙ elim agreed_or_not [
        | inl (same, holds) ↦ absurd (differ same)
        | inr (other, fails) ↦ fails
      ]

  pub difference_sought : (why : Why) → ended (difference_goal f g k l) ≡ Some why → Differs f g k l a b
  difference_sought why e =
      let both = unless_agreed (cases_of f k l) (cases_of g k l) (sym_op k A) (sym_op l B) in
      let parts =
      passed_meant at_most ends_guard ends_allowed asks_guard asks_allowed tests f k l v a b
      declared names both why e in
      elim agreed_or_not [
        | inl (same, holds) ↦ (let clash : None ≡ Some why = sym holds ∙ parts.1 in absurd (cc))
        | inr (other, fails) ↦ (parts.0, other)
      ]

  -- where the plan does not fail, the functions agree
  pub difference_held : AreMeant f k l a b → ended (difference_goal f g k l) ≡ None → Agree f g a b
  difference_held meant e =
      let both = unless_agreed (cases_of f k l) (cases_of g k l) (sym_op k A) (sym_op l B) in
      let passes = meant_pass at_most ends_guard ends_allowed asks_guard asks_allowed tests f k l v a b
      declared names both meant in
      elim agreed_or_not [
        | inl (same, holds) ↦ same
        | inr (other, fails) ↦ (let clash : Some Operations ≡ None = sym fails ∙ (sym passes ∙ e) in absurd (cc))
      ]
