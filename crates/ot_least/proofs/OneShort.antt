-- A function has one shortest document, but for its certificate.
use Rattle.std.proofs.Common.{◌≡◌, ℕ, ℤ, pos, ◌≤ℤ◌, List, [], ◌∷◌, Option, Some, None, inl, inr, refl, sym, subst, ◌∙◌}
use Rattle.std.proofs.Common.{arith}
use Rattle.std.proofs.lemmas.Int.{ints}
use Rattle.diff_graph.specs.declared.lit.Lit.{Lit}
use Rattle.diff_tables.specs.Solutions.{valuation_of}
use Rattle.fn_rules.specs.declared.function.Level.TheVariants.{Tp2}
use Rattle.fn_rules.specs.declared.function.ObName.{ObName}
use Rattle.fn_rules.specs.Functions.{Function}
use Rattle.fn_rules.specs.Obligations.{level_of, obligations_of}
use Rattle.ot_questions.specs.declared.why.Why.{Why}
use Rattle.ot_questions.specs.Names.{length_name}
use Rattle.ot_questions.specs.Obligation.{plan_below, plan_of}
use Rattle.ot_decide.specs.Verdicts.{AreAsked, FailingOb, ObQuestions, failing_in}
use Rattle.ot_least.specs.declared.short.Short.{Short}
use Rattle.ot_least.specs.declared.short.Short.TheVariants.{Fine, Least, TooLong, Spent}
use Rattle.ot_bound.specs.Lows.{parts_of}
use Rattle.ot_least.proofs.Shorter.{has_length}
use Rattle.ot_least.specs.Shortest.{AreAlikeAnswers, BeginsTurns, Comes, EndHasCells, Falls, HasCells, IsShort}
use Rattle.ot_least.specs.Shortest.{TellsLeast, behind_first}

same_number : (a b : ℤ) (n m : ℕ) → a ≤ℤ b → b ≤ℤ a → a ≡ pos n → b ≡ pos m → n ≡ m
same_number a b n m low high one other = omega (arith, ints)

-- the least values give one length
cells_once : (ob : ObName) (w : List Lit) (n m : ℕ) → HasCells ob w n → HasCells ob w m → n ≡ m
cells_once ob w n m (values, least, is) (others, lowest, are) =
    same_number (valuation_of values length_name) (valuation_of others length_name) n m
    (least.least (valuation_of others) lowest.zero_first lowest.met lowest.above length_name (has_length ob))
    (lowest.least (valuation_of values) least.zero_first least.met least.above length_name (has_length ob)) is are

end_once : (o : Option (FailingOb Why)) (x y : FailingOb Why) → o ≡ Some x → o ≡ Some y → x ≡ y
end_once o x y first second = cc

some_or_none : (o : Option (FailingOb Why)) (x : FailingOb Why) → o ≡ None → o ≡ Some x → ⊥
some_or_none o x none some = cc

-- question lists come to one thing
comes_once :
    {Goal S T H I : Type 0} (E D : FailingOb Why → ℕ → Type 0) (budget : ℕ) (lists : List (ObQuestions Why))
    → (S → T → Goal) → (H → I → Goal) → ((end : FailingOb Why) (n m : ℕ) → E end n → D end m → Goal)
    → Comes budget lists S H E → Comes budget lists T I D → Goal
comes_once E D budget lists spends holds ends (inl (more, s)) (inl (_, t)) = spends s t
comes_once E D budget lists spends holds ends (inl (more, s)) (inr (inl (few, none, i))) =
    absurd (omega (arith, more, few))
comes_once E D budget lists spends holds ends (inl (more, s)) (inr (inr (few, rest))) =
    absurd (omega (arith, more, few))
comes_once E D budget lists spends holds ends (inr (inl (few, none, h))) (inl (more, t)) =
    absurd (omega (arith, more, few))
comes_once E D budget lists spends holds ends (inr (inl (few, none, h))) (inr (inl (_, _, i))) = holds h i
comes_once E D budget lists spends holds ends (inr (inl (few, none, h))) (inr (inr (_, (end, n, some, d)))) =
    absurd (some_or_none (failing_in lists) end none some)
comes_once E D budget lists spends holds ends (inr (inr (few, rest))) (inl (more, t)) =
    absurd (omega (arith, more, few))
comes_once E D budget lists spends holds ends (inr (inr (few, (end, n, some, e)))) (inr (inl (_, none, i))) =
    absurd (some_or_none (failing_in lists) end none some)
comes_once E D budget lists spends holds ends (inr (inr (few, (end, n, some, e))))
    (inr (inr (_, (other, m, also, d)))) =
    let same : other ≡ end = end_once (failing_in lists) other end also some in
    ends end n m e (subst (λ (x : FailingOb Why). D x m) same d)

alike_self : (a : Short) → AreAlikeAnswers a a
alike_self Fine = refl
alike_self (Least ob answers why cells cert) = (refl, refl)
alike_self TooLong = refl
alike_self Spent = refl

alike : (a b : Short) → a ≡ b → AreAlikeAnswers a b
alike a b same = subst (λ (x : Short). AreAlikeAnswers a x) same (alike_self a)

-- question lists tell one answer, but for its certificate
tells_once :
    (f : Function) (end : FailingOb Why) (cells : ℕ) (lists : List (ObQuestions Why)) (a b : Short)
    → TellsLeast f end cells lists a
    → TellsLeast f end cells lists b → AreAlikeAnswers a b
tells_once f end cells lists (Least ob answers why n cert) (Least other others cause m bytes) one two =
    (one.0 ∙ sym two.0, one.1 ∙ sym two.1)
tells_once f end cells lists (Least ob answers why n cert) Fine one two = absurd two
tells_once f end cells lists (Least ob answers why n cert) TooLong one two = absurd two
tells_once f end cells lists (Least ob answers why n cert) Spent one two = absurd two
tells_once f end cells lists Fine b one two = absurd one
tells_once f end cells lists TooLong b one two = absurd one
tells_once f end cells lists Spent b one two = absurd one

-- there is one list of question lists
abbrev pub OneList : Type 0
OneList =
    (f : Function) (below : Option ℕ) (obs : List ObName) (lists others : List (ObQuestions Why))
    → AreAsked (plan_below f below) obs lists
    → AreAsked (plan_below f below) obs others → lists ≡ others

module _ (one_list : OneList) (f : Function) (budget : ℕ) where
  -- from one failing end on there is one answer
  falls_once :
      (turns others : List (List (ObQuestions Why))) (end : FailingOb Why) (cells : ℕ) (a b : Short)
      → Falls f budget end cells turns a → Falls f budget end cells others b → AreAlikeAnswers a b
  falls_once [] others end cells a b falls also = absurd falls
  falls_once (lists ∷ turns) [] end cells a b falls also = absurd also
  falls_once (lists ∷ turns) (more ∷ others) end cells a b (asked, comes) (asked', comes') =
      let same : more ≡ lists = one_list f (Some cells) (parts_of f.head (level_of end.ob)) more lists asked' asked in
      comes_once
      (λ next n. EndHasCells (behind_first next) n × Falls f budget (behind_first next) n turns a)
      (λ next m. EndHasCells (behind_first next) m × Falls f budget (behind_first next) m others b)
      budget lists (λ s t. alike a b (s ∙ sym t)) (tells_once f end cells lists a b)
      (λ next n m one two.
      let count : m ≡ n = cells_once next.ob (behind_first next).end.answers m n two.0 one.0 in
      falls_once turns others (behind_first next) n a b one.1
      (subst (λ (k : ℕ). Falls f budget (behind_first next) k others b) count two.1))
      comes
      (subst
      (λ (l : List (ObQuestions Why)). Comes budget l (b ≡ Spent) (TellsLeast f end cells l b)
      (λ next m. EndHasCells (behind_first next) m × Falls f budget (behind_first next) m others b))
      same comes')

  begins_once : (end : FailingOb Why) (cells : ℕ) (a b : Short) → BeginsTurns f budget end cells a
      → BeginsTurns f budget end cells b → AreAlikeAnswers a b
  begins_once end cells a b (inl (long, is)) (inl (_, are)) = alike a b (is ∙ sym are)
  begins_once end cells a b (inl (long, is)) (inr (short, rest)) = absurd (omega (arith, long, short))
  begins_once end cells a b (inr (short, rest)) (inl (long, is)) = absurd (omega (arith, long, short))
  begins_once end cells a b (inr (short, (turns, falls))) (inr (_, (others, also))) =
      falls_once turns others end cells a b falls also

  module _ (one_first : (obs : List ObName) (lists others : List (ObQuestions Why)) → AreAsked (plan_of f) obs lists
      → AreAsked (plan_of f) obs others → lists ≡ others) where
    -- a function has one answer on its shortest document, but for its certificate
    pub short_once : (a b : Short) → IsShort f budget a → IsShort f budget b → AreAlikeAnswers a b
    short_once a b (lists, asked, comes) (more, asked', comes') =
        let same : more ≡ lists = one_first (obligations_of f.head Tp2) more lists asked' asked in
        comes_once
        (λ end n. EndHasCells end n × BeginsTurns f budget end n a) (λ end m. EndHasCells end m
        × BeginsTurns f budget end m b) budget lists (λ s t. alike a b (s ∙ sym t)) (λ s t. alike a b (s ∙ sym t))
        (λ end n m one two.
        let count : m ≡ n = cells_once end.ob end.end.answers m n two.0 one.0 in
        begins_once end n a b one.1 (subst (λ (k : ℕ). BeginsTurns f budget end k b) count two.1))
        comes
        (subst
        (λ (l : List (ObQuestions Why)). Comes budget l (b ≡ Spent) (b ≡ Fine)
        (λ end m. EndHasCells end m × BeginsTurns f budget end m b)) same comes')
