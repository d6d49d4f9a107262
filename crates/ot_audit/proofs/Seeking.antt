-- What is sought is one.
use Rattle.std.proofs.Common.{◌≡◌, ℕ, ℤ, pos, List, [], length, Option, Some, None, MatchOption, refl, sym, ap, ◌∙◌}
use Rattle.std.proofs.Common.{subst, arith}
use Rattle.std.proofs.lemmas.Int.{ints}
use Rattle.diff_graph.specs.declared.lit.Lit.{Lit}
use Rattle.diff_tables.specs.Solutions.{valuation_of}
use Rattle.fn_rules.specs.declared.function.ObName.TheVariants as obligations
use Rattle.ot_model.specs.declared.op.Kind.{Kind}
use Rattle.ot_model.specs.declared.op.Op.{Op}
use Rattle.fn_rules.specs.Functions.{Function}
use Rattle.ask_core.specs.Questions.{Questions, FailingEnd}
use Rattle.ot_questions.specs.declared.why.Why.{Why}
use Rattle.ot_questions.specs.Names.{length_name}
use Rattle.ot_terms.specs.Goals.{GoalTree}
use Rattle.ot_values.specs.Values.{floors_of}
use Rattle.ot_audit.specs.declared.found.Sought.{Sought}
use Rattle.ot_audit.specs.declared.found.Sought.TheVariants as sought
use Rattle.ot_audit.specs.Findings.{IsLeastInstance, IsSoughtIn, TellsEnd}
use Rattle.ot_audit.proofs.One.{OneList, least_once, ops_once, within_and_longer}

same_count : (m n : ℕ) → pos m ≡ pos n → m ≡ n
same_count m n e = omega (arith, ints)

-- the length and the operations that the least values name are one
instance_once :
    (k l : Kind) (w : List Lit) (m n : ℕ) (a b c d : Op) → IsLeastInstance k l w m a b → IsLeastInstance k l w n c d
    → sought.At m a b ≡ sought.At n c d
instance_once k l w m n a b c d one other =
    let values =
    least_once w (floors_of (obligations.Pair k l)) one.ops.values other.ops.values one.ops.least other.ops.least in
    let cells : m ≡ n =
    same_count m n
    (one.length ∙ ap (λ (vs : List ℤ). valuation_of vs length_name) values ∙ sym other.length) in
    let ops = ops_once k l w a b c d one.ops other.ops in
    ap (λ (x : ℕ). sought.At x a b) cells ∙ ap (λ (o : Op). sought.At n o b) ops.0
    ∙ ap (λ (o : Op). sought.At n c o) ops.1

end_once :
    (k l : Kind) (o : Option (FailingEnd Why)) (m n : ℕ) (a b c d : Op)
    → MatchOption o ⊥ (λ e. IsLeastInstance k l e.answers m a b)
    → MatchOption o ⊥ (λ e. IsLeastInstance k l e.answers n c d) → sought.At m a b ≡ sought.At n c d
end_once k l None m n a b c d one other = absurd one
end_once k l (Some e) m n a b c d one other = instance_once k l e.answers m n a b c d one other

no_end :
    (k l : Kind) (o : Option (FailingEnd Why)) (m : ℕ) (a b : Op) → o ≡ None
    → MatchOption o ⊥ (λ e. IsLeastInstance k l e.answers m a b) → ⊥
no_end k l None m a b none is = is
no_end k l (Some e) m a b none is = absurd (cc)

-- two answers of one question list about its failing end
end_told_once :
    (k l : Kind) (budget : ℕ) (q : Questions Why) (one other : Sought) → TellsEnd k l budget q one
    → TellsEnd k l budget q other
    → one ≡ other
end_told_once k l budget q sought.Nowhere sought.Nowhere one other = refl
end_told_once k l budget q sought.Nowhere (sought.At n c d) one other =
    absurd (no_end k l q.failing n c d one.1 other.1)
end_told_once k l budget q sought.Nowhere sought.Spent one other =
    absurd (within_and_longer (length q.asked) budget one.0 other)
end_told_once k l budget q (sought.At m a b) sought.Nowhere one other =
    absurd (no_end k l q.failing m a b other.1 one.1)
end_told_once k l budget q (sought.At m a b) (sought.At n c d) one other =
    end_once k l q.failing m n a b c d one.1 other.1
end_told_once k l budget q (sought.At m a b) sought.Spent one other =
    absurd (within_and_longer (length q.asked) budget one.0 other)
end_told_once k l budget q sought.Spent sought.Nowhere one other =
    absurd (within_and_longer (length q.asked) budget other.0 one)
end_told_once k l budget q sought.Spent (sought.At n c d) one other =
    absurd (within_and_longer (length q.asked) budget other.0 one)
end_told_once k l budget q sought.Spent sought.Spent one other = refl

pub sought_once :
    OneList → (f : Function) (k l : Kind) (g : GoalTree) (budget : ℕ) (one other : Sought)
    → IsSoughtIn f k l g budget one
    → IsSoughtIn f k l g budget other → one ≡ other
sought_once one_list f k l g budget one other is so =
    let same : so.questions ≡ is.questions = one_list _ [] so.questions is.questions so.listed is.listed in
    end_told_once k l budget is.questions one other is.told
    (subst (λ (q : Questions Why). TellsEnd k l budget q other) same so.told)
