-- What is answered is one.
use Rattle.std.proofs.Common.{◌≡◌, ℕ, ◌+◌, ◌<◌, ◌≤◌, ℤ, pos, ◌≤ℤ◌, Option, Some, None, List, [], ◌∷◌, length}
use Rattle.std.proofs.Common.{MatchOption, refl, sym, ap, ◌∙◌, subst, inl, inr, arith}
use Rattle.std.proofs.lemmas.Bool.Decides.{leb_tells}
use Rattle.std.proofs.lemmas.Int.{ints}
use Rattle.std.proofs.lemmas.List.{ext_get_or}
use Rattle.diff_graph.specs.declared.lit.Lit.{Lit}
use Rattle.diff_tables.specs.Solutions.{AreLeast, valuation_of}
use Rattle.ot_model.specs.declared.op.Kind.{Kind}
use Rattle.ot_model.specs.declared.op.Op.{Op}
use Rattle.fn_rules.specs.declared.function.ObName.TheVariants as obligations
use Rattle.fn_rules.specs.Functions.{Function, cases_of}
use Rattle.fn_rules.specs.Obligations.{declared_pairs}
use Rattle.ask_core.specs.Plans.{Plan}
use Rattle.ask_core.specs.Questions.{Questions, FailingEnd, QuestionList}
use Rattle.ot_questions.specs.declared.name.Who.TheVariants.{A, B}
use Rattle.ot_questions.specs.declared.why.Why.{Why}
use Rattle.ot_questions.specs.Meaning.{op_at}
use Rattle.ot_questions.specs.Places.{sym_op}
use Rattle.ot_terms.specs.Goals.{GoalTree}
use Rattle.ot_values.specs.Values.{floors_of}
use Rattle.ot_audit.specs.declared.audits.Audit.{Audit}
use Rattle.ot_audit.specs.declared.audits.Audit.TheVariants as audits
use Rattle.ot_audit.specs.declared.audits.BlockAudit.{BlockAudit}
use Rattle.ot_audit.specs.declared.audits.Same.{Same}
use Rattle.ot_audit.specs.declared.found.Agree.{Agree}
use Rattle.ot_audit.specs.declared.found.Agree.TheVariants as agrees
use Rattle.ot_audit.specs.declared.found.Found.{Found}
use Rattle.ot_audit.specs.declared.found.Found.TheVariants.{Never, Pair, Spent}
use Rattle.ot_audit.specs.declared.target.Target.{Target}
use Rattle.ot_audit.specs.declared.target.Target.TheVariants.{Case, Open}
use Rattle.ot_audit.specs.Answers.{IsAgreedAs, IsReachedAs, TellsFunctions, finding_of}
use Rattle.ot_audit.specs.Audits.{AreAudits, AreCases, AreCompared, GoesOnWhereSame, HasLong, IsAuditedAs, IsBlockAudit}
use Rattle.ot_audit.specs.Audits.{IsComparedAs, IsLong, found_of}
use Rattle.ot_audit.specs.Findings.{AreLeastOps, IsFoundIn, TellsList}
use Rattle.ot_audit.specs.Goals.{IsTargetOf}

-- what the law of question lists says
abbrev pub OneList : Type 0
OneList = (p : Plan Why) (w : List Lit) (q r : Questions Why) → QuestionList p w q → QuestionList p w r → q ≡ r

-- integers that are no higher than each other are one
no_higher : (a b : ℤ) → a ≤ℤ b → b ≤ℤ a → a ≡ b
no_higher a b low high = omega (arith, ints)

-- the least values are one
pub least_once : (w : List Lit) (floors values others : List ℤ) → AreLeast w floors values
    → AreLeast w floors others → values ≡ others
least_once w floors values others one other =
    ext_get_or (pos 0) values others (one.len ∙ sym other.len)
    (λ x few.
    let is : length values ≡ length floors = one.len in
    let named : x < length floors = omega (arith, few, is) in
    no_higher (valuation_of values x) (valuation_of others x)
    (one.least (valuation_of others) other.zero_first other.met other.above x named)
    (other.least (valuation_of values) one.zero_first one.met one.above x named))

-- and so are the operations that they name
pub ops_once : (k l : Kind) (w : List Lit) (a b c d : Op) → AreLeastOps k l w a b
    → AreLeastOps k l w c d → (a ≡ c) × (b ≡ d)
ops_once k l w a b c d one other =
    let same : one.values ≡ other.values =
    least_once w (floors_of (obligations.Pair k l)) one.values other.values one.least other.least in (
      one.first ∙ ap (λ (values : List ℤ). op_at (valuation_of values) (sym_op k A)) same ∙ sym other.first,
      one.second ∙ ap (λ (values : List ℤ). op_at (valuation_of values) (sym_op l B)) same ∙ sym other.second,
    )

pair_of : (a b c d : Op) → (a ≡ c) × (b ≡ d) → Pair a b ≡ Pair c d
pair_of a b c d (first, second) = ap (λ (o : Op). Pair o b) first ∙ ap (λ (o : Op). Pair c o) second

end_once :
    (k l : Kind) (o : Option (FailingEnd Why)) (a b c d : Op) → MatchOption o ⊥ (λ e. AreLeastOps k l e.answers a b)
    → MatchOption o ⊥ (λ e. AreLeastOps k l e.answers c d) → Pair a b ≡ Pair c d
end_once k l None a b c d one other = absurd one
end_once k l (Some e) a b c d one other = pair_of a b c d (ops_once k l e.answers a b c d one other)

-- a list has a failing end, or it has none
no_end :
    (k l : Kind) (o : Option (FailingEnd Why)) (a b : Op) → o ≡ None
    → MatchOption o ⊥ (λ e. AreLeastOps k l e.answers a b) → ⊥
no_end k l None a b none ops = ops
no_end k l (Some e) a b none ops = absurd (cc)

pub within_and_longer : (n budget : ℕ) → n ≤ budget → budget < n → ⊥
within_and_longer n budget within longer = omega arith

-- two answers of one question list
told_once :
    (k l : Kind) (budget : ℕ) (q : Questions Why) (one other : Found) → TellsList k l budget q one
    → TellsList k l budget q other
    → one ≡ other
told_once k l budget q Never Never one other = refl
told_once k l budget q Never (Pair c d) one other = absurd (no_end k l q.failing c d one.1 other.1)
told_once k l budget q Never Spent one other = absurd (within_and_longer (length q.asked) budget one.0 other)
told_once k l budget q (Pair a b) Never one other = absurd (no_end k l q.failing a b other.1 one.1)
told_once k l budget q (Pair a b) (Pair c d) one other = end_once k l q.failing a b c d one.1 other.1
told_once k l budget q (Pair a b) Spent one other = absurd (within_and_longer (length q.asked) budget one.0 other)
told_once k l budget q Spent Never one other = absurd (within_and_longer (length q.asked) budget other.0 one)
told_once k l budget q Spent (Pair c d) one other = absurd (within_and_longer (length q.asked) budget other.0 one)
told_once k l budget q Spent Spent one other = refl

-- two answers on a block, of one finding
agreement_once :
    (f g : Function) (k l : Kind) (one other : Agree) → finding_of one ≡ finding_of other → TellsFunctions f g k l one
    → TellsFunctions f g k l other → one ≡ other
agreement_once f g k l agrees.Same agrees.Same same one other = refl
agreement_once f g k l agrees.Same (agrees.Pair c d left right) same one other = absurd (cc)
agreement_once f g k l agrees.Same agrees.Spent same one other = absurd (cc)
agreement_once f g k l (agrees.Pair a b left right) agrees.Same same one other = absurd (cc)
agreement_once f g k l (agrees.Pair a b left right) (agrees.Pair c d on_left on_right) same one other =
    let first : a ≡ c = cc in
    let second : b ≡ d = cc in
    let is_left = one.1 in
    let is_right = one.2 in
    let other_left = other.1 in
    let other_right = other.2 in
    cc
agreement_once f g k l (agrees.Pair a b left right) agrees.Spent same one other = absurd (cc)
agreement_once f g k l agrees.Spent agrees.Same same one other = absurd (cc)
agreement_once f g k l agrees.Spent (agrees.Pair c d left right) same one other = absurd (cc)
agreement_once f g k l agrees.Spent agrees.Spent same one other = refl

-- two operations or none, by the finding
found_of_once : (x y : Option (Op × Op)) → found_of x ≡ found_of y → x ≡ y
found_of_once None None same = refl
found_of_once None (Some y) same = absurd (cc)
found_of_once (Some x) None same = absurd (cc)
found_of_once (Some x) (Some y) same =
    let first : x.0 ≡ y.0 = cc in
    let second : x.1 ≡ y.1 = cc in
    λ i. Some (first i, second i)

not_spent : (x : Option (Op × Op)) → Spent ≡ found_of x → ⊥
not_spent None same = cc
not_spent (Some x) same = cc

block_once : (x y : BlockAudit) → x.first ≡ y.first → x.second ≡ y.second → x.cases ≡ y.cases → x.gap ≡ y.gap → x ≡ y
block_once x y first second cases gap = λ i. record { first = first i; second = second i; cases = cases i; gap = gap i }

module _ (one_list : OneList) where
  found_once :
      (f : Function) (k l : Kind) (g : GoalTree) (budget : ℕ) (one other : Found) → IsFoundIn f k l g budget one
      → IsFoundIn f k l g budget other → one ≡ other
  found_once f k l g budget one other is so =
      let same : so.questions ≡ is.questions = one_list _ [] so.questions is.questions so.listed is.listed in
      told_once k l budget is.questions one other is.told
      (subst (λ (q : Questions Why). TellsList k l budget q other) same so.told)

  pub reached_once :
      (f : Function) (k l : Kind) (target : Target) (budget : ℕ) (one other : Found)
      → IsReachedAs f k l target budget one
      → IsReachedAs f k l target budget other → one ≡ other
  reached_once f k l target budget one other is so = found_once f k l _ budget one other is.searched so.searched

  pub agreed_once :
      (f g : Function) (k l : Kind) (budget : ℕ) (one other : Agree) → IsAgreedAs f g k l budget one
      → IsAgreedAs f g k l budget other → one ≡ other
  agreed_once f g k l budget one other is so =
      agreement_once f g k l one other
      (found_once f k l _ budget (finding_of one) (finding_of other) is.searched so.searched) is.tells so.tells

  module _ (f : Function) (budget : ℕ) where
    -- two lists of answers about the cases of a block
    cases_once :
        (k l : Kind) (i : ℕ) (xs ys : List (Option (Op × Op))) → length xs ≡ length ys → AreCases f k l budget i xs
        → AreCases f k l budget i ys → xs ≡ ys
    cases_once k l i [] [] len is so = refl
    cases_once k l i [] (y ∷ ys) len is so = absurd (omega arith)
    cases_once k l i (x ∷ xs) [] len is so = absurd (omega arith)
    cases_once k l i (x ∷ xs) (y ∷ ys) len is so =
        let first : x ≡ y =
        found_of_once x y (reached_once f k l (Case i) budget (found_of x) (found_of y) is.0 so.0) in
        let others : xs ≡ ys = cases_once k l (i + 1) xs ys (omega arith) is.1 so.1 in
        cc

    block_audit_once : (block : Kind × Kind) (x y : BlockAudit) → IsBlockAudit f budget block x
        → IsBlockAudit f budget block y → x ≡ y
    block_audit_once block x y is so =
        block_once x y (is.first ∙ sym so.first) (is.second ∙ sym so.second)
        (cases_once block.0 block.1 0 x.cases y.cases (is.count ∙ sym so.count) is.cases so.cases)
        (found_of_once x.gap y.gap
        (reached_once f block.0 block.1 Open budget (found_of x.gap) (found_of y.gap) is.gap so.gap))

    audits_once : (blocks : List (Kind × Kind)) (xs ys : List BlockAudit) → AreAudits f budget blocks xs
        → AreAudits f budget blocks ys → xs ≡ ys
    audits_once [] [] [] is so = refl
    audits_once [] [] (y ∷ ys) is so = absurd so
    audits_once [] (x ∷ xs) ys is so = absurd is
    audits_once (block ∷ blocks) [] ys is so = absurd is
    audits_once (block ∷ blocks) (x ∷ xs) [] is so = absurd so
    audits_once (block ∷ blocks) (x ∷ xs) (y ∷ ys) is so =
        let first : x ≡ y = block_audit_once block x y is.0 so.0 in
        let others : xs ≡ ys = audits_once blocks xs ys is.1 so.1 in
        cc

    -- the case of a number is among those from a number on
    case_in :
        (k l : Kind) (i j : ℕ) (xs : List (Option (Op × Op))) → AreCases f k l budget i xs → i ≤ j → j < i + length xs
        → (x : Option (Op × Op)) × IsReachedAs f k l (Case j) budget (found_of x)
    case_in k l i j [] is low high = absurd (omega arith)
    case_in k l i j (x ∷ xs) is low high = elim (leb_tells j i) [
      | inl (_, here) ↦
          (x, subst (λ (n : ℕ). IsReachedAs f k l (Case n) budget (found_of x)) (omega (arith, here, low)) is.0)
      | inr (_, behind) ↦ case_in k l (i + 1) j xs is.1 (omega (arith, behind)) (omega (arith, high))
    ]

    -- no target of a block that was audited has more questions
    not_long : (block : Kind × Kind) (x : BlockAudit) → IsBlockAudit f budget block x → IsLong f budget block → ⊥
    not_long block x is long = not_long_at long.target long.there long.spent
      where
        not_long_at :
            (target : Target) → IsTargetOf (length (cases_of f block.0 block.1)) target
            → IsReachedAs f block.0 block.1 target budget Spent → ⊥
        not_long_at (Case j) there spent =
            let count : length x.cases ≡ length (cases_of f block.0 block.1) = is.count in
            let at = case_in block.0 block.1 0 j x.cases is.cases (omega arith) (omega (arith, there, count)) in
            not_spent at.0 (reached_once f block.0 block.1 (Case j) budget Spent (found_of at.0) spent at.1)
        not_long_at Open there spent =
            not_spent x.gap (reached_once f block.0 block.1 Open budget Spent (found_of x.gap) spent is.gap)

    none_long : (blocks : List (Kind × Kind)) (xs : List BlockAudit) → AreAudits f budget blocks xs
        → HasLong f budget blocks → ⊥
    none_long [] xs is long = long
    none_long (block ∷ blocks) [] is long = is
    none_long (block ∷ blocks) (x ∷ xs) is (inl long) = not_long block x is.0 long
    none_long (block ∷ blocks) (x ∷ xs) is (inr behind) = none_long blocks xs is.1 behind

    pub audited_once : (one other : Audit) → IsAuditedAs f budget one → IsAuditedAs f budget other → one ≡ other
    audited_once (audits.Blocks xs) (audits.Blocks ys) is so =
        ap (λ (l : List BlockAudit). audits.Blocks l) (audits_once (declared_pairs f.head) xs ys is so)
    audited_once (audits.Blocks xs) audits.Spent is so = absurd (none_long (declared_pairs f.head) xs is so)
    audited_once audits.Spent (audits.Blocks ys) is so = absurd (none_long (declared_pairs f.head) ys so is)
    audited_once audits.Spent audits.Spent is so = refl

  goes_once :
      (block : Kind × Kind) (agree : Agree) (Behind : Same → Type 0)
      → ((one other : Same) → Behind one → Behind other → one ≡ other)
      → (one other : Same) → GoesOnWhereSame block agree Behind one
      → GoesOnWhereSame block agree Behind other → one ≡ other
  goes_once block agrees.Same Behind once one other is so = once one other is so
  goes_once block (agrees.Pair a b left right) Behind once one other is so = is ∙ sym so
  goes_once block agrees.Spent Behind once one other is so = is ∙ sym so

  blocks_once :
      (f g : Function) (budget : ℕ) (blocks : List (Kind × Kind)) (one other : Same) → AreCompared f g budget blocks one
      → AreCompared f g budget blocks other → one ≡ other
  blocks_once f g budget [] one other is so = is ∙ sym so
  blocks_once f g budget (block ∷ blocks) one other (agree, is, goes) (another, so, also) =
      let same : another ≡ agree = agreed_once f g block.0 block.1 budget another agree so is in
      goes_once block agree (AreCompared f g budget blocks) (blocks_once f g budget blocks) one other goes
      (subst (λ (a : Agree). GoesOnWhereSame block a (AreCompared f g budget blocks) other) same also)

  pub compared_once :
      (f g : Function) (budget : ℕ) (one other : Same) → IsComparedAs f g budget one
      → IsComparedAs f g budget other → one ≡ other
  compared_once f g budget one other (inl (differ, is)) (inl (also, so)) = is ∙ sym so
  compared_once f g budget one other (inl (differ, is)) (inr (heads, so)) = absurd (differ heads)
  compared_once f g budget one other (inr (heads, is)) (inl (differ, so)) = absurd (differ heads)
  compared_once f g budget one other (inr (heads, is)) (inr (also, so)) =
      blocks_once f g budget (declared_pairs f.head) one other is so
