-- Every plan keeps the limits of plans.
use Rattle.std.proofs.Common.{◌≡◌, ℕ, ◌+◌, ◌*◌, ◌^◌, ◌<◌, ◌≤◌, true, List, length, refl, arith, lit<, lit≤}
use Rattle.std.proofs.Math.Nat.{pow-le-pow_right}
use Rattle.std.proofs.lemmas.Bool.{and_from}
use Rattle.diff_graph.specs.declared.lit.Lit.{Lit}
use Rattle.ot_model.specs.declared.op.Kind.{Kind}
use Rattle.fn_rules.specs.declared.function.ObName.{ObName}
use Rattle.fn_rules.specs.declared.function.ObName.TheVariants.{Pair, Triple}
use Rattle.fn_rules.specs.Functions.{Function, cases_of}
use Rattle.fn_rules.specs.Validity.{is_valid}
use Rattle.fn_rules.specs.Atoms.{block_atoms, function_atoms}
use Rattle.fn_rules.proofs.AtomCounts.{block_atoms-function, block_atoms-valid}
use Rattle.ask_core.specs.Plans.{Plan, Ask, Holds, Fails}
use Rattle.ask_core.specs.Askers.{has_fine_literals, longest_path, IsFine}
use Rattle.ask_core.specs.Questions.{Questions, QuestionList}
use Rattle.ot_questions.specs.declared.why.Why.{Why}
use Rattle.ot_questions.specs.Names.{name_count}
use Rattle.ot_questions.specs.Obligation.{plan_of}
use Rattle.ot_questions.specs.Asked.{AllAsked, IsKept}
use Rattle.ot_questions.proofs.Found.{AsksOfKnown, known_at_first}
use Rattle.ot_questions.proofs.Walks.{IsWalked, walked_more}
use Rattle.ot_questions.proofs.WholePlans.{pair_walked, triple_walked}

-- good questions are fine
pub fine_questions : (count : ℕ) (p : Plan Why) → AllAsked count p → has_fine_literals count p ≡ true
fine_questions count (Ask lit on_yes on_no) h =
    and_from _ _ (and_from _ _ h.0.fine (fine_questions count on_yes h.1)) (fine_questions count on_no h.2)
fine_questions count Holds h = refl
fine_questions count (Fails why) h = refl

-- the most questions on a path of the obligation, where no block has more atoms than so many: a pair asks two
-- transformations and a triple six, and each atom asks at most two literals
most_asked : ObName → ℕ → ℕ
most_asked (Pair k l) atoms = 4 * atoms + 25
most_asked (Triple k l m) atoms = 12 * atoms + 21

-- what is shown of the plan of an obligation, by the atoms of the blocks
plan_walked :
    (f : Function) (ob : ObName) (atoms : ℕ) → is_valid f ≡ true → ((k l : Kind) → block_atoms (cases_of f k l) ≤ atoms)
    → IsWalked (name_count ob) known_at_first (most_asked ob atoms) (plan_of f ob)
unfolding most_asked
plan_walked f (Pair k l) atoms valid few =
    walked_more 9 known_at_first (4 * atoms + 16 + 4 + 1 + 1 + 1 + 1 + 1) (4 * atoms + 25) (plan_of f (Pair k l))
    (omega arith) (pair_walked f valid atoms few k l)
plan_walked f (Triple k l m) atoms valid few =
    walked_more 12 known_at_first (2 + 6 * atoms + 6 * atoms + 4 + 4 + 4 + 1 + 1 + 1 + 1 + 1 + 1 + 1) (12 * atoms + 21)
    (plan_of f (Triple k l m)) (omega arith) (triple_walked f valid atoms few k l m)

-- no block has more atoms than the function
pub blocks_within : (f : Function) (k l : Kind) → block_atoms (cases_of f k l) ≤ function_atoms f
blocks_within f k l = block_atoms-function f k l

-- each of its questions is good, and is asked of names that are known
pub plan_asked :
    (f : Function) (ob : ObName) → is_valid f ≡ true
    → (count : ℕ) × AllAsked count (plan_of f ob) × AsksOfKnown known_at_first (plan_of f ob)
plan_asked f ob valid =
    let walked = plan_walked f ob (function_atoms f) valid (blocks_within f) in
    (name_count ob, walked.kept.asked, walked.of_known)

-- what is kept of it
kept_by_atoms :
    (f : Function) (ob : ObName) (atoms : ℕ) → is_valid f ≡ true → ((k l : Kind) → block_atoms (cases_of f k l) ≤ atoms)
    → IsKept (name_count ob) (most_asked ob atoms) (plan_of f ob)
kept_by_atoms f ob atoms valid few = (plan_walked f ob atoms valid few).kept

most_within_limits : (ob : ObName) → most_asked ob 1024 ≤ 12309
unfolding most_asked
most_within_limits (Pair k l) = lit≤ tt
most_within_limits (Triple k l m) = lit≤ tt

most_by_atoms : (ob : ObName) (atoms : ℕ) → most_asked ob atoms ≤ 12 * atoms + 40
unfolding most_asked
most_by_atoms (Pair k l) atoms = omega arith
most_by_atoms (Triple k l m) atoms = omega arith

-- what is kept of it within the limits
pub plan_kept : (f : Function) (ob : ObName) → is_valid f ≡ true → IsKept (name_count ob) 12309 (plan_of f ob)
plan_kept f ob valid =
    let kept = kept_by_atoms f ob 1024 valid (λ k l. block_atoms-valid f k l valid) in
    let short = kept.short in
    let most = most_within_limits ob in
    record { asked = kept.asked; short = omega arith }

pub short_by_atoms :
    (f : Function) (ob : ObName) → is_valid f ≡ true → longest_path (plan_of f ob) ≤ 12 * function_atoms f + 40
short_by_atoms f ob valid =
    let kept = kept_by_atoms f ob (function_atoms f) valid (blocks_within f) in
    let short = kept.short in
    let most = most_by_atoms ob (function_atoms f) in
    omega arith

pub short_plans : (f : Function) (ob : ObName) → is_valid f ≡ true → longest_path (plan_of f ob) ≤ 12309
short_plans f ob valid = (plan_kept f ob valid).short

pub plans_are_fine : (f : Function) (ob : ObName) → is_valid f ≡ true → IsFine (name_count ob) (plan_of f ob)
plans_are_fine f ob valid =
    let kept = plan_kept f ob valid in
    let short = kept.short in
    record { literals = fine_questions (name_count ob) (plan_of f ob) kept.asked; paths = omega arith }

-- question lists are shorter than two to the longest path
abbrev pub ListsAreBounded : Type 0
ListsAreBounded =
    (p : Plan Why) (w : List Lit) (q : Questions Why) → QuestionList p w q → length q.asked < 2 ^ longest_path p

pub few_questions :
    (f : Function) (ob : ObName) (w : List Lit) (q : Questions Why) → ListsAreBounded → is_valid f ≡ true
    → QuestionList (plan_of f ob) w q → length q.asked ≤ 2 ^ (12 * function_atoms f + 40)
few_questions f ob w q bounded valid list =
    let shorter = bounded (plan_of f ob) w q list in
    let higher : 2 ^ longest_path (plan_of f ob) ≤ 2 ^ (12 * function_atoms f + 40) =
    pow-le-pow_right {n = 2} (lit< tt) {i = longest_path (plan_of f ob)} {j = 12 * function_atoms f + 40}
    (short_by_atoms f ob valid) in
    omega arith
