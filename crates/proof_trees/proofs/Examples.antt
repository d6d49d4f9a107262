-- The definitions on a small plan. It asks whether name 1 is at most name 2, holds at no, and at yes asks
-- something that changes nothing. Start 3 is behind both answers. It asks the first question again, holds at
-- yes, and fails at no.
use Rattle.std.proofs.Common.{◌≡◌, ℕ, pos, [], ◌∷◌, refl, Some, None, lit≤}
use Rattle.std.specs.Prelude.{if◌then◌else◌, nat_eq}
use Rattle.diff_graph.specs.declared.lit.Lit.{Lit}
use Rattle.ask_core.specs.Trees as answer
use Rattle.proof_trees.specs.Starts.{MarkedPlan, Ask, Holds, Fails, Comparison}
use Rattle.proof_trees.specs.Proofs.{ProofTree, Question, End, Impossible, Lemma, Citation, proof_of, learned, Shows}

-- name 1 is at most name 2, and name 3 is at most name 4
abbrev at_most : Lit
at_most = record { x = 1; y = 2; k = pos 0 }

abbrev other : Lit
other = record { x = 3; y = 4; k = pos 0 }

-- the plan of a start
abbrev start_plan : ℕ → MarkedPlan ℕ ℕ
start_plan s = Ask (Some s) at_most (Holds None) (Fails None 7)

-- the plan whose later start is this one
abbrev two_start_plan : ℕ → MarkedPlan ℕ ℕ
two_start_plan later = Ask None at_most (Ask None other (start_plan 3) (start_plan later)) (Holds None)

-- equal starts compare, under no conditions
abbrev equal : Comparison ℕ
equal s here = if nat_eq s here then Some [] else None

-- all starts compare, different ones where the other literal is met
abbrev alike : Comparison ℕ
alike s here = if nat_eq s here then Some [] else Some (other ∷ [])

-- what the lemma's own tree is: at no its own literal excludes the answer
abbrev lemma_tree : ProofTree
lemma_tree = Question End (Impossible (0 ∷ 1 ∷ []))

-- the lemma is shown at the first start, and cited there and at the later one. The list has the literal at number
-- 0 in both places, and its negation is number 2
abbrev citing : ProofTree → ProofTree
citing later = Question (Question (Lemma (at_most ∷ []) lemma_tree (Citation 0 ((0 ∷ 2 ∷ []) ∷ []))) later) End

-- the lemma is cited where it was shown, and at a later start that is equal
shows-cited_twice : Shows equal (citing (Citation 0 ((0 ∷ 2 ∷ []) ∷ []))) (two_start_plan 3) [] []
shows-cited_twice = (
  (
    (
      (lit≤ tt, lit≤ tt),
      (tt, (lit≤ tt, lit≤ tt, refl)),
      ((lit≤ tt, lit≤ tt, refl), tt),
    ),
    ((lit≤ tt, lit≤ tt, refl), tt),
  ),
  tt,
)

learned-once :
    learned (citing (Citation 0 ((0 ∷ 2 ∷ []) ∷ []))) (two_start_plan 3) []
    ≡ record { plan = start_plan 3; literals = at_most ∷ [] } ∷ []
learned-once = refl

-- a lemma that is shown within another one is known first
learned-inner_first :
    learned (Lemma (at_most ∷ []) (Lemma [] End End) End) (start_plan 3) []
    ≡ record { plan = start_plan 3; literals = [] } ∷ record { plan = start_plan 3; literals = at_most ∷ [] } ∷ []
learned-inner_first = refl

-- a citation needs a cycle for each literal
unshown-no_cycles : Shows equal (Citation 0 []) (start_plan 3) (at_most ∷ [])
    (record { plan = start_plan 3; literals = at_most ∷ [] } ∷ []) → ⊥
unshown-no_cycles shows = shows

-- a lemma cannot be cited within its own tree
unshown-within_itself : Shows equal (Lemma [] (Citation 0 []) End) (start_plan 3) [] [] → ⊥
unshown-within_itself shows = shows.1

-- where no start is no lemma is begun and none is cited
unshown-no_start : Shows {W = ℕ} equal (Lemma [] End End) (Holds None) [] [] → ⊥
unshown-no_start shows = shows.0

unshown-cited_at_no_start : Shows {W = ℕ} equal (Citation 0 []) (Holds None) []
    (record { plan = start_plan 3; literals = [] } ∷ []) → ⊥
unshown-cited_at_no_start shows = shows

-- a start that does not compare
unshown-other_start :
    Shows equal (Citation 0 ((0 ∷ 1 ∷ []) ∷ [])) (start_plan 5) (at_most ∷ [])
    (record { plan = start_plan 3; literals = at_most ∷ [] } ∷ []) → ⊥
unshown-other_start shows = shows

-- one that compares under a condition, which then needs its cycle too
shows-under_a_condition :
    Shows alike (Citation 0 ((0 ∷ 2 ∷ []) ∷ (1 ∷ 2 ∷ []) ∷ [])) (start_plan 5) (at_most ∷ other ∷ [])
    (record { plan = start_plan 3; literals = at_most ∷ [] } ∷ [])
shows-under_a_condition = ((lit≤ tt, lit≤ tt, refl), ((lit≤ tt, lit≤ tt, refl), tt))

unshown-condition_left_out :
    Shows alike (Citation 0 ((0 ∷ 2 ∷ []) ∷ [])) (start_plan 5) (at_most ∷ other ∷ [])
    (record { plan = start_plan 3; literals = at_most ∷ [] } ∷ []) → ⊥
unshown-condition_left_out shows = shows.1

-- a tree of a certificate shows the same plan, with the first question answered again at each start
abbrev answered_again : answer.AnswerTree
answered_again = answer.Question answer.End (answer.Impossible (0 ∷ 2 ∷ []))

shows-without_lemmas :
    Shows equal (proof_of (answer.Question (answer.Question answered_again answered_again) answer.End))
    (two_start_plan 5) [] []
shows-without_lemmas = (((tt, (lit≤ tt, lit≤ tt, refl)), (tt, (lit≤ tt, lit≤ tt, refl))), tt)
