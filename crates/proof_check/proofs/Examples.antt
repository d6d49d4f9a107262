-- The tokens of one proof, each at what the tokens before it left. The plan asks whether name 1 is at most name 2,
-- holds at no, and at yes asks something that changes nothing. A start is behind both answers. It asks the first
-- question again, holds at yes, and fails at no.
use Rattle.std.proofs.Common.{◌≡◌, ℕ, pos, negsuc, List, [], ◌∷◌, refl, Result, Ok, Err, Some, None}
use Rattle.std.specs.Prelude.{if◌then◌else◌, nat_eq}
use Rattle.diff_graph.specs.declared.lit.Lit.{Lit}
use Rattle.cert_check.specs.declared.verdict.CheckError.TheVariants as check
use Rattle.proof_trees.specs.declared.token.ProofTok.TheVariants as token
use Rattle.proof_trees.specs.Starts.{MarkedPlan, Ask, Holds, Fails, Comparison}
use Rattle.proof_trees.specs.Proofs.{Learned}
use Rattle.proof_trees.specs.Tokens.{Wanted, Tree, Cycle, Learn}
use Rattle.proof_check.specs.declared.verdict.ProofError.{ProofError}
use Rattle.proof_check.specs.declared.verdict.ProofError.TheVariants as error
use Rattle.proof_check.specs.Steps.{Standing, after_proof_token}

-- name 1 is at most name 2, and its negation; name 3 is at most name 4, and its negation
abbrev at_most : Lit
at_most = record { x = 1; y = 2; k = pos 0 }

abbrev above : Lit
above = record { x = 2; y = 1; k = negsuc 0 }

abbrev other : Lit
other = record { x = 3; y = 4; k = pos 0 }

abbrev not_other : Lit
not_other = record { x = 4; y = 3; k = negsuc 0 }

-- the plan of a start
abbrev start_plan : ℕ → MarkedPlan ℕ ℕ
start_plan s = Ask (Some s) at_most (Holds None) (Fails None 7)

-- all starts compare, different ones where the other literal is met
abbrev alike : Comparison ℕ
alike s here = if nat_eq s here then Some [] else Some (other ∷ [])

-- only equal starts compare
abbrev equal : Comparison ℕ
equal s here = if nat_eq s here then Some [] else None

abbrev standing : List (Learned ℕ ℕ) → List (Wanted ℕ ℕ) → Result (Standing ℕ ℕ) ProofError
standing known wanted = Ok (record { known = known; wanted = wanted })

-- the lemma of start 3 under the first literal
abbrev lemma : Learned ℕ ℕ
lemma = record { plan = start_plan 3; literals = at_most ∷ [] }

-- a lemma is begun: its own tree, under its own literal alone, then it is known, then the place goes on
after-lemma :
    after_proof_token alike (token.Lemma (at_most ∷ [])) [] (Tree (start_plan 3) (at_most ∷ other ∷ []) ∷ [])
    ≡ standing []
    (Tree (start_plan 3) (at_most ∷ []) ∷ Learn (start_plan 3) (at_most ∷ [])
    ∷ Tree (start_plan 3) (at_most ∷ other ∷ []) ∷ [])
after-lemma = refl

-- the last token of its tree makes it known; the cycle is one of its own list
after-last_of_the_lemma :
    after_proof_token alike (token.Cycle (0 ∷ 1 ∷ [])) []
    (Tree (Fails None 7) (at_most ∷ above ∷ []) ∷ Learn (start_plan 3) (at_most ∷ [])
    ∷ Tree (start_plan 3) (at_most ∷ other ∷ []) ∷ [])
    ≡ standing (lemma ∷ []) (Tree (start_plan 3) (at_most ∷ other ∷ []) ∷ [])
after-last_of_the_lemma = refl

-- it is cited where the same start is: its literal has to follow from the list there
after-citation :
    after_proof_token alike (token.Cite 0) (lemma ∷ []) (Tree (start_plan 3) (at_most ∷ other ∷ []) ∷ [])
    ≡ standing (lemma ∷ []) (Cycle (at_most ∷ other ∷ above ∷ []) ∷ [])
after-citation = refl

-- at another start the condition has to follow too, after the literal
after-citation_under_a_condition :
    after_proof_token alike (token.Cite 0) (lemma ∷ []) (Tree (start_plan 5) (at_most ∷ other ∷ []) ∷ [])
    ≡ standing (lemma ∷ []) (Cycle (at_most ∷ other ∷ above ∷ []) ∷ Cycle (at_most ∷ other ∷ not_other ∷ []) ∷ [])
after-citation_under_a_condition = refl

-- the last cycle closes the last place
after-last_cycle :
    after_proof_token alike (token.Cycle (0 ∷ 2 ∷ [])) (lemma ∷ []) (Cycle (at_most ∷ other ∷ above ∷ []) ∷ [])
    ≡ standing (lemma ∷ []) []
after-last_cycle = refl

-- a lemma without literals at the same start needs no cycles
after-citation_of_no_literals :
    after_proof_token equal (token.Cite 0) (record { plan = start_plan 3; literals = [] } ∷ [])
    (Tree (start_plan 3) [] ∷ Learn (start_plan 3) (other ∷ []) ∷ Tree (start_plan 3) (other ∷ []) ∷ [])
    ≡ standing (record { plan = start_plan 3; literals = [] } ∷ record { plan = start_plan 3; literals = other ∷ [] }
    ∷ []) (Tree (start_plan 3) (other ∷ []) ∷ [])
after-citation_of_no_literals = refl

-- a refusal of each kind
after-lemma_at_no_start : after_proof_token equal (token.Lemma []) (lemma ∷ [])
    (Tree (Holds None) [] ∷ []) ≡ Err error.NoStart
after-lemma_at_no_start = refl

after-citation_at_no_start : after_proof_token equal (token.Cite 0) (lemma ∷ [])
    (Tree (Holds None) [] ∷ []) ≡ Err error.NoStart
after-citation_at_no_start = refl

after-lemma_within_itself :
    after_proof_token equal (token.Cite 0) []
    (Tree (start_plan 3) [] ∷ Learn (start_plan 3) [] ∷ Tree (start_plan 3) [] ∷ [])
    ≡ Err error.UnknownLemma
after-lemma_within_itself = refl

after-other_start : after_proof_token equal (token.Cite 0) (lemma ∷ [])
    (Tree (start_plan 5) [] ∷ []) ≡ Err error.OtherStart
after-other_start = refl

after-question_for_a_cycle :
    after_proof_token equal token.Ask (lemma ∷ []) (Cycle (at_most ∷ above ∷ []) ∷ [])
    ≡ Err (error.Tree check.NotAQuestion)
after-question_for_a_cycle = refl

after-end_for_a_cycle :
    after_proof_token equal token.Holds (lemma ∷ []) (Cycle (at_most ∷ above ∷ []) ∷ [])
    ≡ Err (error.Tree check.GoalFails)
after-end_for_a_cycle = refl

after-lemma_for_a_cycle :
    after_proof_token equal (token.Lemma []) (lemma ∷ []) (Cycle (at_most ∷ above ∷ []) ∷ []) ≡ Err error.NoStart
after-lemma_for_a_cycle = refl

after-cycle_of_another_literal :
    after_proof_token equal (token.Cycle (1 ∷ 2 ∷ [])) (lemma ∷ []) (Cycle (at_most ∷ other ∷ above ∷ []) ∷ [])
    ≡ Err (error.Tree check.NotACycle)
after-cycle_of_another_literal = refl
