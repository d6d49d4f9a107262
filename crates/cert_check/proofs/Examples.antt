-- The tokens of one tree, each at the branches that the tokens before it left. The plan asks whether
-- name 1 is at most name 2; at yes whether name 2 is below name 1, which then fails at yes and holds at
-- no; at no whether name 2 is at most name 1, which then holds at yes and fails at no.
use Rattle.std.proofs.Common.{◌≡◌, ℕ, List, [], ◌∷◌, pos, negsuc, refl, Ok, Err}
use Rattle.diff_graph.specs.declared.lit.Lit.{Lit}
use Rattle.ask_core.specs.declared.tree.Tok.TheVariants as token
use Rattle.ask_core.specs.Plans.{Plan, Ask, Holds, Fails}
use Rattle.ask_core.specs.Trees.{Branch}
use Rattle.cert_check.specs.declared.verdict.CheckError.TheVariants as end
use Rattle.cert_check.specs.Steps.{after}

-- name 1 is at most, or below, name 2, and the other way round
abbrev at_most : Lit
at_most = record { x = 1; y = 2; k = pos 0 }

abbrev below : Lit
below = record { x = 1; y = 2; k = negsuc 0 }

abbrev at_least : Lit
at_least = record { x = 2; y = 1; k = pos 0 }

abbrev above : Lit
above = record { x = 2; y = 1; k = negsuc 0 }

abbrev yes_part : Plan ℕ
yes_part = Ask above (Fails 7) Holds

abbrev no_part : Plan ℕ
no_part = Ask at_least Holds (Fails 7)

-- a branch of the plan with its answers
abbrev branch : Plan ℕ → List Lit → Branch ℕ
branch p w = record { plan = p; answers = w }

after-first_question :
    after token.Ask (branch (Ask at_most yes_part no_part) [] ∷ [])
    ≡ Ok (branch yes_part (at_most ∷ []) ∷ branch no_part (above ∷ []) ∷ [])
after-first_question = refl

after-second_question :
    after token.Ask (branch yes_part (at_most ∷ []) ∷ branch no_part (above ∷ []) ∷ [])
    ≡ Ok (branch (Fails 7) (at_most ∷ above ∷ []) ∷ branch Holds (at_most ∷ at_most ∷ [])
    ∷ branch no_part (above ∷ []) ∷ [])
after-second_question = refl

after-cycle :
    after (token.Cycle (0 ∷ 1 ∷ []))
    (branch (Fails 7) (at_most ∷ above ∷ []) ∷ branch Holds (at_most ∷ at_most ∷ []) ∷ branch no_part (above ∷ []) ∷ [])
    ≡ Ok (branch Holds (at_most ∷ at_most ∷ []) ∷ branch no_part (above ∷ []) ∷ [])
after-cycle = refl

after-end :
    after token.Holds (branch Holds (at_most ∷ at_most ∷ []) ∷ branch no_part (above ∷ []) ∷ [])
    ≡ Ok (branch no_part (above ∷ []) ∷ [])
after-end = refl

after-third_question :
    after token.Ask (branch no_part (above ∷ []) ∷ [])
    ≡ Ok (branch Holds (above ∷ at_least ∷ []) ∷ branch (Fails 7) (above ∷ below ∷ []) ∷ [])
after-third_question = refl

after-last_cycle : after (token.Cycle (0 ∷ 1 ∷ [])) (branch (Fails 7) (above ∷ below ∷ []) ∷ []) ≡ Ok []
after-last_cycle = refl

-- a refusal of each kind
after-question_at_an_end : after token.Ask (branch Holds [] ∷ []) ≡ Err end.NotAQuestion
after-question_at_an_end = refl

after-end_at_a_question : after token.Holds (branch yes_part [] ∷ []) ≡ Err end.NotDone
after-end_at_a_question = refl

after-end_at_a_failure : after token.Holds (branch (Fails 7) [] ∷ []) ≡ Err end.GoalFails
after-end_at_a_failure = refl

after-pick_past_the_answers :
    after (token.Cycle (1 ∷ [])) (branch yes_part (at_most ∷ []) ∷ []) ≡ Err end.BadPick
after-pick_past_the_answers = refl

after-open_walk : after (token.Cycle (0 ∷ [])) (branch yes_part (at_most ∷ []) ∷ []) ≡ Err end.NotACycle
after-open_walk = refl

after-sum_of_0 :
    after (token.Cycle (0 ∷ 1 ∷ [])) (branch yes_part (at_most ∷ at_least ∷ []) ∷ []) ≡ Err end.NotNegative
after-sum_of_0 = refl
