-- What a token does to the open branches.
use Rattle.std.specs.Prelude.{◌≤◌, length, ⊤, List, [], ◌∷◌, true, false, Result, Ok, Err}
use Rattle.diff_graph.specs.declared.lit.Lit.{Lit}
use Rattle.diff_graph.specs.declared.lit.PickError.{PickError}
use Rattle.diff_graph.specs.declared.lit.PickError.TheVariants as pick
use Rattle.diff_graph.specs.Cycles.{pick_verdict}
use Rattle.ask_core.specs.declared.picks.TheConstants.{MAX_PICKS}
use Rattle.ask_core.specs.declared.tree.Tok.{Tok}
use Rattle.ask_core.specs.declared.tree.Tok.TheVariants as token
use Rattle.ask_core.specs.Plans.{Plan, Ask, Holds, Fails}
use Rattle.ask_core.specs.Trees.{Branch, with_answer}
use Rattle.cert_check.specs.declared.verdict.CheckError.{CheckError}
use Rattle.cert_check.specs.declared.verdict.CheckError.TheVariants as end

-- the refusal of a cycle
abbrev pub end_of_cycle : PickError → CheckError
end_of_cycle pick.BadPick = end.BadPick
end_of_cycle pick.NotACycle = end.NotACycle
end_of_cycle pick.NotNegative = end.NotNegative

-- the branches after `?` at a plan with its answers, the other branches being given
abbrev pub branches_after_question :
    {W : Type 0} → Plan W → List Lit → List (Branch W) → Result (List (Branch W)) CheckError
branches_after_question (Ask l on_yes on_no) w branches =
    Ok (record { plan = on_yes; answers = with_answer w l true }
    ∷ record { plan = on_no; answers = with_answer w l false }
    ∷ branches)
branches_after_question Holds w branches = Err end.NotAQuestion
branches_after_question (Fails why) w branches = Err end.NotAQuestion

-- the branches after `.` at a plan
abbrev pub branches_after_end : {W : Type 0} → Plan W → List (Branch W) → Result (List (Branch W)) CheckError
branches_after_end (Ask l on_yes on_no) branches = Err end.NotDone
branches_after_end Holds branches = Ok branches
branches_after_end (Fails why) branches = Err end.GoalFails

-- the branches after a cycle with this verdict
abbrev pub branches_after_cycle :
    {W : Type 0} → Result (Unit {0}) PickError → List (Branch W) → Result (List (Branch W)) CheckError
branches_after_cycle (Ok done) branches = Ok branches
branches_after_cycle (Err why) branches = Err (end_of_cycle why)

-- the branches after a token, or why it is refused. Where no branch is open nothing is asked
abbrev pub after : {W : Type 0} → Tok → List (Branch W) → Result (List (Branch W)) CheckError
after tok [] = Err end.NotAQuestion
after token.Ask (b ∷ branches) = branches_after_question b.plan b.answers branches
after token.Holds (b ∷ branches) = branches_after_end b.plan branches
after (token.Cycle picks) (b ∷ branches) = branches_after_cycle (pick_verdict b.answers picks) branches

-- a cycle has no more numbers than a tree may have. The type of the numbers sees to it
abbrev pub HasFewPicks : Tok → Type 0
HasFewPicks token.Ask = ⊤
HasFewPicks token.Holds = ⊤
HasFewPicks (token.Cycle picks) = length picks ≤ MAX_PICKS
