-- What a token of a proof tree does to what is wanted and to the lemmas that are known.
use Rattle.std.specs.Prelude.{◌≡◌, length, List, [], ◌∷◌, ◌++◌, true, false, Result, Ok, Err, Option, Some, None}
use Rattle.std.specs.Prelude.{if◌then◌else◌, nat_lt, slice_get}
use Rattle.diff_graph.specs.declared.lit.Lit.{Lit}
use Rattle.diff_graph.specs.declared.lit.PickError.{PickError}
use Rattle.diff_graph.specs.Cycles.{pick_verdict}
use Rattle.ask_core.specs.Trees.{with_answer}
use Rattle.cert_check.specs.declared.verdict.CheckError.TheVariants as check
use Rattle.cert_check.specs.Steps.{end_of_cycle}
use Rattle.proof_trees.specs.declared.limits.TheConstants.{MAX_LEMMAS}
use Rattle.proof_trees.specs.declared.token.ProofTok.{ProofTok}
use Rattle.proof_trees.specs.declared.token.ProofTok.TheVariants as token
use Rattle.proof_trees.specs.Starts.{MarkedPlan, Ask, Holds, Fails, start_of, Comparison, conditions_between}
use Rattle.proof_trees.specs.Proofs.{Learned, with_lemma}
use Rattle.proof_trees.specs.Tokens.{Wanted, Tree, Cycle, Learn, wanted_cycles}
use Rattle.proof_check.specs.declared.verdict.ProofError.{ProofError}
use Rattle.proof_check.specs.declared.verdict.ProofError.TheVariants as error

-- the lemmas that are known, and what is wanted of the tokens
pub record Standing (S W : Type 0) : Type 0 where
  pub known : List (Learned S W)
  pub wanted : List (Wanted S W)

-- a lemma whose tree has ended is known
abbrev pub settled : {S W : Type 0} → List (Learned S W) → List (Wanted S W) → Standing S W
settled known [] = record { known = known; wanted = [] }
settled known (Tree p w ∷ wanted) = record { known = known; wanted = Tree p w ∷ wanted }
settled known (Cycle w ∷ wanted) = record { known = known; wanted = Cycle w ∷ wanted }
settled known (Learn p ls ∷ wanted) = settled (with_lemma known p ls) wanted

-- after `?` where a tree of the plan is wanted
abbrev pub after_proof_question :
    {S W : Type 0} → List (Learned S W) → MarkedPlan S W → List Lit → List (Wanted S W)
    → Result (Standing S W) ProofError
after_proof_question known (Ask start l on_yes on_no) w wanted =
    Ok (record {
      known = known;
      wanted = Tree on_yes (with_answer w l true) ∷ Tree on_no (with_answer w l false) ∷ wanted;
    })
after_proof_question known (Holds start) w wanted = Err (error.Tree check.NotAQuestion)
after_proof_question known (Fails start why) w wanted = Err (error.Tree check.NotAQuestion)

-- after `.` there
abbrev pub after_end :
    {S W : Type 0} → List (Learned S W) → MarkedPlan S W → List (Wanted S W) → Result (Standing S W) ProofError
after_end known (Ask start l on_yes on_no) wanted = Err (error.Tree check.NotDone)
after_end known (Holds start) wanted = Ok (settled known wanted)
after_end known (Fails start why) wanted = Err (error.Tree check.GoalFails)

-- after a cycle with this verdict
abbrev pub after_cycle :
    {S W : Type 0} → Result (Unit {0}) PickError → List (Learned S W) → List (Wanted S W)
    → Result (Standing S W) ProofError
after_cycle (Ok done) known wanted = Ok (settled known wanted)
after_cycle (Err why) known wanted = Err (error.Tree (end_of_cycle why))

-- after `l` where a tree of the plan is wanted, at this start of the plan, if it has one
abbrev pub after_lemma :
    {S W : Type 0} → Option S → List (Learned S W) → List Lit → MarkedPlan S W → List Lit → List (Wanted S W)
    → Result (Standing S W) ProofError
after_lemma None known ls p w wanted = Err error.NoStart
after_lemma (Some s) known ls p w wanted =
    if nat_lt (length known) MAX_LEMMAS
    then Ok (record { known = known; wanted = Tree p ls ∷ Learn p ls ∷ Tree p w ∷ wanted })
    else Err error.TooManyLemmas

-- after `c`: the conditions of the comparison, if the starts compare, and the literals of the lemma
abbrev pub after_comparison :
    {S W : Type 0} → Option (List Lit) → List (Learned S W) → List Lit → List Lit → List (Wanted S W)
    → Result (Standing S W) ProofError
after_comparison None known ls w wanted = Err error.OtherStart
after_comparison (Some es) known ls w wanted = Ok (settled known (wanted_cycles w (ls ++ es) ++ wanted))

-- the start here, if there is one, and the lemma of the number, if it is known
abbrev pub after_citation :
    {S W : Type 0} → Comparison S → Option S → Option (Learned S W) → List (Learned S W) → List Lit → List (Wanted S W)
    → Result (Standing S W) ProofError
after_citation compare None found known w wanted = Err error.NoStart
after_citation compare (Some here) None known w wanted = Err error.UnknownLemma
after_citation compare (Some here) (Some lemma) known w wanted =
    after_comparison (conditions_between compare (start_of lemma.plan) (Some here)) known lemma.literals w wanted

-- after a token where a tree is wanted
abbrev pub after_at_tree :
    {S W : Type 0} → Comparison S → ProofTok → List (Learned S W) → MarkedPlan S W → List Lit → List (Wanted S W)
    → Result (Standing S W) ProofError
after_at_tree compare token.Ask known p w wanted = after_proof_question known p w wanted
after_at_tree compare token.Holds known p w wanted = after_end known p wanted
after_at_tree compare (token.Cycle picks) known p w wanted = after_cycle (pick_verdict w picks) known wanted
after_at_tree compare (token.Lemma ls) known p w wanted = after_lemma (start_of p) known ls p w wanted
after_at_tree compare (token.Cite number) known p w wanted =
    after_citation compare (start_of p) (slice_get known number) known w wanted

-- after a token where a cycle is wanted: nothing is asked there, nothing holds and nothing starts
abbrev pub after_at_cycle :
    {S W : Type 0} → ProofTok → List (Learned S W) → List Lit → List (Wanted S W) → Result (Standing S W) ProofError
after_at_cycle token.Ask known w wanted = Err (error.Tree check.NotAQuestion)
after_at_cycle token.Holds known w wanted = Err (error.Tree check.GoalFails)
after_at_cycle (token.Cycle picks) known w wanted = after_cycle (pick_verdict w picks) known wanted
after_at_cycle (token.Lemma ls) known w wanted = Err error.NoStart
after_at_cycle (token.Cite number) known w wanted = Err error.NoStart

-- what is known and wanted after a token, or why it is refused. Where nothing is wanted nothing is asked
abbrev pub after_proof_token :
    {S W : Type 0} → Comparison S → ProofTok → List (Learned S W) → List (Wanted S W) → Result (Standing S W) ProofError
after_proof_token compare tok known [] = Err (error.Tree check.NotAQuestion)
after_proof_token compare tok known (Tree p w ∷ wanted) = after_at_tree compare tok known p w wanted
after_proof_token compare tok known (Cycle w ∷ wanted) = after_at_cycle tok known w wanted
after_proof_token compare tok known (Learn p ls ∷ wanted) = after_proof_token compare tok (with_lemma known p ls) wanted

-- the token is taken and makes this of what was known and wanted
abbrev pub IsTaken : {S W : Type 0} → Comparison S → ProofTok → Standing S W → Standing S W → Type 0
IsTaken compare tok old new = after_proof_token compare tok old.known old.wanted ≡ Ok new
