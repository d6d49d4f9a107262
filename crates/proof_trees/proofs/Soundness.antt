-- A tree that shows a plan leaves true lemmas true, and the plan holds where its literals are met.
use Rattle.std.proofs.Common.{ap, ◌≡◌, ◌↔◌, ℕ, ℤ, Bool, true, false, List, [], ◌∷◌, ◌++◌, inl, inr, refl, sym, ◌∙◌}
use Rattle.std.proofs.Common.{Option, Some, None, Ok, zero, suc}
use Rattle.std.specs.Prelude.{slice_get}
use Rattle.std.proofs.lemmas.Bool.{cases_Bool}
use Rattle.diff_graph.specs.declared.lit.Lit.{Lit}
use Rattle.diff_graph.specs.Literals.{AreMet, is_met}
use Rattle.diff_graph.specs.Cycles.{pick_verdict}
use Rattle.ask_core.specs.Plans.{Plan, value}
use Rattle.ask_core.specs.Plans as plain
use Rattle.ask_core.specs.Trees.{with_answer}
use Rattle.proof_trees.specs.Starts.{MarkedPlan, Ask, Holds, Fails, unmarked, start_of, StartStandsFor, IsMarkedBy}
use Rattle.proof_trees.specs.Starts.{Comparison, conditions_between, IsLawful}
use Rattle.proof_trees.specs.Proofs.{ProofTree, Question, End, Impossible, Lemma, Citation, Learned, with_lemma}
use Rattle.proof_trees.specs.Proofs.{learned, EachFollows, FollowsUnder, Serves, Shows}
use Rattle.proof_trees.specs.Truth.{HoldsUnder, AreTrue}

-- the literals of two lists are met where those of both together are
AreMet-parts : (v : ℕ → ℤ) (ls es : List Lit) → AreMet v (ls ++ es) → AreMet v ls × AreMet v es
AreMet-parts v [] es met = (tt, met)
AreMet-parts v (l ∷ ls) es met = let later = AreMet-parts v ls es met.1 in ((met.0, later.0), later.1)

module _
    (never_met : (v : ℕ → ℤ) (w : List Lit) (picks : List ℕ) → pick_verdict w picks ≡ Ok tt → ¬ AreMet v w)
    (answers : (v : ℕ → ℤ) (w : List Lit) (l : Lit) (yes_said : Bool)
    → AreMet v (with_answer w l yes_said) ↔ (AreMet v w × (is_met v l ≡ yes_said))) where
  -- a valuation that meets the list meets each literal that follows from it: else it would meet a negative cycle
  AreMet-following :
      (v : ℕ → ℤ) (w ls : List Lit) (cycles : List (List ℕ)) → AreMet v w → EachFollows w ls cycles → AreMet v ls
  AreMet-following v w [] cycles met follows = tt
  AreMet-following v w (l ∷ ls) [] met follows = absurd follows
  AreMet-following v w (l ∷ ls) (c ∷ cycles) met follows =
      elim (cases_Bool (is_met v l)) [
        | inl passed ↦
            (((answers v [] l true).1 (tt, passed)).0, AreMet-following v w ls cycles met follows.1)
        | inr failed ↦
            absurd (never_met v (with_answer w l false) c follows.0.2 ((answers v w l false).1 (met, failed)))
      ]

  module _ {S W : Type 0} (compare : Comparison S) (meaning : S → Plan W) (lawful : IsLawful compare meaning) where
    -- the start at the first place stands for the plan
    StartStandsFor-start_of : (p : MarkedPlan S W) → IsMarkedBy meaning p
        → StartStandsFor meaning (start_of p) (unmarked p)
    StartStandsFor-start_of (Ask start l on_yes on_no) marked = marked.0
    StartStandsFor-start_of (Holds start) marked = marked
    StartStandsFor-start_of (Fails start why) marked = marked

    -- one more lemma that was shown
    AreTrue-with_lemma :
        (known : List (Learned S W)) (p : MarkedPlan S W) (ls : List Lit)
        → StartStandsFor meaning (start_of p) (unmarked p)
        → AreTrue meaning known → HoldsUnder ls (unmarked p) → AreTrue meaning (with_lemma known p ls)
    AreTrue-with_lemma [] p ls stands are_true holds = ((stands, holds), tt)
    AreTrue-with_lemma (x ∷ known) p ls stands are_true holds =
        (are_true.0, AreTrue-with_lemma known p ls stands are_true.1 holds)

    -- a lemma that serves at a start shows the plan there
    HoldsUnder-following :
        (s start : Option S) (q p : Plan W) (ls w : List Lit) (cycles : List (List ℕ)) → StartStandsFor meaning s q
        → HoldsUnder ls q → StartStandsFor meaning start p
        → FollowsUnder (conditions_between compare s start) ls w cycles
        → HoldsUnder w p
    HoldsUnder-following None start q p ls w cycles stands_there holds stands follows = absurd follows
    HoldsUnder-following (Some s) None q p ls w cycles stands_there holds stands follows = absurd follows
    HoldsUnder-following (Some s) (Some here) q p ls w cycles stands_there holds stands follows =
        under (compare s here) refl follows
      where
        under : (conditions : Option (List Lit)) → compare s here ≡ conditions
            → FollowsUnder conditions ls w cycles → HoldsUnder w p
        under None compared none v met = absurd none
        under (Some es) compared follows_there v met =
            let all = AreMet-parts v ls es (AreMet-following v w (ls ++ es) cycles met follows_there) in
            ap (λ (x : Plan W). value x v) stands ∙ sym (lawful s here es v compared all.1)
            ∙ ap (λ (x : Plan W). value x v) (sym stands_there) ∙ holds v all.0

    -- a lemma that is known is true
    HoldsUnder-serving :
        (known : List (Learned S W)) (number : ℕ) (start : Option S) (p : Plan W)
        (w : List Lit) (cycles : List (List ℕ))
        → StartStandsFor meaning start p → AreTrue meaning known
        → Serves compare (slice_get known number) start w cycles
        → HoldsUnder w p
    HoldsUnder-serving [] number start p w cycles stands are_true serves = absurd serves
    HoldsUnder-serving (x ∷ known) zero start p w cycles stands are_true serves =
        HoldsUnder-following (start_of x.plan) start (unmarked x.plan) p x.literals w cycles are_true.0.0
        are_true.0.1 stands serves
    HoldsUnder-serving (x ∷ known) (suc number) start p w cycles stands are_true serves =
        HoldsUnder-serving known number start p w cycles stands are_true.1 serves

    -- a question holds where both its parts do
    HoldsUnder-question :
        (l : Lit) (on_yes on_no : Plan W) (w : List Lit) → HoldsUnder (with_answer w l true) on_yes
        → HoldsUnder (with_answer w l false) on_no → HoldsUnder w (plain.Ask l on_yes on_no)
    HoldsUnder-question l on_yes on_no w at_yes at_no v met =
        elim (cases_Bool (is_met v l)) [
          | inl passed ↦ rw passed (at_yes v ((answers v w l true).1 (met, passed)))
          | inr failed ↦ rw failed (at_no v ((answers v w l false).1 (met, failed)))
        ]

    -- both parts of the claim, part by part of the tree: each part may use the lemmas of those before it
    pub shown_plan_holds :
        (t : ProofTree) (p : MarkedPlan S W) (w : List Lit) (known : List (Learned S W))
        → IsMarkedBy meaning p → AreTrue meaning known → Shows compare t p w known
        → AreTrue meaning (learned t p known) × HoldsUnder w (unmarked p)
    shown_plan_holds (Question t u) (Ask start l on_yes on_no) w known marked are_true shows =
        let at_yes = shown_plan_holds t on_yes (with_answer w l true) known marked.1 are_true shows.0 in
        let at_no = shown_plan_holds u on_no (with_answer w l false) (learned t on_yes known)
        marked.2 at_yes.0 shows.1 in
        (at_no.0, HoldsUnder-question l (unmarked on_yes) (unmarked on_no) w at_yes.1 at_no.1)
    shown_plan_holds (Question t u) (Holds start) w known marked are_true shows = absurd shows
    shown_plan_holds (Question t u) (Fails start why) w known marked are_true shows = absurd shows
    shown_plan_holds End (Ask start l on_yes on_no) w known marked are_true shows = absurd shows
    shown_plan_holds End (Holds start) w known marked are_true shows = (are_true, λ v met. refl)
    shown_plan_holds End (Fails start why) w known marked are_true shows = absurd shows
    shown_plan_holds (Impossible picks) p w known marked are_true shows =
        (are_true, λ v met. absurd (never_met v w picks shows.2 met))
    shown_plan_holds (Lemma ls t u) p w known marked are_true shows =
        let first = shown_plan_holds t p ls known marked are_true shows.1 in
        shown_plan_holds u p w (with_lemma (learned t p known) p ls) marked
        (AreTrue-with_lemma (learned t p known) p ls (StartStandsFor-start_of p marked) first.0 first.1) shows.2
    shown_plan_holds (Citation number cycles) p w known marked are_true shows = (
      are_true,
      HoldsUnder-serving known number (start_of p) (unmarked p) w cycles
          (StartStandsFor-start_of p marked) are_true shows,
    )
