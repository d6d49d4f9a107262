-- What a token does at the first place, by the plan there. The branches before are those of the plans before the
-- turn, which are the same.
use Rattle.std.proofs.Common.{◌≡◌, ℕ, ◌<◌, List, [], ◌∷◌, ◌++◌, length, drop, Ok, Err, arith, refl}
use Rattle.diff_graph.specs.declared.lit.Lit.{Lit}
use Rattle.diff_graph.specs.Cycles.{pick_verdict}
use Rattle.ask_core.specs.declared.tree.Tok.TheVariants as token
use Rattle.ask_core.specs.Plans.{Plan, Ask, Holds, Fails}
use Rattle.ask_core.specs.Trees.{Branch}
use Rattle.ask_core.specs.Paths.{OpenPlace, AreOwn, branches_at, after_question, first_answers, first_plan}
use Rattle.cert_check.specs.declared.verdict.CheckError.TheVariants as end
use Rattle.cert_check.specs.Steps.{after}

module _ {N W : Type 0} (plan : N → Plan W) where
  module _ (before : List (Branch W)) where
    -- `?` elsewhere
    pub question_at_held :
        (places : List (OpenPlace N)) → branches_at plan places ≡ before → 0 < length places
        → first_plan plan places ≡ Holds
        → after token.Ask before ≡ Err end.NotAQuestion
    question_at_held [] same opened held = absurd (omega arith)
    question_at_held (p ∷ places) same opened held = rw (← same, held)

    pub question_at_failed :
        (places : List (OpenPlace N)) (why : W) → branches_at plan places ≡ before → first_plan plan places ≡ Fails why
        → after token.Ask before ≡ Err end.NotAQuestion
    question_at_failed [] why same failed = absurd (cc)
    question_at_failed (p ∷ places) why same failed = rw (← same, failed)

    -- `.` elsewhere
    pub end_at_question :
        (places : List (OpenPlace N)) (l : Lit) (on_yes on_no : Plan W)
        → branches_at plan places ≡ before → first_plan plan places ≡ Ask l on_yes on_no
        → after token.Holds before ≡ Err end.NotDone
    end_at_question [] l on_yes on_no same asks = absurd (cc)
    end_at_question (p ∷ places) l on_yes on_no same asks = rw (← same, asks)

    pub end_at_failed :
        (places : List (OpenPlace N)) (why : W) → branches_at plan places ≡ before → first_plan plan places ≡ Fails why
        → after token.Holds before ≡ Err end.GoalFails
    end_at_failed [] why same failed = absurd (cc)
    end_at_failed (p ∷ places) why same failed = rw (← same, failed)

-- a cycle closes the first place
pub cycle_taken :
    {N W : Type 0} (plan : N → Plan W) (places next : List (OpenPlace N)) (picks : List ℕ)
    → 0 < length places → next ≡ drop 1 places
    → pick_verdict (first_answers places) picks ≡ Ok tt
    → after (token.Cycle picks) (branches_at plan places) ≡ Ok (branches_at plan next)
cycle_taken plan [] next picks some is cycle = absurd (omega arith)
cycle_taken plan (p ∷ places) next picks some is cycle =
    let same : next ≡ places = is in rw (same, cycle) refl

-- the places behind the first one are own ones too
pub own_behind :
    {N : Type 0} (is_own : N → Type 0) (places next : List (OpenPlace N)) → next ≡ drop 1 places
    → AreOwn is_own places → AreOwn is_own next
own_behind is_own [] next is own = rw is tt
own_behind is_own (p ∷ places) next is own =
    let same : next ≡ places = is in rw same own.1

-- `?` opens the two parts of a question
pub question_taken :
    {N W : Type 0} (plan : N → Plan W) (places next : List (OpenPlace N)) (l : Lit) (on_yes on_no : N)
    → 0 < length places
    → first_plan plan places ≡ Ask l (plan on_yes) (plan on_no) → next ≡ after_question l on_yes on_no places
    → after token.Ask (branches_at plan places) ≡ Ok (branches_at plan next)
question_taken plan [] next l on_yes on_no some asks is = absurd (omega arith)
question_taken plan (p ∷ places) next l on_yes on_no some asks is = rw (is, asks) refl

pub own_after :
    {N : Type 0} (is_own : N → Type 0) (places next : List (OpenPlace N)) (l : Lit) (on_yes on_no : N)
    → next ≡ after_question l on_yes on_no places → is_own on_yes → is_own on_no
    → AreOwn is_own places → AreOwn is_own next
own_after is_own [] next l on_yes on_no is own_yes own_no own = rw is tt
own_after is_own (p ∷ places) next l on_yes on_no is own_yes own_no own = rw is (own_yes, (own_no, own.1))

-- and the literal is the last answer at the first one
pub answers_after :
    {N : Type 0} (places : List (OpenPlace N)) (l : Lit) (on_yes on_no : N) → 0 < length places
    → (first_answers (after_question l on_yes on_no places) ≡ first_answers places ++ l ∷ [])
    × (0 < length (after_question l on_yes on_no places))
answers_after [] l on_yes on_no some = absurd (omega arith)
answers_after (p ∷ places) l on_yes on_no some = (refl, omega arith)
