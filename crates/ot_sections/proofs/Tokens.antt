-- What tokens do to open branches: how many stay open, and that a tree that completes them is taken token by token.
use Rattle.std.proofs.Common.{◌≡◌, ◌↔◌, ◌+◌, ◌-◌, List, [], ◌∷◌, ◌++◌, length, Result, Ok, Err, arith, refl, ap}
use Rattle.diff_graph.specs.declared.lit.Lit.{Lit}
use Rattle.diff_graph.specs.declared.lit.PickError.{PickError}
use Rattle.diff_graph.specs.declared.lit.PickError.TheVariants as pick
use Rattle.diff_graph.specs.Cycles.{pick_verdict}
use Rattle.ask_core.specs.declared.tree.Tok.{Tok}
use Rattle.ask_core.specs.declared.tree.Tok.TheVariants as token
use Rattle.ask_core.specs.Plans.{Plan, Ask, Holds, Fails}
use Rattle.ask_core.specs.Trees.{AnswerTree, Question, End, Impossible, Branch, Completes, tokens_of}
use Rattle.cert_check.specs.declared.verdict.CheckError.{CheckError}
use Rattle.cert_check.specs.declared.verdict.CheckError.TheVariants as check
use Rattle.cert_check.specs.Steps.{after, branches_after_cycle, branches_after_end, branches_after_question}
use Rattle.cert_check.specs.Steps.{HasFewPicks}
use Rattle.cert_text.specs.Spelling.{IsSpellable}
use Rattle.cert_text.specs.Places.{open_after}

-- a token that has a spelling has few numbers
pub few_picks : (t : Tok) → IsSpellable t → HasFewPicks t
few_picks token.Ask spellable = tt
few_picks token.Holds spellable = tt
few_picks (token.Cycle picks) spellable = spellable.1

pub same_ok : {A E : Type 0} (a b : A) → ◌≡◌ {A = Result A E} (Ok a) (Ok b) → a ≡ b
same_ok a b e = cc

-- tokens of a tree are some
pub some_tokens : (t : AnswerTree) (rest : List Tok) → [] ≡ tokens_of t ++ rest → ⊥
some_tokens (Question on_yes on_no) rest e = cc
some_tokens End rest e = cc
some_tokens (Impossible picks) rest e = cc

-- what completes open branches is told by what a token leaves of them
pub record ByToken (W : Type 0) : Type 0 where
  pub taken :
      (t : Tok) (tokens : List Tok) (branches next : List (Branch W)) → HasFewPicks t → after t branches ≡ Ok next
      → Completes (t ∷ tokens) branches ↔ Completes tokens next
  pub refused :
      (t : Tok) (tokens : List Tok) (branches : List (Branch W)) (why : CheckError) → after t branches ≡ Err why
      → Completes (t ∷ tokens) branches → ⊥

module _ {W : Type 0} where
  question_opens :
      (p : Plan W) (w : List Lit) (b : Branch W) (branches next : List (Branch W))
      → branches_after_question p w branches ≡ Ok next → length next ≡ length (b ∷ branches) + 1
  question_opens (Ask l on_yes on_no) w b branches next taken = omega (arith, ap length (same_ok _ _ taken))
  question_opens Holds w b branches next taken = absurd (cc)
  question_opens (Fails why) w b branches next taken = absurd (cc)

  end_closes :
      (p : Plan W) (b : Branch W) (branches next : List (Branch W))
      → branches_after_end p branches ≡ Ok next → length next ≡ length (b ∷ branches) - 1
  end_closes (Ask l on_yes on_no) b branches next taken = absurd (cc)
  end_closes Holds b branches next taken = omega (arith, ap length (same_ok _ _ taken))
  end_closes (Fails why) b branches next taken = absurd (cc)

  cycle_closes :
      (verdict : Result (Unit {0}) PickError) (b : Branch W) (branches next : List (Branch W))
      → branches_after_cycle verdict branches ≡ Ok next → length next ≡ length (b ∷ branches) - 1
  cycle_closes (Ok done) b branches next taken = omega (arith, ap length (same_ok _ _ taken))
  cycle_closes (Err why) b branches next taken = absurd (cc)

  -- the places count the open branches
  pub open_as_counted :
      (t : Tok) (branches next : List (Branch W)) → after t branches ≡ Ok next
      → length next ≡ open_after (length branches) t
  open_as_counted t [] next taken = absurd (cc)
  open_as_counted token.Ask (b ∷ branches) next taken = question_opens b.plan b.answers b branches next taken
  open_as_counted token.Holds (b ∷ branches) next taken = end_closes b.plan b branches next taken
  open_as_counted (token.Cycle picks) (b ∷ branches) next taken =
      cycle_closes (pick_verdict b.answers picks) b branches next taken

  question_wants_none :
      (p : Plan W) (w : List Lit) (branches : List (Branch W)) (why : CheckError)
      → branches_after_question p w branches ≡ Err why → why ≡ check.NoMemory → ⊥
  question_wants_none (Ask l on_yes on_no) w branches why refused memory = cc
  question_wants_none Holds w branches why refused memory = cc
  question_wants_none (Fails cause) w branches why refused memory = cc

  end_wants_none :
      (p : Plan W) (branches : List (Branch W)) (why : CheckError)
      → branches_after_end p branches ≡ Err why → why ≡ check.NoMemory → ⊥
  end_wants_none (Ask l on_yes on_no) branches why refused memory = cc
  end_wants_none Holds branches why refused memory = cc
  end_wants_none (Fails cause) branches why refused memory = cc

  cycle_wants_none :
      (verdict : Result (Unit {0}) PickError) (branches : List (Branch W)) (why : CheckError)
      → branches_after_cycle verdict branches ≡ Err why → why ≡ check.NoMemory → ⊥
  cycle_wants_none (Ok done) branches why refused memory = cc
  cycle_wants_none (Err pick.BadPick) branches why refused memory = cc
  cycle_wants_none (Err pick.NotACycle) branches why refused memory = cc
  cycle_wants_none (Err pick.NotNegative) branches why refused memory = cc

  -- no token is refused for want of memory
  pub token_wants_none :
      (t : Tok) (branches : List (Branch W)) (why : CheckError) → after t branches ≡ Err why → why ≡ check.NoMemory → ⊥
  token_wants_none t [] why refused memory = cc
  token_wants_none token.Ask (b ∷ branches) why refused memory =
      question_wants_none b.plan b.answers branches why refused memory
  token_wants_none token.Holds (b ∷ branches) why refused memory = end_wants_none b.plan branches why refused memory
  token_wants_none (token.Cycle picks) (b ∷ branches) why refused memory =
      cycle_wants_none (pick_verdict b.answers picks) branches why refused memory

  -- the first of some tokens is taken, and the others complete what it leaves
  pub record Taken (t : Tok) (tokens : List Tok) (branches : List (Branch W)) : Type 0 where
    pub next : List (Branch W)
    pub taken : after t branches ≡ Ok next
    pub rest : Completes tokens next

  taken_by :
      ByToken W → (t : Tok) (tokens : List Tok) (branches : List (Branch W)) → HasFewPicks t
      → Completes (t ∷ tokens) branches
      → (answer : Result (List (Branch W)) CheckError) → after t branches ≡ answer → Taken t tokens branches
  taken_by by_token t tokens branches few whole (Ok next) is =
      record { next = next; taken = is; rest = (by_token.taken t tokens branches next few is).0 whole }
  taken_by by_token t tokens branches few whole (Err why) is = absurd (by_token.refused t tokens branches why is whole)

  pub first_taken :
      ByToken W → (t : Tok) (tokens : List Tok) (branches : List (Branch W)) → HasFewPicks t
      → Completes (t ∷ tokens) branches → Taken t tokens branches
  first_taken by_token t tokens branches few whole =
      taken_by by_token t tokens branches few whole (after t branches) refl
