-- What completes the open branches behind a token, by what the token leaves of them.
use Rattle.std.proofs.Common.{◌≡◌, ◌↔◌, ℕ, ◌≤◌, List, [], ◌∷◌, length, Result, Ok, Err, ◌⊎◌, inl, inr, arith, refl}
use Rattle.std.proofs.Common.{subst, sym}
use Rattle.diff_graph.specs.declared.lit.Lit.{Lit}
use Rattle.diff_graph.specs.declared.lit.PickError.{PickError}
use Rattle.diff_graph.specs.Cycles.{pick_verdict}
use Rattle.ask_core.specs.declared.tree.Tok.{Tok}
use Rattle.ask_core.specs.declared.tree.Tok.TheVariants as token
use Rattle.ask_core.specs.Plans.{Plan, Ask, Holds, Fails}
use Rattle.ask_core.specs.Trees.{Branch, Completes, CompletesBehind, CompletesParts, End, Fits, IsCycleAmong}
use Rattle.cert_check.specs.declared.verdict.CheckError.{CheckError}
use Rattle.cert_check.specs.declared.verdict.CheckError.TheVariants as end
use Rattle.cert_check.specs.Steps.{after, branches_after_cycle, branches_after_end, branches_after_question}
use Rattle.cert_check.specs.Steps.{HasFewPicks}

-- no numbers are no cycle
cycle_has_picks : (w : List Lit) (picks : List ℕ) → pick_verdict w picks ≡ Ok tt → 1 ≤ length picks
cycle_has_picks w [] ok = absurd (cc)
cycle_has_picks w (n ∷ picks) ok = omega arith

module _ {W : Type 0} where
  -- the tokens complete what a token left, if it was taken
  abbrev pub IsCompleted : List Tok → Result (List (Branch W)) CheckError → Type 0
  IsCompleted tokens (Ok next) = Completes tokens next
  IsCompleted tokens (Err why) = ⊥

  after_question :
      (p : Plan W) (w : List Lit) (branches : List (Branch W)) (tokens : List Tok)
      → CompletesParts tokens p w branches ↔ IsCompleted tokens (branches_after_question p w branches)
  after_question (Ask l on_yes on_no) w branches tokens = (λ parts. parts, λ parts. parts)
  after_question Holds w branches tokens = (λ none. none, λ none. none)
  after_question (Fails why) w branches tokens = (λ none. none, λ none. none)

  after_end :
      (p : Plan W) (w : List Lit) (branches : List (Branch W)) (tokens : List Tok)
      → (Fits End p w × Completes tokens branches) ↔ IsCompleted tokens (branches_after_end p branches)
  after_end (Ask l on_yes on_no) w branches tokens = (λ held. held.0, λ none. absurd none)
  after_end Holds w branches tokens = (λ held. held.1, λ rest. (tt, rest))
  after_end (Fails why) w branches tokens = (λ held. held.0, λ none. absurd none)

  after_cycle :
      (w : List Lit) (picks : List ℕ) (branches : List (Branch W)) (tokens : List Tok)
      (verdict : Result (Unit {0}) PickError)
      → pick_verdict w picks ≡ verdict → (IsCycleAmong w picks × Completes tokens branches)
      → IsCompleted tokens (branches_after_cycle verdict branches)
  after_cycle w picks branches tokens (Ok done) is (cycle, rest) = rest
  after_cycle w picks branches tokens (Err why) is (cycle, rest) =
      let ok : pick_verdict w picks ≡ Ok tt = cycle.2 in cc

  before_cycle :
      (w : List Lit) (picks : List ℕ) (branches : List (Branch W)) (tokens : List Tok)
      (verdict : Result (Unit {0}) PickError)
      → HasFewPicks (token.Cycle picks) → pick_verdict w picks ≡ verdict
      → IsCompleted tokens (branches_after_cycle verdict branches) → IsCycleAmong w picks × Completes tokens branches
  before_cycle w picks branches tokens (Ok done) few is rest = ((cycle_has_picks w picks is, few, is), rest)
  before_cycle w picks branches tokens (Err why) few is none = absurd none

  IsCompleted-after :
      (tok : Tok) (branches : List (Branch W)) (tokens : List Tok)
      → CompletesBehind tok tokens branches → IsCompleted tokens (after tok branches)
  IsCompleted-after tok [] tokens behind = behind
  IsCompleted-after token.Ask (b ∷ branches) tokens behind = (after_question b.plan b.answers branches tokens).0 behind
  IsCompleted-after token.Holds (b ∷ branches) tokens behind = (after_end b.plan b.answers branches tokens).0 behind
  IsCompleted-after (token.Cycle picks) (b ∷ branches) tokens behind =
      after_cycle b.answers picks branches tokens (pick_verdict b.answers picks) refl behind

  CompletesBehind-before :
      (tok : Tok) (branches : List (Branch W)) (tokens : List Tok) → HasFewPicks tok
      → IsCompleted tokens (after tok branches) → CompletesBehind tok tokens branches
  CompletesBehind-before tok [] tokens few none = none
  CompletesBehind-before token.Ask (b ∷ branches) tokens few rest =
      (after_question b.plan b.answers branches tokens).1 rest
  CompletesBehind-before token.Holds (b ∷ branches) tokens few rest =
      (after_end b.plan b.answers branches tokens).1 rest
  CompletesBehind-before (token.Cycle picks) (b ∷ branches) tokens few rest =
      before_cycle b.answers picks branches tokens (pick_verdict b.answers picks) few refl rest

-- trees are judged token by token
abbrev pub ByToken : Type 0 → Type 0
ByToken W =
    (tok : Tok) (tokens : List Tok) (branches : List (Branch W))
    → Completes (tok ∷ tokens) branches ↔ CompletesBehind tok tokens branches

module _ {W : Type 0} (by_token : ByToken W) (tok : Tok) (branches : List (Branch W)) where
  -- a token that is taken leaves what the others complete
  pub Completes-step :
      (next : List (Branch W)) (tokens : List Tok) → HasFewPicks tok → after tok branches ≡ Ok next
      → (Completes (tok ∷ tokens) branches ↔ Completes tokens next)
  Completes-step next tokens few taken = (
    λ whole.
        subst (λ (x : Result (List (Branch W)) CheckError). IsCompleted tokens x) taken
        (IsCompleted-after tok branches tokens ((by_token tok tokens branches).0 whole)),
    λ rest.
        (by_token tok tokens branches).1
        (CompletesBehind-before tok branches tokens few
        (subst (λ (x : Result (List (Branch W)) CheckError). IsCompleted tokens x) (sym taken) rest)),
  )

  -- a token that is refused begins nothing that completes them
  pub Completes-refused : (why : CheckError) (tokens : List Tok) → after tok branches ≡ Err why
      → Completes (tok ∷ tokens) branches → ⊥
  Completes-refused why tokens refused whole =
      subst (λ (x : Result (List (Branch W)) CheckError). IsCompleted tokens x) refused
      (IsCompleted-after tok branches tokens ((by_token tok tokens branches).0 whole))

  -- a token that is refused, not for want of memory, begins nothing that completes them
  pub Completes-none :
      (why : CheckError) (tokens : List Tok)
      → (why ≡ end.NoMemory) ⊎ (after tok branches ≡ Err why) → (why ≡ end.NoMemory → ⊥)
      → Completes (tok ∷ tokens) branches → ⊥
  Completes-none why tokens (inl memory) other whole = other memory
  Completes-none why tokens (inr refused) other whole = Completes-refused why tokens refused whole
