-- How the tokens of a tree are judged, one after another.
use Rattle.std.proofs.Common.{◌≡◌, ℕ, zero, suc, ◌+◌, ◌-◌, ◌<◌, ◌≤◌, List, [], ◌∷◌, ◌++◌, length, drop, Result, Ok, Err}
use Rattle.std.proofs.Common.{map, inl, inr, arith, refl, sym, ap, ◌∙◌, subst, length-append, length-drop}
use Rattle.std.proofs.lemmas.List.{length-map}
use Rattle.proof_trees.specs.declared.token.ProofTok.{ProofTok}
use Rattle.proof_trees.specs.declared.token.ProofTok.TheVariants as token
use Rattle.cert_check.specs.declared.verdict.Progress.{Progress}
use Rattle.cert_check.specs.declared.verdict.Progress.TheVariants.{More, Done}
use Rattle.proof_trees.specs.Starts.{Comparison}
use Rattle.proof_trees.specs.Starters.{Starts}
use Rattle.proof_trees.specs.Tokens.{Wanted}
use Rattle.proof_check.specs.declared.verdict.ProofError.{ProofError}
use Rattle.proof_check.specs.Judging.{IsProofCauseOf, standing_over}
use Rattle.open_places.specs.Places.{OpenProof, WantedAt}
use Rattle.proof_check.specs.Standings.{wanted_of}
use Rattle.proof_check.specs.Steps.{Standing, after_proof_token, IsTaken}
use Rattle.proof_text.specs.declared.unread.Unread.{Unread}
use Rattle.proof_text.specs.declared.unread.Unread.TheVariants.{Misspelt, Cut}
use Rattle.proof_text.specs.Answers.{Answers}
use Rattle.proof_text.specs.Exact.{FindsExactly}
use Rattle.proof_text.specs.Fronts.{Parsed, Found, Missing}
use Rattle.proof_text.specs.Spelling.{proof_token_text, IsSpellableInProof}
use Rattle.proof_text.specs.Tokens.{token_front}
use Rattle.proof_sections.specs.declared.refusal.ConfirmError.{ConfirmError}
use Rattle.proof_sections.specs.declared.refusal.ConfirmError.TheVariants as confirm
use Rattle.proof_sections.specs.Judgement.{Judges, LeadsBehind, and_then_judged, line_judged, after_token, ended_or}
use Rattle.proof_sections.specs.Judgement.{refused_at, tree_by, tree_judged, unread_at}

-- tokens are found where they are spelled
abbrev pub AreFound : Type 0
AreFound = FindsExactly token_front proof_token_text IsSpellableInProof

-- a token has a byte
proof_token_text-some : (tok : ProofTok) → 0 < length (proof_token_text tok)
proof_token_text-some token.Ask = omega arith
proof_token_text-some token.Holds = omega arith
proof_token_text-some (token.Cycle picks) = omega arith
proof_token_text-some (token.Lemma ls) = omega arith
proof_token_text-some (token.Cite number) = omega arith

-- fewer bytes are left after a token
pub fewer_after : AreFound → (tok : ProofTok) (bytes rest : List ℕ) → token_front bytes ≡ Found tok rest
    → length rest < length bytes
fewer_after exact tok bytes rest found =
    let spelled : bytes ≡ proof_token_text tok ++ rest = ((exact.found tok bytes rest).0 found).1 in
    let longer : length bytes ≡ length (proof_token_text tok) + length rest =
    ap (λ (x : List ℕ). length x) spelled ∙ length-append (proof_token_text tok) rest in
    let some : 0 < length (proof_token_text tok) = proof_token_text-some tok in omega arith

module _ {S W : Type 0} (compare : Comparison S) (total : ℕ) where
  -- what comes after a token is told by what comes later
  after_token-same :
      (offset : ℕ) (rest : List ℕ) (one other : Standing S W → Result (List ℕ) ConfirmError)
      (taken : Result (Standing S W) ProofError) → ((next : Standing S W) → one next ≡ other next)
      → after_token offset rest one taken ≡ after_token offset rest other taken
  after_token-same offset rest one other (Ok next) same =
      ap (λ (x : Result (List ℕ) ConfirmError). ended_or next.wanted rest x) (same next)
  after_token-same offset rest one other (Err e) same = refl

  -- where no bytes are left the tree is cut off
  tree_by-none : (most : ℕ) (at : Standing S W) → tree_by most compare total at [] ≡ tree_by 0 compare total at []
  unfolding tree_by
  tree_by-none zero at = refl
  tree_by-none (suc most) at = refl

  module _ (exact : AreFound) where
    -- a token more is one token, and then as many
    same_front :
        (k m : ℕ) (at : Standing S W) (b : ℕ) (left : List ℕ) → length (b ∷ left) ≤ suc k → length (b ∷ left) ≤ suc m
        → ((next : Standing S W) (rest : List ℕ) → length rest ≤ k → length rest ≤ m
        → tree_by k compare total next rest ≡ tree_by m compare total next rest)
        → (front : Parsed ProofTok) → token_front (b ∷ left) ≡ front
        → tree_by (suc k) compare total at (b ∷ left) ≡ tree_by (suc m) compare total at (b ∷ left)
    unfolding tree_by
    same_front k m at b left short below later (Found tok rest) is =
        let fewer : length rest < length (b ∷ left) = fewer_after exact tok (b ∷ left) rest is in
        rw is
        (after_token-same (total - length (b ∷ left)) rest (λ next. tree_by k compare total next rest)
        (λ next. tree_by m compare total next rest) (after_proof_token compare tok at.known at.wanted)
        (λ next. later next rest (omega arith) (omega arith)))
    same_front k m at b left short below later (Missing unread) is = rw is refl

    -- as many tokens as bytes are enough
    tree_by-enough :
        (k m : ℕ) (at : Standing S W) (left : List ℕ) → length left ≤ k → length left ≤ m
        → tree_by k compare total at left ≡ tree_by m compare total at left
    unfolding tree_by
    tree_by-enough k m at [] short below = tree_by-none k at ∙ sym (tree_by-none m at)
    tree_by-enough zero m at (b ∷ left) short below = absurd (omega arith)
    tree_by-enough (suc k) zero at (b ∷ left) short below = absurd (omega arith)
    tree_by-enough (suc k) (suc m) at (b ∷ left) short below =
        same_front k m at b left (omega arith) (omega arith)
        (λ next rest few fewer. tree_by-enough k m next rest few fewer) (token_front (b ∷ left)) refl

    -- a token is judged, and then what is left by what it leaves
    pub tree_judged-found :
        (at : Standing S W) (left rest : List ℕ) (tok : ProofTok) → token_front left ≡ Found tok rest
        → tree_judged compare total at left
        ≡ after_token (total - length left) rest (λ next. tree_judged compare total next rest)
        (after_proof_token compare tok at.known at.wanted)
    unfolding tree_judged tree_by
    tree_judged-found at [] rest tok found = absurd (cc)
    tree_judged-found at (b ∷ left) rest tok found =
        let fewer : length rest < length (b ∷ left) = fewer_after exact tok (b ∷ left) rest found in
        rw found
        (after_token-same (total - length (b ∷ left)) rest (λ next. tree_by (length left) compare total next rest)
        (λ next. tree_by (length rest) compare total next rest) (after_proof_token compare tok at.known at.wanted)
        (λ next. tree_by-enough (length left) (length rest) next rest (omega arith) (omega arith)))

    -- no token
    pub tree_judged-missing :
        (at : Standing S W) (left : List ℕ) (unread : Unread) → token_front left ≡ Missing unread
        → tree_judged compare total at left ≡ Err (unread_at total (total - length left) unread)
    unfolding tree_judged tree_by
    tree_judged-missing at [] Misspelt missing = absurd (cc)
    tree_judged-missing at [] Cut missing = refl
    tree_judged-missing at (b ∷ left) unread missing = rw missing refl

    -- behind a token that is taken, and after which something is wanted, the judgement goes on
    pub tree_judged-on :
        (at next : Standing S W) (left rest : List ℕ) (tok : ProofTok) → token_front left ≡ Found tok rest
        → IsTaken compare tok at next → 0 < length next.wanted
        → tree_judged compare total at left ≡ tree_judged compare total next rest
    tree_judged-on at next left rest tok found taken some =
        tree_judged-found at left rest tok found
        ∙ ap (λ (x : Result (Standing S W) ProofError).
        after_token (total - length left) rest (λ n. tree_judged compare total n rest) x) taken
        ∙ going_on next.wanted some (tree_judged compare total next rest)
      where
        going_on :
            (wanted : List (Wanted S W)) → 0 < length wanted → (later : Result (List ℕ) ConfirmError)
            → ended_or wanted rest later ≡ later
        going_on [] none later = absurd (omega arith)
        going_on (x ∷ wanted) more later = refl

    pub tree_judged-done :
        (at next : Standing S W) (left rest : List ℕ) (tok : ProofTok) → token_front left ≡ Found tok rest
        → IsTaken compare tok at next → next.wanted ≡ [] → tree_judged compare total at left ≡ Ok rest
    tree_judged-done at next left rest tok found taken none =
        tree_judged-found at left rest tok found
        ∙ ap (λ (x : Result (Standing S W) ProofError).
        after_token (total - length left) rest (λ n. tree_judged compare total n rest) x) taken
        ∙ ap (λ (w : List (Wanted S W)). ended_or w rest (tree_judged compare total next rest)) none

    pub tree_judged-refused :
        (at : Standing S W) (left rest : List ℕ) (tok : ProofTok) (e : ProofError) → token_front left ≡ Found tok rest
        → after_proof_token compare tok at.known at.wanted ≡ Err e
        → tree_judged compare total at left ≡ Err (refused_at (total - length left) e)
    tree_judged-refused at left rest tok e found refused =
        tree_judged-found at left rest tok found
        ∙ ap (λ (x : Result (Standing S W) ProofError).
        after_token (total - length left) rest (λ n. tree_judged compare total n rest) x) refused

-- how many bytes stand before a place
offset_at : (bytes : List ℕ) (at : ℕ) → at ≤ length bytes → length bytes - length (drop at bytes) ≡ at
offset_at bytes at within = omega (arith, length-drop at bytes)

judges_error :
    (bytes : List ℕ) (judged : Result (List ℕ) ConfirmError) (e : ConfirmError) → judged ≡ Err e
    → Judges bytes judged (Err e)
judges_error bytes judged (confirm.Refused offset cause) same = same
judges_error bytes judged confirm.NoMemory same = tt

-- a token that is found and taken leads behind it, or to the end where nothing more is wanted
pub front_leads :
    {N S W : Type 0} (exact : AreFound) (compare : Comparison S) (total : ℕ) (p : Progress) (tok : ProofTok)
    (bytes rest : List ℕ) (old : Standing S W) (starts : Starts N S W) (q : OpenProof N)
    → token_front bytes ≡ Found tok rest → IsTaken compare tok old (standing_over starts q)
    → (p ≡ More → 0 < length q.wanted) → (p ≡ Done → q.wanted ≡ [])
    → LeadsBehind compare total p old bytes (standing_over starts q) rest
front_leads exact compare total More tok bytes rest old starts q found taken some none =
    let more : 0 < length (standing_over starts q).wanted = rw length-map (some refl) in
    tree_judged-on compare total exact old (standing_over starts q) bytes rest tok found taken more
front_leads exact compare total Done tok bytes rest old starts q found taken some none =
    tree_judged-done compare total exact old (standing_over starts q) bytes rest tok found taken
    (ap (λ (w : List (WantedAt _)). map (wanted_of starts.marked) w) (none refl))

-- the token at a place of the bytes
module _ {S W : Type 0} (exact : AreFound) (compare : Comparison S) (bytes : List ℕ) (at : ℕ) (old : Standing S W) where
  module _ (within : at ≤ length bytes) where
    -- a token that is found and refused is what the tree is refused for, at the token's place
    pub token_refused :
        (tok : ProofTok) (rest : List ℕ) (e : ProofError) → token_front (drop at bytes) ≡ Found tok rest
        → IsProofCauseOf compare e tok old
        → Judges bytes (tree_judged compare (length bytes) old (drop at bytes)) (Err (refused_at at e))
    token_refused tok rest e found (inl want) =
        subst
        (λ (x : ProofError). Judges bytes (tree_judged compare (length bytes) old (drop at bytes))
        (Err (refused_at at x))) (sym want) tt
    token_refused tok rest e found (inr refused) =
        judges_error bytes (tree_judged compare (length bytes) old (drop at bytes)) (refused_at at e)
        (tree_judged-refused compare (length bytes) exact old (drop at bytes) rest tok e found refused
        ∙ ap (λ (n : ℕ). Err (refused_at n e)) (offset_at bytes at within))

    pub token_unread :
        (unread : Unread) → token_front (drop at bytes) ≡ Missing unread
        → Judges bytes (tree_judged compare (length bytes) old (drop at bytes))
        (Err (unread_at (length bytes) at unread))
    token_unread unread missing =
        judges_error bytes (tree_judged compare (length bytes) old (drop at bytes)) (unread_at (length bytes) at unread)
        (tree_judged-missing compare (length bytes) exact old (drop at bytes) unread missing
        ∙ ap (λ (n : ℕ). Err (unread_at (length bytes) n unread)) (offset_at bytes at within))

-- a line at a place of the bytes
pub line_found :
    (front : List ℕ → Parsed (Unit {0})) (bytes : List ℕ) (at next : ℕ) → Answers front bytes at tt (Ok next)
    → Judges bytes (line_judged (length bytes) front (drop at bytes)) (Ok next)
line_found front bytes at next (further, within, found) = (within, rw found refl)

pub line_unread :
    (front : List ℕ → Parsed (Unit {0})) (bytes : List ℕ) (at : ℕ) (unread : Unread) → at ≤ length bytes
    → Answers front bytes at tt (Err unread)
    → Judges bytes (line_judged (length bytes) front (drop at bytes)) (Err (unread_at (length bytes) at unread))
line_unread front bytes at unread within missing =
    judges_error bytes (line_judged (length bytes) front (drop at bytes)) (unread_at (length bytes) at unread)
    (rw missing (ap (λ (n : ℕ). Err (unread_at (length bytes) n unread)) (offset_at bytes at within)))

-- what is judged after what was accepted
pub judges_then :
    (bytes : List ℕ) (one : Result (List ℕ) ConfirmError) (next : List ℕ → Result (List ℕ) ConfirmError) (at : ℕ)
    (result : Result ℕ ConfirmError)
    → Judges bytes one (Ok at) → Judges bytes (next (drop at bytes)) result
    → Judges bytes (and_then_judged one next) result
judges_then bytes one next at result (within, is) later =
    subst (λ (x : Result (List ℕ) ConfirmError). Judges bytes (and_then_judged x next) result) (sym is) later

pub judges_not :
    (bytes : List ℕ) (one : Result (List ℕ) ConfirmError) (next : List ℕ
    → Result (List ℕ) ConfirmError) (e : ConfirmError)
    → Judges bytes one (Err e) → Judges bytes (and_then_judged one next) (Err e)
judges_not bytes one next (confirm.Refused offset cause) is =
    ap (λ (x : Result (List ℕ) ConfirmError). and_then_judged x next) is
judges_not bytes one next confirm.NoMemory is = tt
