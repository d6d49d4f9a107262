-- What is judged of bytes stands where more bytes follow, unless they end too early.
use Rattle.std.proofs.Common.{◌≡◌, ℕ, zero, suc, ◌+◌, ◌-◌, ◌≤◌, List, [], ◌∷◌, ◌++◌, length, Result, Ok, Err, arith}
use Rattle.std.proofs.Common.{refl, sym, ap, ◌∙◌, subst, length-append}
use Rattle.fn_rules.specs.declared.function.Level.{Level}
use Rattle.fn_rules.specs.declared.function.ObName.{ObName}
use Rattle.proof_trees.specs.Starts.{MarkedPlan, Comparison}
use Rattle.proof_trees.specs.Tokens.{Wanted}
use Rattle.proof_check.specs.declared.verdict.ProofError.{ProofError}
use Rattle.proof_check.specs.Steps.{Standing, after_proof_token}
use Rattle.proof_text.specs.declared.unread.Unread.TheVariants.{Misspelt, Cut}
use Rattle.proof_text.specs.Exact.{FindsExactly}
use Rattle.proof_text.specs.Fronts.{Parsed, Found, Missing}
use Rattle.proof_text.specs.Lines.{header_front, ob_front, line_end_front, end_front}
use Rattle.proof_text.specs.Tokens.{token_front}
use Rattle.proof_sections.specs.declared.refusal.ProofRefusal.{ProofRefusal}
use Rattle.proof_sections.specs.declared.refusal.ProofRefusal.TheVariants as why
use Rattle.proof_sections.specs.declared.refusal.ConfirmError.{ConfirmError}
use Rattle.proof_sections.specs.declared.refusal.ConfirmError.TheVariants as confirm
use Rattle.proof_sections.specs.Judgement.{after_part, after_token, and_then_judged, end_judged, ended_or, line_judged}
use Rattle.proof_sections.specs.Judgement.{nothing_after, opened_tree, proof_judged, refused_at, section_judged}
use Rattle.proof_sections.specs.Judgement.{sections_judged, tree_by, tree_judged}

-- a refusal is the same in the other judgement, unless the bytes end too early; and what is accepted is kept so
abbrev Stands : {A : Type 0} → (A → Result A ConfirmError → Type 0) → Result A ConfirmError
    → Result A ConfirmError → Type 0
Stands Keeps (Ok a) other = Keeps a other
Stands Keeps (Err (confirm.Refused offset cause)) other = (cause ≡ why.Truncated → ⊥)
    → other ≡ Err (confirm.Refused offset cause)
Stands Keeps (Err confirm.NoMemory) other = Unit {0}

-- where nothing is told of what is accepted
abbrev KeepsNone : {A : Type 0} → A → Result A ConfirmError → Type 0
KeepsNone a other = Unit {0}

-- what is found is found where more bytes follow, which come after what is left; and so is what is misspelt
pub record StaysFound {A : Type 0} (front : List ℕ → Parsed A) : Type 0 where
  pub fewer : (a : A) (bytes rest : List ℕ) → front bytes ≡ Found a rest → length rest ≤ length bytes
  pub found : (a : A) (bytes rest more : List ℕ) → front bytes ≡ Found a rest
      → front (bytes ++ more) ≡ Found a (rest ++ more)
  pub misspelt : (bytes more : List ℕ) → front bytes ≡ Missing Misspelt → front (bytes ++ more) ≡ Missing Misspelt

-- what is found exactly stays found where more bytes follow, and what is misspelt stays misspelt
pub stays_found :
    {A : Type 0} {front : List ℕ → Parsed A} {text : A → List ℕ} {Spelled : A → Type 0}
    → FindsExactly front text Spelled
    → StaysFound front
stays_found {A} {front} {text} {Spelled} exact =
    record { fewer = fewer; found = exact.found_longer; misspelt = exact.misspelt_longer }
  where
    fewer : (a : A) (bytes rest : List ℕ) → front bytes ≡ Found a rest → length rest ≤ length bytes
    fewer a bytes rest found =
        let spelled : bytes ≡ text a ++ rest = ((exact.found a bytes rest).0 found).1 in
        let whole : length bytes ≡ length (text a) + length rest =
        ap (λ (x : List ℕ). length x) spelled ∙ length-append (text a) rest in
        omega arith

-- so do all parts of a proof
pub record PartsStayFound : Type 0 where
  pub headers : StaysFound header_front
  pub obs : (name : ObName) → StaysFound (ob_front name)
  pub tokens : StaysFound token_front
  pub line_ends : StaysFound line_end_front
  pub ends : StaysFound end_front

same_error :
    {A : Type 0} (Keeps : A → Result A ConfirmError → Type 0) (e : ConfirmError) (other : Result A ConfirmError)
    → other ≡ Err e
    → Stands Keeps (Err e) other
same_error Keeps (confirm.Refused offset cause) other same = λ early. same
same_error Keeps confirm.NoMemory other same = tt

-- `total` bytes, and `longer` where more follow
module _ (more : List ℕ) (total longer : ℕ) (grown : longer ≡ total + length more) where
  -- the bytes that are left are followed by the others
  abbrev KeepsRest : List ℕ → Result (List ℕ) ConfirmError → Type 0
  KeepsRest rest other = (length rest ≤ total) × (other ≡ Ok (rest ++ more))

  same_offset : (left : List ℕ) → length left ≤ total → longer - length (left ++ more) ≡ total - length left
  same_offset left within = omega (arith, grown, length-append left more)

  then_stands :
      {B : Type 0} (Keeps : B → Result B ConfirmError → Type 0) (one other : Result (List ℕ) ConfirmError)
      (next later : List ℕ → Result B ConfirmError) → Stands KeepsRest one other
      → ((rest : List ℕ) → length rest ≤ total → Stands Keeps (next rest) (later (rest ++ more)))
      → Stands Keeps (and_then_judged one next) (and_then_judged other later)
  then_stands {B} Keeps (Ok rest) other next later stands go_on =
      subst (λ (x : Result (List ℕ) ConfirmError). Stands Keeps (next rest) (and_then_judged x later))
      (sym stands.1) (go_on rest stands.0)
  then_stands {B} Keeps (Err (confirm.Refused offset cause)) other next later stands go_on =
      λ early. ap (λ (x : Result (List ℕ) ConfirmError). and_then_judged x later) (stands early)
  then_stands {B} Keeps (Err confirm.NoMemory) other next later stands go_on = tt

  module _ {A : Type 0} {front : List ℕ → Parsed A} (stays : StaysFound front) where
    -- a part, and what is judged after it
    part_stands :
        {B : Type 0} (Keeps : B → Result B ConfirmError → Type 0) (left : List ℕ) (next later : A
        → List ℕ → Result B ConfirmError)
        → length left ≤ total
        → ((a : A) (rest : List ℕ) → length rest ≤ total → Stands Keeps (next a rest) (later a (rest ++ more)))
        → (found : Parsed A) → front left ≡ found
        → Stands Keeps (after_part total left found next)
        (after_part longer (left ++ more) (front (left ++ more)) later)
    part_stands {B} Keeps left next later within go_on (Found a rest) is =
        subst (λ (x : Parsed A). Stands Keeps (next a rest) (after_part longer (left ++ more) x later))
        (sym (stays.found a left rest more is)) (let fewer = stays.fewer a left rest is in go_on a rest (omega arith))
    part_stands {B} Keeps left next later within go_on (Missing Misspelt) is =
        λ early.
        ap (λ (x : Parsed A). after_part longer (left ++ more) x later) (stays.misspelt left more is)
        ∙ ap (λ (n : ℕ). Err (confirm.Refused n why.Token)) (same_offset left within)
    part_stands {B} Keeps left next later within go_on (Missing Cut) is = λ early. absurd (early refl)

  line_stands :
      (front : List ℕ → Parsed (Unit {0})) → StaysFound front → (left : List ℕ) → length left ≤ total
      → Stands KeepsRest (line_judged total front left) (line_judged longer front (left ++ more))
  line_stands front stays left within =
      part_stands stays KeepsRest left (λ line rest. Ok rest) (λ line rest. Ok rest) within
      (λ line rest short. (short, refl)) (front left) refl

  module _ {S W : Type 0} (parts : PartsStayFound) (compare : Comparison S) where
    end_or_stands :
        (wanted : List (Wanted S W)) (rest : List ℕ) (one other : Result (List ℕ) ConfirmError) → length rest ≤ total
        → Stands KeepsRest one other
        → Stands KeepsRest (ended_or wanted rest one) (ended_or wanted (rest ++ more) other)
    end_or_stands [] rest one other within stands = (within, refl)
    end_or_stands (x ∷ wanted) rest one other within stands = stands

    token_stands :
        (left rest : List ℕ) (one other : Standing S W → Result (List ℕ) ConfirmError)
        → length left ≤ total → length rest ≤ total
        → ((next : Standing S W) → Stands KeepsRest (one next) (other next))
        → (taken : Result (Standing S W) ProofError)
        → Stands KeepsRest (after_token (total - length left) rest one taken)
        (after_token (longer - length (left ++ more)) (rest ++ more) other taken)
    token_stands left rest one other within short go_on (Ok next) =
        end_or_stands next.wanted rest (one next) (other next) short (go_on next)
    token_stands left rest one other within short go_on (Err e) =
        same_error KeepsRest (refused_at (total - length left) e) (Err (refused_at (longer - length (left ++ more)) e))
        (ap (λ (n : ℕ). Err (refused_at n e)) (same_offset left within))

    -- more tokens may be read where more bytes are left
    tree_by-stands :
        (few many : ℕ) (at : Standing S W) (left : List ℕ) → few ≤ many → length left ≤ total
        → Stands KeepsRest (tree_by few compare total at left) (tree_by many compare longer at (left ++ more))
    unfolding tree_by
    tree_by-stands zero many at left fewer within = λ early. absurd (early refl)
    tree_by-stands (suc few) zero at left fewer within = absurd (omega arith)
    tree_by-stands (suc few) (suc many) at left fewer within =
        part_stands parts.tokens KeepsRest left
        (λ tok rest.
        after_token (total - length left) rest (λ next. tree_by few compare total next rest)
        (after_proof_token compare tok at.known at.wanted))
        (λ tok rest.
        after_token (longer - length (left ++ more)) rest (λ next. tree_by many compare longer next rest)
        (after_proof_token compare tok at.known at.wanted))
        within
        (λ tok rest short.
        token_stands left rest (λ next. tree_by few compare total next rest) (λ next. tree_by many compare
        longer next (rest ++ more)) within short (λ next. tree_by-stands few many next rest (omega arith) short)
        (after_proof_token compare tok at.known at.wanted)) (token_front left) refl

    tree_stands :
        (at : Standing S W) (left : List ℕ) → length left ≤ total
        → Stands KeepsRest (tree_judged compare total at left) (tree_judged compare longer at (left ++ more))
    unfolding tree_judged
    tree_stands at left within =
        tree_by-stands (length left) (length (left ++ more)) at left (omega (arith, length-append left more)) within

    -- what is judged of a section stands where more bytes follow, unless they end too early
    section_stands :
        (p : MarkedPlan S W) (name : ObName) (left : List ℕ) → length left ≤ total
        → Stands KeepsRest (section_judged compare p name total left)
        (section_judged compare p name longer (left ++ more))
    unfolding section_judged
    section_stands p name left within =
        then_stands KeepsRest (line_judged total (ob_front name) left)
        (line_judged longer (ob_front name) (left ++ more))
        (λ rest. and_then_judged (tree_judged compare total (opened_tree p) rest) (line_judged total line_end_front))
        (λ rest. and_then_judged (tree_judged compare longer (opened_tree p) rest) (line_judged longer line_end_front))
        (line_stands (ob_front name) (parts.obs name) left within)
        (λ rest short.
        then_stands KeepsRest (tree_judged compare total (opened_tree p) rest) (tree_judged compare
        longer (opened_tree p) (rest ++ more)) (line_judged total line_end_front) (line_judged longer line_end_front)
        (tree_stands (opened_tree p) rest short) (line_stands line_end_front parts.line_ends))

    sections_stand :
        (plan : ObName → MarkedPlan S W) (names : List ObName) (left : List ℕ) → length left ≤ total
        → Stands KeepsRest (sections_judged compare plan names total left)
        (sections_judged compare plan names longer (left ++ more))
    unfolding sections_judged
    sections_stand plan [] left within = (within, refl)
    sections_stand plan (name ∷ names) left within =
        then_stands KeepsRest (section_judged compare (plan name) name total left)
        (section_judged compare (plan name) name longer (left ++ more)) (sections_judged compare plan names total)
        (sections_judged compare plan names longer) (section_stands (plan name) name left within)
        (λ rest short. sections_stand plan names rest short)

  nothing_stands :
      (left : List ℕ) → length left ≤ total
      → Stands KeepsNone (nothing_after total left) (nothing_after longer (left ++ more))
  nothing_stands [] within = tt
  nothing_stands (b ∷ rest) within =
      λ early. ap (λ (n : ℕ). Err (confirm.Refused n why.Trailing)) (same_offset (b ∷ rest) within)

  end_stands :
      PartsStayFound → (left : List ℕ) → length left ≤ total
      → Stands KeepsNone (end_judged total left) (end_judged longer (left ++ more))
  unfolding end_judged
  end_stands parts left within =
      then_stands KeepsNone (line_judged total end_front left) (line_judged longer end_front (left ++ more))
      (nothing_after total) (nothing_after longer) (line_stands end_front parts.ends left within) nothing_stands

  -- the level is what was read first
  level_stands :
      (level : Level) (one other : Result (Unit {0}) ConfirmError) → Stands KeepsNone one other
      → Stands KeepsNone (and_then_judged one (λ done. Ok level)) (and_then_judged other (λ done. Ok level))
  level_stands level (Ok done) other stands = tt
  level_stands level (Err (confirm.Refused offset cause)) other stands =
      λ early. ap (λ (x : Result (Unit {0}) ConfirmError). and_then_judged x (λ done. Ok level)) (stands early)
  level_stands level (Err confirm.NoMemory) other stands = tt

module _ {S W : Type 0} (parts : PartsStayFound) (compare : Comparison S) (plan : ObName → MarkedPlan S W)
    (names : Level → List ObName) (bytes more : List ℕ) where
  -- what is judged of a proof stands where more bytes follow, unless they end too early
  proof_stands : Stands KeepsNone (proof_judged compare plan names bytes)
      (proof_judged compare plan names (bytes ++ more))
  unfolding proof_judged
  proof_stands =
      let total = length bytes in
      let longer = length (bytes ++ more) in
      let grown = length-append bytes more in
      part_stands more total longer grown parts.headers KeepsNone bytes
      (λ level rest.
      and_then_judged (sections_judged compare plan (names level) total rest)
      (λ behind. and_then_judged (end_judged total behind) (λ done. Ok level)))
      (λ level rest.
      and_then_judged (sections_judged compare plan (names level) longer rest)
      (λ behind. and_then_judged (end_judged longer behind) (λ done. Ok level)))
      (omega arith)
      (λ level rest short.
      then_stands more total longer grown KeepsNone (sections_judged compare plan (names level) total rest)
      (sections_judged compare plan (names level) longer (rest ++ more))
      (λ behind. and_then_judged (end_judged total behind) (λ done. Ok level))
      (λ behind. and_then_judged (end_judged longer behind) (λ done. Ok level))
      (sections_stand more total longer grown parts compare plan (names level) rest short)
      (λ behind few.
      level_stands more total longer grown level (end_judged total behind) (end_judged longer (behind ++ more))
      (end_stands more total longer grown parts behind few)))
      (header_front bytes) refl

  -- a refusal that is not for bytes that end too early is that of the longer bytes
  pub refusal_stands :
      (offset : ℕ) (cause : ProofRefusal) → proof_judged compare plan names bytes ≡ Err (confirm.Refused offset cause)
      → (cause ≡ why.Truncated → ⊥)
      → proof_judged compare plan names (bytes ++ more) ≡ Err (confirm.Refused offset cause)
  refusal_stands offset cause refused early =
      subst (λ (x : Result Level ConfirmError). Stands KeepsNone x (proof_judged compare plan names (bytes ++ more)))
      refused proof_stands early
