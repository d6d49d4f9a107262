-- A section, all sections and a whole proof, by what is judged of their parts.
use Rattle.std.proofs.Common.{◌≡◌, ◌⊎◌, inl, inr, ℕ, ◌-◌, ◌<◌, ◌≤◌, List, [], ◌∷◌, length, drop, Result, Ok, Err, arith}
use Rattle.std.proofs.Common.{refl, sym, ap, ◌∙◌, length-drop}
use Rattle.fn_rules.specs.declared.function.Level.{Level}
use Rattle.fn_rules.specs.declared.function.ObName.{ObName}
use Rattle.proof_trees.specs.Starts.{MarkedPlan, Comparison}
use Rattle.proof_text.specs.declared.unread.Unread.{Unread}
use Rattle.proof_text.specs.Fronts.{Found, Missing}
use Rattle.proof_text.specs.Lines.{header_front, ob_front, line_end_front, end_front}
use Rattle.proof_sections.specs.declared.refusal.ProofRefusal.TheVariants as why
use Rattle.proof_sections.specs.declared.refusal.ConfirmError.{ConfirmError}
use Rattle.proof_sections.specs.declared.refusal.ConfirmError.TheVariants as confirm
use Rattle.proof_sections.specs.Judgement.{Judges, and_then_judged, end_judged, line_judged, nothing_after, opened_tree}
use Rattle.proof_sections.specs.Judgement.{proof_judged, section_judged, sections_judged, tree_judged, unread_at}
use Rattle.proof_sections.proofs.Trees.{judges_not, judges_then}

module _ {S W : Type 0} (compare : Comparison S) (p : MarkedPlan S W) (name : ObName) (bytes : List ℕ) (at : ℕ) where
  pub section_no_line :
      (e : ConfirmError) → Judges bytes (line_judged (length bytes) (ob_front name) (drop at bytes)) (Err e)
      → Judges bytes (section_judged compare p name (length bytes) (drop at bytes)) (Err e)
  unfolding section_judged
  section_no_line e is =
      judges_not bytes (line_judged (length bytes) (ob_front name) (drop at bytes))
      (λ rest. and_then_judged (tree_judged compare (length bytes) (opened_tree p) rest)
      (line_judged (length bytes) line_end_front)) e is

  module _ (start : ℕ)
      (line : Judges bytes (line_judged (length bytes) (ob_front name) (drop at bytes)) (Ok start)) where
    pub section_no_tree :
        (e : ConfirmError)
        → Judges bytes (tree_judged compare (length bytes) (opened_tree p) (drop start bytes)) (Err e)
        → Judges bytes (section_judged compare p name (length bytes) (drop at bytes)) (Err e)
    unfolding section_judged
    section_no_tree e is =
        judges_then bytes (line_judged (length bytes) (ob_front name) (drop at bytes))
        (λ rest. and_then_judged (tree_judged compare (length bytes) (opened_tree p) rest)
        (line_judged (length bytes) line_end_front)) start (Err e) line
        (judges_not bytes (tree_judged compare (length bytes) (opened_tree p) (drop start bytes))
        (line_judged (length bytes) line_end_front) e is)

    -- a section whose line and tree are accepted is judged as what ends its line is
    pub section_whole :
        (behind : ℕ) (result : Result ℕ ConfirmError)
        → Judges bytes (tree_judged compare (length bytes) (opened_tree p) (drop start bytes)) (Ok behind)
        → Judges bytes (line_judged (length bytes) line_end_front (drop behind bytes)) result
        → Judges bytes (section_judged compare p name (length bytes) (drop at bytes)) result
    unfolding section_judged
    section_whole behind result tree is =
        judges_then bytes (line_judged (length bytes) (ob_front name) (drop at bytes))
        (λ rest. and_then_judged (tree_judged compare (length bytes) (opened_tree p) rest)
        (line_judged (length bytes) line_end_front)) start result line
        (judges_then bytes (tree_judged compare (length bytes) (opened_tree p) (drop start bytes))
        (line_judged (length bytes) line_end_front) behind result tree is)

module _ {S W : Type 0} (compare : Comparison S) (plan : ObName → MarkedPlan S W) (bytes : List ℕ) (at : ℕ) where
  pub sections_none : at ≤ length bytes
      → Judges bytes (sections_judged compare plan [] (length bytes) (drop at bytes)) (Ok at)
  unfolding sections_judged
  sections_none within = (within, refl)

  module _ (name : ObName) (names : List ObName) where
    pub sections_not :
        (e : ConfirmError)
        → Judges bytes (section_judged compare (plan name) name (length bytes) (drop at bytes)) (Err e)
        → Judges bytes (sections_judged compare plan (name ∷ names) (length bytes) (drop at bytes)) (Err e)
    unfolding sections_judged
    sections_not e is =
        judges_not bytes (section_judged compare (plan name) name (length bytes) (drop at bytes))
        (sections_judged compare plan names (length bytes)) e is

    pub sections_then :
        (next : ℕ) (result : Result ℕ ConfirmError)
        → Judges bytes (section_judged compare (plan name) name (length bytes) (drop at bytes)) (Ok next)
        → Judges bytes (sections_judged compare plan names (length bytes) (drop next bytes)) result
        → Judges bytes (sections_judged compare plan (name ∷ names) (length bytes) (drop at bytes)) result
    unfolding sections_judged
    sections_then next result one others =
        judges_then bytes (section_judged compare (plan name) name (length bytes) (drop at bytes))
        (sections_judged compare plan names (length bytes)) next result one others

-- the answer is want of memory, or the judgement
abbrev pub AnswersJudged : Result Level ConfirmError → Result Level ConfirmError → Type 0
AnswersJudged judged answer = (answer ≡ Err confirm.NoMemory) ⊎ (answer ≡ judged)

module _ {S W : Type 0} (compare : Comparison S) (plan : ObName → MarkedPlan S W) (names : Level
    → List ObName) (bytes : List ℕ) where
  pub proof_no_header :
      (unread : Unread) → header_front bytes ≡ Missing unread
      → AnswersJudged (proof_judged compare plan names bytes) (Err (unread_at (length bytes) 0 unread))
  unfolding proof_judged
  proof_no_header unread missing =
      let none : length bytes - length bytes ≡ 0 = omega arith in
      inr (rw missing (ap (λ (n : ℕ). Err (unread_at (length bytes) n unread)) (sym none)))

  module _ (level : Level) (start : ℕ) (header : header_front bytes ≡ Found level (drop start bytes)) where
    after_header :
        proof_judged compare plan names bytes
        ≡ and_then_judged (sections_judged compare plan (names level) (length bytes) (drop start bytes))
        (λ behind. and_then_judged (end_judged (length bytes) behind) (λ done. Ok level))
    unfolding proof_judged
    after_header = rw header refl

    -- what refuses the sections refuses the proof
    pub proof_no_section :
        (e : ConfirmError)
        → Judges bytes (sections_judged compare plan (names level) (length bytes) (drop start bytes)) (Err e)
        → AnswersJudged (proof_judged compare plan names bytes) (Err e)
    proof_no_section (confirm.Refused offset cause) is =
        inr
        (sym
        (after_header
        ∙ ap (λ (x : Result (List ℕ) ConfirmError).
        and_then_judged x (λ behind. and_then_judged (end_judged (length bytes) behind) (λ done. Ok level))) is))
    proof_no_section confirm.NoMemory is = inl refl

    module _ (behind : ℕ)
        (sections : Judges bytes (sections_judged compare plan (names level) (length bytes) (drop start bytes))
        (Ok behind)) where
      after_sections :
          proof_judged compare plan names bytes
          ≡ and_then_judged (end_judged (length bytes) (drop behind bytes)) (λ done. Ok level)
      after_sections =
          after_header
          ∙ ap (λ (x : Result (List ℕ) ConfirmError).
          and_then_judged x (λ rest. and_then_judged (end_judged (length bytes) rest) (λ done. Ok level))) sections.1

      -- what refuses the last line refuses the proof
      pub proof_no_end :
          (e : ConfirmError) → Judges bytes (line_judged (length bytes) end_front (drop behind bytes)) (Err e)
          → AnswersJudged (proof_judged compare plan names bytes) (Err e)
      unfolding end_judged
      proof_no_end (confirm.Refused offset cause) is =
          inr
          (sym
          (after_sections
          ∙ ap
          (λ (x : Result (List ℕ) ConfirmError).
          and_then_judged (and_then_judged x (nothing_after (length bytes))) (λ done. Ok level)) is))
      proof_no_end confirm.NoMemory is = inl refl

      module _ (end : ℕ) (last : Judges bytes (line_judged (length bytes) end_front (drop behind bytes)) (Ok end)) where
        after_end :
            proof_judged compare plan names bytes
            ≡ and_then_judged (nothing_after (length bytes) (drop end bytes)) (λ done. Ok level)
        unfolding end_judged
        after_end =
            after_sections
            ∙ ap
            (λ (x : Result (List ℕ) ConfirmError).
            and_then_judged (and_then_judged x (nothing_after (length bytes))) (λ done. Ok level)) last.1

        nothing_left :
            (rest : List ℕ) → length rest ≡ 0
            → and_then_judged (nothing_after (length bytes) rest) (λ done. Ok level) ≡ Ok level
        nothing_left [] none = refl
        nothing_left (b ∷ rest) some = absurd (omega arith)

        something_left :
            (rest : List ℕ) → 0 < length rest
            → and_then_judged (nothing_after (length bytes) rest) (λ done. Ok level)
            ≡ Err (confirm.Refused (length bytes - length rest) why.Trailing)
        something_left [] none = absurd (omega arith)
        something_left (b ∷ rest) some = refl

        pub proof_whole : end ≡ length bytes → AnswersJudged (proof_judged compare plan names bytes) (Ok level)
        proof_whole all =
            inr (sym (after_end ∙ nothing_left (drop end bytes) (omega (arith, length-drop end bytes))))

        -- bytes behind the last line are refused where they begin
        pub proof_trailing :
            (end ≡ length bytes → ⊥)
            → AnswersJudged (proof_judged compare plan names bytes) (Err (confirm.Refused end why.Trailing))
        proof_trailing more =
            let within : end ≤ length bytes = last.0 in
            let left : length (drop end bytes) ≡ length bytes - end = length-drop end bytes in
            let some : 0 < length (drop end bytes) = grind (arith, left, more, within) in
            let offset : length bytes - length (drop end bytes) ≡ end = omega arith in
            inr
            (sym
            (after_end ∙ something_left (drop end bytes) some
            ∙ ap (λ (n : ℕ). Err (confirm.Refused n why.Trailing)) offset))
