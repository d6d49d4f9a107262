-- A low certificate of a feed, from its first line to its last.
use Rattle.std.proofs.Common.{◌≡◌, ℕ, true, ◌≤◌, List, [], ◌++◌, length, Option, Some, Result, Ok, Err, IfErr, OnOk}
use Rattle.std.proofs.Common.{◌⊎◌, inl, inr, refl, ap, subst, ◌∙◌}
use Rattle.fn_rules.specs.declared.function.Head.{Head}
use Rattle.fn_rules.specs.declared.function.Level.{Level}
use Rattle.fn_rules.specs.declared.function.ObName.{ObName}
use Rattle.fn_rules.specs.Functions.{Function}
use Rattle.cert_text.specs.Places.{Line}
use Rattle.cert_text.specs.Reading.{ReaderState, Reading}
use Rattle.ot_outside.specs.declared.feed.Feed.{Ghosts}
use Rattle.ot_questions.specs.declared.why.Why.{Why}
use Rattle.ot_questions.specs.Obligation.{plan_below}
use Rattle.ot_sections.specs.declared.premise.TheConstants.{MAX_BOUND}
use Rattle.refusals.specs.declared.refusal.JudgeError.{JudgeError}
use Rattle.refusals.specs.declared.refusal.JudgeError.TheVariants as judge
use Rattle.ot_sections.specs.Feeding.{Has, MayGive, MayGiveOf, MayHave, Whole, Yields, fed}
use Rattle.ot_sections.specs.Parts.{IsJudged, IsRefused, Point}
use Rattle.ot_sections.specs.Stands.{IsJudgedBehind, point_of, stand}
use Rattle.ot_bound.specs.Judgements.{IsJudgedLow, IsJudgedRest, IsLowJudgement, IsNoHeaderBehind, IsNoJudgement}
use Rattle.ot_bound.specs.Judgements.{behind_header}
use Rattle.ot_bound.specs.Lows.{IsLow, low_header_text, parts_of}

module _ {F : Type 0} (feeds : Ghosts F) (f : Function) (feed new : F) where
  -- some bytes that the feed might give have the judgement
  abbrev HaveJudgement : Result (Level × ℕ) JudgeError → Type 0
  HaveJudgement answer =
      (all : Whole) → Has feeds new all → (bytes : List ℕ) × Yields feeds feed all bytes × IsLowJudgement f bytes answer

  -- an answer that is no certificate
  pub answered : (e : JudgeError) → (IsRefused e → HaveJudgement (Err e))
      → IsNoJudgement {T = Level × ℕ} (Err e) ⊎ HaveJudgement (Err e)
  answered (judge.Refused offset why) refused = inr (refused tt)
  answered judge.Failed refused = inl (inl refl)
  answered judge.NoMemory refused = inl (inr refl)

  pub header_refused : (e : JudgeError) → IsNoHeaderBehind feeds feed new e → IsRefused e → HaveJudgement (Err e)
  header_refused (judge.Refused offset why) none refused all have = let there = none tt all have in
      (there.0, there.1, inl there.2)
  header_refused judge.Failed none refused all have = absurd refused
  header_refused judge.NoMemory none refused all have = absurd refused

  -- a first line that was read, and what is judged behind it
  module _ (level : Level) (bound : ℕ) (bounded : bound ≤ MAX_BOUND) (first : F)
      (header : (all : Whole) (rest : List ℕ) → Yields feeds first all rest
      → Yields feeds feed all (low_header_text level bound ++ rest)) where
    abbrev AreJudged : Result (Unit {0}) JudgeError → Type 0
    AreJudged end = (all : Whole) → Has feeds new all → IsJudgedRest feeds f level bound first all end

    with_header :
        (end : Result (Unit {0}) JudgeError) (all : Whole) → IsJudgedRest feeds f level bound first all end
        → (bytes : List ℕ) × Yields feeds feed all bytes × IsJudgedLow f end bytes level bound
    with_header end all (rest, may, judged) =
        (low_header_text level bound ++ rest, header all rest may, (bounded, (rest, refl, judged)))

    -- it is refused
    pub behind_refused :
        (e : JudgeError) → IsNoJudgement {T = Unit {0}} (Err e) ⊎ AreJudged (Err e)
        → IsNoJudgement {T = Level × ℕ} (Err e) ⊎ HaveJudgement (Err e)
    behind_refused (judge.Refused offset why) (inl (inl none)) = absurd (cc)
    behind_refused (judge.Refused offset why) (inl (inr none)) = absurd (cc)
    behind_refused (judge.Refused offset why) (inr judged) =
        inr (λ all have.
        let there = with_header (Err (judge.Refused offset why)) all (judged all have) in
        (there.0, there.1, inr (level, bound, there.2)))
    behind_refused judge.Failed judged = inl (inl refl)
    behind_refused judge.NoMemory judged = inl (inr refl)

    -- or it is the certificate
    pub behind_judged :
        ((bytes : List ℕ) → IsJudgedLow f (Ok tt) bytes level bound → IsLow bytes f level bound)
        → IsNoJudgement {T = Unit {0}} (Ok tt) ⊎ AreJudged (Ok tt) → HaveJudgement (Ok (level, bound))
    behind_judged law (inl (inl none)) = absurd (cc)
    behind_judged law (inl (inr none)) = absurd (cc)
    behind_judged law (inr judged) = λ all have.
        let there = with_header (Ok tt) all (judged all have) in
        (there.0, there.1, law there.0 there.2)

-- the sections behind a first line, as a reader judges them that begins there
module _ {F : Type 0} (feeds : Ghosts F) (f : Function) (level : Level) (bound : ℕ)
    (feed new : F) (reader : ReaderState)
    (at : point_of {W = Why} (stand (fed reader feed) []) ≡ behind_header f level bound) where
  abbrev Judged : Result (Unit {0}) JudgeError → Type 0
  Judged end = IsJudgedBehind feeds (plan_below f (Some bound)) (stand (fed reader feed) []) new end

  there : (end : Result (Unit {0}) JudgeError) → Judged end → (all : Whole) → Has feeds new all
      → IsJudgedRest feeds f level bound feed all end
  there end judged all have =
      let (rest, may, is) = judged all have in
      (rest, may, subst (λ (p : Point Why). IsJudged (plan_below f (Some bound)) end p rest) at is)

  pub sections_judged :
      (answer : Result (Unit {0}) JudgeError) → OnOk answer (Judged (Ok tt))
      → IfErr answer (λ e. IsRefused e → Judged (Err e))
      → IsNoJudgement answer ⊎ ((all : Whole) → Has feeds new all → IsJudgedRest feeds f level bound feed all answer)
  sections_judged (Ok done) fit refused = inr (there (Ok tt) fit)
  sections_judged (Err (judge.Refused offset why)) fit refused =
      inr (there (Err (judge.Refused offset why)) (refused tt))
  sections_judged (Err judge.Failed) fit refused = inl (inl refl)
  sections_judged (Err judge.NoMemory) fit refused = inl (inr refl)

-- the point of a reader that begins behind the first line
pub point_is :
    {F : Type 0} (f : Function) (head : Head) (level : Level) (bound before : ℕ) (names : List ObName)
    (reader : ReaderState) (feed : F)
    → reader ≡ Reading (Line 0 names) before [] → names ≡ parts_of head level → head ≡ f.head
    → before ≡ length (low_header_text level bound)
    → point_of {W = Why} (stand (fed reader feed) []) ≡ behind_header f level bound
point_is f head level bound before names reader feed is listed same counted =
    let all : names ≡ parts_of f.head level = listed ∙ ap (λ (h : Head). parts_of h level) same in
    let whole : reader ≡ Reading (Line 0 (parts_of f.head level)) (length (low_header_text level bound)) [] =
    is ∙ ap (λ (l : List ObName). Reading (Line 0 l) before []) all
    ∙ ap (λ (n : ℕ). Reading (Line 0 (parts_of f.head level)) n []) counted in
    ap (λ (r : ReaderState). point_of {W = Why} (stand (fed r feed) [])) whole

-- some bytes that a feed may give have the judgement, and no other answer is that of bytes that are told
module _ {F : Type 0} (left : F → Option (List ℕ)) (bound : F → ℕ) (gave hand : F → List ℕ) where
  pub judged_some :
      (f : Function) (old new : F) (answer : Result (Level × ℕ) JudgeError)
      → (all : Whole) × (all.may ≡ true) × MayHave left bound gave hand new all
      → IsNoJudgement answer ⊎ ((all : Whole) → MayHave left bound gave hand new all
      → (bytes : List ℕ) × MayGiveOf left bound gave old all bytes × IsLowJudgement f bytes answer)
      → IsNoJudgement answer ⊎ ((bytes : List ℕ) × MayGive left bound old bytes × IsLowJudgement f bytes answer)
  unfolding MayGiveOf
  judged_some f old new answer some (inl none) = inl none
  judged_some f old new answer (all, may, have) (inr judged) =
      let there = judged all have in inr (there.0, there.1.0 may, there.2)

module _ {F : Type 0} (left : F → Option (List ℕ)) (bound : F → ℕ) where
  pub no_other :
      ((f : Function) (bytes : List ℕ) (one other : Result (Level × ℕ) JudgeError) → IsLowJudgement f bytes one
      → IsLowJudgement f bytes other → one ≡ other)
      → (f : Function) (feed : F) (bytes : List ℕ) (one other : Result (Level × ℕ) JudgeError) → left feed ≡ Some bytes
      → IsNoJudgement one ⊎ ((some : List ℕ) × MayGive left bound feed some × IsLowJudgement f some one)
      → IsLowJudgement f bytes other → IsNoJudgement one ⊎ (one ≡ other)
  unfolding MayGive
  no_other law f feed bytes one other is (inl none) judged = inl none
  no_other law f feed bytes one other is (inr (some, may, here)) judged =
      inr (law f bytes one other (subst (λ (b : List ℕ). IsLowJudgement f b one) (may.0 bytes is) here) judged)
