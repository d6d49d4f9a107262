-- Low certificates are sections behind a first line, and bytes have one judgement.
use Rattle.std.proofs.Common.{◌≡◌, ℕ, List, [], ◌++◌, length, Some, Result, Ok, Err, inl, inr, refl, sym, ap, subst}
use Rattle.std.proofs.Common.{◌∙◌, append_assoc}
use Rattle.fn_rules.specs.declared.function.Level.{Level}
use Rattle.fn_rules.specs.declared.function.ObName.{ObName}
use Rattle.fn_rules.specs.Functions.{Function}
use Rattle.ask_core.specs.Plans.{Plan}
use Rattle.ask_core.specs.Trees.{AnswerTree, Branch}
use Rattle.cert_text.specs.declared.item.Part.{Part}
use Rattle.cert_text.specs.Certificates.{sections_text}
use Rattle.cert_text.specs.Places.{Line}
use Rattle.cert_text.specs.Spelling.{end_text}
use Rattle.ot_questions.specs.declared.why.Why.{Why}
use Rattle.ot_questions.specs.Obligation.{plan_below}
use Rattle.refusals.specs.declared.refusal.Refusal.{Refusal}
use Rattle.refusals.specs.declared.refusal.Refusal.TheVariants as why
use Rattle.refusals.specs.declared.refusal.JudgeError.{JudgeError}
use Rattle.refusals.specs.declared.refusal.JudgeError.TheVariants as judge
use Rattle.ot_sections.specs.Certificates.{AreAnswers}
use Rattle.ot_sections.specs.Parts.{FitThen, IsJudged, Point}
use Rattle.ot_bound.specs.Judgements.{IsJudgedLow, IsLowJudgement, IsLowRefusal, IsNoHeader, behind_header}
use Rattle.ot_bound.specs.Lows.{IsLow, low_header_text, parts_of}
use Rattle.ot_bound.proofs.OneHeader.{no_front, one_header}

-- what sections are made of, and back
abbrev pub AreParts : Type 0
AreParts =
    (plan : ObName → Plan Why) (obs : List ObName) (trees : List AnswerTree) (came offset : ℕ)
    → AreAnswers plan obs trees
    → IsJudged plan (Ok tt) (record { place = Line came obs; offset = offset; branches = [] })
    (sections_text obs trees ++ end_text)

abbrev pub AreSections : Type 0
AreSections =
    (plan : ObName → Plan Why) (obs : List ObName) (came offset : ℕ) (branches : List (Branch Why)) (bytes : List ℕ)
    → IsJudged plan (Ok tt) (record { place = Line came obs; offset = offset; branches = branches }) bytes
    → (trees : List AnswerTree) × AreAnswers plan obs trees × (bytes ≡ sections_text obs trees ++ end_text)

module _ (f : Function) (level : Level) (bound : ℕ) (bytes : List ℕ) where
  -- a low certificate is judged as one
  pub low_is_judged : AreParts → IsLow bytes f level bound → IsJudgedLow f (Ok tt) bytes level bound
  low_is_judged are_parts (bounded, (trees, answers, text)) =
      let obs = parts_of f.head level in
      let header = low_header_text level bound in (
        bounded,
        (
          sections_text obs trees ++ end_text,
          text ∙ append_assoc header (sections_text obs trees) end_text,
          are_parts (plan_below f (Some bound)) obs trees 0 (length header) answers,
        ),
      )

  -- bytes that are judged a low certificate are one
  pub judged_is_low : AreSections → IsJudgedLow f (Ok tt) bytes level bound → IsLow bytes f level bound
  judged_is_low are_sections (bounded, (rest, text, judged)) =
      let obs = parts_of f.head level in
      let header = low_header_text level bound in
      let shown = are_sections (plan_below f (Some bound)) obs 0 (length header) [] rest judged in (
        bounded,
        (
          shown.0,
          shown.1,
          text ∙ ap (λ (x : List ℕ). header ++ x) shown.2
              ∙ sym (append_assoc header (sections_text obs shown.0) end_text),
        ),
      )

-- the bytes behind a point are made of one list of parts, and stop in one way
abbrev pub IsJudgedOnce : Type 0
IsJudgedOnce =
    (plan : ObName → Plan Why) (point : Point Why) (bytes : List ℕ) (parts others : List Part)
    (one other : Result (Unit {0}) JudgeError)
    → FitThen plan one point bytes parts → FitThen plan other point bytes others → (one ≡ other) × (parts ≡ others)

-- a low certificate is made of parts
abbrev pub AreJudged : Type 0
AreJudged = (f : Function) (level : Level) (bound : ℕ) (bytes : List ℕ) → IsLow bytes f level bound
    → IsJudgedLow f (Ok tt) bytes level bound

module _ (f : Function) (bytes : List ℕ) where
  -- bytes behind a first line are not refused for want of one
  has_header :
      (end : Result (Unit {0}) JudgeError) (level : Level) (bound offset : ℕ) (cause : Refusal)
      → IsJudgedLow f end bytes level bound
      → IsNoHeader bytes offset cause → ⊥
  has_header end level bound offset why.Token (bounded, (rest, text, judged)) none =
      (none.1 level bound rest bounded).1 text
  has_header end level bound offset why.Truncated (bounded, (rest, text, judged))
      (at, (m, c, few, (more, some, front))) =
      no_front level m bound c bytes rest more bounded few text front some
  has_header end level bound offset why.Trailing judged none = absurd none
  has_header end level bound offset why.NotAQuestion judged none = absurd none
  has_header end level bound offset why.NotDone judged none = absurd none
  has_header end level bound offset why.GoalFails judged none = absurd none
  has_header end level bound offset why.BadPick judged none = absurd none
  has_header end level bound offset why.NotACycle judged none = absurd none
  has_header end level bound offset why.NotNegative judged none = absurd none

  -- bytes are refused for want of a first line at one offset for one cause
  no_header_once :
      (offset at : ℕ) (cause other : Refusal) → IsNoHeader bytes offset cause → IsNoHeader bytes at other
      → (offset ≡ at) × (cause ≡ other)
  no_header_once offset at why.Token why.Token one two = (one.0 ∙ sym two.0, refl)
  no_header_once offset at why.Truncated why.Truncated one two = (one.0 ∙ sym two.0, refl)
  no_header_once offset at why.Token why.Truncated one (is, (m, c, few, (more, some, front))) =
      absurd ((one.1 m c more few).0 front)
  no_header_once offset at why.Truncated why.Token (is, (m, c, few, (more, some, front))) two =
      absurd ((two.1 m c more few).0 front)
  no_header_once offset at why.Trailing other one two = absurd one
  no_header_once offset at why.NotAQuestion other one two = absurd one
  no_header_once offset at why.NotDone other one two = absurd one
  no_header_once offset at why.GoalFails other one two = absurd one
  no_header_once offset at why.BadPick other one two = absurd one
  no_header_once offset at why.NotACycle other one two = absurd one
  no_header_once offset at why.NotNegative other one two = absurd one
  no_header_once offset at cause why.Trailing one two = absurd two
  no_header_once offset at cause why.NotAQuestion one two = absurd two
  no_header_once offset at cause why.NotDone one two = absurd two
  no_header_once offset at cause why.GoalFails one two = absurd two
  no_header_once offset at cause why.BadPick one two = absurd two
  no_header_once offset at cause why.NotACycle one two = absurd two
  no_header_once offset at cause why.NotNegative one two = absurd two

  -- the first line is one
  same_header :
      (one two : Result (Unit {0}) JudgeError) (l m : Level) (b c : ℕ) → IsJudgedLow f one bytes l b
      → IsJudgedLow f two bytes m c
      → (l ≡ m) × (b ≡ c)
  same_header one two l m b c (few, (r, text, judged)) (fewer, (s, text', judged')) =
      let same = one_header l m b c r s few fewer (sym text ∙ text') in (same.0, same.1.0)

  module _ (once : IsJudgedOnce) where
    same_end_there :
        (one two : Result (Unit {0}) JudgeError) (l : Level) (b : ℕ) → IsJudgedLow f one bytes l b
        → IsJudgedLow f two bytes l b
        → one ≡ two
    same_end_there one two l b (few, (r, text, judged)) (fewer, (s, text', judged')) =
        let behind : r ≡ s = (one_header l l b b r s few fewer (sym text ∙ text')).1.1 in
        let here : IsJudged (plan_below f (Some b)) two (behind_header f l b) r =
        subst (λ (x : List ℕ). IsJudged (plan_below f (Some b)) two (behind_header f l b) x) (sym behind) judged' in
        (once (plan_below f (Some b)) (behind_header f l b) r judged.0 here.0 one two judged.1 here.1).0

    -- what is behind it stops in one way
    same_end :
        (one two : Result (Unit {0}) JudgeError) (l m : Level) (b c : ℕ) → IsJudgedLow f one bytes l b
        → IsJudgedLow f two bytes m c
        → one ≡ two
    same_end one two l m b c first second =
        let same = same_header one two l m b c first second in
        let at_level : IsJudgedLow f two bytes l c =
        subst (λ (x : Level). IsJudgedLow f two bytes x c) (sym same.0) second in
        let at_bound : IsJudgedLow f two bytes l b =
        subst (λ (x : ℕ). IsJudgedLow f two bytes l x) (sym same.1) at_level in
        same_end_there one two l b first at_bound

    refused_once :
        (offset at : ℕ) (cause other : Refusal) → IsLowRefusal f bytes offset cause → IsLowRefusal f bytes at other
        → (offset ≡ at) × (cause ≡ other)
    refused_once offset at cause other (inl one) (inl two) = no_header_once offset at cause other one two
    refused_once offset at cause other (inl one) (inr (m, c, two)) =
        absurd (has_header (Err (judge.Refused at other)) m c offset cause two one)
    refused_once offset at cause other (inr (l, b, one)) (inl two) =
        absurd (has_header (Err (judge.Refused offset cause)) l b at other one two)
    refused_once offset at cause other (inr (l, b, one)) (inr (m, c, two)) =
        let same : ◌≡◌ {A = Result (Unit {0}) JudgeError} (Err (judge.Refused offset cause))
        (Err (judge.Refused at other)) =
        same_end (Err (judge.Refused offset cause)) (Err (judge.Refused at other)) l m b c one two in
        (cc, cc)

    module _ (are_judged : AreJudged) where
      not_both :
          (level : Level) (bound offset : ℕ) (cause : Refusal) → IsLow bytes f level bound
          → IsLowRefusal f bytes offset cause → ⊥
      not_both level bound offset cause low (inl none) =
          has_header (Ok tt) level bound offset cause (are_judged f level bound bytes low) none
      not_both level bound offset cause low (inr (m, c, refused)) =
          let same : ◌≡◌ {A = Result (Unit {0}) JudgeError} (Ok tt) (Err (judge.Refused offset cause)) =
          same_end (Ok tt) (Err (judge.Refused offset cause)) level m bound c
          (are_judged f level bound bytes low) refused in
          cc

      -- bytes have one judgement as a low certificate
      pub low_judged_once :
          (one other : Result (Level × ℕ) JudgeError) → IsLowJudgement f bytes one
          → IsLowJudgement f bytes other → one ≡ other
      low_judged_once (Ok (l, b)) (Ok (m, c)) one two =
          let same = same_header (Ok tt) (Ok tt) l m b c (are_judged f l b bytes one) (are_judged f m c bytes two) in
          ap (λ (x : Level). Ok (x, b)) same.0 ∙ ap (λ (x : ℕ). Ok (m, x)) same.1
      low_judged_once (Ok (l, b)) (Err (judge.Refused at other)) one two = absurd (not_both l b at other one two)
      low_judged_once (Err (judge.Refused offset cause)) (Ok (m, c)) one two =
          absurd (not_both m c offset cause two one)
      low_judged_once (Err (judge.Refused offset cause)) (Err (judge.Refused at other)) one two =
          let same = refused_once offset at cause other one two in
          ap (λ (x : ℕ). Err (judge.Refused x cause)) same.0 ∙ ap (λ (x : Refusal). Err (judge.Refused at x)) same.1
      low_judged_once (Err judge.Failed) other one two = absurd one
      low_judged_once (Err judge.NoMemory) other one two = absurd one
      low_judged_once one (Err judge.Failed) one' two = absurd two
      low_judged_once one (Err judge.NoMemory) one' two = absurd two
