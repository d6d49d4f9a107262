-- What the statuses of `prove` and of `settle` show, from their replies.
use Rattle.std.proofs.Common.{◌≡◌, ◌≢◌, ℕ, ◌<◌, ◌≤◌, true, false, List, length, Option, Some, None, Result, Ok, Err}
use Rattle.std.proofs.Common.{IsTrue, refl, ap, ◌∙◌, subst, take, inl, inr, arith}
use Rattle.std.specs.Prelude.{MatchOption, ℤ, nat_lt}
use Rattle.std.proofs.lemmas.Bool.Decides.{nat_tests}
use Rattle.std.proofs.lemmas.List.{take_all}
use Rattle.diff_graph.specs.declared.lit.Lit.{Lit}
use Rattle.diff_tables.specs.Solutions.{AreLeast, valuation_of}
use Rattle.ot_model.specs.declared.op.Kind.{Kind}
use Rattle.fn_rules.specs.declared.function.Level.{Level}
use Rattle.fn_rules.specs.declared.function.Level.TheVariants.{Tp1, Tp2}
use Rattle.fn_rules.specs.declared.function.ObName.{ObName}
use Rattle.fn_rules.specs.declared.function.ObName.TheVariants.{Pair, Triple}
use Rattle.fn_rules.specs.Functions.{Function}
use Rattle.fn_rules.specs.Obligations.{level_of, is_obligation, obligations_of}
use Rattle.fn_rules.specs.Properties.{HasTp1}
use Rattle.fn_rules.specs.Validity.{is_valid}
use Rattle.fn_grammar.specs.Grammar.{IsTextOf}
use Rattle.fn_text.specs.Reading.{function_in}
use Rattle.ask_core.specs.Plans.{Plan}
use Rattle.ask_core.specs.Questions.{FailingEnd, Questions, QuestionList}
use Rattle.ot_prove.specs.Outcomes.{answered_by}
use Rattle.ot_questions.specs.declared.why.Why.{Why}
use Rattle.ot_questions.specs.Obligation.{plan_of}
use Rattle.refusals.specs.declared.refusal.JudgeError.{JudgeError}
use Rattle.ot_decide.specs.declared.verdict.Verdict.{Verdict}
use Rattle.ot_decide.specs.declared.verdict.Verdict.TheVariants as verdicts
use Rattle.ot_sections.specs.Certificates.{IsCertificate}
use Rattle.ot_judge.specs.Refusals.{IsJudgement}
use Rattle.ot_decide.specs.Verdicts.{AreAsked, ObQuestions, IsDecidedAs, IsVerdict, IsVerdictWithin, count_in}
use Rattle.ot_decide.specs.Verdicts.{failing_in}
use Rattle.ot_counter.specs.declared.counter.Counter.{Counter}
use Rattle.ot_counter.specs.Counters.{Breaks, BreaksBy}
use Rattle.ask_core.specs.Leading.{LeadTo}
use Rattle.ot_values.specs.Values.{floors_of, ops_at}
use Rattle.ot_counter.specs.Documents.{document_at}
use Rattle.ot_replies.specs.declared.reply.FileKind.TheVariants as files
use Rattle.ot_replies.specs.declared.reply.Reply.{Reply}
use Rattle.ot_replies.specs.declared.reply.Subject.{Subject}
use Rattle.ot_replies.specs.declared.reply.Subject.TheVariants.{First}
use Rattle.ot_replies.specs.declared.reply.Reply.TheVariants.{Proved, Broken, Accepted, Confirmed, Usage}
use Rattle.ot_words.specs.Commands.{Asked, Prove}
use Rattle.proof_sections.specs.declared.refusal.ConfirmError.{ConfirmError}
use Rattle.ot_confirm.specs.Judgement.{judgement_of}
use Rattle.ot_settle.specs.declared.settled.Settled.{Settled}
use Rattle.ot_settle.specs.declared.settled.Settled.TheVariants as outcomes
use Rattle.ot_settle.specs.Outcomes.{HoldsBefore, IsSettled}
use Rattle.ot_commands.specs.Certificate.{IsReplyToCertificate, IsReplyToJudgement}
use Rattle.ot_commands.specs.Check.{IsReplyToChecked}
use Rattle.ot_commands.specs.Confirm.{IsReplyToConfirmed, IsReplyToJudged}
use Rattle.ot_commands.specs.Load.{IsReadAs, IsReplyToFunction}
use Rattle.ot_commands.specs.Prove.{IsReplyToProof, TellsVerdict}
use Rattle.ot_commands.specs.Replies.{IsReply, IsReplyTo}
use Rattle.ot_commands.specs.Settle.{IsReplyToSettle, TellsSettled}
use Rattle.ot_replies.specs.Limits.{limit_of}
use Rattle.ot_top.specs.Evidence.{Evidence, Certificate, Proof, IsAcceptedAt, IsEvidence, asks_for, file_of}
use Rattle.ot_top.specs.Shown.{HasBefore, HasLevel, IsAskedAt, IsComplete, IsProved, IsShownBroken, status_by}
use Rattle.ot_replies.specs.Texts.{status_of, text_of}
use Rattle.ot_words.specs.Words.{IsWithinBounds, asked_by, most_questions}
use Rattle.ot_top.proofs.Asking.{asked_at, asked_once, listed_at}
use Rattle.ot_top.proofs.Breaking.{IsBrokenBy, counter_breaks}
use Rattle.ot_words.proofs.Bounds.{within_bounds}
use Rattle.ot_prove.proofs.Leads.{literals_lead}

-- the reply to words that ask for a command
pub reply_to_asked :
    (words : List (List ℕ)) (holds : List ℕ → Option (List ℕ)) (r : Reply) (asked : Asked) → asked_by words ≡ Some asked
    → IsReply words holds r → IsReplyTo holds asked r
reply_to_asked words holds r asked named is =
    subst (λ (o : Option Asked). MatchOption o (r ≡ Usage) (λ a. IsReplyTo holds a r)) named is

-- a reply of another status than 9 and 3 comes of a function that was read
read_behind :
    (r : Reply) (status : ℕ) → status ≡ status_of r → status ≢ 9 → status ≢ 3
    → (subject : Subject) (told : Option (List ℕ))
    (Gets : Function → Type 0) → IsReplyToFunction subject told Gets r → (f : Function) × IsReadAs (Ok f) told × Gets f
read_behind r status is no_limit no_fault subject told Gets (inl (inl h)) =
    absurd (no_limit (is ∙ ap (λ x. status_of x) h.1))
read_behind r status is no_limit no_fault subject told Gets (inl (inr h)) =
    absurd (no_fault (is ∙ ap (λ x. status_of x) h.2))
read_behind r status is no_limit no_fault subject told Gets (inr h) = h

-- the reply to the text of a function within the limit is the one that the function gets
module _ (told : Option (List ℕ)) (bytes : List ℕ) (f : Function) (is_told : told ≡ Some bytes)
    (within : length bytes ≤ limit_of files.Function) (read : function_in bytes ≡ Ok f) where
  pub gets : (subject : Subject) (Gets : Function → Type 0) (r : Reply) → IsReplyToFunction subject told Gets r → Gets f
  gets subject Gets r (inl (inl h)) = absurd (let longer = h.0 bytes is_told in omega (arith, longer, within))
  gets subject Gets r (inl (inr h)) = absurd (let refused : function_in bytes ≡ Err h.0 = (h.1 bytes is_told).1 in cc)
  gets subject Gets r (inr h) =
      let other : function_in bytes ≡ Ok h.0 = (h.1 bytes is_told).1 in
      let same : h.0 ≡ f = cc in
      subst Gets same h.2

-- a certificate of any kind that is within the limit is accepted
module _ {T : Type 0} (Judges : List ℕ → Result T JudgeError → Type 0) (accepts : T → Reply)
    (one_judgement : (bytes : List ℕ) (one other : Result T JudgeError) → Judges bytes one
    → Judges bytes other → one ≡ other)
    (certificate : List ℕ) (shown : T) (is_one : Judges certificate (Ok shown))
    (within : length certificate ≤ limit_of files.Certificate) where
  accepted_behind :
      (told : Option (List ℕ)) (contents : List ℕ) (r : Reply) → told ≡ Some certificate
      → IsReplyToJudgement accepts told contents (Ok shown) r → r ≡ accepts shown
  accepted_behind told contents r is (inl h) =
      absurd (let longer = h.1.0 certificate is in omega (arith, longer, within))
  accepted_behind told contents r is (inr h) = h.1

  -- the reply to its file, where it is told, is that it is accepted
  pub accepted_file :
      (told : Option (List ℕ)) (r : Reply) → told ≡ Some certificate
      → IsReplyToCertificate Judges accepts told r → r ≡ accepts shown
  accepted_file told r is (contents, known, reply) =
      let judgement : Result T JudgeError = reply.0 in
      let front : take (limit_of files.Certificate) contents ≡ certificate =
      ap (λ (l : List ℕ). take (limit_of files.Certificate) l) (known certificate is)
      ∙ take_all (limit_of files.Certificate) certificate within in
      let whole : Judges certificate judgement = subst (λ (b : List ℕ). Judges b judgement) front reply.1 in
      let same : judgement ≡ Ok shown = one_judgement certificate judgement (Ok shown) whole is_one in
      accepted_behind told contents r is
      (subst (λ (j : Result T JudgeError). IsReplyToJudgement accepts told contents j r) same reply.2)

-- `check` accepts such a certificate
accepted_at :
    ((f : Function) (bytes : List ℕ) (one other : Result Level JudgeError) → IsTrue (is_valid f)
    → IsJudgement f bytes one
    → IsJudgement f bytes other → one ≡ other)
    → (f : Function) → IsTrue (is_valid f) → (certificate : List ℕ) (level : Level) → IsCertificate certificate f level
    → length certificate ≤ limit_of files.Certificate → (bytes : List ℕ) → length bytes ≤ limit_of files.Function
    → function_in bytes ≡ Ok f → IsAcceptedAt Certificate bytes certificate level
accepted_at one_judgement f valid certificate level is_one within bytes small read holds name certificate_name r
    told certificate_told reply =
    accepted_file (IsJudgement f) Accepted (λ b one other first second. one_judgement f b one other valid first second)
    certificate level is_one within (holds certificate_name) r certificate_told
    (gets (holds name) bytes f told small read First (λ g. IsReplyToChecked g (holds certificate_name) r) r reply)

-- `confirm` accepts bytes that are judged to be a proof
module _ (f : Function) (proof : List ℕ) (level : Level) (judged : judgement_of f proof ≡ Ok level)
    (within : length proof ≤ limit_of files.Proof) where
  confirmed_behind :
      (told : Option (List ℕ)) (contents : List ℕ) (r : Reply) → told ≡ Some proof
      → IsReplyToJudged told contents (Ok level) r → r ≡ Confirmed level
  confirmed_behind told contents r is (inl h) = absurd (let longer = h.1.0 proof is in omega (arith, longer, within))
  confirmed_behind told contents r is (inr h) = h.1

  confirmed_file : (told : Option (List ℕ)) (r : Reply) → told ≡ Some proof
      → IsReplyToConfirmed f told r → r ≡ Confirmed level
  confirmed_file told r is (contents, known, reply) =
      let front : take (limit_of files.Proof) contents ≡ proof =
      ap (λ (l : List ℕ). take (limit_of files.Proof) l) (known proof is)
      ∙ take_all (limit_of files.Proof) proof within in
      let same : judgement_of f (take (limit_of files.Proof) contents) ≡ Ok level = ap (judgement_of f) front
      ∙ judged in
      confirmed_behind told contents r is
      (subst (λ (j : Result Level ConfirmError). IsReplyToJudged told contents j r) same reply)

  confirmed_at : (bytes : List ℕ) → length bytes ≤ limit_of files.Function → function_in bytes ≡ Ok f
      → IsAcceptedAt Proof bytes proof level
  confirmed_at bytes small read holds name proof_name r told proof_told reply =
      confirmed_file (holds proof_name) r proof_told
      (gets (holds name) bytes f told small read First (λ g. IsReplyToConfirmed g (holds proof_name) r) r reply)

-- status 0: the verdict is yes
proved_verdict :
    (f : Function) (level : Level) (budget : ℕ) (r : Reply) (verdict : Verdict) → 0 ≡ status_of r
    → IsDecidedAs f level budget verdict
    → (budget ≤ most_questions → IsVerdictWithin (limit_of files.Certificate) verdict)
    → TellsVerdict f verdict r
    → (certificate : List ℕ) × IsCertificate certificate f level
    × (budget ≤ most_questions → length certificate ≤ limit_of files.Certificate) × (r ≡ Proved certificate)
proved_verdict f level budget r (verdicts.Yes bytes asked) is decided within tells =
    let proof = decided.2.2 in
    (bytes.items, (proof.trees, proof.fit, proof.text), within, tells)
proved_verdict f level budget r (verdicts.No ob answers why) is decided within tells =
    absurd (let one : 0 ≡ 1 = is ∙ ap (λ x. status_of x) tells.2 in omega (arith, one))
proved_verdict f level budget r verdicts.Spent is decided within tells =
    absurd (let eight : 0 ≡ 8 = is ∙ ap (λ x. status_of x) tells in omega (arith, eight))

-- status 0: a proof was found
proved_settled :
    (f : Function) (level : Level) (r : Reply) (settled : Settled) → 0 ≡ status_of r → IsSettled f level settled
    → TellsSettled f settled r
    → (proof : List ℕ) × (judgement_of f proof ≡ Ok level) × (length proof ≤ limit_of files.Proof) × (r ≡ Proved proof)
proved_settled f level r (outcomes.Yes bytes) is shown tells = (bytes.items, shown.judged, shown.short, tells)
proved_settled f level r (outcomes.No ob answers why) is refuted tells =
    absurd (let one : 0 ≡ 1 = is ∙ ap (λ x. status_of x) tells.2 in omega (arith, one))
proved_settled f level r (outcomes.Spent cause) is said tells =
    absurd (let eight : 0 ≡ 8 = is ∙ ap (λ x. status_of x) tells in omega (arith, eight))

-- the reply that a function gets of which evidence is asked for
abbrev pub Gets : Evidence → Function → Level → ℕ → Reply → Type 0
Gets Certificate f level budget r = IsReplyToProof f level budget r
Gets Proof f level budget r = IsReplyToSettle f level r

pub evidence_replied :
    (e : Evidence) (holds : List ℕ → Option (List ℕ)) (r : Reply) (level : Level) (budget : ℕ) (name : List ℕ)
    → IsReplyTo holds (asks_for e level budget name) r
    → IsReplyToFunction First (holds name) (λ f. Gets e f level budget r) r
evidence_replied Certificate holds r level budget name is = is
evidence_replied Proof holds r level budget name is = is

-- status 0: the evidence was found, and is written; it keeps the limit of its
-- file where the budget is within its bounds
pub found :
    (e : Evidence) (f : Function) (level : Level) (budget : ℕ) (r : Reply) → 0 ≡ status_of r → Gets e f level budget r
    → (evidence : List ℕ) × IsEvidence e evidence f level
    × ((name : List ℕ) → IsWithinBounds (asks_for e level budget name) → length evidence ≤ limit_of (file_of e))
    × (r ≡ Proved evidence)
found Certificate f level budget r is got =
    let held = proved_verdict f level budget r got.0 is got.1 got.2 got.3 in
    (held.0, held.1, λ name few. held.2 few, held.3)
found Proof f level budget r is got =
    let held = proved_settled f level r got.0 is got.1 got.2 in
    (held.0, held.1, λ name few. held.2, held.3)

-- what a certificate shows and what a proof shows of a function
pub evidence_level :
    ((bytes : List ℕ) (f : Function) (level : Level) → IsCertificate bytes f level → HasLevel f level)
    → ((f : Function) (bytes : List ℕ) (level : Level) → judgement_of f bytes ≡ Ok level → HasLevel f level)
    → (e : Evidence) (bytes : List ℕ) (f : Function) (level : Level) → IsEvidence e bytes f level → HasLevel f level
evidence_level certified confirmed Certificate bytes f level is = certified bytes f level is
evidence_level certified confirmed Proof bytes f level is = confirmed f bytes level is

-- the command that judges it accepts it
evidence_accepted :
    ((f : Function) (bytes : List ℕ) (one other : Result Level JudgeError) → IsTrue (is_valid f)
    → IsJudgement f bytes one
    → IsJudgement f bytes other → one ≡ other)
    → (e : Evidence) (f : Function) → IsTrue (is_valid f) → (evidence : List ℕ) (level : Level)
    → IsEvidence e evidence f level
    → length evidence ≤ limit_of (file_of e) → (bytes : List ℕ) → length bytes ≤ limit_of files.Function
    → function_in bytes ≡ Ok f → IsAcceptedAt e bytes evidence level
evidence_accepted one_judgement Certificate f valid evidence level is within bytes small read =
    accepted_at one_judgement f valid evidence level is within bytes small read
evidence_accepted one_judgement Proof f valid evidence level is within bytes small read =
    confirmed_at f evidence level is within bytes small read

module _ (is_text : (bytes : List ℕ) (f : Function) → function_in bytes ≡ Ok f → IsTextOf bytes f)
    (is_within_limits : (bytes : List ℕ) (f : Function) → IsTextOf bytes f → IsTrue (is_valid f)) where
  -- status 0: the evidence that was written is accepted, and the function has what the level says
  pub proved :
      ((e : Evidence) (bytes : List ℕ) (f : Function) (level : Level) → IsEvidence e bytes f level → HasLevel f level)
      → ((f : Function) (bytes : List ℕ) (one other : Result Level JudgeError) → IsTrue (is_valid f)
      → IsJudgement f bytes one
      → IsJudgement f bytes other → one ≡ other)
      → (e : Evidence) (words : List (List ℕ)) (holds : List ℕ → Option (List ℕ)) (r : Reply)
      (IsWritten : List ℕ → Type 0)
      → 0 ≡ status_of r → IsReply words holds r → IsWritten (text_of r) → IsProved e words holds IsWritten
  proved has_level one_judgement e words holds r IsWritten is_zero is_reply written level budget name bytes named told =
      let asked = asks_for e level budget name in
      let got = read_behind r 0 is_zero (λ e. omega (arith, e)) (λ e. omega (arith, e)) First (holds name)
      (λ f. Gets e f level budget r)
      (evidence_replied e holds r level budget name (reply_to_asked words holds r asked named is_reply)) in
      let f : Function = got.0 in
      let file = got.1 bytes told in
      let text = is_text bytes f file.1 in
      let valid = is_within_limits bytes f text in
      let held = found e f level budget r is_zero got.2 in
      let within = held.2 name (within_bounds words asked named) in (
        f,
        held.0,
        text,
        held.1,
        within,
        has_level e held.0 f level held.1,
        evidence_accepted one_judgement e f valid held.0 level held.1 within bytes file.0 file.1,
        subst IsWritten (ap (λ x. text_of x) held.3) written,
      )

  module _ (broken_there :
      (f : Function) (ob : ObName) (w : List Lit) (why : Why) (values : List ℤ) → IsTrue (is_valid f)
      → IsTrue (is_obligation f.head ob)
      → LeadTo why (plan_of f ob) w → AreLeast w (floors_of ob) values
      → Breaks f (level_of ob) (document_at (valuation_of values) why) (ops_at (valuation_of values) ob))
      (by_the_cause :
      (f : Function) (ob : ObName) (w : List Lit) (why : Why) (values : List ℤ) → IsTrue (is_valid f)
      → IsTrue (is_obligation f.head ob)
      → LeadTo why (plan_of f ob) w → AreLeast w (floors_of ob) values
      → BreaksBy f (level_of ob) (document_at (valuation_of values) why) (ops_at (valuation_of values) ob) why)
      (tp1_before :
      (f : Function) (lists : List (ObQuestions Why)) (k l m : Kind) (end : FailingEnd Why)
      → AreAsked (plan_of f) (obligations_of f.head Tp2) lists
      → failing_in lists ≡ Some (record { ob = Triple k l m; end = end }) → HasTp1 f) where
    -- where a triple fails, the pairs before it did not
    has_before :
        (f : Function) (level : Level) (lists : List (ObQuestions Why)) (ob : ObName) (end : FailingEnd Why)
        → AreAsked (plan_of f) (obligations_of f.head level) lists
        → failing_in lists ≡ Some (record { ob = ob; end = end })
        → IsAskedAt (level_of ob) level → HasBefore f (level_of ob)
    has_before f level lists (Pair k l) end asked fails at = tt
    has_before f Tp1 lists (Triple k l m) end asked fails at = absurd at
    has_before f Tp2 lists (Triple k l m) end asked fails at = tp1_before f lists k l m end asked fails

    -- status 1: the verdict is no
    broken_verdict :
        (f : Function) (level : Level) (budget : ℕ) (r : Reply) (verdict : Verdict)
        → 1 ≡ status_of r → IsTrue (is_valid f)
        → IsDecidedAs f level budget verdict → TellsVerdict f verdict r
        → (counter : Counter) × IsBrokenBy f level counter × (r ≡ Broken counter)
    broken_verdict f level budget r (verdicts.Yes bytes asked) is valid decided tells =
        absurd (let zero : 1 ≡ 0 = is ∙ ap (λ x. status_of x) tells in omega (arith, zero))
    broken_verdict f level budget r (verdicts.No ob answers why) is valid decided tells =
        let refuted = decided.2.1 in
        let w : List Lit = answered_by answers.items in
        let at = asked_at (plan_of f) f.head level decided.0 _ decided.1 refuted.first in (
          tells.0,
          counter_breaks broken_there by_the_cause f level ob w why tells.0 valid refuted.listed
              (literals_lead why (plan_of f ob) answers.items refuted.way) at
              (has_before f level decided.0 ob _ decided.1 refuted.first at) tells.1,
          tells.2,
        )
    broken_verdict f level budget r verdicts.Spent is valid decided tells =
        absurd (let eight : 1 ≡ 8 = is ∙ ap (λ x. status_of x) tells in omega (arith, eight))

    -- status 1: an obligation was refuted
    before_settled : (f : Function) (ob : ObName) → HoldsBefore f ob → HasBefore f (level_of ob)
    before_settled f (Pair k l) before = tt
    before_settled f (Triple k l m) before = before

    -- status 1: the counterexample breaks the property of the obligation that was refuted
    broken_settled :
        (f : Function) (level : Level) (r : Reply) (settled : Settled) → 1 ≡ status_of r → IsTrue (is_valid f)
        → IsSettled f level settled → TellsSettled f settled r
        → (counter : Counter) × IsBrokenBy f level counter × (r ≡ Broken counter)
    broken_settled f level r (outcomes.Yes bytes) is valid shown tells =
        absurd (let zero : 1 ≡ 0 = is ∙ ap (λ x. status_of x) tells in omega (arith, zero))
    broken_settled f level r (outcomes.No ob answers why) is valid refuted tells = (
      tells.0,
      counter_breaks broken_there by_the_cause f level ob (answered_by answers.items) why tells.0 valid refuted.0.listed
          (literals_lead why (plan_of f ob) answers.items refuted.0.leads.0) (listed_at f.head level ob refuted.0.asked)
          (before_settled f ob refuted.1) tells.1,
      tells.2,
    )
    broken_settled f level r (outcomes.Spent cause) is valid said tells =
        absurd (let eight : 1 ≡ 8 = is ∙ ap (λ x. status_of x) tells in omega (arith, eight))

    pub counter_found :
        (e : Evidence) (f : Function) (level : Level) (budget : ℕ) (r : Reply) → 1 ≡ status_of r → IsTrue (is_valid f)
        → Gets e f level budget r → (counter : Counter) × IsBrokenBy f level counter × (r ≡ Broken counter)
    counter_found Certificate f level budget r is valid got = broken_verdict f level budget r got.0 is valid got.1 got.3
    counter_found Proof f level budget r is valid got = broken_settled f level r got.0 is valid got.1 got.2

    -- status 1: a counterexample was written that breaks a property which is asked at the level
    pub broken :
        (e : Evidence) (words : List (List ℕ)) (holds : List ℕ → Option (List ℕ)) (r : Reply)
        (IsWritten : List ℕ → Type 0)
        → 1 ≡ status_of r → IsReply words holds r → IsWritten (text_of r) → IsShownBroken e words holds IsWritten
    broken e words holds r IsWritten is_one is_reply written level budget name bytes named told =
        let got = read_behind r 1 is_one (λ e. omega (arith, e)) (λ e. omega (arith, e)) First (holds name)
        (λ f. Gets e f level budget r)
        (evidence_replied e holds r level budget name
        (reply_to_asked words holds r (asks_for e level budget name) named is_reply)) in
        let f : Function = got.0 in
        let text = is_text bytes f (got.1 bytes told).1 in
        let counter = counter_found e f level budget r is_one (is_within_limits bytes f text) got.2 in (
          f,
          counter.0,
          text,
          counter.1.0,
          counter.1.1,
          counter.1.2,
          counter.1.3,
          counter.1.4,
          subst IsWritten (ap (λ x. text_of x) counter.2) written,
        )

-- the status of a verdict is that of the questions
within_budget : (budget count : ℕ) → count ≤ budget → nat_lt budget count ≡ false
within_budget budget count few = grind (arith, nat_tests)

above_budget : (budget count : ℕ) → budget < count → nat_lt budget count ≡ true
above_budget budget count many = grind (arith, nat_tests)

-- the status that tells a verdict is that of the questions and the budget
status_of_verdict :
    (f : Function) (level : Level) (budget : ℕ) (r : Reply) (verdict : Verdict) (lists : List (ObQuestions Why))
    → IsVerdict f level budget lists verdict → TellsVerdict f verdict r → status_of r ≡ status_by budget lists
status_of_verdict f level budget r (verdicts.Yes bytes asked) lists holding tells =
    let few = within_budget budget (count_in lists) holding.0 in
    let none : failing_in lists ≡ None = holding.1 in
    rw (tells, few, none) refl
status_of_verdict f level budget r (verdicts.No ob answers why) lists failing tells =
    let few = within_budget budget (count_in lists) failing.0 in
    let some = failing.1.first in
    rw (tells.2, few, some) refl
status_of_verdict f level budget r verdicts.Spent lists many tells =
    let more = above_budget budget (count_in lists) many in
    rw (tells, more) refl

-- the status of `prove` comes by the questions of the function and the budget
pub complete :
    ((bytes : List ℕ) (f : Function) → IsTextOf bytes f → function_in bytes ≡ Ok f)
    → ((p : Plan Why) (w : List Lit) (q r : Questions Why) → QuestionList p w q → QuestionList p w r → q ≡ r)
    → (words : List (List ℕ)) (holds : List ℕ → Option (List ℕ)) (r : Reply) → IsReply words holds r
    → IsComplete words holds (status_of r)
complete texts_are_read one_list words holds r is_reply level budget name bytes f lists named told small text asked =
    let reply : IsReplyTo holds (Prove level budget name) r =
    reply_to_asked words holds r (Prove level budget name) named is_reply in
    let got = gets (holds name) bytes f told small (texts_are_read bytes f text) First
    (λ g. IsReplyToProof g level budget r) r reply in
    let same : got.1.0 ≡ lists = asked_once (plan_of f) one_list (obligations_of f.head level)
    got.1.0 lists got.1.1 asked in
    status_of_verdict f level budget r got.0 lists
    (subst (λ (l : List (ObQuestions Why)). IsVerdict f level budget l got.0) same got.1.2) got.3
