-- What statuses tell, from the reply that was written.
use Rattle.std.proofs.Common.{◌≡◌, ◌≢◌, ◌≤◌, ◌⊎◌, ℕ, true, false, Bool, List, length, take, Option, Some, None, Result}
use Rattle.std.proofs.Common.{Ok, Err, refl, ap, ◌∙◌, subst, inl, inr, arith}
use Rattle.std.specs.Prelude.{is_ok, nat_le, if◌then◌else◌}
use Rattle.std.proofs.lemmas.Bool.Decides.{nat_tests}
use Rattle.std.specs.List.{list_all}
use Rattle.std.proofs.lemmas.Bool.{cases_eq}
use Rattle.std.proofs.lemmas.List.{take_all}
use Rattle.fn_rules.specs.Functions.{Function}
use Rattle.fn_grammar.specs.Grammar.{IsTextOf}
use Rattle.fn_text.specs.Reading.{function_in}
use Rattle.case_json.specs.declared.fault.CaseFault.{CaseFault}
use Rattle.case_json.specs.declared.fault.CaseFault.TheVariants as faults
use Rattle.refusals.specs.declared.refusal.JudgeError.{JudgeError}
use Rattle.refusals.specs.declared.refusal.JudgeError.TheVariants as judge
use Rattle.ot_judge.specs.Refusals.{IsJudgement}
use Rattle.ot_replies.specs.declared.reply.Drilled.{Drilled}
use Rattle.ot_replies.specs.declared.reply.Explanation.TheVariants as explanations
use Rattle.ot_replies.specs.declared.reply.FileKind.TheVariants as files
use Rattle.ot_replies.specs.declared.reply.Reply.{Reply}
use Rattle.ot_replies.specs.declared.reply.Reply.TheVariants as replies
use Rattle.ot_replies.specs.declared.reply.Subject.TheVariants.{First}
use Rattle.ot_words.specs.Commands.{Check, Drill}
use Rattle.ot_commands.specs.Certificate.{IsReplyToCertificate, IsReplyToJudgement, Tells}
use Rattle.ot_commands.specs.Check.{IsReplyToChecked}
use Rattle.ot_commands.specs.Drill.{IsDrilled, IsReplyToQuestions}
use Rattle.ot_commands.specs.Replies.{IsReply}
use Rattle.ot_commands.specs.Steady.{AreSteady}
use Rattle.ot_audit.specs.declared.audits.Audit.TheVariants as audits
use Rattle.ot_audit.specs.declared.audits.Same.TheVariants as sames
use Rattle.ot_audit.specs.declared.back.Back.TheVariants as backs
use Rattle.ot_replies.specs.AuditTexts.{is_total}
use Rattle.ot_replies.specs.DrillTexts.{drill_text}
use Rattle.ot_replies.specs.Limits.{limit_of}
use Rattle.ot_top.specs.Shown.{IsGoneThrough, IsJudgedAs}
use Rattle.ot_replies.specs.Texts.{differ_status, status_of, text_of, traced_status}
use Rattle.ot_top.proofs.Proving.{gets, reply_to_asked}
use Rattle.ot_commands.proofs.Steady.{steady_asked}

-- what was answered: the status and the text of a reply, where it is none of the faults and no want of memory
abbrev pub IsAnswered : List (List ℕ) → (List ℕ → Option (List ℕ)) → ℕ → (List ℕ → Type 0) → Type 0
IsAnswered words holds status IsWritten =
    (reply : Reply) × IsReply words holds reply × AreSteady words holds reply × (status ≡ status_of reply)
    × IsWritten (text_of reply)

-- one of three statuses, or none of them
three : (status : ℕ) → ((status ≡ 6) ⊎ ((status ≡ 7) ⊎ (status ≡ 10))) ⊎ ((status ≢ 6) × (status ≢ 7) × (status ≢ 10))
three status =
    elim (cases_eq status 6) as (λ _. ((status ≡ 6) ⊎ ((status ≡ 7) ⊎ (status ≡ 10)))
    ⊎ ((status ≢ 6) × (status ≢ 7) × (status ≢ 10))) [
      | inl six ↦ inl (inl six)
      | inr not_six ↦
          elim (cases_eq status 7) as (λ _. ((status ≡ 6) ⊎ ((status ≡ 7) ⊎ (status ≡ 10)))
          ⊎ ((status ≢ 6) × (status ≢ 7) × (status ≢ 10))) [
            | inl seven ↦ inl (inr (inl seven))
            | inr not_seven ↦
                elim (cases_eq status 10) as (λ _. ((status ≡ 6) ⊎ ((status ≡ 7) ⊎ (status ≡ 10)))
                ⊎ ((status ≢ 6) × (status ≢ 7) × (status ≢ 10))) [
                  | inl ten ↦ inl (inr (inr ten))
                  | inr not_ten ↦ inr (not_six, not_seven, not_ten)
                ]
          ]
    ]

-- the status of a reply is none of a fault of the outside, and none is above 9
abbrev pub IsReplyStatus : ℕ → Type 0
IsReplyStatus s = (s ≤ 5) ⊎ ((8 ≤ s) × (s ≤ 9))

pub at_most_nine : (s : ℕ) → IsReplyStatus s → s ≤ 9
at_most_nine s (inl low) = omega (arith, low)
at_most_nine s (inr high) = high.1

pub no_fault : (s : ℕ) → IsReplyStatus s → (s ≢ 6) × (s ≢ 7)
no_fault s (inl low) = (λ six. omega (arith, low, six), λ seven. omega (arith, low, seven))
no_fault s (inr high) = (λ six. omega (arith, high.0, six), λ seven. omega (arith, high.0, seven))

eight : IsReplyStatus 8
eight = inr (omega arith, omega arith)

nine : IsReplyStatus 9
nine = inr (omega arith, omega arith)

case_named : (fault : CaseFault) → IsReplyStatus (status_of (replies.CaseRefused fault))
case_named faults.Json = inl (omega arith)
case_named (faults.Field name) = inl (omega arith)
case_named (faults.Kind i) = inl (omega arith)
case_named (faults.Enabled i) = inl (omega arith)
case_named (faults.Pair i j) = inl (omega arith)
case_named (faults.Order i) = inl (omega arith)
case_named (faults.Limit name) = nine

differ_named : {X : Type 0} → (differ : Option X) → IsReplyStatus (differ_status differ)
differ_named None = inl (omega arith)
differ_named (Some pair) = inl (omega arith)

same_named : (same : Bool) → IsReplyStatus (if same then 0 else 1)
same_named same =
    elim same as (λ b. IsReplyStatus (if b then 0 else 1)) [ true ↦ inl (omega arith) | false ↦ inl (omega arith) ]

-- a trace has such a status, whatever it was made with
high_named : (test : Bool) → IsReplyStatus (if test then 8 else 9)
high_named true = eight
high_named false = nine

traced_named : (status : ℕ) → IsReplyStatus (traced_status status)
traced_named status = go (nat_le status 5) refl
  where
    go : (test : Bool) → nat_le status 5 ≡ test
        → IsReplyStatus (if test then status else (if nat_le status 8 then 8 else 9))
    go true low = inl (grind (arith, nat_tests))
    go false high = high_named (nat_le status 8)

-- the status of each reply is one
pub reply_status : (r : Reply) → IsReplyStatus (status_of r)
reply_status (replies.Proved bytes) = inl (omega arith)
reply_status (replies.Broken counter) = inl (omega arith)
reply_status replies.Spent = eight
reply_status (replies.Accepted level) = inl (omega arith)
reply_status (replies.Refused offset why) = inl (omega arith)
reply_status (replies.FunctionRefused subject fault) = inl (omega arith)
reply_status (replies.CaseRefused fault) = case_named fault
reply_status (replies.EventRefused i fault) = inl (omega arith)
reply_status (replies.StuckAt i) = inl (omega arith)
reply_status (replies.Integrated ends same) = same_named same
reply_status (replies.Replayed ends differ) = differ_named differ
reply_status (replies.Served end) = differ_named end.differ
reply_status (replies.Audited (audits.Blocks blocks)) = same_named (list_all is_total blocks)
reply_status (replies.Audited audits.Spent) = eight
reply_status (replies.Compared sames.Everywhere) = inl (omega arith)
reply_status (replies.Compared sames.Heads) = inl (omega arith)
reply_status (replies.Compared (sames.Differ k l a b left right)) = inl (omega arith)
reply_status (replies.Compared sames.Spent) = eight
reply_status (replies.Reversed backs.Yes) = inl (omega arith)
reply_status (replies.Reversed (backs.No doc a b there back)) = inl (omega arith)
reply_status (replies.Reversed backs.Spent) = eight
reply_status replies.Unlike = inl (omega arith)
reply_status replies.Unbroken = inl (omega arith)
reply_status (replies.Shortest counter cells) = inl (omega arith)
reply_status (replies.Certified bytes) = inl (omega arith)
reply_status replies.BoundTooLong = nine
reply_status (replies.AtLeast level cells) = inl (omega arith)
reply_status (replies.Confirmed level) = inl (omega arith)
reply_status (replies.ProofRefused offset why) = inl (omega arith)
reply_status (replies.Templated bytes) = inl (omega arith)
reply_status replies.NoTemplate = inl (omega arith)
reply_status (replies.Mended bytes) = inl (omega arith)
reply_status (replies.NotMended most) = inl (omega arith)
reply_status (replies.Traced bytes status) = traced_named status
reply_status (replies.Explained (explanations.Holds level basis)) = inl (omega arith)
reply_status (replies.Explained (explanations.Breaks counter steps)) = inl (omega arith)
reply_status (replies.Explained (explanations.Open most attempt)) = eight
reply_status (replies.Explained (explanations.Misread fault hint)) = inl (omega arith)
reply_status (replies.Drilled d) = differ_named d.differ
reply_status replies.Usage = inl (omega arith)
reply_status (replies.TooLong kind) = nine

-- no status is above 10: it is 6, 7 or 10, or that of a reply, at most 9
pub named : (status : ℕ) → (status ≢ 6 → status ≢ 7 → status ≢ 10 → (r : Reply) × (status ≡ status_of r)) → status ≤ 10
named status answered =
    elim (three status) as (λ _. status ≤ 10) [
      | inl (inl six) ↦ omega arith
      | inl (inr (inl seven)) ↦ omega arith
      | inl (inr (inr ten)) ↦ omega arith
      | inr none ↦ (
          let reply = answered none.0 none.1 none.2 in
          let few = at_most_nine (status_of reply.0) (reply_status reply.0) in
          let is = reply.1 in omega arith)
    ]

-- where neither count rises, memory was wanting or the reply was written
pub whole : (status : ℕ) (Shelf Sink Want Written : Type 0) → (status ≡ 6 → Shelf)
    → (status ≡ 7 → Sink) → (status ≡ 10 → Want)
    → (status ≢ 6 → status ≢ 7 → status ≢ 10 → Written) → ¬ Shelf → ¬ Sink → ((status ≡ 10) × Want) ⊎ Written
whole status Shelf Sink Want Written on_shelf on_sink on_want written no_shelf no_sink =
    elim (three status) as (λ _. ((status ≡ 10) × Want) ⊎ Written) [
      | inl (inl six) ↦ absurd (no_shelf (on_shelf six))
      | inl (inr (inl seven)) ↦ absurd (no_sink (on_sink seven))
      | inl (inr (inr ten)) ↦ inl (ten, on_want ten)
      | inr none ↦ inr (written none.0 none.1 none.2)
    ]

-- a workload's reply
agrees : (differ : Option (ℕ × ℕ)) → differ_status differ ≢ 1 → (differ ≡ None) × (differ_status differ ≡ 0)
agrees None other = (refl, refl)
agrees (Some pair) other = absurd (other refl)

-- a drill that has written a reply was spent, or went through with nothing that differs
pub gone_through : (words : List (List ℕ)) (holds : List ℕ → Option (List ℕ)) (status : ℕ) (IsWritten : List ℕ → Type 0)
    → IsAnswered words holds status IsWritten → IsGoneThrough words status IsWritten
gone_through words holds status IsWritten (r, reply, steady, is, written) number named =
    go (reply_to_asked words holds r (Drill number) named reply).2
    (steady_asked words holds r (Drill number) named steady)
  where
    go : IsReplyToQuestions number (reply_to_asked words holds r (Drill number) named reply).0 r → status_of r ≢ 1
        → ((status ≡ 8) × IsWritten (text_of replies.Spent))
        ⊎ ((status ≡ 0) × ((d : Drilled) × IsDrilled number d × (d.differ ≡ None) × IsWritten (drill_text d)))
    go (inl spent) other =
        inl (is ∙ ap (λ x. status_of x) spent.1, subst IsWritten (ap (λ x. text_of x) spent.1) written)
    go (inr done) other =
        let d : Drilled = done.1.0 in
        let same : r ≡ replies.Drilled d = done.1.2 in
        let both = agrees d.differ (subst (λ x. status_of x ≢ 1) same other) in
        inr (
          is ∙ ap (λ x. status_of x) same
              ∙ both.1,
          (d, done.1.1, both.0, subst IsWritten (ap (λ x. text_of x) same) written),
        )

-- the status of a judgement that is told
judgement_status :
    {T : Type 0} (accepts : T → Reply) (judgement : Result T JudgeError) (r : Reply)
    → ((shown : T) → status_of (accepts shown) ≡ 0)
    → Tells accepts judgement r → status_of r ≡ (if is_ok judgement then 0 else 2)
judgement_status accepts (Ok shown) r zero tells = ap (λ x. status_of x) tells ∙ zero shown
judgement_status accepts (Err (judge.Refused offset why)) r zero tells = ap (λ x. status_of x) tells
judgement_status accepts (Err judge.Failed) r zero tells = absurd tells
judgement_status accepts (Err judge.NoMemory) r zero tells = absurd tells

-- a told certificate within its limit has a judgement, whose status is that of its reply
pub file_judged :
    {T : Type 0} (Judges : List ℕ → Result T JudgeError → Type 0) (accepts : T → Reply)
    → ((shown : T) → status_of (accepts shown) ≡ 0)
    → (told : Option (List ℕ)) (certificate : List ℕ) (r : Reply) → told ≡ Some certificate
    → length certificate ≤ limit_of files.Certificate → IsReplyToCertificate Judges accepts told r
    → (judgement : Result T JudgeError) × Judges certificate judgement
    × (status_of r ≡ (if is_ok judgement then 0 else 2))
file_judged Judges accepts zero told certificate r is within (contents, known, (judgement, of_front, reply)) =
    let front : take (limit_of files.Certificate) contents ≡ certificate =
    ap (λ (l : List ℕ). take (limit_of files.Certificate) l) (known certificate is)
    ∙ take_all (limit_of files.Certificate) certificate within in
    (judgement, subst (λ (b : List ℕ). Judges b judgement) front of_front, by_reply reply)
  where
    by_reply : IsReplyToJudgement accepts told contents judgement r → status_of r ≡ (if is_ok judgement then 0 else 2)
    by_reply (inl longer) = absurd (let more = longer.1.0 certificate is in omega (arith, more, within))
    by_reply (inr h) = judgement_status accepts judgement r zero h.1

module _ (texts_are_read : (bytes : List ℕ) (f : Function) → IsTextOf bytes f → function_in bytes ≡ Ok f) where
  -- `check` is answered by the judgement of the told bytes
  pub judged :
      (words : List (List ℕ)) (holds : List ℕ → Option (List ℕ)) (status : ℕ) (IsWritten : List ℕ → Type 0)
      → IsAnswered words holds status IsWritten → IsJudgedAs words holds status
  judged words holds status IsWritten (r, reply, steady, is, written) name certificate_name bytes certificate f named
      told certificate_told small text within =
      let gives = reply_to_asked words holds r (Check name certificate_name) named reply in
      let got : IsReplyToChecked f (holds certificate_name) r =
      gets (holds name) bytes f told small (texts_are_read bytes f text) First
      (λ g. IsReplyToChecked g (holds certificate_name) r) r gives in
      let found = file_judged (IsJudgement f) replies.Accepted (λ level. refl) (holds certificate_name) certificate r
      certificate_told within got in
      (found.0, found.1, is ∙ found.2)
