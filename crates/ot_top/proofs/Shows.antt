-- What a reply that was written shows, of whatever is known of the files.
use Rattle.std.proofs.Common.{◌≡◌, ◌≢◌, ℕ, List, Option, Result, Ok, IsTrue, sym, ◌∙◌, subst, inl, inr, arith}
use Rattle.diff_graph.specs.declared.lit.Lit.{Lit}
use Rattle.fn_rules.specs.declared.function.Level.{Level}
use Rattle.fn_rules.specs.Functions.{Function}
use Rattle.fn_rules.specs.Properties.{HasTp1, HasTp2}
use Rattle.fn_rules.specs.Validity.{is_valid}
use Rattle.fn_grammar.specs.Grammar.{IsTextOf}
use Rattle.fn_text.specs.Reading.{function_in}
use Rattle.ask_core.specs.Plans.{Plan}
use Rattle.ask_core.specs.Questions.{Questions, QuestionList}
use Rattle.ot_questions.specs.declared.why.Why.{Why}
use Rattle.refusals.specs.declared.refusal.JudgeError.{JudgeError}
use Rattle.ot_sections.specs.Certificates.{IsCertificate}
use Rattle.ot_judge.specs.Refusals.{IsJudgement}
use Rattle.ot_confirm.specs.Judgement.{judgement_of}
use Rattle.ot_outside.specs.Reads.{Reads}
use Rattle.ot_replies.specs.declared.reply.Reply.{Reply}
use Rattle.ot_commands.specs.Given.{IsAnswerOfGiven}
use Rattle.ot_commands.specs.Replies.{IsReply}
use Rattle.ot_commands.specs.Steady.{AreSteady}
use Rattle.ot_heads.specs.Heads.{InsertsAndDeletesOnPlain}
use Rattle.ot_top.specs.Bounded.{IsBounded, IsSought}
use Rattle.ot_top.specs.Evidence.{Evidence}
use Rattle.ot_top.specs.Explained.{IsExplained}
use Rattle.ot_top.specs.Followed.{IsFollowed}
use Rattle.ot_top.specs.Shown.{HasLevel, IsComplete, IsProved, IsShownBroken}
use Rattle.ot_top.specs.Shows.{AreKnown, IsOfReply, StatusShows}
use Rattle.ot_top.specs.Mended.{IsMended}
use Rattle.ot_top.specs.Templated.{IsTemplated}
use Rattle.ot_replies.specs.Texts.{status_of, text_of}
use Rattle.ot_top.proofs.Audited.{audited, compared}
use Rattle.ot_top.proofs.Barred.{barred}
use Rattle.ot_top.proofs.Bounded.{bound_judged}
use Rattle.ot_top.proofs.Confirmed.{confirm_judged, confirmed}
use Rattle.ot_top.proofs.Proving.{complete, evidence_level, proved}
use Rattle.ot_top.proofs.Reversed.{reversed}
use Rattle.ot_top.proofs.Showing.{shown}
use Rattle.ot_commands.proofs.Steady.{served, steady}
use Rattle.ot_top.proofs.Told.{IsAnswered, gone_through, judged}
use Rattle.ot_top.proofs.Traced.{traced_file}
use Rattle.ot_top.proofs.Unread.{unread}

-- the reply, of what the shelf tells and of what its calls gave, is the reply of what is known
pub reply_known :
    (words : List (List ℕ)) (told holds : List ℕ → Option (List ℕ)) (old new : Reads) (r : Reply) → IsReply words told r
    → AreSteady words told r → IsAnswerOfGiven words old new r → AreKnown words told old new holds
    → IsReply words holds r × AreSteady words holds r
reply_known words told holds old new r reply are given (inl same) = (
  subst (λ (h : List ℕ → Option (List ℕ)). IsReply words h r) (sym same) reply,
  subst (λ (h : List ℕ → Option (List ℕ)). AreSteady words h r) (sym same) are,
)
reply_known words told holds old new r reply are given (inr tells) = given.1 holds tells

-- each status but those of a fault and of want of memory is that of a reply
of_reply : (status n : ℕ) → status ≡ n → n ≢ 6 → n ≢ 7 → n ≢ 10 → IsOfReply status
of_reply status n is six seven ten = (λ e. six (sym is ∙ e), λ e. seven (sym is ∙ e), λ e. ten (sym is ∙ e))

module _ (words : List (List ℕ)) (holds : List ℕ → Option (List ℕ)) (IsWritten : List ℕ → Type 0) (status : ℕ)
    (answered : IsOfReply status → IsAnswered words holds status IsWritten)
    (has_level : (bytes : List ℕ) (f : Function) (level : Level) → IsCertificate bytes f level → HasLevel f level)
    (confirm_level :
    (f : Function) (bytes : List ℕ) (level : Level) → judgement_of f bytes ≡ Ok level → HasLevel f level)
    (is_text : (bytes : List ℕ) (f : Function) → function_in bytes ≡ Ok f → IsTextOf bytes f)
    (is_within_limits : (bytes : List ℕ) (f : Function) → IsTextOf bytes f → IsTrue (is_valid f))
    (is_read : (bytes : List ℕ) (f : Function) → IsTextOf bytes f → function_in bytes ≡ Ok f)
    (one_judgement :
    (f : Function) (bytes : List ℕ) (one other : Result Level JudgeError) → IsTrue (is_valid f)
    → IsJudgement f bytes one
    → IsJudgement f bytes other → one ≡ other)
    (lacks : (f : Function) → InsertsAndDeletesOnPlain f.head → ¬ (HasTp1 f × HasTp2 f))
    (one_list : (p : Plan Why) (w : List Lit) (q r : Questions Why) → QuestionList p w q → QuestionList p w r → q ≡ r)
    (is_explained : IsAnswered words holds status IsWritten → IsExplained words holds IsWritten status)
    (is_mended : IsAnswered words holds status IsWritten → IsMended words holds IsWritten status)
    (is_templated : IsAnswered words holds status IsWritten → IsTemplated words IsWritten status)
    (is_broken :
    (e : Evidence) (r : Reply) → 1 ≡ status_of r → IsReply words holds r → IsWritten (text_of r)
    → IsShownBroken e words holds IsWritten)
    (is_bounded : (r : Reply) → 0 ≡ status_of r → IsReply words holds r → IsWritten (text_of r)
    → IsBounded words holds IsWritten)
    (is_sought : (r : Reply) → IsReply words holds r → IsWritten (text_of r)
    → IsSought words holds IsWritten (status_of r))
    (is_followed : (r : Reply) → 0 ≡ status_of r → IsReply words holds r → IsWritten (text_of r)
    → IsFollowed words holds IsWritten) where
  -- status 0: the evidence was found, and is written
  shows_proved : (e : Evidence) → status ≡ 0 → IsProved e words holds IsWritten
  shows_proved e zero =
      let told =
      answered (of_reply status 0 zero (λ e. omega (arith, e)) (λ e. omega (arith, e)) (λ e. omega (arith, e))) in
      proved is_text is_within_limits (evidence_level has_level confirm_level) one_judgement e words holds told.0
      IsWritten (sym zero ∙ told.3) told.1 told.4

  -- each status shows what is said of it, from the reply that it is of
  pub shows : StatusShows words holds IsWritten status
  shows =
      record {
        sound =
            λ zero.
            let told = answered (of_reply status 0 zero (λ e. omega (arith, e)) (λ e. omega (arith, e))
            (λ e. omega (arith, e))) in
            shown has_level is_text words holds told.0 IsWritten (sym zero ∙ told.3) told.1 told.4;
        proved = shows_proved;
        barred = λ e. barred lacks is_read e words holds IsWritten status (shows_proved e);
        broken =
            λ e one.
            let told = answered (of_reply status 1 one (λ e. omega (arith, e)) (λ e. omega (arith, e))
            (λ e. omega (arith, e))) in
            is_broken e told.0 (sym one ∙ told.3) told.1 told.4;
        complete =
            λ of_a_reply.
            let told = answered of_a_reply in
            subst (λ (s : ℕ). IsComplete words holds s) (sym told.3)
            (complete is_read one_list words holds told.0 told.1);
        judged =
            λ of_a_reply.
            judged is_read words holds status IsWritten (answered of_a_reply);
        unread = λ of_a_reply. unread is_read is_text words holds status IsWritten (answered of_a_reply);
        audited = λ of_a_reply. audited is_read words holds status IsWritten (answered of_a_reply);
        compared = λ of_a_reply. compared is_read words holds status IsWritten (answered of_a_reply);
        reversed = λ of_a_reply. reversed is_read words holds status IsWritten (answered of_a_reply);
        sought =
            λ of_a_reply.
            let told = answered of_a_reply in
            subst (λ (s : ℕ). IsSought words holds IsWritten s) (sym told.3) (is_sought told.0 told.1 told.4);
        bounded =
            λ zero.
            let told = answered (of_reply status 0 zero (λ e. omega (arith, e)) (λ e. omega (arith, e))
            (λ e. omega (arith, e))) in
            is_bounded told.0 (sym zero ∙ told.3) told.1 told.4;
        bound_judged = λ of_a_reply. bound_judged is_read words holds status IsWritten (answered of_a_reply);
        confirmed =
            λ zero.
            let told = answered (of_reply status 0 zero (λ e. omega (arith, e)) (λ e. omega (arith, e))
            (λ e. omega (arith, e))) in
            confirmed confirm_level is_text words holds told.0 IsWritten (sym zero ∙ told.3) told.1 told.4;
        confirm_judged = λ of_a_reply. confirm_judged is_read words holds status IsWritten (answered of_a_reply);
        traced = λ of_a_reply. traced_file is_read words holds status IsWritten (answered of_a_reply);
        explained = λ of_a_reply. is_explained (answered of_a_reply);
        mended = λ of_a_reply. is_mended (answered of_a_reply);
        templated = λ of_a_reply. is_templated (answered of_a_reply);
        gone_through = λ of_a_reply. gone_through words holds status IsWritten (answered of_a_reply);
        steady =
            λ name session bytes f named known text agree one.
            let told = answered (of_reply status 1 one (λ e. omega (arith, e)) (λ e. omega (arith, e))
            (λ e. omega (arith, e))) in
            steady is_read words holds told.0 told.2 name session bytes f named known text agree (sym told.3 ∙ one);
        served =
            λ name hub bytes f named known text agree one.
            let told = answered (of_reply status 1 one (λ e. omega (arith, e)) (λ e. omega (arith, e))
            (λ e. omega (arith, e))) in
            served is_read words holds told.0 told.2 name hub bytes f named known text agree (sym told.3 ∙ one);
        followed =
            λ zero.
            let told = answered (of_reply status 0 zero (λ e. omega (arith, e)) (λ e. omega (arith, e))
            (λ e. omega (arith, e))) in
            is_followed told.0 (sym zero ∙ told.3) told.1 told.4;
      }
