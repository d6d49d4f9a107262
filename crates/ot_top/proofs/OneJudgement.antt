-- The reply to a certificate is told by its function and its bytes.
use Rattle.std.proofs.Common.{◌≡◌, ◌≤◌, ℕ, List, length, take, Option, Some, Result, Ok, Err, IsTrue, sym, ◌∙◌, subst}
use Rattle.std.proofs.Common.{inl, inr, arith}
use Rattle.fn_rules.specs.Functions.{Function}
use Rattle.fn_text.specs.Reading.{function_in}
use Rattle.refusals.specs.declared.refusal.JudgeError.{JudgeError}
use Rattle.refusals.specs.declared.refusal.JudgeError.TheVariants as judge
use Rattle.ot_replies.specs.declared.reply.FileKind.TheVariants as files
use Rattle.ot_replies.specs.declared.reply.Reply.{Reply}
use Rattle.ot_replies.specs.declared.reply.Subject.TheVariants.{First}
use Rattle.ot_commands.specs.Certificate.{IsReplyToCertificate, IsReplyToJudgement, Tells, rests_on_the_end}
use Rattle.ot_commands.specs.Load.{IsReplyToFunction}
use Rattle.ot_replies.specs.Limits.{limit_of, IsTooLong}
use Rattle.ot_top.proofs.OneFile.{function_once}

module _ {T : Type 0} (accepts : T → Reply) where
  -- what tells a judgement is one
  judgement_told_once : (judgement : Result T JudgeError) (r s : Reply) → Tells accepts judgement r
      → Tells accepts judgement s → r ≡ s
  judgement_told_once (Ok shown) r s first second = first ∙ sym second
  judgement_told_once (Err (judge.Refused offset why)) r s first second = first ∙ sym second
  judgement_told_once (Err judge.Failed) r s first second = absurd first
  judgement_told_once (Err judge.NoMemory) r s first second = absurd first

  -- a told file is not both longer than the limit and, where its judgement rests on its end, within it
  limit_or_end :
      (certificate : List ℕ) (told : Option (List ℕ)) (judgement : Result T JudgeError) (r s : Reply)
      → told ≡ Some certificate
      → IsTrue (rests_on_the_end judgement) → IsTooLong files.Certificate told r
      → ¬ (IsTrue (rests_on_the_end judgement) → length certificate ≤ limit_of files.Certificate)
  limit_or_end certificate told judgement r s is rests longer within =
      let more = longer.0 certificate is in let few = within rests in omega (arith, more, few)

  -- the reply to a judgement of a told file is one
  judgement_replied_once :
      (certificate : List ℕ) (told : Option (List ℕ)) (judgement : Result T JudgeError) (r s : Reply)
      → told ≡ Some certificate
      → IsReplyToJudgement accepts told certificate judgement r
      → IsReplyToJudgement accepts told certificate judgement s → r ≡ s
  judgement_replied_once certificate told judgement r s is (inl (rests, longer)) (inl (_, too)) = longer.1 ∙ sym too.1
  judgement_replied_once certificate told judgement r s is (inl (rests, longer)) (inr (within, tells)) =
      absurd (limit_or_end certificate told judgement r s is rests longer within)
  judgement_replied_once certificate told judgement r s is (inr (within, tells)) (inl (rests, longer)) =
      absurd (limit_or_end certificate told judgement s r is rests longer within)
  judgement_replied_once certificate told judgement r s is (inr (_, tells)) (inr (_, says)) =
      judgement_told_once judgement r s tells says

  -- the reply to a certificate whose file is told is one
  certificate_replied_once :
      (Judges : List ℕ → Result T JudgeError → Type 0)
      → ((bytes : List ℕ) (one other : Result T JudgeError) → Judges bytes one → Judges bytes other → one ≡ other)
      → (told : Option (List ℕ)) (certificate : List ℕ) (r s : Reply) → told ≡ Some certificate
      → IsReplyToCertificate Judges accepts told r → IsReplyToCertificate Judges accepts told s → r ≡ s
  certificate_replied_once Judges one_judgement told certificate r s is (contents, known, (judgement, judged, reply))
      (others, also, (again, judged_again, said)) =
      let front : List ℕ → List ℕ = λ l. take (limit_of files.Certificate) l in
      let first : Judges (front certificate) judgement =
      subst (λ (l : List ℕ). Judges (front l) judgement) (known certificate is) judged in
      let second : Judges (front certificate) again =
      subst (λ (l : List ℕ). Judges (front l) again) (also certificate is) judged_again in
      let same : again ≡ judgement = one_judgement (front certificate) again judgement second first in
      judgement_replied_once certificate told judgement r s is
      (subst (λ (l : List ℕ). IsReplyToJudgement accepts told l judgement r) (known certificate is) reply)
      (subst (λ (j : Result T JudgeError). IsReplyToJudgement accepts told certificate j s) same
      (subst (λ (l : List ℕ). IsReplyToJudgement accepts told l again s) (also certificate is) said))

  -- the reply to a function and a certificate whose files are told is one
  pub both_replied_once :
      (Judges : Function → List ℕ → Result T JudgeError → Type 0) (bytes : List ℕ)
      → ((f : Function) → function_in bytes ≡ Ok f
      → (b : List ℕ) (one other : Result T JudgeError) → Judges f b one → Judges f b other → one ≡ other)
      → (first second : Option (List ℕ)) (certificate : List ℕ) (r s : Reply) → first ≡ Some bytes
      → second ≡ Some certificate
      → IsReplyToFunction First first (λ f. IsReplyToCertificate (Judges f) accepts second r) r
      → IsReplyToFunction First first (λ f. IsReplyToCertificate (Judges f) accepts second s) s → r ≡ s
  both_replied_once Judges bytes one_judgement first second certificate r s told certificate_told one other =
      function_once first bytes told First (λ f. IsReplyToCertificate (Judges f) accepts second r)
      (λ f. IsReplyToCertificate (Judges f) accepts second s) r s (r ≡ s) one other (λ same. same)
      (λ f read gets others.
      certificate_replied_once (Judges f) (one_judgement f read) second certificate r s certificate_told gets others)
