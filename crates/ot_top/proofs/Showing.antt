-- Status 0 of `check` is that of an accepted certificate, which shows what its level says.
use Rattle.std.proofs.Common.{◌≡◌, ℕ, ◌<◌, ◌≤◌, List, length, take, Option, Result, Ok, Err, refl, ap, subst, ◌∙◌, inl}
use Rattle.std.proofs.Common.{inr, arith}
use Rattle.std.specs.Prelude.{IsTrue, MatchOption}
use Rattle.std.specs.Option.{ForSome}
use Rattle.std.proofs.lemmas.List.{take_all}
use Rattle.fn_rules.specs.declared.function.Level.{Level}
use Rattle.fn_rules.specs.declared.function.Level.TheVariants.{Tp1, Tp2}
use Rattle.fn_rules.specs.Functions.{Function}
use Rattle.fn_rules.specs.Orders.{HasOneOutcome}
use Rattle.fn_rules.specs.Properties.{HasTp1, HasTp2}
use Rattle.fn_grammar.specs.Grammar.{IsTextOf}
use Rattle.fn_text.specs.Reading.{function_in}
use Rattle.refusals.specs.declared.refusal.JudgeError.{JudgeError}
use Rattle.refusals.specs.declared.refusal.JudgeError.TheVariants as judge
use Rattle.ot_sections.specs.Certificates.{IsCertificate}
use Rattle.ot_judge.specs.Refusals.{IsJudgement}
use Rattle.ot_replies.specs.declared.reply.FileKind.{FileKind}
use Rattle.ot_replies.specs.declared.reply.FileKind.TheVariants as files
use Rattle.ot_replies.specs.declared.reply.Reply.{Reply}
use Rattle.ot_replies.specs.declared.reply.Subject.{Subject}
use Rattle.ot_replies.specs.declared.reply.Subject.TheVariants.{First}
use Rattle.ot_replies.specs.declared.reply.Reply.TheVariants.{Accepted, Refused, FunctionRefused, Usage, TooLong}
use Rattle.ot_words.specs.Commands.{Asked, Check}
use Rattle.ot_commands.specs.Certificate.{IsReplyToCertificate, IsReplyToContents, Tells, rests_on_the_end}
use Rattle.ot_commands.specs.Load.{IsFunctionRefusal, IsReadAs, IsReplyToFunction}
use Rattle.ot_commands.specs.Replies.{IsReply, IsReplyTo}
use Rattle.ot_replies.specs.Limits.{limit_of, IsTooLong}
use Rattle.ot_top.specs.Shown.{HasLevel, IsShown}
use Rattle.ot_replies.specs.Texts.{status_of, text_of}

-- a reply of another status than 0
pub other_status : (r other : Reply) (status : ℕ) → 0 ≡ status_of r → r ≡ other
    → status_of other ≡ status → 0 < status → ⊥
other_status r other status is_zero e named more =
    let same = is_zero ∙ (ap (λ x. status_of x) e ∙ named) in omega (arith, same, more)

module _ (r : Reply) (is_zero : 0 ≡ status_of r) where
  pub not_too_long : (kind : FileKind) (told : Option (List ℕ)) → IsTooLong kind told r → ⊥
  not_too_long kind told h = other_status r (TooLong kind) 9 is_zero h.1 refl (omega arith)

  pub not_refused : (subject : Subject) (told : Option (List ℕ)) → IsFunctionRefusal subject told r → ⊥
  not_refused subject told (inl h) = not_too_long files.Function told h
  not_refused subject told (inr h) = other_status r (FunctionRefused subject h.0) 3 is_zero h.2 refl (omega arith)

  -- status 0 of a judgement's reply is that of an accepted certificate, all of whose bytes were judged
  module _ {T : Type 0} (Judges : List ℕ → Result T JudgeError → Type 0) (accepts : T → Reply) where
    -- a judgement of a whole file that is not told as a refusal accepts it, and that is told
    accepted_bytes :
        (contents : List ℕ) (judgement : Result T JudgeError)
        → Judges (take (limit_of files.Certificate) contents) judgement
        → (IsTrue (rests_on_the_end judgement) → length contents ≤ limit_of files.Certificate)
        → Tells accepts judgement r
        → (shown : T) × Judges contents (Ok shown) × (r ≡ accepts shown)
    accepted_bytes contents (Ok shown) is within tells = (
      shown,
      subst (λ (b : List ℕ). Judges b (Ok shown))
          (take_all (limit_of files.Certificate) contents (within refl)) is,
      tells,
    )
    accepted_bytes contents (Err (judge.Refused offset why)) is within tells =
        absurd (other_status r (Refused offset why) 2 is_zero tells refl (omega arith))
    accepted_bytes contents (Err judge.Failed) is within tells = absurd tells
    accepted_bytes contents (Err judge.NoMemory) is within tells = absurd tells

    contents_accepted :
        (told : Option (List ℕ)) (contents : List ℕ) → IsReplyToContents Judges accepts told contents r
        → (shown : T) × Judges contents (Ok shown) × (r ≡ accepts shown)
    contents_accepted told contents (judgement, judged, inl h) = absurd (not_too_long files.Certificate told h.1)
    contents_accepted told contents (judgement, judged, inr h) = accepted_bytes contents judgement judged h.0 h.1

    file_accepted :
        (told : Option (List ℕ)) → IsReplyToCertificate Judges accepts told r
        → (shown : T) × (contents : List ℕ) × ForSome told (λ known. contents ≡ known)
        × Judges contents (Ok shown) × (r ≡ accepts shown)
    file_accepted told (contents, are, h) =
        let found = contents_accepted told contents h in (found.0, contents, are, found.1, found.2)

  -- the function is read, and there is a certificate of it
  pub accepted :
      {T : Type 0} (Judges : Function → List ℕ → Result T JudgeError → Type 0) (accepts : T → Reply)
      (first second : Option (List ℕ))
      → IsReplyToFunction First first (λ f. IsReplyToCertificate (Judges f) accepts second r) r
      → (f : Function) × IsReadAs (Ok f) first
      × ((shown : T) × (contents : List ℕ) × ForSome second (λ known. contents ≡ known)
      × Judges f contents (Ok shown) × (r ≡ accepts shown))
  accepted Judges accepts first second (inl h) = absurd (not_refused First first h)
  accepted Judges accepts first second (inr (f, read, h)) = (f, read, file_accepted (Judges f) accepts second h)

module _ (tp1 : (bytes : List ℕ) (f : Function) → IsCertificate bytes f Tp1 → HasTp1 f)
    (tp2 : (bytes : List ℕ) (f : Function) → IsCertificate bytes f Tp2 → HasTp1 f × HasTp2 f)
    (one_outcome : (bytes : List ℕ) (f : Function) → IsCertificate bytes f Tp2 → HasOneOutcome f) where
  pub has_level : (bytes : List ℕ) (f : Function) (level : Level) → IsCertificate bytes f level → HasLevel f level
  has_level bytes f Tp1 h = tp1 bytes f h
  has_level bytes f Tp2 h = let both = tp2 bytes f h in (both.0, both.1, one_outcome bytes f h)

module _ (has_level : (bytes : List ℕ) (f : Function) (level : Level) → IsCertificate bytes f level → HasLevel f level)
    (is_text : (bytes : List ℕ) (f : Function) → function_in bytes ≡ Ok f → IsTextOf bytes f) where
  -- status 0 of `check`: the certificate shows what its level says
  pub shown :
      (words : List (List ℕ)) (holds : List ℕ → Option (List ℕ)) (r : Reply) (IsWritten : List ℕ → Type 0)
      → 0 ≡ status_of r → IsReply words holds r → IsWritten (text_of r) → IsShown words holds IsWritten
  shown words holds r IsWritten is_zero is_reply written name certificate_name bytes named told =
      let reply : IsReplyTo holds (Check name certificate_name) r =
      subst (λ (o : Option Asked). MatchOption o (r ≡ Usage) (λ asked. IsReplyTo holds asked r)) named is_reply in
      let found = accepted r is_zero IsJudgement Accepted (holds name) (holds certificate_name) reply in
      let text = is_text bytes found.0 (found.1 bytes told).1 in
      let level = found.2.0 in
      let certificate = found.2.1 in (
        found.0,
        level,
        certificate,
        text,
        found.2.3,
        found.2.2,
        has_level certificate found.0 level found.2.3,
        subst IsWritten (ap (λ x. text_of x) found.2.4) written,
      )
