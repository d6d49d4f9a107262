-- The statuses of `confirm` are those of the one judgement of a proof's bytes.
use Rattle.std.proofs.Common.{◌≡◌, ◌≤◌, ℕ, List, length, take, Option, Some, Result, Ok, Err, IsTrue, refl, sym, ap}
use Rattle.std.proofs.Common.{◌∙◌, subst, inl, inr, arith}
use Rattle.std.specs.Prelude.{is_ok, if◌then◌else◌}
use Rattle.std.specs.Option.{ForSome}
use Rattle.std.proofs.lemmas.List.{take_all}
use Rattle.fn_rules.specs.declared.function.Level.{Level}
use Rattle.fn_rules.specs.declared.function.Level.TheVariants.{Tp1, Tp2}
use Rattle.fn_rules.specs.Functions.{Function}
use Rattle.fn_rules.specs.Orders.{HasOneOutcome}
use Rattle.fn_rules.specs.Properties.{HasTp1, HasTp2}
use Rattle.fn_grammar.specs.Grammar.{IsTextOf}
use Rattle.fn_text.specs.Reading.{function_in}
use Rattle.proof_sections.specs.declared.refusal.ConfirmError.{ConfirmError}
use Rattle.proof_sections.specs.declared.refusal.ConfirmError.TheVariants as confirm
use Rattle.ot_confirm.specs.Judgement.{judgement_of}
use Rattle.ot_replies.specs.declared.reply.FileKind.TheVariants as files
use Rattle.ot_replies.specs.declared.reply.Reply.{Reply}
use Rattle.ot_replies.specs.declared.reply.Reply.TheVariants as replies
use Rattle.ot_replies.specs.declared.reply.Subject.TheVariants.{First}
use Rattle.ot_replies.specs.Limits.{limit_of}
use Rattle.ot_replies.specs.Texts.{status_of, text_of}
use Rattle.ot_words.specs.Commands.{Confirm}
use Rattle.ot_commands.specs.Confirm.{IsReplyToConfirmed, IsReplyToJudged, TellsJudgement, rests_on_more}
use Rattle.ot_commands.specs.Load.{IsReplyToFunction}
use Rattle.ot_commands.specs.Replies.{IsReply, IsReplyTo}
use Rattle.ot_top.specs.Confirmed.{IsConfirmed, IsConfirmJudgedAs}
use Rattle.ot_top.specs.Shown.{HasLevel}
use Rattle.ot_top.proofs.OneFile.{function_once}
use Rattle.ot_top.proofs.Proving.{gets, reply_to_asked}
use Rattle.ot_top.proofs.Showing.{not_refused, not_too_long, other_status}
use Rattle.ot_top.proofs.Told.{IsAnswered}

-- the status of a judgement that is told
judgement_status : (judgement : Result Level ConfirmError) (r : Reply) → TellsJudgement judgement r
    → status_of r ≡ (if is_ok judgement then 0 else 2)
judgement_status (Ok level) r tells = ap (λ x. status_of x) tells
judgement_status (Err (confirm.Refused offset why)) r tells = ap (λ x. status_of x) tells
judgement_status (Err confirm.NoMemory) r tells = absurd tells

module _ (texts_are_read : (bytes : List ℕ) (f : Function) → IsTextOf bytes f → function_in bytes ≡ Ok f) where
  -- the status of `confirm` is that of the one judgement of the proof
  pub confirm_judged :
      (words : List (List ℕ)) (holds : List ℕ → Option (List ℕ)) (status : ℕ) (IsWritten : List ℕ → Type 0)
      → IsAnswered words holds status IsWritten → IsConfirmJudgedAs words holds status
  confirm_judged words holds status IsWritten (r, reply, steady, is, written) name proof_name bytes proof f named told
      proof_told small text within =
      let gives = reply_to_asked words holds r (Confirm name proof_name) named reply in
      let got : IsReplyToConfirmed f (holds proof_name) r =
      gets (holds name) bytes f told small (texts_are_read bytes f text) First
      (λ g. IsReplyToConfirmed g (holds proof_name) r) r gives in
      let same : take (limit_of files.Proof) got.0 ≡ proof =
      ap (λ (l : List ℕ). take (limit_of files.Proof) l) (got.1 proof proof_told)
      ∙ take_all (limit_of files.Proof) proof within in
      is ∙ by_reply f (holds proof_name) proof got.0 r proof_told within
      (subst (λ (b : List ℕ). IsReplyToJudged (holds proof_name) got.0 (judgement_of f b) r) same got.2)
    where
      by_reply :
          (f : Function) (told : Option (List ℕ)) (proof contents : List ℕ) (r : Reply) → told ≡ Some proof
          → length proof ≤ limit_of files.Proof → IsReplyToJudged told contents (judgement_of f proof) r
          → status_of r ≡ (if is_ok (judgement_of f proof) then 0 else 2)
      by_reply f told proof contents r is within (inl longer) =
          absurd (let more = longer.1.0 proof is in omega (arith, more, within))
      by_reply f told proof contents r is within (inr h) = judgement_status (judgement_of f proof) r h.1

-- what a confirmed proof shows of a function that was read
pub confirmed_level :
    ((f : Function) (bytes : List ℕ) → judgement_of f bytes ≡ Ok Tp1 → HasTp1 f)
    → ((f : Function) (bytes : List ℕ) → judgement_of f bytes ≡ Ok Tp2 → HasTp1 f × HasTp2 f)
    → ((f : Function) (bytes : List ℕ) → judgement_of f bytes ≡ Ok Tp2 → HasOneOutcome f)
    → (f : Function) (bytes : List ℕ) (level : Level) → judgement_of f bytes ≡ Ok level → HasLevel f level
confirmed_level tp1 tp2 one_outcome f bytes Tp1 is = tp1 f bytes is
confirmed_level tp1 tp2 one_outcome f bytes Tp2 is =
    let both = tp2 f bytes is in (both.0, both.1, one_outcome f bytes is)

-- status 0 of a judgement's reply is that of a confirmed proof, all of whose bytes were judged
confirmed_bytes :
    (f : Function) (contents : List ℕ) (judgement : Result Level ConfirmError) (r : Reply) → 0 ≡ status_of r
    → judgement_of f (take (limit_of files.Proof) contents) ≡ judgement
    → (IsTrue (rests_on_more judgement) → length contents ≤ limit_of files.Proof) → TellsJudgement judgement r
    → (level : Level) × (judgement_of f contents ≡ Ok level) × (r ≡ replies.Confirmed level)
confirmed_bytes f contents (Ok level) r zero is within tells = (
  level,
  ap (judgement_of f) (sym (take_all (limit_of files.Proof) contents (within refl))) ∙ is,
  tells,
)
confirmed_bytes f contents (Err (confirm.Refused offset why)) r zero is within tells =
    absurd (other_status r (replies.ProofRefused offset why) 2 zero tells refl (omega arith))
confirmed_bytes f contents (Err confirm.NoMemory) r zero is within tells = absurd tells

file_confirmed :
    (f : Function) (told : Option (List ℕ)) (r : Reply) → 0 ≡ status_of r → IsReplyToConfirmed f told r
    → (level : Level) × (contents : List ℕ) × ForSome told (λ known. contents ≡ known)
    × (judgement_of f contents ≡ Ok level)
    × (r ≡ replies.Confirmed level)
file_confirmed f told r zero (contents, are, inl longer) = absurd (not_too_long r zero files.Proof told longer.1)
file_confirmed f told r zero (contents, are, inr h) =
    let found = confirmed_bytes f contents
    (judgement_of f (take (limit_of files.Proof) contents)) r zero refl h.0 h.1 in
    (found.0, contents, are, found.1, found.2)

module _ (has_level : (f : Function) (bytes : List ℕ) (level : Level)
    → judgement_of f bytes ≡ Ok level → HasLevel f level)
    (is_text : (bytes : List ℕ) (f : Function) → function_in bytes ≡ Ok f → IsTextOf bytes f) where
  -- status 0 of `confirm`: the proof shows what its level says
  pub confirmed :
      (words : List (List ℕ)) (holds : List ℕ → Option (List ℕ)) (r : Reply) (IsWritten : List ℕ → Type 0)
      → 0 ≡ status_of r → IsReply words holds r → IsWritten (text_of r) → IsConfirmed words holds IsWritten
  confirmed words holds r IsWritten zero is_reply written name proof_name bytes named told =
      by_function (reply_to_asked words holds r (Confirm name proof_name) named is_reply)
    where
      by_function :
          IsReplyToFunction First (holds name) (λ f. IsReplyToConfirmed f (holds proof_name) r) r
          → (f : Function) × (level : Level) × (proof : List ℕ)
          × IsTextOf bytes f × (judgement_of f proof ≡ Ok level) × ForSome (holds proof_name) (λ known. proof ≡ known)
          × HasLevel f level × IsWritten (text_of (replies.Confirmed level))
      by_function (inl refused) = absurd (not_refused r zero First (holds name) refused)
      by_function (inr (f, read, gets_it)) =
          let found = file_confirmed f (holds proof_name) r zero gets_it in
          let text = is_text bytes f (read bytes told).1 in (
            f,
            found.0,
            found.1,
            text,
            found.3,
            found.2,
            has_level f found.1 found.0 found.3,
            subst IsWritten (ap (λ x. text_of x) found.4) written,
          )

-- the reply to a judgement of a told file is one
judged_once :
    (judgement : Result Level ConfirmError) (r s : Reply) → TellsJudgement judgement r
    → TellsJudgement judgement s → r ≡ s
judged_once (Ok level) r s first second = first ∙ sym second
judged_once (Err (confirm.Refused offset why)) r s first second = first ∙ sym second
judged_once (Err confirm.NoMemory) r s first second = absurd first

replied_once :
    (proof : List ℕ) (told : Option (List ℕ)) (judgement : Result Level ConfirmError) (r s : Reply) → told ≡ Some proof
    → IsReplyToJudged told proof judgement r → IsReplyToJudged told proof judgement s → r ≡ s
replied_once proof told judgement r s is (inl (rests, longer)) (inl (_, too)) = longer.1 ∙ sym too.1
replied_once proof told judgement r s is (inl (rests, longer)) (inr (within, tells)) =
    absurd (let more = longer.0 proof is in let few = within rests in omega (arith, more, few))
replied_once proof told judgement r s is (inr (within, tells)) (inl (rests, longer)) =
    absurd (let more = longer.0 proof is in let few = within rests in omega (arith, more, few))
replied_once proof told judgement r s is (inr (_, tells)) (inr (_, says)) = judged_once judgement r s tells says

-- the reply to a proof whose file is told is one
proof_replied_once :
    (f : Function) (told : Option (List ℕ)) (proof : List ℕ) (r s : Reply) → told ≡ Some proof
    → IsReplyToConfirmed f told r → IsReplyToConfirmed f told s → r ≡ s
proof_replied_once f told proof r s is (contents, known, reply) (others, also, said) =
    replied_once proof told (judgement_of f (take (limit_of files.Proof) proof)) r s is
    (subst (λ (l : List ℕ). IsReplyToJudged told l (judgement_of f (take (limit_of files.Proof) l)) r) (known proof is)
    reply)
    (subst (λ (l : List ℕ). IsReplyToJudged told l (judgement_of f (take (limit_of files.Proof) l)) s) (also proof is)
    said)

-- the reply to a function and a proof whose files are told is one
pub confirm_replied_once :
    (holds : List ℕ → Option (List ℕ)) (name proof_name bytes proof : List ℕ) (r s : Reply)
    → holds name ≡ Some bytes → holds proof_name ≡ Some proof
    → IsReplyTo holds (Confirm name proof_name) r → IsReplyTo holds (Confirm name proof_name) s → r ≡ s
confirm_replied_once holds name proof_name bytes proof r s told proof_told one other =
    function_once (holds name) bytes told First (λ f. IsReplyToConfirmed f (holds proof_name) r)
    (λ f. IsReplyToConfirmed f (holds proof_name) s) r s (r ≡ s) one other (λ same. same)
    (λ f read gets_it others. proof_replied_once f (holds proof_name) proof r s proof_told gets_it others)
