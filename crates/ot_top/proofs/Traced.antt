-- The reply of `trace` has what happened, and the reply of the command that runs the file.
use Rattle.std.proofs.Common.{◌≡◌, ◌≤◌, ℕ, Bool, true, false, List, length, Option, Some, Ok, refl, ap, ◌∙◌, subst, inl}
use Rattle.std.proofs.Common.{inr, arith}
use Rattle.std.specs.Prelude.{nat_le, if◌then◌else◌}
use Rattle.std.proofs.lemmas.Bool.Decides.{nat_tests}
use Rattle.fn_rules.specs.Functions.{Function}
use Rattle.fn_grammar.specs.Grammar.{IsTextOf}
use Rattle.fn_text.specs.Reading.{function_in}
use Rattle.ot_replies.specs.declared.reply.FileKind.TheVariants as files
use Rattle.ot_replies.specs.declared.reply.Reply.{Reply}
use Rattle.ot_replies.specs.declared.reply.Subject.TheVariants.{First}
use Rattle.ot_replies.specs.Limits.{limit_of}
use Rattle.ot_replies.specs.Texts.{status_of, text_of, traced_status}
use Rattle.ot_words.specs.Commands.{Trace}
use Rattle.ot_commands.specs.Load.{IsReplyToFile}
use Rattle.ot_commands.specs.Trace.{IsReplyToTraced, IsReplyToTracedFile, traced}
use Rattle.ot_top.specs.Traced.{IsTraced}
use Rattle.ot_top.proofs.Proving.{gets, reply_to_asked}
use Rattle.ot_top.proofs.Told.{IsAnswered, IsReplyStatus, reply_status}

-- the bytes of a told file within its limit get the reply
contents_get :
    (told : Option (List ℕ)) (contents : List ℕ) (BytesGet : List ℕ → Type 0) (r : Reply) → told ≡ Some contents
    → length contents ≤ limit_of files.Case
    → IsReplyToFile files.Case told BytesGet r → BytesGet contents
contents_get told contents BytesGet r is small (inl longer) =
    absurd (let more = longer.0 contents is in omega (arith, more, small))
contents_get told contents BytesGet r is small (inr (held, holds, got)) = subst BytesGet (holds.1 contents is) got

-- the status of a reply is that of a trace which ends with it
high_passed : (s : ℕ) (test : Bool) → nat_le s 8 ≡ test → (8 ≤ s) × (s ≤ 9) → (if test then 8 else 9) ≡ s
high_passed s true low (least, most) = grind (arith, nat_tests)
high_passed s false more (least, most) = grind (arith, nat_tests)

status_passed : (s : ℕ) → IsReplyStatus s → traced_status s ≡ s
status_passed s is = go (nat_le s 5) refl is
  where
    go : (test : Bool) → nat_le s 5 ≡ test → IsReplyStatus s → (if test then s else (if nat_le s 8 then 8 else 9)) ≡ s
    go true low one = refl
    go false more (inl low) = absurd (grind (arith, nat_tests))
    go false more (inr high) = high_passed s (nat_le s 8) refl high

-- what `trace` was answered of told files is their trace, and the status is that of the reply at its end
pub traced_file :
    ((bytes : List ℕ) (f : Function) → IsTextOf bytes f → function_in bytes ≡ Ok f)
    → (words : List (List ℕ)) (holds : List ℕ → Option (List ℕ)) (status : ℕ) (IsWritten : List ℕ → Type 0)
    → IsAnswered words holds status IsWritten → IsTraced words holds IsWritten status
traced_file is_read words holds status IsWritten (r, reply, steady, is, written) events name file bytes contents f named
    told file_told small text within =
    let got : IsReplyToTracedFile events f (holds file) r =
    gets (holds name) bytes f told small (is_read bytes f text) First (λ g. IsReplyToTracedFile events g (holds file) r)
    r (reply_to_asked words holds r (Trace events name file) named reply) in
    let of_bytes : IsReplyToTraced events f contents r =
    contents_get (holds file) contents (λ b. IsReplyToTraced events f b r) r file_told within got in
    let end = of_bytes.1 in
    let same : r ≡ traced events contents of_bytes.0 end = of_bytes.3 in (
      of_bytes.0,
      end,
      of_bytes.2,
      is ∙ ap (λ x. status_of x) same ∙ status_passed (status_of end) (reply_status end),
      subst IsWritten (ap (λ x. text_of x) same) written,
    )
