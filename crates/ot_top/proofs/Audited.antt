-- What was written of functions that are audited or compared.
use Rattle.std.proofs.Common.{◌≡◌, ℕ, List, Option, Ok, ap, ◌∙◌, subst}
use Rattle.fn_rules.specs.Functions.{Function}
use Rattle.fn_grammar.specs.Grammar.{IsTextOf}
use Rattle.fn_text.specs.Reading.{function_in}
use Rattle.ot_replies.specs.declared.reply.Subject.TheVariants.{First, Second}
use Rattle.ot_replies.specs.Texts.{status_of, text_of}
use Rattle.ot_words.specs.Commands.{Audit, Same}
use Rattle.ot_top.specs.Audited.{IsAudited, IsCompared}
use Rattle.ot_commands.specs.Audit.{IsReplyToAudit}
use Rattle.ot_commands.specs.Same.{IsReplyToSecond, IsReplyToTwo}
use Rattle.ot_top.proofs.Proving.{gets, reply_to_asked}
use Rattle.ot_top.proofs.Told.{IsAnswered}

module _ (texts_are_read : (bytes : List ℕ) (f : Function) → IsTextOf bytes f → function_in bytes ≡ Ok f)
    (words : List (List ℕ)) (holds : List ℕ → Option (List ℕ)) (status : ℕ) (IsWritten : List ℕ → Type 0) where
  pub audited : IsAnswered words holds status IsWritten → IsAudited words holds IsWritten status
  audited (r, reply, steady, is, written) name bytes f named told small text =
      let got : IsReplyToAudit f r =
      gets (holds name) bytes f told small (texts_are_read bytes f text) First (λ h. IsReplyToAudit h r) r
      (reply_to_asked words holds r (Audit name) named reply) in
      (got.0, got.1, is ∙ ap (λ x. status_of x) got.2, subst IsWritten (ap (λ x. text_of x) got.2) written)

  pub compared : IsAnswered words holds status IsWritten → IsCompared words holds IsWritten status
  compared (r, reply, steady, is, written) name other bytes contents f g named told other_told small text few also =
      let second : IsReplyToSecond f (holds other) r =
      gets (holds name) bytes f told small (texts_are_read bytes f text) First (λ h. IsReplyToSecond h (holds other) r)
      r (reply_to_asked words holds r (Same name other) named reply) in
      let got : IsReplyToTwo f g r =
      gets (holds other) contents g other_told few (texts_are_read contents g also) Second
      (λ h. IsReplyToTwo f h r) r second in
      (got.0, got.1, is ∙ ap (λ x. status_of x) got.2, subst IsWritten (ap (λ x. text_of x) got.2) written)
