-- What was written of functions that are asked whether one takes back what the
-- other makes, and that it is told by their files.
use Rattle.std.proofs.Common.{◌≡◌, ℕ, List, Option, Some, Ok, sym, ap, ◌∙◌, subst, inl, inr}
use Rattle.fn_rules.specs.Functions.{Function}
use Rattle.fn_rules.specs.Obligations.{declared_pairs}
use Rattle.fn_grammar.specs.Grammar.{IsTextOf}
use Rattle.fn_text.specs.Reading.{function_in}
use Rattle.ot_replies.specs.declared.reply.Reply.{Reply}
use Rattle.ot_replies.specs.declared.reply.Reply.TheVariants as replies
use Rattle.ot_replies.specs.declared.reply.Subject.TheVariants.{First, Second}
use Rattle.ot_replies.specs.Texts.{status_of, text_of}
use Rattle.ot_audit.specs.declared.back.Back.{Back}
use Rattle.ot_reverse.specs.Answers.{AreSearched}
use Rattle.ot_words.specs.Commands.{Reverse}
use Rattle.ot_words.specs.Words.{most_questions}
use Rattle.ot_commands.specs.Replies.{IsReplyTo}
use Rattle.ot_commands.specs.Reverse.{IsReplyToReversal, IsReplyToReverser, IsReversed}
use Rattle.ot_top.proofs.OneFile.{function_once}
use Rattle.ot_top.proofs.Proving.{gets, reply_to_asked}
use Rattle.ot_top.proofs.Told.{IsAnswered}

module _ (texts_are_read : (bytes : List ℕ) (f : Function) → IsTextOf bytes f → function_in bytes ≡ Ok f)
    (words : List (List ℕ)) (holds : List ℕ → Option (List ℕ)) (status : ℕ) (IsWritten : List ℕ → Type 0) where
  -- what `reverse` writes, and its status, come by whether the one function takes back the other
  pub reversed : IsAnswered words holds status IsWritten → IsReversed words holds IsWritten status
  reversed (r, reply, steady, is, written) name other bytes contents f e named told other_told small text few also =
      let second : IsReplyToReverser f (holds other) r =
      gets (holds name) bytes f told small (texts_are_read bytes f text) First
      (λ h. IsReplyToReverser h (holds other) r) r (reply_to_asked words holds r (Reverse name other) named reply) in
      let got : IsReplyToReversal f e r =
      gets (holds other) contents e other_told few (texts_are_read contents e also) Second
      (λ h. IsReplyToReversal f h r) r second in
      elim got [
        | inl (unlike, same) ↦
            inl (unlike, is ∙ ap (λ x. status_of x) same, subst IsWritten (ap (λ x. text_of x) same) written)
        | inr (back, alike, answered, same) ↦
            inr (
              back,
              alike,
              answered,
              is ∙ ap (λ x. status_of x) same,
              subst IsWritten (ap (λ x. text_of x) same) written,
            )
      ]

-- what the law of reversals says
abbrev pub OneReversal : Type 0
OneReversal =
    (f e : Function) (budget : ℕ) (one other : Back) → AreSearched f e budget (declared_pairs f.head) one
    → AreSearched f e budget (declared_pairs f.head) other → one ≡ other

reversal_once : OneReversal → (f e : Function) (r s : Reply) → IsReplyToReversal f e r → IsReplyToReversal f e s → r ≡ s
reversal_once once f e r s (inl (unlike, is)) (inl (also, so)) = is ∙ sym so
reversal_once once f e r s (inl (unlike, is)) (inr (back, alike, so, same)) = absurd (unlike alike)
reversal_once once f e r s (inr (back, alike, is, same)) (inl (unlike, so)) = absurd (unlike alike)
reversal_once once f e r s (inr (back, alike, is, same)) (inr (another, also, so, same_too)) =
    same ∙ ap (λ (x : Back). replies.Reversed x) (once f e most_questions back another is.searched so.searched)
    ∙ sym same_too

-- the reply of `reverse` to two told files is one
pub reverse_replied_once :
    OneReversal → (holds : List ℕ → Option (List ℕ)) (name other_name bytes contents : List ℕ) (r s : Reply)
    → holds name ≡ Some bytes
    → holds other_name ≡ Some contents → IsReplyTo holds (Reverse name other_name) r
    → IsReplyTo holds (Reverse name other_name) s → r ≡ s
reverse_replied_once once holds name other_name bytes contents r s told other_told first second =
    function_once (holds name) bytes told First (λ f. IsReplyToReverser f (holds other_name) r)
    (λ f. IsReplyToReverser f (holds other_name) s) r s (r ≡ s) first second (λ same. same)
    (λ f read gets others.
    function_once (holds other_name) contents other_told Second (λ e. IsReplyToReversal f e r) (λ e. IsReplyToReversal f
    e s) r s (r ≡ s) gets others (λ same. same) (λ e read_too one other. reversal_once once f e r s one other))
