-- Two replies to a told file are one, or both come of what the file holds.
use Rattle.std.proofs.Common.{◌≡◌, ℕ, List, length, Option, Some, Ok, Err, sym, ap, ◌∙◌, subst, inl, inr, arith}
use Rattle.fn_rules.specs.Functions.{Function}
use Rattle.fn_tokens.specs.declared.fault.TextFault.{TextFault}
use Rattle.fn_text.specs.Reading.{function_in}
use Rattle.ot_replies.specs.declared.reply.FileKind.{FileKind}
use Rattle.ot_replies.specs.declared.reply.Reply.{Reply}
use Rattle.ot_replies.specs.declared.reply.Reply.TheVariants.{FunctionRefused}
use Rattle.ot_replies.specs.declared.reply.Subject.{Subject}
use Rattle.ot_commands.specs.Load.{IsReplyToFile, IsReplyToFunction}

module _ (told : Option (List ℕ)) (bytes : List ℕ) (is_told : told ≡ Some bytes) where
  -- two replies to a function's file are one refusal, or both come of the one function that it holds
  pub function_once :
      (subject : Subject) (Gets Others : Function → Type 0) (r s : Reply) (P : Type 0)
      → IsReplyToFunction subject told Gets r
      → IsReplyToFunction subject told Others s
      → (r ≡ s → P) → ((f : Function) → function_in bytes ≡ Ok f → Gets f → Others f → P) → P
  function_once subject Gets Others r s P (inl (inl (longer, is))) (inl (inl (_, same))) one both = one (is ∙ sym same)
  function_once subject Gets Others r s P (inl (inl (longer, is))) (inl (inr (fault, read, same))) one both =
      absurd (let more = longer bytes is_told in let few = (read bytes is_told).0 in omega (arith, more, few))
  function_once subject Gets Others r s P (inl (inl (longer, is))) (inr (f, read, gets)) one both =
      absurd (let more = longer bytes is_told in let few = (read bytes is_told).0 in omega (arith, more, few))
  function_once subject Gets Others r s P (inl (inr (fault, read, is))) (inl (inl (longer, same))) one both =
      absurd (let more = longer bytes is_told in let few = (read bytes is_told).0 in omega (arith, more, few))
  function_once subject Gets Others r s P (inr (f, read, gets)) (inl (inl (longer, same))) one both =
      absurd (let more = longer bytes is_told in let few = (read bytes is_told).0 in omega (arith, more, few))
  function_once subject Gets Others r s P (inl (inr (fault, read, is))) (inl (inr (other, again, same))) one both =
      let first : function_in bytes ≡ Err fault = (read bytes is_told).1 in
      let second : function_in bytes ≡ Err other = (again bytes is_told).1 in
      let faults : fault ≡ other = cc in
      one (is ∙ ap (λ (e : TextFault). FunctionRefused subject e) faults ∙ sym same)
  function_once subject Gets Others r s P (inl (inr (fault, read, is))) (inr (f, again, gets)) one both =
      absurd (let first : function_in bytes ≡ Err fault = (read bytes is_told).1 in
      let second : function_in bytes ≡ Ok f = (again bytes is_told).1 in cc)
  function_once subject Gets Others r s P (inr (f, read, gets)) (inl (inr (fault, again, same))) one both =
      absurd (let first : function_in bytes ≡ Ok f = (read bytes is_told).1 in
      let second : function_in bytes ≡ Err fault = (again bytes is_told).1 in cc)
  function_once subject Gets Others r s P (inr (f, read, gets)) (inr (g, again, others)) one both =
      let first : function_in bytes ≡ Ok f = (read bytes is_told).1 in
      let second : function_in bytes ≡ Ok g = (again bytes is_told).1 in
      let same : g ≡ f = cc in
      both f first gets (subst Others same others)

  -- two replies to another file both say that it is too long, or both come of its bytes
  pub file_once :
      (kind : FileKind) (Gets Others : List ℕ → Type 0) (r s : Reply) (P : Type 0) → IsReplyToFile kind told Gets r
      → IsReplyToFile kind told Others s → (r ≡ s → P) → (Gets bytes → Others bytes → P) → P
  file_once kind Gets Others r s P (inl (longer, is)) (inl (_, same)) one both = one (is ∙ sym same)
  file_once kind Gets Others r s P (inl (longer, is)) (inr (held, (few, holds), gets)) one both =
      absurd (let more = longer bytes is_told in let length_is = ap (λ (l : List ℕ). length l) (holds bytes is_told) in
      omega (arith, more, few, length_is))
  file_once kind Gets Others r s P (inr (held, (few, holds), gets)) (inl (longer, same)) one both =
      absurd (let more = longer bytes is_told in let length_is = ap (λ (l : List ℕ). length l) (holds bytes is_told) in
      omega (arith, more, few, length_is))
  file_once kind Gets Others r s P (inr (held, (few, holds), gets)) (inr (other, (_, also), others)) one both =
      both (subst Gets (holds bytes is_told) gets) (subst Others (also bytes is_told) others)
