-- No reply of `least` is that the document of the first counterexample is too long.
use Rattle.std.proofs.Common.{◌≡◌, ◌≢◌, ℕ, Bool, true, false, List, Option, Some, Ok, refl, sym, ◌∙◌, inl, inr}
use Rattle.fn_rules.specs.Functions.{Function}
use Rattle.fn_text.specs.Reading.{function_in}
use Rattle.ot_least.specs.declared.short.Short.{Short}
use Rattle.ot_least.specs.declared.short.Short.TheVariants as shorts
use Rattle.ot_least.specs.Shortest.{IsShort}
use Rattle.ot_replies.specs.declared.reply.FileKind.TheVariants as files
use Rattle.ot_replies.specs.declared.reply.Reply.{Reply}
use Rattle.ot_replies.specs.declared.reply.Reply.TheVariants.{BoundTooLong, Certified, FunctionRefused, Shortest, Spent}
use Rattle.ot_replies.specs.declared.reply.Reply.TheVariants.{TooLong, Unbroken}
use Rattle.ot_replies.specs.declared.reply.Subject.TheVariants.{First}
use Rattle.ot_words.specs.Commands.{Least}
use Rattle.ot_words.specs.Words.{most_questions}
use Rattle.ot_commands.specs.Least.{TellsShort}
use Rattle.ot_commands.specs.Load.{IsFunctionRefusal}
use Rattle.ot_commands.specs.Replies.{IsReplyTo}

-- a function that is refused gets another reply
refused_otherwise : (told : Option (List ℕ)) (r : Reply) → IsFunctionRefusal First told r → r ≡ BoundTooLong → ⊥
refused_otherwise told r (inl longer) is =
    absurd (let not : TooLong files.Function ≡ BoundTooLong = sym longer.1 ∙ is in cc)
refused_otherwise told r (inr fault) is =
    absurd (let not : FunctionRefused First fault.0 ≡ BoundTooLong = sym fault.2 ∙ is in cc)

module _ (f : Function) (never : (short : Short) → IsShort f most_questions short → short ≡ shorts.TooLong → ⊥) where
  told_otherwise :
      (cert : Bool) (short : Short) (r : Reply) → IsShort f most_questions short
      → TellsShort f cert short r → r ≡ BoundTooLong → ⊥
  told_otherwise cert shorts.Fine r sought tells is = absurd (let not : Unbroken ≡ BoundTooLong = sym tells ∙ is in cc)
  told_otherwise true (shorts.Least ob answers why cells bytes) r sought tells is =
      absurd (let not : Certified bytes.items ≡ BoundTooLong = sym tells ∙ is in cc)
  told_otherwise false (shorts.Least ob answers why cells bytes) r sought tells is =
      absurd (let not : Shortest tells.0 cells ≡ BoundTooLong = sym tells.2 ∙ is in cc)
  told_otherwise cert shorts.TooLong r sought tells is = absurd (never shorts.TooLong sought refl)
  told_otherwise cert shorts.Spent r sought tells is = absurd (let not : Spent ≡ BoundTooLong = sym tells ∙ is in cc)

pub never_too_long :
    ((f : Function) (bytes : List ℕ) (short : Short) → function_in bytes ≡ Ok f → IsShort f most_questions short
    → short ≡ shorts.TooLong → ⊥)
    → (holds : List ℕ → Option (List ℕ)) (cert : Bool) (name bytes : List ℕ) (r : Reply) → holds name ≡ Some bytes
    → IsReplyTo holds (Least cert name) r → r ≢ BoundTooLong
never_too_long never holds cert name bytes r told (inl refused) is =
    absurd (refused_otherwise (holds name) r refused is)
never_too_long never holds cert name bytes r told (inr (f, read, (short, sought, so, within, tells))) is =
    told_otherwise f (λ s h. never f bytes s (read bytes told).1 h) cert short r sought tells is
