-- The reply of `template` is the text of a function that has the level, or that none has both properties.
use Rattle.std.proofs.Common.{◌⊎◌, ◌≡◌, ◌≢◌, ℕ, true, false, List, Option, Ok, refl, sym, ap, ◌∙◌, subst, inl, inr}
use Rattle.std.proofs.Common.{arith}
use Rattle.fn_rules.specs.declared.function.Head.{Head}
use Rattle.fn_rules.specs.declared.function.Level.{Level}
use Rattle.fn_rules.specs.declared.function.Level.TheVariants.{Tp1, Tp2}
use Rattle.fn_rules.specs.Functions.{Function}
use Rattle.fn_rules.specs.Orders.{HasOneOutcome}
use Rattle.fn_rules.specs.Properties.{HasTp1, HasTp2}
use Rattle.fn_grammar.specs.Grammar.{IsTextOf}
use Rattle.fn_grammar.specs.Print.{printed}
use Rattle.fn_text.specs.Reading.{function_in}
use Rattle.ot_heads.specs.Heads.{InsertsAndDeletesOnPlain, inserts_and_deletes_on_plain}
use Rattle.ot_heads.specs.Templates.{template_of}
use Rattle.ot_replies.specs.declared.reply.Reply.{Reply}
use Rattle.ot_replies.specs.declared.reply.Reply.TheVariants.{NoTemplate}
use Rattle.ot_replies.specs.Texts.{status_of, text_of}
use Rattle.ot_words.specs.Commands.{Template}
use Rattle.ot_commands.specs.Template.{IsReplyToTemplate, has_none}
use Rattle.ot_commands.specs.Replies.{IsReplyTo}
use Rattle.ot_top.specs.Shown.{HasLevel}
use Rattle.ot_top.specs.Templated.{HasNone, IsTemplated}
use Rattle.ot_top.proofs.Proving.{reply_to_asked}
use Rattle.ot_top.proofs.Told.{IsAnswered}

module _ (tests : (head : Head) → (inserts_and_deletes_on_plain head ≡ true → InsertsAndDeletesOnPlain head))
    (passes : (head : Head) → InsertsAndDeletesOnPlain head → inserts_and_deletes_on_plain head ≡ true)
    (none : (head : Head) → InsertsAndDeletesOnPlain head → HasNone head)
    (tp1 : (head : Head) → HasTp1 (template_of head))
    (tp2 : (head : Head) → ¬ InsertsAndDeletesOnPlain head → HasTp2 (template_of head))
    (one_outcome : (f : Function) → HasTp1 f → HasTp2 f → HasOneOutcome f)
    (is_text : (bytes : List ℕ) (f : Function) → function_in bytes ≡ Ok f → IsTextOf bytes f) where
  -- where no test says that there is none, the template has the level
  pub template_has_level :
      (level : Level) (head : Head) → has_none level head ≡ false → HasLevel (template_of head) level
  template_has_level Tp1 head other = tp1 head
  template_has_level Tp2 head other =
      let second : HasTp2 (template_of head) = tp2 head (λ is. let test = passes head is in cc) in
      (tp1 head, second, one_outcome (template_of head) (tp1 head) second)

  -- where one does, both were asked for, and no transformation has both
  has_none_of : (level : Level) (head : Head) → has_none level head ≡ true → (level ≡ Tp2) × HasNone head
  has_none_of Tp1 head test = absurd (cc)
  has_none_of Tp2 head test = (refl, none head (tests head test))

  -- what the reply shows
  pub templated :
      (words : List (List ℕ)) (holds : List ℕ → Option (List ℕ)) (status : ℕ) (IsWritten : List ℕ → Type 0)
      → IsAnswered words holds status IsWritten → IsTemplated words IsWritten status
  templated words holds status IsWritten (r, reply, steady, is, written) level head named =
      go (reply_to_asked words holds r (Template level head) named reply)
    where
      go : IsReplyToTemplate level head r
          → ((status ≡ 0) × ((f : Function) × (bytes : List ℕ) × (f.head ≡ head) × HasLevel f level
          × IsTextOf bytes f × IsWritten bytes))
          ⊎ ((status ≡ 1) × (level ≡ Tp2) × HasNone head × IsWritten (text_of NoTemplate))
      go (inl has) =
          let both = has_none_of level head has.0 in
          inr (is ∙ ap (λ x. status_of x) has.1, both.0, both.1, subst IsWritten (ap (λ x. text_of x) has.1) written)
      go (inr has) =
          let f : Function = template_of head in
          inl (
            is ∙ ap (λ x. status_of x) has.2,
            (
              f,
              printed f,
              refl,
              template_has_level level head has.0,
              is_text (printed f) f has.1,
              subst IsWritten (ap (λ x. text_of x) has.2) written,
            ),
          )

-- the reply is one
pub template_replied_once :
    (holds : List ℕ → Option (List ℕ)) (level : Level) (head : Head) (r s : Reply)
    → IsReplyTo holds (Template level head) r
    → IsReplyTo holds (Template level head) s → r ≡ s
template_replied_once holds level head r s (inl h) (inl g) = h.1 ∙ sym g.1
template_replied_once holds level head r s (inr h) (inr g) = h.2 ∙ sym g.2
template_replied_once holds level head r s (inl h) (inr g) = absurd (let yes = h.0 in let no = g.0 in cc)
template_replied_once holds level head r s (inr h) (inl g) = absurd (let no = h.0 in let yes = g.0 in cc)

-- its status is not 3
pub template_other : (level : Level) (head : Head) (r : Reply) → IsReplyToTemplate level head r → status_of r ≢ 3
template_other level head r (inl h) three = let one : 3 ≡ 1 = sym three
    ∙ ap (λ x. status_of x) h.1 in omega (arith, one)
template_other level head r (inr h) three = let zero : 3 ≡ 0 = sym three
    ∙ ap (λ x. status_of x) h.2 in omega (arith, zero)
