-- The reply of `least` is told by its function, but for the certificate.
use Rattle.std.proofs.Common.{◌≡◌, ◌≢◌, ℕ, true, false, List, Option, Some, sym, ap, ◌∙◌}
use Rattle.fn_rules.specs.Functions.{Function}
use Rattle.ot_counter.specs.declared.counter.Counter.{Counter}
use Rattle.ot_least.specs.declared.short.Short.{Short}
use Rattle.ot_least.specs.declared.short.Short.TheVariants as shorts
use Rattle.ot_least.specs.Shortest.{AreAlikeAnswers, IsShort, end_by}
use Rattle.ot_replies.specs.declared.reply.Reply.{Reply}
use Rattle.ot_replies.specs.declared.reply.Reply.TheVariants.{Shortest}
use Rattle.ot_replies.specs.declared.reply.Subject.TheVariants.{First}
use Rattle.ot_replies.specs.Texts.{status_of}
use Rattle.ot_words.specs.Commands.{Least}
use Rattle.ot_words.specs.Words.{most_questions}
use Rattle.ot_commands.specs.Least.{IsReplyToLeast, TellsShort}
use Rattle.ot_commands.specs.Replies.{IsReplyTo}
use Rattle.ot_top.proofs.OneFile.{function_once}
use Rattle.ot_top.proofs.OneVerdict.{end_countered_once}

-- what tells of the counterexamples of searches that come to one end is one
short_told_once :
    (f : Function) (one other : Short) (r s : Reply) → AreAlikeAnswers one other → TellsShort f false one r
    → TellsShort f false other s → r ≡ s
short_told_once f shorts.Fine shorts.Fine r s alike tells says = tells ∙ sym says
short_told_once f shorts.TooLong shorts.TooLong r s alike tells says = tells ∙ sym says
short_told_once f shorts.Spent shorts.Spent r s alike tells says = tells ∙ sym says
short_told_once f (shorts.Least ob answers why cells cert)
    (shorts.Least name others cause count low) r s alike tells says =
    let counters : tells.0 ≡ says.0 =
    end_countered_once f (end_by ob answers.items why) (end_by name others.items cause) tells.0 says.0
    alike.0 tells.1 says.1 in
    tells.2 ∙ ap (λ (c : Counter). Shortest c cells) counters ∙ ap (λ (n : ℕ). Shortest says.0 n) alike.1 ∙ sym says.2
short_told_once f shorts.Fine (shorts.Least ob answers why cells cert) r s alike tells says = absurd (cc)
short_told_once f shorts.Fine shorts.TooLong r s alike tells says = absurd (cc)
short_told_once f shorts.Fine shorts.Spent r s alike tells says = absurd (cc)
short_told_once f shorts.TooLong shorts.Fine r s alike tells says = absurd (cc)
short_told_once f shorts.TooLong (shorts.Least ob answers why cells cert) r s alike tells says = absurd (cc)
short_told_once f shorts.TooLong shorts.Spent r s alike tells says = absurd (cc)
short_told_once f shorts.Spent shorts.Fine r s alike tells says = absurd (cc)
short_told_once f shorts.Spent (shorts.Least ob answers why cells cert) r s alike tells says = absurd (cc)
short_told_once f shorts.Spent shorts.TooLong r s alike tells says = absurd (cc)
short_told_once f (shorts.Least ob answers why cells cert) shorts.Fine r s alike tells says = absurd (cc)
short_told_once f (shorts.Least ob answers why cells cert) shorts.TooLong r s alike tells says = absurd (cc)
short_told_once f (shorts.Least ob answers why cells cert) shorts.Spent r s alike tells says = absurd (cc)

-- two replies are certificates, or are one
abbrev pub AreCertifiedOrOne : Reply → Reply → Type 0
AreCertifiedOrOne r s = (status_of r ≡ status_of s) × (status_of r ≢ 1 → r ≡ s)

one_reply : (r s : Reply) → r ≡ s → AreCertifiedOrOne r s
one_reply r s same = (ap (λ x. status_of x) same, λ other. same)

-- and of certificates their statuses are one
certified_told_once :
    (f : Function) (one other : Short) (r s : Reply) → AreAlikeAnswers one other → TellsShort f true one r
    → TellsShort f true other s
    → AreCertifiedOrOne r s
certified_told_once f shorts.Fine shorts.Fine r s alike tells says = one_reply r s (tells ∙ sym says)
certified_told_once f shorts.TooLong shorts.TooLong r s alike tells says = one_reply r s (tells ∙ sym says)
certified_told_once f shorts.Spent shorts.Spent r s alike tells says = one_reply r s (tells ∙ sym says)
certified_told_once f (shorts.Least ob answers why cells cert)
    (shorts.Least name others cause count low) r s alike tells says =
    let first : status_of r ≡ 1 = ap (λ x. status_of x) tells in
    let second : status_of s ≡ 1 = ap (λ x. status_of x) says in
    (first ∙ sym second, λ other. absurd (other first))
certified_told_once f shorts.Fine (shorts.Least ob answers why cells cert) r s alike tells says = absurd (cc)
certified_told_once f shorts.Fine shorts.TooLong r s alike tells says = absurd (cc)
certified_told_once f shorts.Fine shorts.Spent r s alike tells says = absurd (cc)
certified_told_once f shorts.TooLong shorts.Fine r s alike tells says = absurd (cc)
certified_told_once f shorts.TooLong (shorts.Least ob answers why cells cert) r s alike tells says = absurd (cc)
certified_told_once f shorts.TooLong shorts.Spent r s alike tells says = absurd (cc)
certified_told_once f shorts.Spent shorts.Fine r s alike tells says = absurd (cc)
certified_told_once f shorts.Spent (shorts.Least ob answers why cells cert) r s alike tells says = absurd (cc)
certified_told_once f shorts.Spent shorts.TooLong r s alike tells says = absurd (cc)
certified_told_once f (shorts.Least ob answers why cells cert) shorts.Fine r s alike tells says = absurd (cc)
certified_told_once f (shorts.Least ob answers why cells cert) shorts.TooLong r s alike tells says = absurd (cc)
certified_told_once f (shorts.Least ob answers why cells cert) shorts.Spent r s alike tells says = absurd (cc)

module _ (one_search : (f : Function) (budget : ℕ) (one other : Short) → IsShort f budget one → IsShort f budget other
    → AreAlikeAnswers one other)
    (holds : List ℕ → Option (List ℕ)) (name bytes : List ℕ) (r s : Reply) (told : holds name ≡ Some bytes) where
  -- the reply of `least` to a told file is one
  pub least_replied_once : IsReplyTo holds (Least false name) r → IsReplyTo holds (Least false name) s → r ≡ s
  least_replied_once first second =
      function_once (holds name) bytes told First (λ f. IsReplyToLeast f false r)
      (λ f. IsReplyToLeast f false s) r s (r ≡ s) first second
      (λ same. same)
      (λ f read one other. short_told_once f one.0 other.0 r s
      (one_search f most_questions one.0 other.0 one.1 other.1) one.4 other.4)

  -- and that of `least --cert`, but for the certificate
  pub certified_replied_once :
      IsReplyTo holds (Least true name) r → IsReplyTo holds (Least true name) s → AreCertifiedOrOne r s
  certified_replied_once first second =
      function_once (holds name) bytes told First (λ f. IsReplyToLeast f true r) (λ f. IsReplyToLeast f true s) r s
      (AreCertifiedOrOne r s) first second (one_reply r s)
      (λ f read one other. certified_told_once f one.0 other.0 r s
      (one_search f most_questions one.0 other.0 one.1 other.1) one.4 other.4)
