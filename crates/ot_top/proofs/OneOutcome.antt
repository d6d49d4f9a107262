-- The replies to a case, to a session and to a hub are told by the function and the file.
use Rattle.std.proofs.Common.{◌≡◌, ℕ, ◌↔◌, Bool, true, false, List, [], ◌∷◌, map, Option, Some, Result, Ok, Err, IsTrue}
use Rattle.std.proofs.Common.{refl, sym, ap, ◌∙◌}
use Rattle.fn_rules.specs.Functions.{Function}
use Rattle.fn_rules.specs.Orders.{Outcome}
use Rattle.case_json.specs.declared.fault.CaseFault.{CaseFault}
use Rattle.case_json.specs.declared.trial.Trial.{Trial}
use Rattle.case_json.specs.Cases.{trial_in}
use Rattle.ot_integrate.specs.declared.end.End.{End}
use Rattle.ot_integrate.specs.declared.end.End.TheVariants as ends
use Rattle.ot_integrate.specs.Ends.{outcome_of}
use Rattle.ot_replies.specs.declared.reply.FileKind.TheVariants as files
use Rattle.ot_replies.specs.declared.reply.Reply.{Reply}
use Rattle.ot_replies.specs.declared.reply.Subject.TheVariants.{First}
use Rattle.ot_replies.specs.declared.reply.Reply.TheVariants.{Integrated}
use Rattle.ot_words.specs.Commands.{Integrate}
use Rattle.ot_commands.specs.Integrate.{HaveOneEnd, IsReplyToCase, IsReplyToTrial, TellsOutcomes, outcomes_of}
use Rattle.ot_commands.specs.Load.{IsReplyToFile, IsReplyToFunction}
use Rattle.ot_commands.specs.Replies.{IsReplyTo}
use Rattle.ot_top.proofs.OneFile.{file_once, function_once}

-- ends with one outcome are one
outcome_of_one : (a b : End) → outcome_of a ≡ outcome_of b → a ≡ b
outcome_of_one (ends.Doc d) (ends.Doc e) same = cc
outcome_of_one (ends.Doc d) (ends.Stuck p) same = absurd (cc)
outcome_of_one (ends.Stuck p) (ends.Doc d) same = absurd (cc)
outcome_of_one (ends.Stuck p) (ends.Stuck q) same = cc

-- so are lists of ends with one list of outcomes
outcomes_of_one : (a b : List End) → map outcome_of a ≡ map outcome_of b → a ≡ b
outcomes_of_one [] [] same = refl
outcomes_of_one [] (y ∷ ys) same = absurd (cc)
outcomes_of_one (x ∷ xs) [] same = absurd (cc)
outcomes_of_one (x ∷ xs) (y ∷ ys) same =
    let heads : outcome_of x ≡ outcome_of y = cc in
    let tails : map outcome_of xs ≡ map outcome_of ys = cc in
    let head : x ≡ y = outcome_of_one x y heads in
    let tail : xs ≡ ys = outcomes_of_one xs ys tails in
    ap (λ (e : End). e ∷ xs) head ∙ ap (λ (l : List End). y ∷ l) tail

-- Booleans that are true together are one
same_truth : (a b : Bool) → (IsTrue a → IsTrue b) → (IsTrue b → IsTrue a) → a ≡ b
same_truth true true there back = refl
same_truth true false there back = absurd (let never : false ≡ true = there refl in cc)
same_truth false true there back = absurd (let never : false ≡ true = back refl in cc)
same_truth false false there back = refl

-- the reply that tells outcomes has ends with these outcomes, and says whether they are one
integrated_reply : (outcomes : List Outcome) (r : Reply) → TellsOutcomes outcomes r
    → (ends : List End) × (same : Bool) × (r ≡ Integrated ends same) × (map outcome_of ends ≡ outcomes)
    × (IsTrue same ↔ HaveOneEnd outcomes)
integrated_reply outcomes (Integrated ends same) tells = (ends, same, refl, tells.0, tells.1)
integrated_reply outcomes r tells = absurd tells

-- it is one
outcomes_told_once : (outcomes : List Outcome) (r s : Reply) → TellsOutcomes outcomes r
    → TellsOutcomes outcomes s → r ≡ s
outcomes_told_once outcomes r s first second =
    let one = integrated_reply outcomes r first in
    let other = integrated_reply outcomes s second in
    let ends : one.0 ≡ other.0 = outcomes_of_one one.0 other.0 (one.3 ∙ sym other.3) in
    let same : one.1 ≡ other.1 = same_truth one.1 other.1 (λ t. other.4.1 (one.4.0 t)) (λ t. one.4.1 (other.4.0 t)) in
    one.2 ∙ ap (λ (l : List End). Integrated l one.1) ends ∙ ap (λ (b : Bool). Integrated other.0 b) same ∙ sym other.2

-- the reply to what a case is read as is one
trial_replied_once : (f : Function) (read : Result Trial CaseFault) (r s : Reply) → IsReplyToTrial f read r
    → IsReplyToTrial f read s → r ≡ s
trial_replied_once f (Err fault) r s first second = first ∙ sym second
trial_replied_once f (Ok t) r s first second = outcomes_told_once (outcomes_of f t) r s first second

-- the reply to a case is one
case_replied_once : (f : Function) (bytes : List ℕ) (r s : Reply) → IsReplyToCase f bytes r
    → IsReplyToCase f bytes s → r ≡ s
unfolding IsReplyToCase
case_replied_once f bytes r s first second = trial_replied_once f (trial_in f bytes) r s first second

module _ (holds : List ℕ → Option (List ℕ)) (name other_name bytes contents : List ℕ) (r s : Reply)
    (told : holds name ≡ Some bytes)
    (other_told : holds other_name ≡ Some contents) where
  -- the reply to a function's file and then to another one is one, where each function gets one reply to given bytes
  pub file_replied_once :
      (Replies : Function → List ℕ → Reply → Type 0)
      → ((f : Function) (b : List ℕ) (one other : Reply) → Replies f b one → Replies f b other → one ≡ other)
      → IsReplyToFunction First (holds name) (λ f. IsReplyToFile files.Case (holds other_name) (λ b. Replies f b r) r) r
      → IsReplyToFunction First (holds name) (λ f. IsReplyToFile files.Case (holds other_name) (λ b. Replies f b s) s) s
      → r ≡ s
  file_replied_once Replies one_reply first second =
      function_once (holds name) bytes told First
      (λ f. IsReplyToFile files.Case (holds other_name) (λ b. Replies f b r) r)
      (λ f. IsReplyToFile files.Case (holds other_name) (λ b. Replies f b s) s) r s (r ≡ s) first second (λ same. same)
      (λ f read gets others.
      file_once (holds other_name) contents other_told files.Case (λ b. Replies f b r) (λ b. Replies f b s) r s (r ≡ s)
      gets others (λ same. same) (one_reply f contents r s))

  -- the reply of `integrate` to told files is one
  pub integrate_replied_once : IsReplyTo holds (Integrate name other_name) r
      → IsReplyTo holds (Integrate name other_name) s → r ≡ s
  integrate_replied_once first second = file_replied_once IsReplyToCase case_replied_once first second
