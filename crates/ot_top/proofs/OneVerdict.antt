-- The reply of `prove` is told by its function, but for the certificate.
use Rattle.std.proofs.Common.{◌≡◌, ◌≢◌, ℕ, ℤ, pos, ◌≤ℤ◌, ◌<◌, List, length, Option, Some, None, sym, ap, ◌∙◌, subst}
use Rattle.std.proofs.Common.{arith}
use Rattle.std.proofs.lemmas.Int.{ints}
use Rattle.std.proofs.lemmas.List.{ext_get_or}
use Rattle.diff_graph.specs.declared.lit.Lit.{Lit}
use Rattle.diff_tables.specs.Solutions.{AreLeast, valuation_of}
use Rattle.fn_rules.specs.declared.function.Level.{Level}
use Rattle.fn_rules.specs.declared.function.ObName.{ObName}
use Rattle.fn_rules.specs.Functions.{Function}
use Rattle.fn_rules.specs.Obligations.{obligations_of}
use Rattle.ot_prove.specs.Outcomes.{answered_by}
use Rattle.ot_questions.specs.declared.why.Why.{Why}
use Rattle.ot_questions.specs.Obligation.{plan_of}
use Rattle.ot_decide.specs.declared.verdict.Verdict.{Verdict}
use Rattle.ot_decide.specs.declared.verdict.Verdict.TheVariants as verdicts
use Rattle.ot_decide.specs.Verdicts.{AreAsked, FailingOb, IsVerdict, ObQuestions, failing_in}
use Rattle.ot_counter.specs.declared.counter.Counter.{Counter}
use Rattle.ot_counter.specs.Counters.{IsCounter, IsReadOff}
use Rattle.ot_values.specs.Values.{floors_of}
use Rattle.ot_replies.specs.declared.reply.Reply.{Reply}
use Rattle.ot_replies.specs.declared.reply.Subject.TheVariants.{First}
use Rattle.ot_replies.specs.declared.reply.Reply.TheVariants.{Broken}
use Rattle.ot_words.specs.Commands.{Prove}
use Rattle.ot_commands.specs.Prove.{IsReplyToProof, TellsVerdict}
use Rattle.ot_commands.specs.Replies.{IsReplyTo}
use Rattle.ot_replies.specs.Texts.{status_of}
use Rattle.ot_top.proofs.OneFile.{function_once}

-- integers that are no higher than each other are one
no_higher : (a b : ℤ) → a ≤ℤ b → b ≤ℤ a → a ≡ b
no_higher a b low high = omega (arith, ints)

-- the least values are one
pub least_once : (w : List Lit) (floors values others : List ℤ) → AreLeast w floors values
    → AreLeast w floors others → values ≡ others
least_once w floors values others one other =
    ext_get_or (pos 0) values others (one.len ∙ sym other.len)
    (λ x few.
    let is : length values ≡ length floors = one.len in
    let named : x < length floors = omega (arith, few, is) in
    no_higher (valuation_of values x) (valuation_of others x)
    (one.least (valuation_of others) other.zero_first other.met other.above x named)
    (other.least (valuation_of values) one.zero_first one.met one.above x named))

-- counterexamples with the same parts are one
parts_once :
    (a b : Counter) → a.level ≡ b.level → a.doc ≡ b.doc → a.ops ≡ b.ops → a.why ≡ b.why → a.left ≡ b.left
    → a.right ≡ b.right → a ≡ b
parts_once a b level doc ops why left right = λ i. record {
  level = level i;
  doc = doc i;
  ops = ops i;
  why = why i;
  left = left i;
  right = right i;
}

-- what is read off values is one
read_off_once :
    (f : Function) (ob : ObName) (v : ℕ → ℤ) (why : Why) (a b : Counter) → IsReadOff f ob v why a
    → IsReadOff f ob v why b → a ≡ b
read_off_once f ob v why a b one other =
    parts_once a b (one.level ∙ sym other.level) (one.doc ∙ sym other.doc) (one.ops ∙ sym other.ops) (one.cause
    ∙ sym other.cause) (one.left ∙ sym other.left) (one.right ∙ sym other.right)

-- the counterexample that answers give is one
counter_once : (f : Function) (ob : ObName) (w : List Lit) (why : Why) (a b : Counter) → IsCounter f ob w why a
    → IsCounter f ob w why b → a ≡ b
counter_once f ob w why a b one other =
    let same : other.values ≡ one.values = least_once w (floors_of ob) other.values one.values other.least one.least in
    read_off_once f ob (valuation_of one.values) why a b one.read
    (subst (λ (values : List ℤ). IsReadOff f ob (valuation_of values) why b) same other.read)

-- the counterexamples of one failing end are one
pub end_countered_once :
    (f : Function) (x y : FailingOb Why) (a b : Counter) → x ≡ y → IsCounter f x.ob x.end.answers x.end.why a
    → IsCounter f y.ob y.end.answers y.end.why b → a ≡ b
end_countered_once f x y a b same one other =
    counter_once f x.ob x.end.answers x.end.why a b one
    (subst (λ (z : FailingOb Why). IsCounter f z.ob z.end.answers z.end.why b) (sym same) other)

-- one of the replies is a certificate and so is the other, or they are one
abbrev AreAlike : Reply → Reply → Type 0
AreAlike r s = (status_of r ≡ status_of s) × (status_of r ≢ 0 → r ≡ s)

-- replies that are one are alike
alike : (r s : Reply) → r ≡ s → AreAlike r s
alike r s same = (ap (λ x. status_of x) same, λ other. same)

-- what tells the verdict of the same questions is one, but for the certificate
verdict_told_once :
    (f : Function) (level : Level) (budget : ℕ) (lists : List (ObQuestions Why)) (one other : Verdict) (r s : Reply)
    → IsVerdict f level budget lists one → IsVerdict f level budget lists other → TellsVerdict f one r
    → TellsVerdict f other s → AreAlike r s
verdict_told_once f level budget lists (verdicts.Yes bytes asked) (verdicts.Yes others again) r s is so tells says =
    let first : status_of r ≡ 0 = ap (λ x. status_of x) tells in
    let second : status_of s ≡ 0 = ap (λ x. status_of x) says in
    (first ∙ sym second, λ other. absurd (other first))
verdict_told_once f level budget lists (verdicts.Yes bytes asked) (verdicts.No ob answers why) r s is so tells says =
    absurd (let none : failing_in lists ≡ None = is.1 in let some = so.1.first in cc)
verdict_told_once f level budget lists (verdicts.Yes bytes asked) verdicts.Spent r s is so tells says =
    absurd (let few = is.0 in omega (arith, few, so))
verdict_told_once f level budget lists (verdicts.No ob answers why) (verdicts.Yes bytes asked) r s is so tells says =
    absurd (let none : failing_in lists ≡ None = so.1 in let some = is.1.first in cc)
verdict_told_once f level budget lists (verdicts.No ob answers why)
    (verdicts.No name others cause) r s is so tells says =
    let x : FailingOb Why = record { ob = ob; end = record { answers = answered_by answers.items; why = why } } in
    let y : FailingOb Why = record { ob = name; end = record { answers = answered_by others.items; why = cause } } in
    let first : failing_in lists ≡ Some x = is.1.first in
    let second : failing_in lists ≡ Some y = so.1.first in
    let same : x ≡ y = same_end lists x y first second in
    let counters : tells.0 ≡ says.0 = end_countered_once f x y tells.0 says.0 same tells.1 says.1 in
    alike r s (tells.2 ∙ ap (λ (c : Counter). Broken c) counters ∙ sym says.2)
  where
    same_end : (lists : List (ObQuestions Why)) (x y : FailingOb Why) → failing_in lists ≡ Some x
        → failing_in lists ≡ Some y → x ≡ y
    same_end lists x y first second = cc
verdict_told_once f level budget lists (verdicts.No ob answers why) verdicts.Spent r s is so tells says =
    absurd (let few = is.0 in omega (arith, few, so))
verdict_told_once f level budget lists verdicts.Spent (verdicts.Yes bytes asked) r s is so tells says =
    absurd (let few = so.0 in omega (arith, few, is))
verdict_told_once f level budget lists verdicts.Spent (verdicts.No ob answers why) r s is so tells says =
    absurd (let few = so.0 in omega (arith, few, is))
verdict_told_once f level budget lists verdicts.Spent verdicts.Spent r s is so tells says = alike r s (tells ∙ sym says)

module _ (one_list :
    (f : Function) (obs : List ObName) (lists others : List (ObQuestions Why)) → AreAsked (plan_of f) obs lists
    → AreAsked (plan_of f) obs others → lists ≡ others) where
  -- two replies to a function that is to be proved are alike
  proof_replied_once :
      (f : Function) (level : Level) (budget : ℕ) (r s : Reply) → IsReplyToProof f level budget r
      → IsReplyToProof f level budget s → AreAlike r s
  proof_replied_once f level budget r s (one, (lists, asked, is), _, tells) (other, (others, asked_too, so), _, says) =
      let same : others ≡ lists = one_list f (obligations_of f.head level) others lists asked_too asked in
      verdict_told_once f level budget lists one other r s is
      (subst (λ (l : List (ObQuestions Why)). IsVerdict f level budget l other) same so) tells says

  -- so are two replies of `prove` to a told file
  pub prove_replied_once :
      (holds : List ℕ → Option (List ℕ)) (level : Level) (budget : ℕ) (name bytes : List ℕ) (r s : Reply)
      → holds name ≡ Some bytes
      → IsReplyTo holds (Prove level budget name) r → IsReplyTo holds (Prove level budget name) s
      → (status_of r ≡ status_of s) × (status_of r ≢ 0 → r ≡ s)
  prove_replied_once holds level budget name bytes r s told first second =
      function_once (holds name) bytes told First (λ f. IsReplyToProof f level budget r)
      (λ f. IsReplyToProof f level budget s) r s (AreAlike r s)
      first second (alike r s) (λ f read gets others. proof_replied_once f level budget r s gets others)
