-- What was written of functions whose shortest document is sought, and of certificates that none is shorter.
use Rattle.std.proofs.Common.{◌≡◌, ◌≢◌, ◌≤◌, ◌<◌, ℕ, ℤ, pos, Bool, true, false, List, length, Option, Ok, IsTrue, refl}
use Rattle.std.proofs.Common.{sym, ap, ◌∙◌, subst}
use Rattle.std.specs.Prelude.{Result}
use Rattle.diff_graph.specs.declared.lit.Lit.{Lit}
use Rattle.diff_tables.specs.Solutions.{AreLeast, valuation_of}
use Rattle.ot_model.specs.declared.cell.Cell.{Cell}
use Rattle.fn_rules.specs.declared.function.Level.{Level}
use Rattle.fn_rules.specs.declared.function.Level.TheVariants.{Tp2}
use Rattle.fn_rules.specs.declared.function.ObName.{ObName}
use Rattle.fn_rules.specs.declared.function.ObName.TheVariants.{Pair, Triple}
use Rattle.fn_rules.specs.Functions.{Function}
use Rattle.fn_rules.specs.Obligations.{level_of, is_obligation}
use Rattle.fn_rules.specs.Validity.{is_valid}
use Rattle.fn_grammar.specs.Grammar.{IsTextOf}
use Rattle.fn_text.specs.Reading.{function_in}
use Rattle.ask_core.specs.Leading.{LeadTo}
use Rattle.ot_prove.specs.Outcomes.{answered_by}
use Rattle.ot_prove.specs.declared.outcome.Answer.{Answer}
use Rattle.ot_questions.specs.declared.why.Why.{Why}
use Rattle.ot_questions.specs.Names.{length_name}
use Rattle.ot_questions.specs.Obligation.{plan_of}
use Rattle.refusals.specs.declared.refusal.JudgeError.{JudgeError}
use Rattle.ot_values.specs.Values.{floors_of, ops_at}
use Rattle.ot_counter.specs.declared.counter.Counter.{Counter}
use Rattle.ot_counter.specs.Counters.{Breaks, BreaksBy, IsCounter}
use Rattle.ot_counter.specs.Documents.{document_at}
use Rattle.ot_least.specs.declared.short.Short.{Short}
use Rattle.ot_least.specs.declared.short.Short.TheVariants as shorts
use Rattle.ot_bound.specs.Judgements.{IsLowJudgement}
use Rattle.ot_bound.specs.Lows.{HasAt, IsLow}
use Rattle.ot_least.specs.Shortest.{HasCells, IsBroken, IsLeast, IsShort, IsShortWithin, IsTrueOf}
use Rattle.ot_least.proofs.Instances.{document_count}
use Rattle.ot_replies.specs.declared.reply.FileKind.TheVariants as files
use Rattle.ot_replies.specs.declared.reply.Reply.{Reply}
use Rattle.ot_replies.specs.declared.reply.Reply.TheVariants as replies
use Rattle.ot_replies.specs.declared.reply.Subject.TheVariants.{First}
use Rattle.ot_replies.specs.Limits.{limit_of}
use Rattle.ot_replies.specs.Texts.{status_of, text_of}
use Rattle.ot_words.specs.Commands.{Bound, Least}
use Rattle.ot_words.specs.Words.{most_questions}
use Rattle.ot_top.specs.Bounded.{IsBoundJudgedAs, IsBounded, IsBoundedAt, IsCertifiedWritten, IsShortestWritten}
use Rattle.ot_top.specs.Bounded.{IsSought, ShowsLeast, ShowsShort}
use Rattle.ot_commands.specs.Bound.{IsReplyToBound, at_least}
use Rattle.ot_commands.specs.Least.{IsReplyToLeast, ReplyTellsLeast, TellsShort}
use Rattle.ot_commands.specs.Replies.{IsReply, IsReplyTo}
use Rattle.ot_top.specs.Shown.{HasBefore, IsAskedAt}
use Rattle.ot_top.proofs.OneVerdict.{least_once}
use Rattle.ot_top.proofs.Breaking.{counter_breaks}
use Rattle.ot_top.proofs.Proving.{accepted_file, gets, reply_to_asked}
use Rattle.ot_top.proofs.Showing.{accepted}
use Rattle.ot_top.proofs.Told.{IsAnswered, file_judged}
use Rattle.ot_prove.proofs.Leads.{literals_lead}

-- the document of a counterexample has as many cells as the least values of its answers give
counter_count :
    (f : Function) (ob : ObName) (w : List Lit) (why : Why) (counter : Counter) (cells : ℕ)
    → IsCounter f ob w why counter
    → HasCells ob w cells → length counter.doc ≡ cells
counter_count f ob w why counter cells is (values, least, count) =
    let same : is.values ≡ values = least_once w (floors_of ob) is.values values is.least least in
    let counted : valuation_of is.values length_name ≡ pos cells = ap (λ (l : List ℤ). valuation_of l length_name) same
    ∙ count in
    ap (λ (d : List Cell). length d) is.read.doc ∙ document_count (valuation_of is.values) why cells counted

-- an accepted certificate is one at its level and its bound
low_of : (f : Function) (bytes : List ℕ) (shown : Level × ℕ) → IsLowJudgement f bytes (Ok shown)
    → IsLow bytes f shown.0 shown.1
low_of f bytes (level, bound) is = is

-- TP2 is looked at where TP1 holds
before : (f : Function) (ob : ObName) → IsBroken f (level_of ob) → HasBefore f (level_of ob)
before f (Pair k l) broken = tt
before f (Triple k l m) broken = broken.0

asked_at : (ob : ObName) → IsAskedAt (level_of ob) Tp2
asked_at (Pair k l) = tt
asked_at (Triple k l m) = tt

-- the status of `bound` is that of the one judgement of the certificate
pub bound_judged :
    ((bytes : List ℕ) (f : Function) → IsTextOf bytes f → function_in bytes ≡ Ok f)
    → (words : List (List ℕ)) (holds : List ℕ → Option (List ℕ)) (status : ℕ) (IsWritten : List ℕ → Type 0)
    → IsAnswered words holds status IsWritten → IsBoundJudgedAs words holds status
bound_judged texts_are_read words holds status IsWritten (r, reply, steady, is, written) name certificate_name bytes
    certificate f named told certificate_told small text within =
    let gives = reply_to_asked words holds r (Bound name certificate_name) named reply in
    let got : IsReplyToBound f (holds certificate_name) r =
    gets (holds name) bytes f told small (texts_are_read bytes f text) First
    (λ g. IsReplyToBound g (holds certificate_name) r) r gives in
    let found = file_judged (IsLowJudgement f) at_least (λ shown. refl) (holds certificate_name) certificate r
    certificate_told within got in
    (found.0, found.1, is ∙ found.2)

module _ (is_text : (bytes : List ℕ) (f : Function) → function_in bytes ≡ Ok f → IsTextOf bytes f)
    (is_within_limits : (bytes : List ℕ) (f : Function) → IsTextOf bytes f → IsTrue (is_valid f))
    (texts_are_read : (bytes : List ℕ) (f : Function) → IsTextOf bytes f → function_in bytes ≡ Ok f)
    (low_shows : (bytes : List ℕ) (f : Function) (level : Level) (bound n : ℕ) → IsLow bytes f level bound
    → n < bound → HasAt f level n)
    (one_low :
    (f : Function) (bytes : List ℕ) (one other : Result (Level × ℕ) JudgeError) → IsLowJudgement f bytes one
    → IsLowJudgement f bytes other → one ≡ other) where
  -- status 0 of `bound`: the certificate shows that no document of fewer cells breaks the property
  pub bounded :
      (words : List (List ℕ)) (holds : List ℕ → Option (List ℕ)) (r : Reply) (IsWritten : List ℕ → Type 0)
      → 0 ≡ status_of r → IsReply words holds r → IsWritten (text_of r) → IsBounded words holds IsWritten
  bounded words holds r IsWritten is_zero is_reply written name certificate_name bytes named told =
      let reply : IsReplyTo holds (Bound name certificate_name) r =
      reply_to_asked words holds r (Bound name certificate_name) named is_reply in
      let found = accepted r is_zero IsLowJudgement at_least (holds name) (holds certificate_name) reply in
      let f : Function = found.0 in
      let shown : Level × ℕ = found.2.0 in
      let certificate : List ℕ = found.2.1 in
      let low : IsLow certificate f shown.0 shown.1 = low_of f certificate shown found.2.3 in (
        f,
        shown.0,
        shown.1,
        certificate,
        is_text bytes f (found.1 bytes told).1,
        low,
        found.2.2,
        λ n fewer. low_shows certificate f shown.0 shown.1 n low fewer,
        subst IsWritten (ap (λ x. text_of x) found.2.4) written,
      )

  -- `bound` accepts a low certificate within the limit
  bounded_at :
      (f : Function) (certificate : List ℕ) (level : Level) (cells : ℕ) → IsLow certificate f level cells
      → length certificate ≤ limit_of files.Certificate → (bytes : List ℕ) → length bytes ≤ limit_of files.Function
      → function_in bytes ≡ Ok f → IsBoundedAt bytes certificate level cells
  bounded_at f certificate level cells low within bytes small read holds name certificate_name r
      told certificate_told reply =
      accepted_file (IsLowJudgement f) at_least (one_low f) certificate (level, cells) low within
      (holds certificate_name) r certificate_told
      (gets (holds name) bytes f told small read First (λ g. IsReplyToBound g (holds certificate_name) r) r reply)

  module _ (broken_there :
      (f : Function) (ob : ObName) (w : List Lit) (why : Why) (values : List ℤ) → IsTrue (is_valid f)
      → IsTrue (is_obligation f.head ob)
      → LeadTo why (plan_of f ob) w → AreLeast w (floors_of ob) values
      → Breaks f (level_of ob) (document_at (valuation_of values) why) (ops_at (valuation_of values) ob))
      (by_the_cause :
      (f : Function) (ob : ObName) (w : List Lit) (why : Why) (values : List ℤ) → IsTrue (is_valid f)
      → IsTrue (is_obligation f.head ob)
      → LeadTo why (plan_of f ob) w → AreLeast w (floors_of ob) values
      → BreaksBy f (level_of ob) (document_at (valuation_of values) why) (ops_at (valuation_of values) ob) why)
      (IsWritten : List ℕ → Type 0) (bytes : List ℕ) (f : Function) (small : length bytes ≤ limit_of files.Function)
      (text : IsTextOf bytes f) (r : Reply) (written : IsWritten (text_of r)) where
    -- the counterexample of least length that was written: it breaks the property, and no shorter document does
    shortest_shown :
        (ob : ObName) (answers : List Answer) (why : Why) (cells : ℕ) (cert : List ℕ) (counter : Counter)
        → IsLeast f ob answers why cells cert → IsCounter f ob (answered_by answers) why counter
        → r ≡ replies.Shortest counter cells → IsShortestWritten f cells IsWritten
    shortest_shown ob answers why cells cert counter is counts same =
        let property : counter.level ≡ level_of ob = counts.read.level in
        let breaks =
        counter_breaks broken_there by_the_cause f Tp2 ob (answered_by answers) why counter
        (is_within_limits bytes f text) is.listed
        (literals_lead why (plan_of f ob) answers is.way) (asked_at ob) (before f ob is.broken) counts in (
          counter,
          rw property is.broken,
          counter_count f ob (answered_by answers) why counter cells counts is.length,
          breaks.2,
          breaks.3,
          breaks.4,
          λ n fewer. subst (λ (level : Level). HasAt f level n) (sym property) (is.holds_below n fewer),
          subst IsWritten (ap (λ x. text_of x) same) written,
        )

    -- the certificate that was written instead: `bound` accepts it
    certified_shown :
        (ob : ObName) (answers : List Answer) (why : Why) (cells : ℕ) (cert : List ℕ)
        → IsLeast f ob answers why cells cert
        → length cert ≤ limit_of files.Certificate → r ≡ replies.Certified cert
        → IsCertifiedWritten f bytes cells IsWritten
    certified_shown ob answers why cells cert is within same = (
      level_of ob,
      cert,
      is.broken,
      is.breaks,
      is.holds_below,
      is.low,
      within,
      bounded_at f cert (level_of ob) cells is.low within bytes small (texts_are_read bytes f text),
      subst IsWritten (ap (λ x. text_of x) same) written,
    )

    least_shown :
        (cert : Bool) (ob : ObName) (answers : List Answer) (why : Why) (cells : ℕ) (low : List ℕ)
        → IsLeast f ob answers why cells low
        → length low ≤ limit_of files.Certificate → ReplyTellsLeast f cert ob (answered_by answers) why cells low r
        → (status_of r ≡ 1) × ShowsLeast f bytes cert cells IsWritten
    least_shown true ob answers why cells low is within tells =
        (ap (λ x. status_of x) tells, certified_shown ob answers why cells low is within tells)
    least_shown false ob answers why cells low is within tells =
        (ap (λ x. status_of x) tells.2, shortest_shown ob answers why cells low tells.0 is tells.1 tells.2)

    -- what was written, by what the search comes to
    short_shown :
        (cert : Bool) (short : Short) → short ≢ shorts.TooLong → IsTrueOf f short
        → IsShortWithin (limit_of files.Certificate) short → TellsShort f cert short r
        → ShowsShort f bytes cert IsWritten (status_of r) short
    short_shown cert shorts.Fine never is within tells =
        (ap (λ x. status_of x) tells, is.0, is.1, subst IsWritten (ap (λ x. text_of x) tells) written)
    short_shown cert (shorts.Least ob answers why cells low) never is within tells =
        least_shown cert ob answers.items why cells low.items is within tells
    short_shown cert shorts.TooLong never is within tells = absurd (never refl)
    short_shown cert shorts.Spent never is within tells =
        (ap (λ x. status_of x) tells, subst IsWritten (ap (λ x. text_of x) tells) written)

  -- what `least` writes, and its status, come by what the search comes to
  pub sought :
      ((f : Function) (ob : ObName) (w : List Lit) (why : Why) (values : List ℤ) → IsTrue (is_valid f)
      → IsTrue (is_obligation f.head ob)
      → LeadTo why (plan_of f ob) w → AreLeast w (floors_of ob) values
      → Breaks f (level_of ob) (document_at (valuation_of values) why) (ops_at (valuation_of values) ob))
      → ((f : Function) (ob : ObName) (w : List Lit) (why : Why) (values : List ℤ) → IsTrue (is_valid f)
      → IsTrue (is_obligation f.head ob)
      → LeadTo why (plan_of f ob) w → AreLeast w (floors_of ob) values
      → BreaksBy f (level_of ob) (document_at (valuation_of values) why) (ops_at (valuation_of values) ob) why)
      → ((f : Function) (budget : ℕ) (short : Short) → IsTrue (is_valid f) → IsShort f budget short
      → short ≢ shorts.TooLong)
      → (words : List (List ℕ)) (holds : List ℕ → Option (List ℕ)) (r : Reply) (IsWritten : List ℕ → Type 0)
      → IsReply words holds r → IsWritten (text_of r) → IsSought words holds IsWritten (status_of r)
  sought broken_there by_the_cause never words holds r IsWritten is_reply written cert name bytes
      f named told small text =
      let got : IsReplyToLeast f cert r =
      gets (holds name) bytes f told small (texts_are_read bytes f text) First (λ g. IsReplyToLeast g cert r) r
      (reply_to_asked words holds r (Least cert name) named is_reply) in (
        got.0,
        got.1,
        short_shown broken_there by_the_cause IsWritten bytes f small text r written cert got.0
            (never f most_questions got.0 (is_within_limits bytes f text) got.1) got.2 got.3 got.4,
      )
