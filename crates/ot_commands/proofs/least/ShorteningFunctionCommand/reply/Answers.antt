-- The search comes to an answer, and the reply tells it.
use Rattle.std.proofs.Common.{refl, ◌≡◌, List, Bool, sym, ap, subst, arith}
use Rattle.fn_rules.specs.Functions.{Function}
use Rattle.fn_rules.specs.Rules.{function_of}
use Rattle.ask_core.specs.Plans.{Fails}
use Rattle.diff_graph.specs.Literals.{IsPossible}
use Rattle.ot_questions.specs.Obligation.{plan_of}
use Rattle.ot_prove.specs.Outcomes.{AreAnswersTo, answered_by}
use Rattle.ot_prove.specs.declared.outcome.Answer.{Answer}
use Rattle.ot_counter.specs.Counters.{IsCounter}
use Rattle.ot_least.specs.declared.short.Short.{Short}
use Rattle.ot_least.specs.declared.short.Short.TheVariants as shorts
use Rattle.ot_least.specs.Shortest.{IsShort, IsShortWithin, IsTrueOf}
use Rattle.ot_replies.specs.declared.reply.FileKind.TheVariants as files
use Rattle.ot_replies.specs.declared.reply.Reply.{Reply}
use Rattle.ot_replies.specs.declared.reply.Reply.TheVariants.{Certified, Shortest}
use Rattle.ot_replies.specs.Limits.{limit_of}
use Rattle.ot_words.specs.Words.{most_questions}
use Rattle.ot_commands.specs.Least.{IsReplyToLeast, ReplyTellsLeast, TellsShort}
use Rattle.ot_commands.proofs.least.ShorteningFunctionCommand.reply.Goals as goal

-- a reply that tells the answer of the search is the reply to the function
answer_told :
    (f : Function) (cert : Bool) (r : Reply) (short named : Short) → IsShort f most_questions short → IsTrueOf f short
    → IsShortWithin (limit_of files.Certificate) short → short ≡ named → TellsShort f cert named r
    → IsReplyToLeast f cert r
answer_told f cert r short named decides holds within is told =
    (short, decides, holds, within, subst (λ (s : Short). TellsShort f cert s r) (sym is) told)

pub returns-in-Fine : goal.returns-in-Fine
returns-in-Fine c =
    answer_told (function_of c.args.rules.now) c.args.self.now.cert _ c.in_ok-shortest.field-0 shorts.Fine
    c.in_ok-shortest.ensures.decides c.in_ok-shortest.ensures.holds
    (c.in_ok-shortest.ensures.within (omega arith)) c.in-Fine.is refl

pub returns-in-TooLong : goal.returns-in-TooLong
returns-in-TooLong c =
    answer_told (function_of c.args.rules.now) c.args.self.now.cert _ c.in_ok-shortest.field-0 shorts.TooLong
    c.in_ok-shortest.ensures.decides c.in_ok-shortest.ensures.holds
    (c.in_ok-shortest.ensures.within (omega arith)) c.in-TooLong.is refl

pub returns-in-Spent : goal.returns-in-Spent
returns-in-Spent c =
    answer_told (function_of c.args.rules.now) c.args.self.now.cert _ c.in_ok-shortest.field-0 shorts.Spent
    c.in_ok-shortest.ensures.decides c.in_ok-shortest.ensures.holds
    (c.in_ok-shortest.ensures.within (omega arith)) c.in-Spent.is refl

-- the certificate is asked for
pub returns-then-self : goal.returns-then-self
returns-then-self c =
    let f = function_of c.args.rules.now in
    let r = Certified c.from_vec.result in
    answer_told f c.args.self.now.cert r c.in_ok-shortest.field-0
    (shorts.Least c.in-Least.ob c.in-Least.answers c.in-Least.why c.in-Least.cells c.in-Least.bytes)
    c.in_ok-shortest.ensures.decides c.in_ok-shortest.ensures.holds
    (c.in_ok-shortest.ensures.within (omega arith)) c.in-Least.is
    (subst (λ (b : Bool). ReplyTellsLeast f b c.in-Least.ob (answered_by c.in-Least.answers.items) c.in-Least.why
    c.in-Least.cells c.in-Least.bytes.items r)
    (sym c.if-self.true) (ap (λ x. Certified x) c.from_vec.ensures))

pub counter_of-requires-clause-declared : goal.counter_of-requires-clause-declared
counter_of-requires-clause-declared c =
    (subst (λ (s : Short). IsTrueOf (function_of c.args.rules.now) s) c.in-Least.is
    c.in_ok-shortest.ensures.holds).listed

pub counter_of-requires-clause-leads : goal.counter_of-requires-clause-leads
counter_of-requires-clause-leads c =
    let f = function_of c.args.rules.now in
    subst (λ (l : List Answer). AreAnswersTo (plan_of f c.in-Least.ob) l (Fails c.in-Least.why))
    (sym c.deref.ensures.value) (subst (λ (s : Short). IsTrueOf f s) c.in-Least.is c.in_ok-shortest.ensures.holds).way

pub counter_of-requires-clause-possible : goal.counter_of-requires-clause-possible
counter_of-requires-clause-possible c =
    subst (λ (l : List Answer). IsPossible (answered_by l)) (sym c.deref.ensures.value)
    (subst (λ (s : Short). IsTrueOf (function_of c.args.rules.now) s) c.in-Least.is
    c.in_ok-shortest.ensures.holds).possible

-- and otherwise a counterexample
pub returns-in_ok-counter-in-Least : goal.returns-in_ok-counter-in-Least
returns-in_ok-counter-in-Least c =
    let f = function_of c.args.rules.now in
    let counter = c.in_ok-counter-in-Least.counter in
    answer_told f c.args.self.now.cert _ c.in_ok-shortest.field-0
    (shorts.Least c.in-Least.ob c.in-Least.answers c.in-Least.why c.in-Least.cells c.in-Least.bytes)
    c.in_ok-shortest.ensures.decides c.in_ok-shortest.ensures.holds
    (c.in_ok-shortest.ensures.within (omega arith)) c.in-Least.is
    (subst (λ (b : Bool). ReplyTellsLeast f b c.in-Least.ob (answered_by c.in-Least.answers.items) c.in-Least.why
    c.in-Least.cells c.in-Least.bytes.items (Shortest counter c.in-Least.cells))
    (sym c.if-self.false) (
      counter,
      subst (λ (l : List Answer). IsCounter f c.in-Least.ob (answered_by l) c.in-Least.why counter)
          c.deref.ensures.value c.in_ok-counter-in-Least.ensures,
      refl,
    ))
