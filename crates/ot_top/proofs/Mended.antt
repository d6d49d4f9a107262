-- What the statuses of `mend` show, from its replies.
use Rattle.std.proofs.Common.{◌⊎◌, ◌≡◌, ◌≢◌, ℕ, suc, ◌<◌, ◌≤◌, true, false, List, [], ◌∷◌, ◌++◌, length, Option, Some}
use Rattle.std.proofs.Common.{Ok}
use Rattle.std.proofs.Common.{None, IsTrue, refl, sym, ap, ◌∙◌, subst, inl, inr, arith}
use Rattle.std.specs.Prelude.{MatchOption, is_none}
use Rattle.std.specs.List.{AllByRecursion}
use Rattle.fn_rules.specs.declared.function.Head.{Head}
use Rattle.fn_rules.specs.declared.function.Level.{Level}
use Rattle.fn_rules.specs.declared.function.Level.TheVariants.{Tp1, Tp2}
use Rattle.fn_rules.specs.declared.function.ObName.{ObName}
use Rattle.fn_rules.specs.Functions.{Function}
use Rattle.fn_rules.specs.Obligations.{obligations_of}
use Rattle.fn_rules.specs.Properties.{HasTp1, HasTp2}
use Rattle.fn_rules.specs.Rules.{function_of}
use Rattle.fn_rules.specs.Validity.{is_valid}
use Rattle.fn_grammar.specs.Grammar.{IsTextOf}
use Rattle.fn_text.specs.Reading.{function_in}
use Rattle.fn_grammar.specs.Print.{printed}
use Rattle.ask_core.specs.Plans.{Plan}
use Rattle.ask_core.specs.Questions.{FailingEnd, QuestionList, Questions}
use Rattle.ot_prove.specs.Outcomes.{FailsAt, HoldsEverywhere}
use Rattle.ot_questions.specs.declared.why.Why.{Why}
use Rattle.ot_questions.specs.Meaning.{AllHold, ObligationHolds}
use Rattle.ot_questions.specs.Obligation.{plan_of}
use Rattle.ot_decide.specs.declared.verdict.Verdict.{Verdict}
use Rattle.ot_decide.specs.declared.verdict.Verdict.TheVariants as verdicts
use Rattle.ot_decide.specs.Verdicts.{AreAsked, FailingOb, IsDecidedAs, ObQuestions, failing_in}
use Rattle.ot_heads.specs.Heads.{InsertsAndDeletesOnPlain, inserts_and_deletes_on_plain}
use Rattle.ot_mend.specs.Members.{Member, layer, member}
use Rattle.fewest_edits.specs.declared.decision.Decision.{Decision}
use Rattle.fewest_edits.specs.declared.decision.Decision.TheVariants as decisions
use Rattle.fewest_edits.specs.declared.mending.Mending.{Mending}
use Rattle.fewest_edits.specs.declared.mending.Mending.TheVariants as mendings
use Rattle.fewest_edits.specs.Firsts.{AreRefused, IsFirst, IsRefusedOrBehind, IsRefusedOrNotBefore, is_before}
use Rattle.fewest_edits.specs.Mendings.{ArePassed, IsAnsweredBy, IsMendedBy, IsPassed}
use Rattle.mend_texts.specs.Made.{AreMade, MembersAreMade}
use Rattle.mend_texts.specs.Texts.{comment_lines}
use Rattle.ot_mend.specs.declared.edit.Edit.{Edit}
use Rattle.ot_mend.specs.Edits.{edited_of}
use Rattle.ot_mend.specs.Members.{function_after}
use Rattle.ot_replies.specs.declared.reply.FileKind.TheVariants as files
use Rattle.ot_replies.specs.declared.reply.Reply.{Reply}
use Rattle.ot_replies.specs.declared.reply.Subject.TheVariants.{First}
use Rattle.ot_replies.specs.Limits.{limit_of}
use Rattle.ot_replies.specs.MendTexts.{not_mended_text}
use Rattle.ot_replies.specs.Texts.{status_of, text_of}
use Rattle.ot_words.specs.Commands.{Mend}
use Rattle.ot_words.specs.Words.{most_questions}
use Rattle.ot_commands.specs.Found.{LacksTp1}
use Rattle.ot_commands.specs.Mend.{IsDecidedSo, IsReplyToMend, TellsMending, decision_of}
use Rattle.ot_commands.specs.Template.{has_none}
use Rattle.ot_top.specs.Evidence.{Certificate, Evidence, IsEvidence}
use Rattle.ot_top.specs.Mended.{CanBeHad, CannotBeHad, IsLedTo, IsMended, IsSo, ShowsMending}
use Rattle.ot_top.specs.Shown.{HasLevel}
use Rattle.ot_top.specs.Templated.{HasNone}
use Rattle.ot_top.proofs.Proving.{gets, reply_to_asked}
use Rattle.ot_top.proofs.Told.{IsAnswered}

-- what is said of the members of a list holds of all where it holds of each that stands in it
all_listed : (P : Member → Type 0) (ms : List Member)
    → ((m : Member) (earlier later : List Member) → ms ≡ earlier ++ m ∷ later → P m) → AllByRecursion P ms
all_listed P [] each = tt
all_listed P (m ∷ ms) each = (
  each m [] ms refl,
  all_listed P ms (λ o earlier later is. each o (m ∷ earlier) later (ap (λ (l : List Member). m ∷ l) is)),
)

-- what is decided of valid functions in one way is so in another way
module _ (D E : Function → Decision → Type 0)
    (so : (g : Function) (d : Decision) → IsTrue (is_valid g) → D g d → E g d) where
  abbrev AreValid : List Member → Type 0
  AreValid ms = AllByRecursion (λ (m : Member). IsTrue (is_valid m.function)) ms

  refused_so : (ms : List Member) → AreValid ms → AreRefused D ms → AreRefused E ms
  refused_so [] valid refused = tt
  refused_so (m ∷ ms) valid refused =
      (so m.function decisions.No valid.0 refused.0, refused_so ms valid.1 refused.1)

  behind_so : (m : Member) (ms : List Member) → AreValid ms → AllByRecursion (IsRefusedOrBehind D m) ms
      → AllByRecursion (IsRefusedOrBehind E m) ms
  behind_so m [] valid all = tt
  behind_so m (o ∷ ms) valid (inl refused, all) =
      (inl (so o.function decisions.No valid.0 refused), behind_so m ms valid.1 all)
  behind_so m (o ∷ ms) valid (inr behind, all) = (inr behind, behind_so m ms valid.1 all)

  not_before_so : (m : Member) (ms : List Member) → AreValid ms → AllByRecursion (IsRefusedOrNotBefore D m) ms
      → AllByRecursion (IsRefusedOrNotBefore E m) ms
  not_before_so m [] valid all = tt
  not_before_so m (o ∷ ms) valid (inl refused, all) =
      (inl (so o.function decisions.No valid.0 refused), not_before_so m ms valid.1 all)
  not_before_so m (o ∷ ms) valid (inr before, all) = (inr before, not_before_so m ms valid.1 all)

  valid_parts : (front : List Member) (m : Member) (behind : List Member) → AreValid (front ++ m ∷ behind)
      → AreValid front × IsTrue (is_valid m.function) × AreValid behind
  valid_parts [] m behind valid = (tt, valid.0, valid.1)
  valid_parts (o ∷ front) m behind valid =
      let parts = valid_parts front m behind valid.1 in ((valid.0, parts.0), parts.1, parts.2)

  first_so : (ms : List Member) (m : Member) → AreValid ms → IsFirst D ms m
      → IsTrue (is_valid m.function) × IsFirst E ms m
  first_so ms m valid first =
      let parts = valid_parts first.earlier m first.later
      (subst (λ (l : List Member). AreValid l) first.listed valid) in (
        parts.1,
        record {
          earlier = first.earlier;
          later = first.later;
          listed = first.listed;
          behind = behind_so m first.earlier parts.0 first.behind;
          not_before = not_before_so m first.later parts.2 first.not_before;
        },
      )

  module _ (f : Function) (budget : ℕ) (valid : (n : ℕ) → AreValid (layer f n)) where
    passed_so : (n : ℕ) → ArePassed D f budget n → ArePassed E f budget n
    passed_so n passed fewer below =
        let one : IsPassed D f budget fewer = passed fewer below in
        (one.0, refused_so (layer f fewer) (valid fewer) one.1)

    answered_so : (n : ℕ) (m : Member) (d : Decision) → IsAnsweredBy D f budget n m d → IsAnsweredBy E f budget n m d
    answered_so n m d answered =
        let first = first_so (layer f n) m (valid n) answered.1 in
        (answered.0, first.1, so m.function d first.0 answered.2)

    pub mended_so : (most : ℕ) (mending : Mending) → IsMendedBy D f most budget mending
        → IsMendedBy E f most budget mending
    mended_so most (mendings.Found rules edits) mended = (
      mended.0,
      mended.1,
      passed_so mended.0 mended.2,
      answered_so mended.0 (member edits.items (function_of rules)) decisions.Yes mended.3,
    )
    mended_so most mendings.None mended = passed_so (suc most) mended
    mended_so most mendings.Spent (n, few, passed, inl many) = (n, few, passed_so n passed, inl many)
    mended_so most mendings.Spent (n, few, passed, inr (m, answered)) =
        (n, few, passed_so n passed, inr (m, answered_so n m decisions.Spent answered))

-- edits that are made lead from a valid function to a valid one
valid_after : (f : Function) (edits : List Edit) → IsTrue (is_valid f) → AreMade f edits
    → IsTrue (is_valid (function_after edits f))
valid_after f [] valid made = valid
valid_after f (edit ∷ edits) valid made = valid_after (edited_of edit f) edits made.1 made.2

valid_layers : MembersAreMade → (f : Function) → IsTrue (is_valid f) → (n : ℕ)
    → AllByRecursion (λ (m : Member). IsTrue (is_valid m.function)) (layer f n)
valid_layers are_made f valid n =
    all_listed (λ m. IsTrue (is_valid m.function)) (layer f n)
    (λ m earlier later listed. let led = are_made f n m earlier later listed in
    subst (λ (g : Function). IsTrue (is_valid g)) led.1 (valid_after f m.edits valid led.0))

-- where the obligations that are asked have a failing end, not all of their plans hold
module _ (tell :
    (p : Plan Why) (q : Questions Why) → QuestionList p [] q
    → MatchOption q.failing (HoldsEverywhere p) (λ e. FailsAt p e))
    (f : Function) where
  fails_there : (ob : ObName) (e : FailingEnd Why) → FailsAt (plan_of f ob) e → ObligationHolds f ob → ⊥
  fails_there ob e ((v, zero, met), ends) holds =
      let end : IsTrue (is_none (Some e.why)) =
      subst (λ (o : Option Why). IsTrue (is_none o)) (ends v met) (holds v zero) in cc

  pub not_all_hold :
      (obs : List ObName) (lists : List (ObQuestions Why)) (x : FailingOb Why) → AllHold f obs
      → AreAsked (plan_of f) obs lists → failing_in lists ≡ Some x → ⊥
  not_all_hold [] lists x all is fails = absurd (let none : None ≡ Some x = rw is at fails in cc)
  not_all_hold (ob ∷ obs) lists x all (q, of_q, behind) fails =
      go q.failing refl (tell (plan_of f ob) q of_q) behind
      (λ later of_later at_later. not_all_hold obs later x all.1 of_later at_later)
    where
      go : (end : Option (FailingEnd Why)) → q.failing ≡ end
          → MatchOption end (HoldsEverywhere (plan_of f ob)) (λ e. FailsAt (plan_of f ob) e)
          → MatchOption end ((later : List (ObQuestions Why)) × AreAsked (plan_of f) obs later
          × (lists ≡ record { ob = ob; questions = q } ∷ later)) (λ _. lists ≡ record { ob = ob; questions = q } ∷ [])
          → ((later : List (ObQuestions Why)) → AreAsked (plan_of f) obs later → failing_in later ≡ Some x → ⊥) → ⊥
      go None is tells (later, of_later, is_lists) others = others later of_later (rw (is_lists, is) at fails)
      go (Some e) is tells is_lists others = fails_there ob e tells all.0

-- what a verdict says of a valid function is so
module _ (tell :
    (p : Plan Why) (q : Questions Why) → QuestionList p [] q
    → MatchOption q.failing (HoldsEverywhere p) (λ e. FailsAt p e))
    (pairs_hold : (f : Function) → IsTrue (is_valid f) → HasTp1 f → AllHold f (obligations_of f.head Tp1))
    (all_hold : (f : Function) → IsTrue (is_valid f) → HasTp1 f × HasTp2 f → AllHold f (obligations_of f.head Tp2))
    (has_level : (e : Evidence) (bytes : List ℕ) (f : Function) (level : Level) → IsEvidence e bytes f level
    → HasLevel f level) where
  holding : (f : Function) (level : Level) → IsTrue (is_valid f) → HasLevel f level
      → AllHold f (obligations_of f.head level)
  holding f Tp1 valid has = pairs_hold f valid has
  holding f Tp2 valid has = all_hold f valid (has.0, has.1)

  verdict_so : (level : Level) (f : Function) (verdict : Verdict) → IsTrue (is_valid f)
      → IsDecidedAs f level most_questions verdict → IsSo level f (decision_of verdict)
  verdict_so level f (verdicts.Yes bytes asked) valid decided =
      let proof = decided.2.2 in has_level Certificate bytes.items f level (proof.trees, proof.fit, proof.text)
  verdict_so level f (verdicts.No ob answers why) valid (lists, asked, refuted) =
      λ has. not_all_hold tell f (obligations_of f.head level) lists _ (holding f level valid has) asked refuted.1.first
  verdict_so level f verdicts.Spent valid (lists, asked, many) = (lists, asked, many)

  lacking_so : (level : Level) (f : Function) → LacksTp1 f → ¬ HasLevel f level
  lacking_so Tp1 f (d, a, b, concurrent, apart) = λ has. apart (has d a b concurrent)
  lacking_so Tp2 f (d, a, b, concurrent, apart) = λ has. apart (has.0 d a b concurrent)

  decided_so : (level : Level) (f : Function) (d : Decision) → IsTrue (is_valid f) → IsDecidedSo level f d
      → IsSo level f d
  decided_so level f d valid (inl (verdict, decided, same)) =
      subst (λ (x : Decision). IsSo level f x) same (verdict_so level f verdict valid decided)
  decided_so level f d valid (inr (same, lacks)) =
      subst (λ (x : Decision). IsSo level f x) (sym same) (lacking_so level f lacks)

  -- where no test says that there is none, and where one does
  module _ (are_made : MembersAreMade)
      (tests : (head : Head) → inserts_and_deletes_on_plain head ≡ true → InsertsAndDeletesOnPlain head)
      (none : (head : Head) → InsertsAndDeletesOnPlain head → HasNone head)
      (can : (level : Level) (head : Head) → has_none level head ≡ false → CanBeHad level head)
      (is_read : (bytes : List ℕ) (f : Function) → IsTextOf bytes f → function_in bytes ≡ Ok f)
      (is_within_limits : (bytes : List ℕ) (f : Function) → IsTextOf bytes f → IsTrue (is_valid f)) where
    cannot : (level : Level) (head : Head) → has_none level head ≡ true → CannotBeHad level head
    cannot Tp1 head test = absurd (cc)
    cannot Tp2 head test = λ other led.
        let here = tests head test in
        none other (record {
          plain = led.mode ∙ here.plain;
          inserts = led.inserts ∙ here.inserts;
          deletes = led.deletes ∙ here.deletes;
        })

    shows_mending :
        (f : Function) (most : ℕ) (mending : Mending) (r : Reply) (status : ℕ) (IsWritten : List ℕ → Type 0)
        → status ≡ status_of r → IsWritten (text_of r) → TellsMending f most mending r
        → ShowsMending f most IsWritten status mending
    shows_mending f most (mendings.Found rules edits) r status IsWritten is written (leads, text, same) = (
      is ∙ ap (λ x. status_of x) same,
      leads,
      text,
      subst (λ (g : Function). IsWritten (comment_lines f edits.items ++ printed g)) leads
          (subst IsWritten (ap (λ x. text_of x) same) written),
    )
    shows_mending f most mendings.None r status IsWritten is written same =
        (is ∙ ap (λ x. status_of x) same, subst IsWritten (ap (λ x. text_of x) same) written)
    shows_mending f most mendings.Spent r status IsWritten is written same =
        (is ∙ ap (λ x. status_of x) same, subst IsWritten (ap (λ x. text_of x) same) written)

    pub mended :
        (words : List (List ℕ)) (holds : List ℕ → Option (List ℕ)) (status : ℕ) (IsWritten : List ℕ → Type 0)
        → IsAnswered words holds status IsWritten → IsMended words holds IsWritten status
    mended words holds status IsWritten (r, reply, steady, is, written) level most budget name bytes f named told small
        text =
        let got : IsReplyToMend level most budget f r =
        gets (holds name) bytes f told small (is_read bytes f text) First (λ g. IsReplyToMend level most budget g r) r
        (reply_to_asked words holds r (Mend level most budget name) named reply) in
        go got
      where
        go : IsReplyToMend level most budget f r
            → ((status ≡ 1) × CannotBeHad level f.head × IsWritten (not_mended_text None))
            ⊎ (CanBeHad level f.head
            × ((mending : Mending) × IsMendedBy (IsSo level) f most budget mending
            × ShowsMending f most IsWritten status mending))
        go (inl (test, same)) =
            inl (
              is ∙ ap (λ x. status_of x) same,
              cannot level f.head test,
              subst IsWritten (ap (λ x. text_of x) same) written,
            )
        go (inr (test, (mending, by_verdicts, tells))) =
            inr (
              can level f.head test,
              (
                mending,
                mended_so (IsDecidedSo level) (IsSo level) (λ g d valid decided. decided_so level g d valid decided) f
                    budget (valid_layers are_made f (is_within_limits bytes f text)) most mending by_verdicts,
                shows_mending f most mending r status IsWritten is written tells,
              ),
            )

-- the status of a mended function's reply is not 3
mending_other : (f : Function) (most : ℕ) (mending : Mending) (r : Reply) → TellsMending f most mending r
    → status_of r ≢ 3
mending_other f most (mendings.Found rules edits) r tells three =
    let zero : 3 ≡ 0 = sym three ∙ ap (λ x. status_of x) tells.2 in omega (arith, zero)
mending_other f most mendings.None r tells three =
    let one : 3 ≡ 1 = sym three ∙ ap (λ x. status_of x) tells in omega (arith, one)
mending_other f most mendings.Spent r tells three =
    let eight : 3 ≡ 8 = sym three ∙ ap (λ x. status_of x) tells in omega (arith, eight)

pub mend_other : (level : Level) (most budget : ℕ) (f : Function) (r : Reply) → IsReplyToMend level most budget f r
    → status_of r ≢ 3
mend_other level most budget f r (inl (test, same)) three =
    let one : 3 ≡ 1 = sym three ∙ ap (λ x. status_of x) same in omega (arith, one)
mend_other level most budget f r (inr (test, (mending, by_verdicts, tells))) three =
    mending_other f most mending r tells three
