-- A workload's function is proved where its questions are few enough, and never refuted.
use Rattle.std.proofs.Common.{◌≡◌, ◌≢◌, ◌≤◌, ◌<◌, ◌⊎◌, ℕ, List, length, Result, Ok, Err, IsTrue, sym, subst, inl, inr}
use Rattle.std.proofs.Common.{arith}
use Rattle.diff_graph.specs.declared.lit.Lit.{Lit}
use Rattle.diff_tables.specs.Solutions.{AreLeast, valuation_of}
use Rattle.std.specs.Prelude.{ℤ}
use Rattle.ot_model.specs.declared.cell.Cell.{Cell}
use Rattle.ot_model.specs.declared.op.Op.{Op}
use Rattle.fn_rules.specs.declared.function.Level.{Level}
use Rattle.fn_rules.specs.declared.function.Level.TheVariants.{Tp1, Tp2}
use Rattle.fn_rules.specs.declared.function.ObName.{ObName}
use Rattle.fn_rules.specs.Functions.{Function}
use Rattle.fn_rules.specs.Obligations.{level_of, is_obligation, obligations_of}
use Rattle.fn_rules.specs.Properties.{AreConcurrent, HasTp1, HasTp2}
use Rattle.fn_rules.specs.Validity.{is_valid}
use Rattle.ot_questions.specs.declared.why.Why.{Why}
use Rattle.ot_questions.specs.Obligation.{plan_of}
use Rattle.ot_prove.specs.Outcomes.{answered_by}
use Rattle.refusals.specs.declared.refusal.JudgeError.{JudgeError}
use Rattle.refusals.specs.declared.refusal.JudgeError.TheVariants as judge
use Rattle.refusals.specs.declared.refusal.Refusal.{Refusal}
use Rattle.ot_decide.specs.declared.verdict.Verdict.{Verdict}
use Rattle.ot_decide.specs.declared.verdict.Verdict.TheVariants as verdicts
use Rattle.ot_sections.specs.Certificates.{IsCertificate}
use Rattle.ot_judge.specs.Refusals.{IsWant}
use Rattle.ot_decide.specs.Verdicts.{ObQuestions, AreAsked, IsDecidedAs, IsVerdictWithin, count_in}
use Rattle.ot_counter.specs.Counters.{Breaks}
use Rattle.ask_core.specs.Leading.{LeadTo}
use Rattle.ot_values.specs.Values.{floors_of, ops_at}
use Rattle.ot_counter.specs.Documents.{document_at}
use Rattle.ot_replies.specs.declared.reply.FileKind.TheVariants as files
use Rattle.ot_replies.specs.declared.reply.Reply.{Reply}
use Rattle.ot_replies.specs.declared.reply.Reply.TheVariants.{Proved, Spent}
use Rattle.ot_replies.specs.Limits.{limit_of}
use Rattle.ot_commands.specs.Prove.{IsReplyToProof, TellsVerdict}
use Rattle.ot_words.specs.Words.{most_questions}
use Rattle.ot_prove.proofs.Leads.{literals_lead}

-- an answer that is a level, where it is no want and only one level comes
pub level_is : (level : Level)
    → IsWant (Ok level) ⊎ (◌≡◌ {A = Result Level JudgeError} (Ok level) (Ok Tp2)) → level ≡ Tp2
level_is level (inl (inl failed)) = cc
level_is level (inl (inr wanting)) = cc
level_is level (inr same) = cc

-- no refusal comes
pub never_refused : (offset : ℕ) (why : Refusal) → IsWant (Err (judge.Refused offset why))
    ⊎ (◌≡◌ {A = Result Level JudgeError} (Err (judge.Refused offset why)) (Ok Tp2)) → ⊥
never_refused offset why (inl (inl failed)) = cc
never_refused offset why (inl (inr wanting)) = cc
never_refused offset why (inr same) = cc

-- a function that has both properties is broken nowhere
never_broken : (f : Function) → HasTp1 f → HasTp2 f → (level : Level) (d : List Cell) (ops : List Op)
    → Breaks f level d ops → ⊥
never_broken f tp1 tp2 Tp1 d ops (a, b, are, concurrent, apart) =
    apart (tp1 d a b (subst (λ (l : List Op). AreConcurrent f d l) are concurrent))
never_broken f tp1 tp2 Tp2 d ops (a, b, c, are, concurrent, apart) =
    apart (tp2 d a b c (subst (λ (l : List Op). AreConcurrent f d l) are concurrent))

-- the certificate of a function that was proved, and its questions
pub record IsShownBy (f : Function) (bytes : List ℕ) : Type 0 where
  pub certificate : IsCertificate bytes f Tp2
  pub short : length bytes ≤ limit_of files.Certificate
  pub lists : List (ObQuestions Why)
  pub asked : AreAsked (plan_of f) (obligations_of f.head Tp2) lists
  pub few : count_in lists ≤ most_questions

-- where a verdict is told as a proof, its bytes are a short certificate, found within the budget
shown_verdict :
    (f : Function) (bytes : List ℕ) (verdict : Verdict) → IsDecidedAs f Tp2 most_questions verdict
    → (most_questions ≤ most_questions → IsVerdictWithin (limit_of files.Certificate) verdict)
    → TellsVerdict f verdict (Proved bytes)
    → IsShownBy f bytes
shown_verdict f bytes (verdicts.Yes certificate asked) decided within tells =
    let same : bytes ≡ certificate.items = cc in
    let proof = decided.2.2 in record {
      certificate = subst (λ (b : List ℕ). IsCertificate b f Tp2) (sym same) (proof.trees, proof.fit, proof.text);
      short = subst (λ (b : List ℕ). length b ≤ limit_of files.Certificate) (sym same) (within (omega arith));
      lists = decided.0;
      asked = decided.1;
      few = decided.2.0;
    }
shown_verdict f bytes (verdicts.No ob answers why) decided within tells = absurd (let same = tells.2 in cc)
shown_verdict f bytes verdicts.Spent decided within tells = absurd (cc)

pub shown_by : (f : Function) (bytes : List ℕ) → IsReplyToProof f Tp2 most_questions (Proved bytes) → IsShownBy f bytes
shown_by f bytes reply = shown_verdict f bytes reply.0 reply.1 reply.2 reply.3

-- a function whose questions are too many
pub record HasTooMany (f : Function) (r : Reply) : Type 0 where
  pub is : r ≡ Spent
  pub lists : List (ObQuestions Why)
  pub asked : AreAsked (plan_of f) (obligations_of f.head Tp2) lists
  pub many : most_questions < count_in lists

module _ (broken_there :
    (f : Function) (ob : ObName) (w : List Lit) (why : Why) (values : List ℤ) → IsTrue (is_valid f)
    → IsTrue (is_obligation f.head ob)
    → LeadTo why (plan_of f ob) w → AreLeast w (floors_of ob) values
    → Breaks f (level_of ob) (document_at (valuation_of values) why) (ops_at (valuation_of values) ob))
    (f : Function) (valid : IsTrue (is_valid f)) (tp1 : HasTp1 f) (tp2 : HasTp2 f) where
  -- a function with both properties that gets no certificate has too many questions
  other_verdict :
      (r : Reply) (verdict : Verdict) → IsDecidedAs f Tp2 most_questions verdict → TellsVerdict f verdict r
      → ((bytes : List ℕ) → r ≢ Proved bytes) → HasTooMany f r
  other_verdict r (verdicts.Yes certificate asked) decided tells other = absurd (other certificate.items tells)
  other_verdict r (verdicts.No ob answers why) decided tells other =
      let refuted = decided.2.1 in
      absurd (never_broken f tp1 tp2 (level_of ob) _ _
      (broken_there f ob (answered_by answers.items) why tells.1.values valid refuted.listed
      (literals_lead why (plan_of f ob) answers.items refuted.way) tells.1.least))
  other_verdict r verdicts.Spent decided tells other =
      record { is = tells; lists = decided.0; asked = decided.1; many = decided.2 }

  -- whatever is not proved has too many questions
  pub too_many : (r : Reply) → IsReplyToProof f Tp2 most_questions r
      → ((bytes : List ℕ) → r ≢ Proved bytes) → HasTooMany f r
  too_many r reply other = other_verdict r reply.0 reply.1 reply.3 other
