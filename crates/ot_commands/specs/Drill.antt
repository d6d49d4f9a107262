-- What a workload comes to: its function is proved, its certificate accepted, and its session gone through.
use Rattle.std.specs.Prelude.{◌≡◌, ◌≢◌, ℕ, ◌<◌, ◌≤◌, ◌⊎◌, List, [], length, map}
use Rattle.fn_rules.specs.declared.function.Level.TheVariants.{Tp2}
use Rattle.fn_rules.specs.Obligations.{obligations_of}
use Rattle.ot_questions.specs.declared.why.Why.{Why}
use Rattle.ot_questions.specs.Obligation.{plan_of}
use Rattle.ot_decide.specs.Verdicts.{ObQuestions, AreAsked, count_in}
use Rattle.ot_session.specs.Sites.{site_end_of}
use Rattle.ot_session.specs.Views.{View, data_in, IsBegun}
use Rattle.ot_drill.specs.declared.limits.TheConstants.{SITES}
use Rattle.ot_drill.specs.Events.{drill_events}
use Rattle.ot_drill.specs.Playing.{ArePlayed}
use Rattle.ot_drill.specs.Workload.{case_count, drill_function}
use Rattle.ot_replies.specs.declared.reply.Drilled.{Drilled}
use Rattle.ot_replies.specs.declared.reply.Reply.{Reply}
use Rattle.ot_replies.specs.declared.reply.Reply.TheVariants as replies
use Rattle.ot_replies.specs.Texts.{status_of}
use Rattle.ot_words.specs.Words.{most_questions}
use Rattle.ot_commands.specs.Facts.{Facts, NoFile}
use Rattle.ot_commands.specs.Replay.{IsFirstPair}

-- what came of the workload of a number: the cases of its function, the level that its certificate shows, what was
-- counted while its events were done in a new session of its sites without cells, and what these hold in the end
pub record IsDrilled (n : ℕ) (d : Drilled) : Type 0 where
  pub number : d.number ≡ n
  pub cases : d.cases ≡ case_count (drill_function n)
  pub level : d.level ≡ Tp2
  pub begun : View
  pub is_begun : IsBegun (drill_function n) [] SITES begun
  pub end : View
  pub played : ArePlayed begun (drill_events n) end d.tally
  pub cells : d.cells ≡ length ((data_in end).document 1)
  pub differ : IsFirstPair 1 (map site_end_of end.sites) d.differ

-- the reply to the number of a workload, of whose function these are the questions: there are more than are allowed, or
-- what came of it
abbrev pub IsReplyToQuestions : ℕ → List (ObQuestions Why) → Reply → Type 0
IsReplyToQuestions n lists r =
    ((most_questions < count_in lists) × (r ≡ replies.Spent))
    ⊎ ((count_in lists ≤ most_questions) × ((d : Drilled) × IsDrilled n d × (r ≡ replies.Drilled d)))

-- the reply to the number of a workload
abbrev pub IsReplyToDrill : ℕ → Reply → Type 0
IsReplyToDrill n r =
    (lists : List (ObQuestions Why)) × AreAsked (plan_of (drill_function n))
    (obligations_of (drill_function n).head Tp2) lists
    × IsReplyToQuestions n lists r

-- the facts of the command; its status is never 1
abbrev pub drill_facts : ℕ → Facts
drill_facts number = record { opens = NoFile (IsReplyToDrill number); steady = λ holds r. status_of r ≢ 1 }
