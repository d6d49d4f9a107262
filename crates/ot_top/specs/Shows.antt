-- What a status and what was written show of the files of words, and whence these are known.
use Rattle.std.specs.Prelude.{◌≡◌, ◌≢◌, ◌⊎◌, ℕ, List, Option}
use Rattle.ot_outside.specs.Reads.{Reads}
use Rattle.ot_top.specs.declared.program.TheConstants.{SHELF_FAULT, SINK_FAULT, NO_MEMORY}
use Rattle.ot_top.specs.Audited.{IsAudited, IsCompared}
use Rattle.ot_top.specs.Barred.{IsBarred}
use Rattle.ot_top.specs.Bounded.{IsBoundJudgedAs, IsBounded, IsSought}
use Rattle.ot_top.specs.Confirmed.{IsConfirmJudgedAs, IsConfirmed}
use Rattle.ot_top.specs.Evidence.{Evidence}
use Rattle.ot_top.specs.Explained.{IsExplained}
use Rattle.ot_top.specs.Followed.{IsFollowed}
use Rattle.ot_commands.specs.Given.{TellsGivenOf}
use Rattle.ot_commands.specs.Hub.{IsServed}
use Rattle.ot_commands.specs.Replay.{IsSteadyReplay}
use Rattle.ot_commands.specs.Reverse.{IsReversed}
use Rattle.ot_top.specs.Mended.{IsMended}
use Rattle.ot_top.specs.Templated.{IsTemplated}
use Rattle.ot_top.specs.Traced.{IsTraced}
use Rattle.ot_top.specs.Shown.{IsComplete, IsGoneThrough, IsJudgedAs, IsProved, IsShown, IsShownBroken, IsUnread}

-- the status is that of a reply: neither the files nor the sink failed, and there was memory
abbrev pub IsOfReply : ℕ → Type 0
IsOfReply status = (status ≢ SHELF_FAULT) × (status ≢ SINK_FAULT) × (status ≢ NO_MEMORY)

-- what holds of the words where `holds` tells their files: what is accepted or confirmed, and what `prove` or `settle`
-- write evidence of, has the properties that were written or asked, what is broken fails at the instance that was
-- written, `prove` and `settle` never end with 0 at level tp2 of a function for insertions and deletions on plain text,
-- the statuses of `prove`, `check` and `confirm` are those that the questions and the judgement give, 3 comes where a
-- function's file is reached that is the text of none, where a function makes sites agree they are not found apart, nor
-- clients and their server, the end that `hub` writes is that of a hub whose documents follow its log, `audit`, `same`
-- and `reverse` write what is so of all operations, no document is shorter than `least` and `bound` say, `trace` writes
-- what happened and what the command answers that runs the file, `explain` writes why a function has what is asked or
-- where it breaks it, `mend` writes the function that the fewest edits lead to and that has what is asked, or none of
-- those has it, `template` writes a function that has what is asked, or no transformation has it, and no event of
-- a workload is refused, no site of it is stuck, and no two sites of it differ
pub record StatusShows (words : List (List ℕ)) (holds : List ℕ → Option (List ℕ)) (IsWritten : List ℕ → Type 0)
    (status : ℕ) : Type 0 where
  pub sound : status ≡ 0 → IsShown words holds IsWritten
  pub proved : (e : Evidence) → status ≡ 0 → IsProved e words holds IsWritten
  pub barred : (e : Evidence) → IsBarred e words holds status
  pub broken : (e : Evidence) → status ≡ 1 → IsShownBroken e words holds IsWritten
  pub complete : IsOfReply status → IsComplete words holds status
  pub judged : IsOfReply status → IsJudgedAs words holds status
  pub unread : IsOfReply status → IsUnread words holds status
  pub steady : IsSteadyReplay words holds status
  pub served : IsServed words holds status
  pub followed : status ≡ 0 → IsFollowed words holds IsWritten
  pub audited : IsOfReply status → IsAudited words holds IsWritten status
  pub compared : IsOfReply status → IsCompared words holds IsWritten status
  pub reversed : IsOfReply status → IsReversed words holds IsWritten status
  pub sought : IsOfReply status → IsSought words holds IsWritten status
  pub bounded : status ≡ 0 → IsBounded words holds IsWritten
  pub bound_judged : IsOfReply status → IsBoundJudgedAs words holds status
  pub confirmed : status ≡ 0 → IsConfirmed words holds IsWritten
  pub confirm_judged : IsOfReply status → IsConfirmJudgedAs words holds status
  pub traced : IsOfReply status → IsTraced words holds IsWritten status
  pub explained : IsOfReply status → IsExplained words holds IsWritten status
  pub mended : IsOfReply status → IsMended words holds IsWritten status
  pub templated : IsOfReply status → IsTemplated words IsWritten status
  pub gone_through : IsOfReply status → IsGoneThrough words status IsWritten

-- the files are known: `holds` is what the shelf tells, or it tells what the calls gave
abbrev pub AreKnown : List (List ℕ) → (List ℕ → Option (List ℕ)) → Reads → Reads → (List ℕ → Option (List ℕ)) → Type 0
AreKnown words told old new holds = (holds ≡ told) ⊎ TellsGivenOf words old new holds
