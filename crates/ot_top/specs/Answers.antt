-- What a run answers, and what it leaves where the files, the sink or memory fail.
use Rattle.std.specs.Prelude.{◌≡◌, ◌≤◌, ◌⊎◌, ◌++◌, ℕ, List, Option}
use Rattle.ot_outside.specs.Faults.{Rose}
use Rattle.ot_outside.specs.Reads.{Reads}
use Rattle.ot_outside.specs.Whole.{AppendsFront}
use Rattle.ot_replies.specs.declared.reply.Reply.{Reply}
use Rattle.ot_replies.specs.Texts.{status_of, text_of}
use Rattle.ot_top.specs.declared.program.TheConstants.{SHELF_FAULT, SINK_FAULT, NO_MEMORY}
use Rattle.ot_commands.specs.Given.{IsAnswerOfGiven}
use Rattle.ot_commands.specs.Replies.{IsReply}
use Rattle.ot_top.specs.Shows.{IsOfReply}

-- what words and files are answered: each status that is none of a fault and none of want of memory is that of a reply,
-- whose text was written: the one that the files get where `holds` tells them, and whether or not it does, the one that
-- those bytes get that were given between `old` and `new`
pub record AnswersCommand (words : List (List ℕ)) (holds : List ℕ → Option (List ℕ)) (old new : Reads)
    (IsWritten : List ℕ → Type 0)
    (status : ℕ) : Type 0 where
  pub replied :
      IsOfReply status
      → (reply : Reply) × IsReply words holds reply × IsAnswerOfGiven words old new reply × (status ≡ status_of reply)
      × IsWritten (text_of reply)
  pub named : status ≤ NO_MEMORY

-- a count before a run and behind it
pub record CountChange : Type 0 where
  pub before : ℕ
  pub now : ℕ

abbrev pub count_change : ℕ → ℕ → CountChange
count_change before now = record { before = before; now = now }

-- what faults and want of memory tell, by the counts of faults of the shelf and of the sink, and by what the sink took
-- `before` the run and has taken `now`
pub record Faults (words : List (List ℕ)) (holds : List ℕ → Option (List ℕ)) (shelf sink : CountChange)
    (before now : List ℕ)
    (status : ℕ) : Type 0 where
  -- the shelf failed, and nothing was written
  pub shelf_fault : status ≡ SHELF_FAULT → Rose shelf.before shelf.now × (now ≡ before)
  -- the sink failed, and the front of a reply was written
  pub sink_fault :
      status ≡ SINK_FAULT
      → Rose sink.before sink.now × ((reply : Reply) × IsReply words holds reply
      × AppendsFront before (text_of reply) now)
  -- there was no memory, and nothing was written
  pub no_memory : status ≡ NO_MEMORY → now ≡ before
  -- where neither count rises, there was no memory and nothing was written, or the whole reply was
  pub whole :
      ¬ (Rose shelf.before shelf.now) → ¬ (Rose sink.before sink.now)
      → ((status ≡ NO_MEMORY) × (now ≡ before))
      ⊎ ((reply : Reply) × IsReply words holds reply × (status ≡ status_of reply)
      × (now ≡ before ++ text_of reply))
  pub sink_faults : sink.before ≤ sink.now
