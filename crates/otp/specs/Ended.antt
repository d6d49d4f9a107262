-- How the program ends.
use Rattle.std.specs.Prelude.{◌≡◌, ℕ, List, [], Option}
use Rattle.ot_outside.specs.Machine.{machine_holds}
use Rattle.ot_outside.specs.Reads.{Reads, no_reads}
use Rattle.ot_commands.specs.Given.{TellsGivenOf}
use Rattle.ot_top.specs.Answers.{AnswersCommand, Faults, count_change}
use Rattle.ot_top.specs.Shows.{StatusShows}

-- the program answered the words with a status as `run` does, over files and a standard output that it alone used: what
-- its calls read of the files, what the standard output took of it, and how often each failed
pub record Ended (words : List (List ℕ)) (status : ℕ) : Type 0 where
  pub read : Reads
  pub took : List ℕ
  pub file_faults : ℕ
  pub output_faults : ℕ
  -- what was answered of the bytes that were read
  pub answered : AnswersCommand words machine_holds no_reads read (λ text. took ≡ text) status
  -- what the status and the text that was written show of them
  pub shows :
      (holds : List ℕ → Option (List ℕ)) → TellsGivenOf words no_reads read holds
      → StatusShows words holds (λ text. took ≡ text) status
  -- when the statuses of faults and of want of memory come
  pub faults : Faults words machine_holds (count_change 0 file_faults) (count_change 0 output_faults) [] took status
