-- How the program ends where `run` answered over files and a standard output that were not used before.
use Rattle.std.proofs.Common.{◌≡◌, ◌++◌, ℕ, List, [], Option, sym, subst, inr}
use Rattle.ot_outside.specs.Machine.{machine_holds}
use Rattle.ot_outside.specs.Reads.{Reads, no_reads}
use Rattle.ot_commands.specs.Given.{TellsGivenOf}
use Rattle.ot_top.specs.Answers.{AnswersCommand, Faults, count_change}
use Rattle.ot_top.specs.Shows.{AreKnown, StatusShows}
use Rattle.otp.specs.Ended.{Ended}

pub ended :
    (words : List (List ℕ)) (old read : Reads) (before took : List ℕ)
    (files file_faults output output_faults status end : ℕ)
    → old ≡ no_reads → before ≡ [] → files ≡ 0 → output ≡ 0 → end ≡ status
    → AnswersCommand words machine_holds old read (λ text. took ≡ before ++ text) status
    → ((holds : List ℕ → Option (List ℕ)) → AreKnown words machine_holds old read holds
    → StatusShows words holds (λ text. took ≡ before ++ text) status)
    → Faults words machine_holds (count_change files file_faults) (count_change output output_faults) before took status
    → Ended words end
ended words old read before took files file_faults output output_faults status end unread untaken no_file_fault
    no_output_fault is answered shows faults =
    subst (λ (s : ℕ). Ended words s) (sym is)
    (record {
      read = read;
      took = took;
      file_faults = file_faults;
      output_faults = output_faults;
      answered =
          subst (λ (r : Reads). AnswersCommand words machine_holds r read (λ text. took ≡ text) status) unread
          (subst (λ (l : List ℕ). AnswersCommand words machine_holds old read (λ text. took ≡ l ++ text) status) untaken
          answered);
      shows =
          λ holds tells.
          subst (λ (l : List ℕ). StatusShows words holds (λ text. took ≡ l ++ text) status) untaken
          (shows holds (inr (subst (λ (r : Reads). TellsGivenOf words r read holds) (sym unread) tells)));
      faults =
          subst (λ (n : ℕ). Faults words machine_holds (count_change n file_faults) (count_change 0 output_faults) []
          took status) no_file_fault
          (subst (λ (n : ℕ). Faults words machine_holds (count_change files file_faults) (count_change n output_faults)
          [] took status) no_output_fault
          (subst (λ (l : List ℕ). Faults words machine_holds (count_change files file_faults)
          (count_change output output_faults) l took status) untaken faults));
    })
