-- What the statuses of `confirm` show of a function whose file is told.
use Rattle.std.specs.Prelude.{◌≡◌, ℕ, ◌≤◌, if◌then◌else◌, is_ok, List, length, Option, Some, Ok}
use Rattle.std.specs.Option.{ForSome}
use Rattle.fn_rules.specs.declared.function.Level.{Level}
use Rattle.fn_rules.specs.Functions.{Function}
use Rattle.fn_grammar.specs.Grammar.{IsTextOf}
use Rattle.ot_confirm.specs.Judgement.{judgement_of}
use Rattle.ot_replies.specs.declared.reply.FileKind.TheVariants as files
use Rattle.ot_replies.specs.LevelTexts.{confirmed_text}
use Rattle.ot_replies.specs.Limits.{limit_of}
use Rattle.ot_top.specs.Shown.{HasLevel}
use Rattle.ot_words.specs.Commands.{Confirm}
use Rattle.ot_words.specs.Words.{asked_by}

-- the words ask to judge a proof with lemmas; where the function's file is told, it is the text of a function by the
-- grammar, there are bytes that are judged as a proof of it at a level, which are the second file where that is told,
-- the function has what the level says, and the text of the level was written
abbrev pub IsConfirmed : List (List ℕ) → (List ℕ → Option (List ℕ)) → (List ℕ → Type 0) → Type 0
IsConfirmed words holds IsWritten =
    (name proof_name bytes : List ℕ)
    → asked_by words ≡ Some (Confirm name proof_name) → holds name ≡ Some bytes
    → (f : Function) × (level : Level) × (proof : List ℕ)
    × IsTextOf bytes f × (judgement_of f proof ≡ Ok level) × ForSome (holds proof_name) (λ told. proof ≡ told)
    × HasLevel f level × IsWritten (confirmed_text level)

-- the words ask to judge a proof with lemmas; where both files are told and within their limits, and the first one is
-- the text of a function by the grammar, the status is that of the one judgement of the second one
abbrev pub IsConfirmJudgedAs : List (List ℕ) → (List ℕ → Option (List ℕ)) → ℕ → Type 0
IsConfirmJudgedAs words holds status =
    (name proof_name bytes proof : List ℕ) (f : Function)
    → asked_by words ≡ Some (Confirm name proof_name) → holds name ≡ Some bytes → holds proof_name ≡ Some proof
    → length bytes ≤ limit_of files.Function → IsTextOf bytes f
    → length proof ≤ limit_of files.Proof → status ≡ (if is_ok (judgement_of f proof) then 0 else 2)
