-- What is told of a file that is refused.
use Rattle.std.specs.Prelude.{◌≡◌, ℕ, List, Option, Some, None, option_map, Ok, Err}
use Rattle.fn_rules.specs.Functions.{Function}
use Rattle.fn_tokens.specs.declared.token.Token.{Token}
use Rattle.fn_tokens.specs.declared.fault.TextFault.{TextFault}
use Rattle.fn_tokens.specs.Faults.{fault_of}
use Rattle.fn_text.specs.declared.wrong.WrongToken.{WrongToken}
use Rattle.fn_text.specs.Reading.{function_in}
use Rattle.fn_text.specs.Wrong.{wrong_in}
use Rattle.fn_hints.specs.declared.hint.Hint.{Hint}
use Rattle.fn_hints.specs.declared.slip.Slip.{Slip}
use Rattle.fn_hints.specs.declared.standing.Numbers.{Numbers}
use Rattle.fn_hints.specs.Shown.{line_in, shown_line, mark_at}
use Rattle.fn_hints.specs.Slips.{slip_in}
use Rattle.fn_hints.specs.Standing.{tokens_at, numbers_at}

-- the line of the first wrong token as it is shown, how far the mark stands from its front, the fault, the slip, and
-- what may stand there
pub record HintParts : Type 0 where
  pub shown : List ℕ
  pub mark : ℕ
  pub fault : TextFault
  pub slip : Option Slip
  pub tokens : List Token
  pub numbers : Numbers

abbrev pub hint_of : Hint → HintParts
hint_of hint = record {
  shown = hint.shown.items;
  mark = hint.mark;
  fault = hint.fault;
  slip = hint.slip;
  tokens = hint.tokens.items;
  numbers = hint.numbers;
}

-- that of a wrong token, from the bytes of the file
abbrev pub hint_for : List ℕ → WrongToken → HintParts
hint_for bytes wrong = record {
  shown = shown_line wrong.at.column (line_in wrong.at.line bytes);
  mark = mark_at wrong.at.column;
  fault = fault_of wrong.control wrong.at;
  slip = slip_in wrong (line_in wrong.at.line bytes);
  tokens = tokens_at wrong;
  numbers = numbers_at wrong.control.want;
}

-- that of a file, none where each token can go on
abbrev pub hint_in : List ℕ → Option HintParts
hint_in bytes = option_map (λ wrong. hint_for bytes wrong) (wrong_in bytes)

-- a file that is refused has a hint of the fault for which it is refused
abbrev pub HasHintOf : TextFault → Option HintParts → Type 0
HasHintOf fault None = ⊥
HasHintOf fault (Some hint) = hint.fault ≡ fault

abbrev pub RefusedFilesHaveHints : Type 0
RefusedFilesHaveHints =
    (bytes : List ℕ) (fault : TextFault) → function_in bytes ≡ Err fault → HasHintOf fault (hint_in bytes)

-- and one that is read has none
abbrev pub ReadFilesHaveNone : Type 0
ReadFilesHaveNone = (bytes : List ℕ) (f : Function) → function_in bytes ≡ Ok f → hint_in bytes ≡ None
