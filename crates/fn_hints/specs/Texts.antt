-- The lines of a hint.
use Rattle.std.specs.Prelude.{ℕ, Bool, true, false, if◌then◌else◌, List, [], ◌∷◌, ◌++◌, codes, replicate, flat_map}
use Rattle.std.specs.Prelude.{Option, Some, None}
use Rattle.fn_tokens.specs.declared.token.Token.{Token}
use Rattle.fn_tokens.specs.declared.token.Token.TheVariants as kinds
use Rattle.fn_tokens.specs.declared.token.Word.TheVariants.{Kind}
use Rattle.fn_tokens.specs.Words.{spelling_of}
use Rattle.fn_tokens.specs.Spelling.{spelled}
use Rattle.fn_tokens.specs.declared.fault.FaultKind.{FaultKind}
use Rattle.fn_tokens.specs.declared.fault.FaultKind.TheVariants as faults
use Rattle.fn_hints.specs.declared.slip.Slip.{Slip}
use Rattle.fn_hints.specs.declared.slip.Slip.TheVariants as slips
use Rattle.fn_hints.specs.declared.standing.Numbers.{Numbers}
use Rattle.fn_hints.specs.declared.standing.Numbers.TheVariants.{NoNumber, OfLanguages, UpTo99}
use Rattle.fn_hints.specs.Hints.{HintParts}

-- a sentence for each cause
abbrev pub sentence_of : FaultKind → List ℕ
sentence_of faults.Byte = codes "No token begins with this byte."
sentence_of faults.Word = codes "The language has no such word."
sentence_of faults.Expected = codes "Something else must stand here."
sentence_of faults.Sort =
    codes "Two things of one sort are compared, one of each operation; only ins and upd have a character."
sentence_of faults.Offset = codes "The number behind + or - is at most 99."
sentence_of faults.Missing = codes "Each two declared kinds have a block before end."
sentence_of faults.Double = codes "These two kinds have a block already."
sentence_of faults.Kind = codes "This kind is not declared in the line kinds."
sentence_of faults.Cases = codes "A block has at most 64 cases."
sentence_of faults.Atoms = codes "A case has at most 16 comparisons and true."
sentence_of faults.Nesting = codes "At most 32 ( and not stand around one another."
sentence_of faults.Outcome = codes "A result is nop, or has the first kind of its block."
sentence_of faults.Version = codes "The languages are 1 and 2."

-- a sentence for each slip, in a line
abbrev pub slip_sentence : Slip → List ℕ
slip_sentence slips.Greater = codes "There is no >: write p1 > p2 the other way round, p2 < p1."
slip_sentence slips.GreaterEqual = codes "There is no >=: write p1 >= p2 the other way round, p2 <= p1."
slip_sentence slips.DoubledEquals = codes "Write one =, as in p1 = p2."
slip_sentence slips.NotEqual = codes "There is no !=: write not p1 = p2."
slip_sentence slips.Ampersands = codes "There is no &&: write and."
slip_sentence slips.Bars = codes "There is no ||: write or."
slip_sentence slips.SumOnTheLeft = codes "A sum stands on the right alone: write p1 + 1 <= p2 as p1 <= p2 - 1."
slip_sentence slips.LoneNumber = codes "A number stands behind + or - alone, as in p1 = p2 + 1."
slip_sentence (slips.MissingBlock k l) =
    codes "There is no block " ++ spelling_of (Kind k) ++ codes " " ++ spelling_of (Kind l) ++ codes "."

abbrev pub slip_line : Option Slip → List ℕ
slip_line None = []
slip_line (Some slip) = slip_sentence slip ++ 10 ∷ []

-- what may stand somewhere, each behind a space
abbrev pub token_name : Token → List ℕ
token_name kinds.LineEnd = codes "line-end"
token_name kinds.FileEnd = codes "file-end"
token_name token = spelled (token ∷ [])

abbrev pub spaced_name : Token → List ℕ
spaced_name token = codes " " ++ token_name token

abbrev pub number_names : Numbers → List ℕ
number_names NoNumber = []
number_names OfLanguages = codes " 1 2"
number_names UpTo99 = codes " 0..99"

abbrev pub is_nothing : List Token → Numbers → Bool
is_nothing [] NoNumber = true
is_nothing _ _ = false

abbrev pub standing_names : List Token → Numbers → List ℕ
standing_names tokens numbers =
    if is_nothing tokens numbers then codes " nothing" else flat_map spaced_name tokens ++ number_names numbers

-- the line of the file and a mark below it, a sentence of the cause, one of the slip, and what may stand there
abbrev pub shown_lines : List ℕ → ℕ → List ℕ
shown_lines shown mark =
    codes "  " ++ shown ++ 10 ∷ codes "  " ++ replicate mark 32 ++ codes "^" ++ 10 ∷ []

abbrev pub standing_line : List Token → Numbers → List ℕ
standing_line tokens numbers = codes "may stand:" ++ standing_names tokens numbers ++ 10 ∷ []

abbrev pub hint_text : HintParts → List ℕ
hint_text hint =
    shown_lines hint.shown hint.mark ++ (sentence_of hint.fault.kind ++ 10 ∷ []) ++ slip_line hint.slip
    ++ standing_line hint.tokens hint.numbers
