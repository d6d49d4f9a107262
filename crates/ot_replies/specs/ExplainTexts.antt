-- The lines that say why a function has the properties of a level, or where it breaks one. Texts are bytes; all but
-- those of documents and characters are ASCII.
use Rattle.std.specs.Prelude.{ℕ, List, [], ◌++◌, codes}
use Rattle.std.specs.Fmt.{decimal}
use Rattle.cert_text.specs.Spelling.{level_text}
use Rattle.fn_tokens.specs.declared.fault.TextFault.{TextFault}
use Rattle.fn_rules.specs.declared.function.Level.{Level}
use Rattle.fn_rules.specs.declared.function.Level.TheVariants.{Tp1, Tp2}
use Rattle.ot_counter.specs.declared.counter.Counter.{Counter}
use Rattle.ot_replies.specs.declared.reply.Attempt.{Attempt}
use Rattle.ot_replies.specs.declared.reply.Explanation.{Explanation}
use Rattle.ot_replies.specs.declared.reply.Explanation.TheVariants as explanations
use Rattle.ot_replies.specs.declared.reply.Ground.{Ground}
use Rattle.ot_replies.specs.declared.reply.Ground.TheVariants as grounds
use Rattle.ot_replies.specs.declared.reply.Subject.TheVariants.{First}
use Rattle.ot_replies.specs.declared.reply.Unsettled.{Unsettled}
use Rattle.ot_replies.specs.declared.reply.Unsettled.TheVariants as causes
use Rattle.ot_replies.specs.CounterTexts.{counter_text, line_of}
use Rattle.ot_replies.specs.FaultTexts.{text_fault_text}

-- the function has them, or breaks one, or nothing is said of it, or there is none
abbrev pub explanation_status : Explanation → ℕ
explanation_status (explanations.Holds level basis) = 0
explanation_status (explanations.Breaks counter steps) = 1
explanation_status (explanations.Open most attempt) = 8
explanation_status (explanations.Misread fault hint) = 3

-- how many questions the obligations ask, or how long the proof is that `settle` found
abbrev pub ground_text : Ground → List ℕ
ground_text (grounds.Questions n) = line_of (codes "questions " ++ decimal n)
ground_text (grounds.Proof n) = line_of (codes "settle: proof of " ++ decimal n ++ codes " bytes")

-- the level, and what shows it
abbrev pub holds_text : Level → Ground → List ℕ
holds_text level basis = line_of (codes "yes " ++ level_text level) ++ ground_text basis

-- where TP2 is broken, that TP1 holds
abbrev pub before_text : Level → List ℕ
before_text Tp1 = []
before_text Tp2 = line_of (codes "tp1 holds")

-- the lines of the counterexample, and behind them what became of the operations
abbrev pub breaks_text : Counter → List ℕ → List ℕ
breaks_text counter steps = before_text counter.level ++ counter_text counter ++ steps

-- why `settle` said nothing: how many questions it may ask, or how many bytes a proof may have, or that it found none
abbrev pub unsettled_text : Unsettled → List ℕ
unsettled_text (causes.Questions most) = line_of (codes "settle: " ++ decimal most ++ codes " questions")
unsettled_text (causes.Bytes most) = line_of (codes "settle: " ++ decimal most ++ codes " bytes")
unsettled_text causes.NoProof = line_of (codes "settle: no proof")

-- how far `settle` came: the questions that it asked, and asked again to write, and the bytes that were written
abbrev pub counts_text : ℕ → ℕ → ℕ → List ℕ
counts_text asked again bytes =
    line_of (codes "settle: asked " ++ decimal asked ++ codes ", again " ++ decimal again ++ codes ", bytes "
    ++ decimal bytes)

-- that nothing is said: how many questions `prove` may ask, why `settle` said nothing, and how far it came
abbrev pub open_text : ℕ → Attempt → List ℕ
open_text most attempt =
    line_of (codes "spent") ++ line_of (codes "prove: " ++ decimal most ++ codes " questions")
    ++ unsettled_text attempt.cause ++ counts_text attempt.asked attempt.again attempt.bytes

-- the line of the fault, and behind it what helps to mend it
abbrev pub misread_text : TextFault → List ℕ → List ℕ
misread_text fault hint = text_fault_text First fault ++ hint

abbrev pub explanation_text : Explanation → List ℕ
explanation_text (explanations.Holds level basis) = holds_text level basis
explanation_text (explanations.Breaks counter steps) = breaks_text counter steps
explanation_text (explanations.Open most attempt) = open_text most attempt
explanation_text (explanations.Misread fault hint) = misread_text fault hint
