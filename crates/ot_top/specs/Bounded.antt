-- What `least` and `bound` show of functions whose files are told.
use Rattle.std.specs.Prelude.{◌≡◌, ℕ, ◌<◌, ◌≤◌, Bool, true, false, if◌then◌else◌, is_ok, List, length, Option, Some}
use Rattle.std.specs.Prelude.{Result}
use Rattle.std.specs.Option.{ForSome}
use Rattle.fn_rules.specs.declared.function.Level.{Level}
use Rattle.fn_rules.specs.Functions.{Function}
use Rattle.fn_rules.specs.Properties.{HasTp1, HasTp2}
use Rattle.fn_grammar.specs.Grammar.{IsTextOf}
use Rattle.refusals.specs.declared.refusal.JudgeError.{JudgeError}
use Rattle.ot_counter.specs.declared.counter.Counter.{Counter}
use Rattle.ot_counter.specs.Counters.{Breaks, BreaksBy}
use Rattle.ot_least.specs.declared.short.Short.{Short}
use Rattle.ot_least.specs.declared.short.Short.TheVariants as shorts
use Rattle.ot_bound.specs.Judgements.{IsLowJudgement}
use Rattle.ot_bound.specs.Lows.{HasAt, IsLow}
use Rattle.ot_least.specs.Shortest.{IsBroken, IsBrokenAt, IsShort}
use Rattle.ot_replies.specs.declared.reply.FileKind.TheVariants as files
use Rattle.ot_replies.specs.declared.reply.Reply.{Reply}
use Rattle.ot_replies.specs.declared.reply.Reply.TheVariants.{AtLeast}
use Rattle.ot_replies.specs.AuditTexts.{spent_text}
use Rattle.ot_replies.specs.BoundTexts.{at_least_text, shortest_text, unbroken_text}
use Rattle.ot_replies.specs.Limits.{limit_of}
use Rattle.ot_words.specs.Commands.{Bound, Least}
use Rattle.ot_words.specs.Words.{asked_by, most_questions}
use Rattle.ot_commands.specs.Replies.{IsReplyTo}
use Rattle.ot_top.specs.Shown.{AreBothWays}

-- no document of fewer cells breaks the level's property: at level tp1 the first one, and at level tp2 the second one,
-- which says nothing of the first
abbrev pub HasBelow : Function → Level → ℕ → Type 0
HasBelow f level bound = (n : ℕ) → n < bound → HasAt f level n

-- the words ask to judge a certificate that no shorter document breaks a property; where the function's file is told,
-- it is the text of a function by the grammar, there is such a certificate of it at a level and a bound, which is the
-- second file where that is told, no document of fewer cells than the bound breaks the level's property, and the text
-- of both was written
abbrev pub IsBounded : List (List ℕ) → (List ℕ → Option (List ℕ)) → (List ℕ → Type 0) → Type 0
IsBounded words holds IsWritten =
    (name certificate_name bytes : List ℕ)
    → asked_by words ≡ Some (Bound name certificate_name) → holds name ≡ Some bytes
    → (f : Function) × (level : Level) × (bound : ℕ) × (certificate : List ℕ)
    × IsTextOf bytes f × IsLow certificate f level bound × ForSome (holds certificate_name) (λ told. certificate ≡ told)
    × HasBelow f level bound × IsWritten (at_least_text level bound)

-- the words ask to judge such a certificate; where both files are told and within their limits, and the first one is
-- the text of a function by the grammar, the second one has a judgement, whose status it is
abbrev pub IsBoundJudgedAs : List (List ℕ) → (List ℕ → Option (List ℕ)) → ℕ → Type 0
IsBoundJudgedAs words holds status =
    (name certificate_name bytes certificate : List ℕ) (f : Function)
    → asked_by words ≡ Some (Bound name certificate_name) → holds name ≡ Some bytes
    → holds certificate_name ≡ Some certificate
    → length bytes ≤ limit_of files.Function → IsTextOf bytes f
    → length certificate ≤ limit_of files.Certificate
    → (judgement : Result (Level × ℕ) JudgeError) × IsLowJudgement f certificate judgement
    × (status ≡ (if is_ok judgement then 0 else 2))

-- `bound` accepts: wherever a shelf tells these bytes of a function and of a certificate, every reply says the level
-- and the bound
abbrev pub IsBoundedAt : List ℕ → List ℕ → Level → ℕ → Type 0
IsBoundedAt bytes certificate level bound =
    (holds : List ℕ → Option (List ℕ)) (name certificate_name : List ℕ) (r : Reply)
    → holds name ≡ Some bytes → holds certificate_name ≡ Some certificate
    → IsReplyTo holds (Bound name certificate_name) r → r ≡ AtLeast level bound

-- a counterexample on a document of so many cells was written: the function breaks the property there, by the cause
-- that is written, the sides that are written are what the interpreter gives, and no document of fewer cells breaks the
-- property; where that is TP2, the function has TP1
abbrev pub IsShortestWritten : Function → ℕ → (List ℕ → Type 0) → Type 0
IsShortestWritten f cells IsWritten =
    (counter : Counter)
    × IsBroken f counter.level × (length counter.doc ≡ cells)
    × Breaks f counter.level counter.doc counter.ops × BreaksBy f counter.level counter.doc counter.ops counter.why
    × AreBothWays f counter.level counter.doc counter.ops counter.left counter.right
    × HasBelow f counter.level cells × IsWritten (shortest_text counter cells)

-- a certificate was written that keeps the limit of its file and that `bound` accepts: the function breaks the property
-- at operations on a document of so many cells, and on none of fewer
abbrev pub IsCertifiedWritten : Function → List ℕ → ℕ → (List ℕ → Type 0) → Type 0
IsCertifiedWritten f bytes cells IsWritten =
    (level : Level) × (certificate : List ℕ)
    × IsBroken f level × IsBrokenAt f level cells × HasBelow f level cells
    × IsLow certificate f level cells × (length certificate ≤ limit_of files.Certificate)
    × IsBoundedAt bytes certificate level cells × IsWritten certificate

-- what was written of the shortest documents, by whether a certificate is asked for
abbrev pub ShowsLeast : Function → List ℕ → Bool → ℕ → (List ℕ → Type 0) → Type 0
ShowsLeast f bytes true cells IsWritten = IsCertifiedWritten f bytes cells IsWritten
ShowsLeast f bytes false cells IsWritten = IsShortestWritten f cells IsWritten

-- what was written of the text of a function and the status, by what the search comes to; no document of a first
-- counterexample is too long
abbrev pub ShowsShort : Function → List ℕ → Bool → (List ℕ → Type 0) → ℕ → Short → Type 0
ShowsShort f bytes cert IsWritten status shorts.Fine = (status ≡ 0) × HasTp1 f × HasTp2 f × IsWritten unbroken_text
ShowsShort f bytes cert IsWritten status (shorts.Least ob answers why cells low) =
    (status ≡ 1) × ShowsLeast f bytes cert cells IsWritten
ShowsShort f bytes cert IsWritten status shorts.TooLong = ⊥
ShowsShort f bytes cert IsWritten status shorts.Spent = (status ≡ 8) × IsWritten spent_text

-- the words ask for the shortest document on which a function breaks a property; where its file is told, is within its
-- limit and is the text of a function by the grammar, what was written and the status are those of what the searches
-- come to by their questions: the status is 0, 1 or 8
abbrev pub IsSought : List (List ℕ) → (List ℕ → Option (List ℕ)) → (List ℕ → Type 0) → ℕ → Type 0
IsSought words holds IsWritten status =
    (cert : Bool) (name bytes : List ℕ) (f : Function)
    → asked_by words ≡ Some (Least cert name) → holds name ≡ Some bytes
    → length bytes ≤ limit_of files.Function → IsTextOf bytes f
    → (short : Short) × IsShort f most_questions short × ShowsShort f bytes cert IsWritten status short
