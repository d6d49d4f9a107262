-- The facts of each command, and what follows from them: which reply it gets, in the order in which it is refused, and
-- which names it opens.
use Rattle.std.specs.Prelude.{◌≡◌, ℕ, List, Option, MatchOption}
use Rattle.ot_replies.specs.declared.reply.Reply.{Reply}
use Rattle.ot_replies.specs.declared.reply.Reply.TheVariants.{Usage}
use Rattle.ot_replies.specs.declared.reply.Subject.TheVariants.{First, Second}
use Rattle.ot_words.specs.Commands.{Asked, Prove, Settle, Check, Integrate, Replay, Hub, Audit, Same, Reverse, Least}
use Rattle.ot_words.specs.Commands.{Bound, Confirm, Template, Drill, Explain, Mend, Trace}
use Rattle.ot_words.specs.Words.{asked_by}
use Rattle.ot_commands.specs.Audit.{audit_facts}
use Rattle.ot_commands.specs.Bound.{bound_facts}
use Rattle.ot_commands.specs.Check.{check_facts}
use Rattle.ot_commands.specs.Confirm.{confirm_facts}
use Rattle.ot_commands.specs.Drill.{drill_facts}
use Rattle.ot_commands.specs.Explain.{explain_facts}
use Rattle.ot_commands.specs.Facts.{Facts, FunctionAnd, FunctionText, NoFile, OneFunction, Opens, TwoFunctions}
use Rattle.ot_commands.specs.Hub.{hub_facts}
use Rattle.ot_commands.specs.Integrate.{integrate_facts}
use Rattle.ot_commands.specs.Least.{least_facts}
use Rattle.ot_commands.specs.Load.{GoesOnBehind, IsReplyToFile, IsReplyToFunction}
use Rattle.ot_commands.specs.Mend.{mend_facts}
use Rattle.ot_commands.specs.Prove.{prove_facts}
use Rattle.ot_commands.specs.Replay.{replay_facts}
use Rattle.ot_commands.specs.Reverse.{reverse_facts}
use Rattle.ot_commands.specs.Same.{same_facts}
use Rattle.ot_commands.specs.Settle.{settle_facts}
use Rattle.ot_commands.specs.Template.{template_facts}
use Rattle.ot_commands.specs.Trace.{trace_facts}
use Rattle.ot_replies.specs.declared.reply.FileKind.TheVariants as files

-- the facts of each command
abbrev pub facts_of : Asked → Facts
facts_of (Prove level budget function) = prove_facts level budget function
facts_of (Settle level budget function) = settle_facts level budget function
facts_of (Mend level edits budget function) = mend_facts level edits budget function
facts_of (Explain level function) = explain_facts level function
facts_of (Check function certificate) = check_facts function certificate
facts_of (Integrate function case) = integrate_facts function case
facts_of (Replay function session) = replay_facts function session
facts_of (Hub function hub) = hub_facts function hub
facts_of (Trace events function file) = trace_facts events function file
facts_of (Audit function) = audit_facts function
facts_of (Same function other) = same_facts function other
facts_of (Reverse function other) = reverse_facts function other
facts_of (Least cert function) = least_facts cert function
facts_of (Bound function certificate) = bound_facts function certificate
facts_of (Confirm function proof) = confirm_facts function proof
facts_of (Template level head) = template_facts level head
facts_of (Drill number) = drill_facts number

-- In what follows `holds` says what each name holds.

-- the reply to what is opened: that to a function's file which is refused, or else the one that the function gets
abbrev pub IsReplyToOpened : (List ℕ → Option (List ℕ)) → Opens → Reply → Type 0
IsReplyToOpened holds (NoFile Gets) r = Gets r
IsReplyToOpened holds (OneFunction function Gets) r = IsReplyToFunction First (holds function) (λ f. Gets f r) r
IsReplyToOpened holds (FunctionText function Gets) r =
    IsReplyToFile files.Function (holds function) (λ bytes. Gets bytes r) r
IsReplyToOpened holds (FunctionAnd function other Gets) r =
    IsReplyToFunction First (holds function) (λ f. Gets f (holds other) r) r
IsReplyToOpened holds (TwoFunctions function other Gets) r =
    IsReplyToFunction First (holds function) (λ f. IsReplyToFunction Second (holds other) (λ g. Gets f g r) r) r

-- the reply to a command
abbrev pub IsReplyTo : (List ℕ → Option (List ℕ)) → Asked → Reply → Type 0
IsReplyTo holds asked r = IsReplyToOpened holds (facts_of asked).opens r

-- the reply to words
abbrev pub IsReply : List (List ℕ) → (List ℕ → Option (List ℕ)) → Reply → Type 0
IsReply words holds r = MatchOption (asked_by words) (r ≡ Usage) (λ asked. IsReplyTo holds asked r)

-- the names that are opened are on offer: the first, and the second one where the command goes on to it
abbrev pub AreOfferedToOpen : (List ℕ → Option (List ℕ)) → (List ℕ → Type 0) → Opens → Type 0
AreOfferedToOpen holds Offered (NoFile Gets) = Unit {0}
AreOfferedToOpen holds Offered (OneFunction function Gets) = Offered function
AreOfferedToOpen holds Offered (FunctionText function Gets) = Offered function
AreOfferedToOpen holds Offered (FunctionAnd function other Gets) = Offered function
    × (GoesOnBehind (holds function) → Offered other)
AreOfferedToOpen holds Offered (TwoFunctions function other Gets) = Offered function
    × (GoesOnBehind (holds function) → Offered other)

-- the names that a command opens are on offer
abbrev pub AreOffered : (List ℕ → Option (List ℕ)) → (List ℕ → Type 0) → Asked → Type 0
AreOffered holds Offered asked = AreOfferedToOpen holds Offered (facts_of asked).opens
