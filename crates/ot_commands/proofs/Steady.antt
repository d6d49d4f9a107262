-- A reply that is refused before a session is run has another status than 1, and what words ask is what was read.
use Rattle.std.proofs.Common.{refl, ◌≡◌, ◌≢◌, ℕ, ◌<◌, List, Option, Some, Result, Ok, sym, ap, ◌∙◌, subst, inl, inr}
use Rattle.std.proofs.Common.{arith}
use Rattle.std.specs.Prelude.{IfSome}
use Rattle.fn_rules.specs.Functions.{Function}
use Rattle.fn_tokens.specs.declared.fault.TextFault.{TextFault}
use Rattle.fn_grammar.specs.Grammar.{IsTextOf}
use Rattle.fn_text.specs.Reading.{function_in}
use Rattle.ot_replies.specs.declared.reply.FileKind.{FileKind}
use Rattle.ot_replies.specs.declared.reply.FileKind.TheVariants as files
use Rattle.ot_replies.specs.declared.reply.Reply.{Reply}
use Rattle.ot_replies.specs.declared.reply.Reply.TheVariants.{FunctionRefused, TooLong}
use Rattle.ot_replies.specs.declared.reply.Subject.{Subject}
use Rattle.ot_words.specs.Words.{asked_by}
use Rattle.ot_words.specs.Commands.{Asked, Replay, Hub}
use Rattle.ot_replies.specs.Limits.{IsTooLong}
use Rattle.ot_commands.specs.Hub.{IsServed}
use Rattle.ot_commands.specs.Load.{IsFunctionRefusal, IsReadAs}
use Rattle.ot_commands.specs.Replay.{IsSteadyReplay}
use Rattle.ot_commands.specs.Steady.{AreSteady, IsSteadyReply}
use Rattle.ot_replies.specs.Texts.{status_of}

-- a reply of another status
named_so : (r named : Reply) (status : ℕ) → r ≡ named → status_of named ≡ status → 1 < status → status_of r ≢ 1
named_so r named status same says more is =
    let one : status ≡ 1 = sym says ∙ sym (ap (λ x. status_of x) same) ∙ is in absurd (omega (arith, one, more))

pub too_long-steady : (kind : FileKind) (told : Option (List ℕ)) (r : Reply) → IsTooLong kind told r → status_of r ≢ 1
too_long-steady kind told r h = named_so r (TooLong kind) 9 h.1 refl (omega arith)

pub function_refused-steady : (subject : Subject) (told : Option (List ℕ)) (r : Reply)
    → IsFunctionRefusal subject told r → status_of r ≢ 1
function_refused-steady subject told r (inl h) = too_long-steady files.Function told r h
function_refused-steady subject told r (inr h) = named_so r (FunctionRefused subject h.0) 3 h.2 refl (omega arith)

ok_is : (f g : Function) → ◌≡◌ {A = Result Function TextFault} (Ok f) (Ok g) → f ≡ g
ok_is f g same = cc

-- a file is read as one function
pub same_function :
    (told : Option (List ℕ)) (f g : Function) (bytes : List ℕ) → IsReadAs (Ok f) told → told ≡ Some bytes
    → function_in bytes ≡ Ok g
    → g ≡ f
same_function told f g bytes read is is_g = ok_is g f (sym is_g ∙ (read bytes is).1)

-- words that ask for a command have the reply of that command, which is steady
pub steady_asked : (words : List (List ℕ)) (holds : List ℕ → Option (List ℕ)) (r : Reply) (asked : Asked)
    → asked_by words ≡ Some asked
    → AreSteady words holds r → IsSteadyReply holds asked r
steady_asked words holds r asked named are =
    subst (λ (o : Option Asked). IfSome o (λ a. IsSteadyReply holds a r)) named are

-- what words ask has a status other than 1
pub steady :
    ((bytes : List ℕ) (f : Function) → IsTextOf bytes f → function_in bytes ≡ Ok f)
    → (words : List (List ℕ)) (holds : List ℕ → Option (List ℕ)) (r : Reply) → AreSteady words holds r
    → IsSteadyReplay words holds (status_of r)
steady read words holds r are name session bytes f named told text agrees =
    steady_asked words holds r (Replay name session) named are bytes f told (read bytes f text) agrees

pub served :
    ((bytes : List ℕ) (f : Function) → IsTextOf bytes f → function_in bytes ≡ Ok f)
    → (words : List (List ℕ)) (holds : List ℕ → Option (List ℕ)) (r : Reply) → AreSteady words holds r
    → IsServed words holds (status_of r)
served read words holds r are name hub bytes f named told text agrees =
    steady_asked words holds r (Hub name hub) named are bytes f told (read bytes f text) agrees
