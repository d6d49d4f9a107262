-- What the events of a session come to, and which reply tells it. Where a session is replayed under a function that
-- makes sites agree, no site is stuck and no two differ.
use Rattle.std.specs.Prelude.{◌≡◌, ◌≢◌, ℕ, ◌+◌, ◌<◌, ◌⊎◌, false, List, [], ◌∷◌, length, map, Option, Some}
use Rattle.std.specs.Prelude.{None, Result, Ok, Err}
use Rattle.ot_model.specs.declared.op.Op.{Op}
use Rattle.ot_model.specs.Effect.{IsEnabled}
use Rattle.ot_model.specs.Operations.{kind_of, site_of}
use Rattle.fn_rules.specs.Functions.{Function, HasDeclaredKind}
use Rattle.fn_rules.specs.Properties.{HasTp1, HasTp2}
use Rattle.fn_grammar.specs.Grammar.{IsTextOf}
use Rattle.case_json.specs.declared.fault.CaseFault.{CaseFault}
use Rattle.case_json.specs.declared.fault.CaseFault.TheVariants as faults
use Rattle.case_json.specs.declared.fault.Name.TheVariants as names
use Rattle.case_json.specs.declared.script.Event.{Event}
use Rattle.case_json.specs.declared.script.Event.TheVariants.{Make, Take}
use Rattle.case_json.specs.declared.script.Script.{Script}
use Rattle.case_json.specs.Scripts.{script_in}
use Rattle.ot_causal.specs.Members.{HaveOneSet}
use Rattle.ot_causal.specs.Sessions.{IsSite, MayMake}
use Rattle.ot_session.specs.declared.answer.Make.{Make as NotMade}
use Rattle.ot_session.specs.declared.answer.Make.TheVariants as makes
use Rattle.ot_session.specs.declared.answer.Take.{Take as NotTaken}
use Rattle.ot_session.specs.declared.answer.Take.TheVariants as takes
use Rattle.ot_session.specs.declared.answer.Took.{Took}
use Rattle.ot_session.specs.declared.ending.SiteEnd.{SiteEnd}
use Rattle.ot_session.specs.declared.limits.TheConstants.{MAX_MADE}
use Rattle.ot_session.specs.Sites.{site_end_of}
use Rattle.ot_session.specs.Views.{View, data_in, IsBegun, HasMade, HasTaken}
use Rattle.ot_replies.specs.declared.reply.EventFault.TheVariants as why
use Rattle.ot_replies.specs.declared.reply.FileKind.TheVariants as files
use Rattle.ot_replies.specs.declared.reply.Reply.{Reply}
use Rattle.ot_replies.specs.declared.reply.Reply.TheVariants.{Replayed, StuckAt, EventRefused, CaseRefused, Spent}
use Rattle.ot_words.specs.Commands.{Replay}
use Rattle.ot_words.specs.Words.{asked_by}
use Rattle.ot_commands.specs.Facts.{Facts, FunctionAnd, IsSteadyUnder}
use Rattle.ot_commands.specs.Load.{IsReplyToFile}
use Rattle.ot_commands.specs.Running.{RunsBy}

-- the sites have integrated the same operations and hold different documents
pub record SiteEndsDiffer (a b : SiteEnd) : Type 0 where
  pub sets : HaveOneSet a.seen b.seen
  pub documents : a.doc ≢ b.doc

-- of the sites from this number on, the first that differs from one
abbrev pub IsFirstOther : SiteEnd → ℕ → List SiteEnd → Option ℕ → Type 0
IsFirstOther one t [] found = found ≡ None
IsFirstOther one t (other ∷ others) found =
    (SiteEndsDiffer one other × (found ≡ Some t))
    ⊎ ((¬ (SiteEndsDiffer one other)) × IsFirstOther one (t + 1) others found)

-- of the sites from this number on, the first two that differ: by the lower number first, and then by the other
abbrev pub IsFirstPair : ℕ → List SiteEnd → Option (ℕ × ℕ) → Type 0
IsFirstPair s [] found = found ≡ None
IsFirstPair s (one ∷ others) found =
    ((t : ℕ) × IsFirstOther one (s + 1) others (Some t) × (found ≡ Some (s, t)))
    ⊎ (IsFirstOther one (s + 1) others None × IsFirstPair (s + 1) others found)

-- the reply to a session that was run to its end
abbrev pub TellsSites : View → Reply → Type 0
TellsSites v (Replayed ends differ) = (ends ≡ map site_end_of v.sites) × IsFirstPair 1 ends differ
TellsSites v r = ⊥

-- a site makes no operation for this reason, which is that of the first test that fails
abbrev pub CannotMake : View → ℕ → Op → NotMade → Type 0
CannotMake v t o makes.NoSite = ¬ (IsSite (data_in v).sites t)
CannotMake v t o makes.WrongSite = IsSite (data_in v).sites t × (site_of o ≢ Some t)
CannotMake v t o makes.WrongKind =
    IsSite (data_in v).sites t × (site_of o ≡ Some t) × (¬ (HasDeclaredKind v.function.head (kind_of o)))
CannotMake v t o makes.NotEnabled =
    IsSite (data_in v).sites t × (site_of o ≡ Some t) × HasDeclaredKind v.function.head (kind_of o)
    × (¬ (IsEnabled o (length ((data_in v).document t))))
CannotMake v t o makes.Full = MayMake v.function (data_in v) t o × (length v.made ≡ MAX_MADE)
CannotMake v t o makes.NoMemory = ⊥

-- the reply to an operation that is not made, in the event with this number
abbrev pub TellsNotMade : ℕ → NotMade → Reply → Type 0
TellsNotMade i makes.NoSite r = r ≡ EventRefused i why.Site
TellsNotMade i makes.WrongSite r = r ≡ EventRefused i why.Owner
TellsNotMade i makes.WrongKind r = r ≡ EventRefused i why.Kind
TellsNotMade i makes.NotEnabled r = r ≡ EventRefused i why.Enabled
TellsNotMade i makes.Full r = r ≡ CaseRefused (faults.Limit names.Ops)
TellsNotMade i makes.NoMemory r = ⊥

-- the reply to an operation that is not taken
abbrev pub TellsNotTaken : ℕ → NotTaken → Reply → Type 0
TellsNotTaken i takes.NoSite r = r ≡ EventRefused i why.Site
TellsNotTaken i takes.NoOp r = r ≡ EventRefused i why.Number
TellsNotTaken i (takes.Stuck o) r = r ≡ StuckAt i
TellsNotTaken i takes.Spent r = r ≡ Spent
TellsNotTaken i takes.NoMemory r = ⊥

-- the event is refused, and gets this reply
abbrev pub IsRefusedEvent : View → ℕ → Event → Reply → Type 0
IsRefusedEvent v i (Make site op) r = (reason : NotMade) × CannotMake v site op reason × TellsNotMade i reason r
IsRefusedEvent v i (Take site number) r = (reason : NotTaken) × (new : View) × HasTaken v new site number (Err reason)
    × TellsNotTaken i reason r

-- the event is done
abbrev pub IsDone : View → Event → View → Type 0
IsDone v (Make site op) new =
    (number : ℕ) × HasMade v new site op number × MayMake v.function (data_in v) site op × (length v.made < MAX_MADE)
IsDone v (Take site number) new = (took : Took) × HasTaken v new site number (Ok took)

-- what events come to, of which the first has this number
abbrev pub Runs : View → ℕ → List Event → Reply → Type 0
Runs v i events r = RunsBy TellsSites IsRefusedEvent IsDone v i events r

-- the reply to what a session's file is read as: its first fault, or what its events come to from a new session on
abbrev pub IsReplyToScript : Function → Result Script CaseFault → Reply → Type 0
IsReplyToScript f (Err fault) r = r ≡ CaseRefused fault
IsReplyToScript f (Ok script) r = (v : View) × IsBegun f script.doc script.sites v × Runs v 0 script.events r

unfoldable pub IsReplyToSession : Function → List ℕ → Reply → Type 0
IsReplyToSession f bytes r = IsReplyToScript f (script_in bytes) r

-- the reply to a session's file
abbrev pub IsReplyToSessionFile : Function → Option (List ℕ) → Reply → Type 0
IsReplyToSessionFile f told r = IsReplyToFile files.Case told (λ bytes. IsReplyToSession f bytes r) r

-- the function has both properties and does not assume that characters differ
pub record MakesSitesAgree (f : Function) : Type 0 where
  pub tp1 : HasTp1 f
  pub tp2 : HasTp2 f
  pub chars : f.head.chars_differ ≡ false

-- the facts of the command; under a function that makes sites agree its status is not 1
abbrev pub replay_facts : List ℕ → List ℕ → Facts
replay_facts function session = record {
  opens = FunctionAnd function session IsReplyToSessionFile;
  steady = IsSteadyUnder MakesSitesAgree function;
}

-- the words ask to replay a session; where the function's file is told and is the text of a function that makes sites
-- agree, the status is not 1
abbrev pub IsSteadyReplay : List (List ℕ) → (List ℕ → Option (List ℕ)) → ℕ → Type 0
IsSteadyReplay words holds status =
    (name session bytes : List ℕ) (f : Function)
    → asked_by words ≡ Some (Replay name session) → holds name ≡ Some bytes
    → IsTextOf bytes f → MakesSitesAgree f → status ≢ 1
