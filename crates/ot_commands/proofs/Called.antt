-- What the reply of a last call is, after the files of a command: of what the
-- shelf tells of them, and of what its calls gave.
use Rattle.std.proofs.Common.{◌≡◌, ◌≢◌, ◌≤◌, ℕ, List, Option, Some, Result, Ok, Err, IfOk, is_ok, inl, inr, ap, subst}
use Rattle.std.proofs.Common.{arith}
use Rattle.std.specs.Option.{ForSome}
use Rattle.std.proofs.lemmas.Result.{IfOk-at_ok, IfOk-weaker}
use Rattle.fn_rules.specs.Functions.{Function}
use Rattle.fn_tokens.specs.declared.fault.TextFault.{TextFault}
use Rattle.ot_outside.specs.Faults.{Rose}
use Rattle.ot_outside.specs.Reads.{Reads, after_reading}
use Rattle.ot_replies.specs.declared.reply.FileKind.{FileKind}
use Rattle.ot_replies.specs.declared.reply.Reply.{Reply}
use Rattle.ot_replies.specs.declared.reply.Subject.{Subject}
use Rattle.ot_replies.specs.declared.reply.Subject.TheVariants.{First}
use Rattle.ot_replies.specs.Texts.{status_of}
use Rattle.ot_commands.specs.Facts.{FunctionAnd, FunctionText, IsSteadyUnder, NothingMore, OneFunction, Opens}
use Rattle.ot_replies.specs.declared.reply.FileKind.TheVariants as files
use Rattle.ot_commands.specs.Given.{ForTold, IsReadFirst, IsReplyOfOpened}
use Rattle.ot_commands.specs.Load.{GoesOnBehind, Holds, IsFunctionRefusal, IsReadAs, IsReplyToFile, IsReplyToFunction}
use Rattle.ot_commands.proofs.Given.{bytes_told, first_behind, have_read_both, known_first, known_second, read_told}
use Rattle.ot_commands.proofs.Given.{refusal_told}
use Rattle.ot_commands.proofs.Steady.{function_refused-steady, same_function}

-- a command goes on behind a function that is read
pub goes_on : (told : Option (List ℕ)) (f : Function) → IsReadAs (Ok f) told → GoesOnBehind told
goes_on told f read contents known = let is = read contents known in
    (is.0, ap (λ (r : Result Function TextFault). is_ok r) is.1)

-- a fault of the second of two calls
pub rose_on : (one two three : ℕ) → one ≤ two → Rose two three → Rose one three
rose_on one two three more rose = omega arith

-- a function is read of a file, and gets the reply of a call that the last one passes on
module _ {E F : Type 0} (subject : Subject) (f : Function) (Gets : Function → Reply → Type 0) (got : Result Reply E)
    (called : Result Reply F) (gets : IfOk got (Gets f)) (are : IfOk called (λ r. got ≡ Ok r)) where
  pub function_replies : (told : Option (List ℕ)) → IsReadAs (Ok f) told
      → IfOk called (λ r. IsReplyToFunction subject told (λ g. Gets g r) r)
  function_replies told read =
      IfOk-weaker called (λ r. got ≡ Ok r) (λ r. IsReplyToFunction subject told (λ g. Gets g r) r)
      (λ r same. inr (f, read, IfOk-at_ok (Gets f) same gets)) are

  pub function_told :
      (given : List ℕ) → IsReadAs (Ok f) (Some given)
      → IfOk called (λ r. ForTold given (λ told. IsReplyToFunction subject told (λ g. Gets g r) r))
  function_told given read =
      IfOk-weaker called (λ r. got ≡ Ok r)
      (λ r. ForTold given (λ told. IsReplyToFunction subject told (λ g. Gets g r) r))
      (λ r same told agrees. inr (f, read_told told given agrees (Ok f) read, IfOk-at_ok (Gets f) same gets)) are

-- the same of the bytes of another file
module _ {E F : Type 0} (kind : FileKind) (bytes now : List ℕ) (is : now ≡ bytes) (Gets : List ℕ → Reply
    → Type 0) (got : Result Reply E)
    (called : Result Reply F) (gets : IfOk got (Gets now)) (are : IfOk called (λ r. got ≡ Ok r)) where
  got_there : (r : Reply) → got ≡ Ok r → Gets bytes r
  got_there r same = subst (λ (b : List ℕ). Gets b r) is (IfOk-at_ok (Gets now) same gets)

  pub file_replies : (told : Option (List ℕ)) → Holds kind bytes told
      → IfOk called (λ r. IsReplyToFile kind told (λ b. Gets b r) r)
  file_replies told holds =
      IfOk-weaker called (λ r. got ≡ Ok r) (λ r. IsReplyToFile kind told (λ b. Gets b r) r)
      (λ r same. inr (bytes, holds, got_there r same)) are

  pub file_told :
      (given : List ℕ) → Holds kind bytes (Some given)
      → IfOk called (λ r. ForTold given (λ told. IsReplyToFile kind told (λ b. Gets b r) r))
  file_told given holds =
      IfOk-weaker called (λ r. got ≡ Ok r) (λ r. ForTold given (λ told. IsReplyToFile kind told (λ b. Gets b r) r))
      (λ r same told agrees. inr (bytes, bytes_told told given agrees kind bytes holds, got_there r same)) are

-- a function's file that is refused, whatever is told of it
pub refused_told :
    (subject : Subject) (given : List ℕ) (r : Reply) (Gets : Function → Type 0)
    → IsFunctionRefusal subject (Some given) r
    → ForTold given (λ told. IsReplyToFunction subject told Gets r)
refused_told subject given r Gets refused told agrees = inl (refusal_told told given agrees subject r refused)

-- the reply to the bytes that calls gave of the one file of a command
pub one_given :
    (old new : Reads) (name : List ℕ) (Gets : Function → Reply → Type 0)
    → new ≡ after_reading name new.bytes old → (r : Reply)
    → ForTold new.bytes (λ told. IsReplyToFunction First told (λ f. Gets f r) r)
    → IsReplyOfOpened old new (OneFunction name Gets) NothingMore r
one_given old new name Gets opened r replies = (
  opened,
  λ holds tells. (replies (holds name) (known_first old new name new.bytes (holds name) (inl opened) tells), tt),
)

-- the same, where it is the bytes that get a reply
pub text_given :
    (old new : Reads) (name : List ℕ) (Gets : List ℕ → Reply → Type 0)
    → new ≡ after_reading name new.bytes old → (r : Reply)
    → ForTold new.bytes (λ told. IsReplyToFile files.Function told (λ b. Gets b r) r)
    → IsReplyOfOpened old new (FunctionText name Gets) NothingMore r
text_given old new name Gets opened r replies = (
  opened,
  λ holds tells. (replies (holds name) (known_first old new name new.bytes (holds name) (inl opened) tells), tt),
)

module _ {E : Type 0} (Gets : Function → Option (List ℕ) → Reply → Type 0) (f : Function)
    (called : Result Reply E) where
  -- the function's file is told first, and the shelf holds the same of the other one when it is opened
  pub then_replies :
      (first before now : Option (List ℕ)) → now ≡ before → IsReadAs (Ok f) first → IfOk called (Gets f now)
      → IfOk called (λ r. IsReplyToFunction First first (λ g. Gets g before r) r)
  then_replies first before now same read gets =
      IfOk-weaker called (Gets f now) (λ r. IsReplyToFunction First first (λ g. Gets g before r) r)
      (λ r got. inr (f, read, subst (λ (told : Option (List ℕ)). Gets f told r) same got)) gets

-- where sites or clients agree under a function, the status is not 1
pub steady_replies :
    {E : Type 0} (Agrees : Function → Type 0) (f : Function) (name : List ℕ) (holds : List ℕ → Option (List ℕ))
    → IsReadAs (Ok f) (holds name)
    → (called : Result Reply E) → (Agrees f → IfOk called (λ r. status_of r ≢ 1))
    → IfOk called (IsSteadyUnder Agrees name holds)
steady_replies Agrees f name holds read (Ok r) steady =
    λ bytes g told text agree.
    steady (subst (λ (h : Function). Agrees h) (same_function (holds name) f g bytes read told text) agree)
steady_replies Agrees f name holds read (Err e) steady = tt

-- the reply to what calls gave of both files of a command
module _ (Gets : Function → Option (List ℕ) → Reply → Type 0) (Agrees : Function → Type 0) (first second : List ℕ) where
  -- the function's file is refused
  pub refused_given :
      (old new : Reads) → new ≡ after_reading first new.bytes old → (r : Reply)
      → IsFunctionRefusal First (Some new.bytes) r
      → IsReplyOfOpened old new (FunctionAnd first second Gets) (IsSteadyUnder Agrees first) r
  refused_given old new opened r refused = (
    (new.bytes, inl opened),
    λ holds tells. (
      refused_told First new.bytes r (λ f. Gets f (holds second) r) refused (holds first)
          (known_first old new first new.bytes (holds first) (inl opened) tells.0),
      λ bytes f told text agree. function_refused-steady First (Some new.bytes) r refused,
    ),
  )

  -- it is read, and the other one is opened
  module _ (old mid new : Reads) (opened : mid ≡ after_reading first mid.bytes old)
      (behind : new ≡ after_reading second new.bytes mid)
      (f : Function) (read : IsReadAs (Ok f) (Some mid.bytes)) where
    known_function : (told : Option (List ℕ)) → ForSome told (IsReadFirst old new first) → IsReadAs (Ok f) told
    known_function told tells =
        read_told told mid.bytes
        (known_first old new first mid.bytes told
        (first_behind old mid new first mid.bytes second new.bytes opened behind) tells) (Ok f) read

    -- what a call answers over both files is the reply to them, and never 1 where what it has to agree on holds
    pub both_given :
        {E : Type 0} (called : Result Reply E) → IfOk called (λ r. ForTold new.bytes (λ told. Gets f told r))
        → (Agrees f → IfOk called (λ r. status_of r ≢ 1))
        → IfOk called (IsReplyOfOpened old new (FunctionAnd first second Gets) (IsSteadyUnder Agrees first))
    both_given {E = E} (Ok r) gets steady = (
      have_read_both old mid new first second opened behind,
      λ holds tells.
          let known = known_function (holds first) tells.0 in (
            inr (
              f,
              known,
              gets (holds second)
                  (known_second old mid new first mid.bytes second new.bytes (holds second) opened behind tells.1),
            ),
            steady_replies {E = E} Agrees f first holds known (Ok r) steady,
          ),
    )
    both_given (Err e) gets steady = tt

-- where nothing more is said of the status, that is all
pub nothing_more :
    {E : Type 0} (old new : Reads) (opens : Opens) (steady : (List ℕ → Option (List ℕ)) → Reply → Type 0)
    (called : Result Reply E)
    → IfOk called (IsReplyOfOpened old new opens steady) → IfOk called (IsReplyOfOpened old new opens NothingMore)
nothing_more old new opens steady called replies =
    IfOk-weaker called (IsReplyOfOpened old new opens steady) (IsReplyOfOpened old new opens NothingMore)
    (λ r is. (is.0, λ holds tells. ((is.1 holds tells).0, tt))) replies
