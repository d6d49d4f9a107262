-- What words ask for: a command, with the names of its files.
use Rattle.std.specs.Prelude.{ℕ, Bool, List}
use Rattle.fn_rules.specs.declared.function.Head.{Head}
use Rattle.fn_rules.specs.declared.function.Level.{Level}
use Rattle.ot_words.specs.declared.command.Command.{Command}
use Rattle.ot_words.specs.declared.command.Command.TheVariants as rust
use Rattle.ot_words.specs.declared.command.TraceKind.{TraceKind}

pub data Asked : Type 0 where
  -- at a level, by so many questions at the most, of a function's file: the function is proved, or refuted
  Prove : Level → ℕ → List ℕ → Asked
  -- the same, by a proof with lemmas
  Settle : Level → ℕ → List ℕ → Asked
  -- at a level, by so many edits at the most, where no number of edits leads to more functions than this budget, of a
  -- function's file: the fewest edits are looked for that make the function right
  Mend : Level → ℕ → ℕ → List ℕ → Asked
  -- at a level, of a function's file: why the function has what the level says, or where it breaks it
  Explain : Level → List ℕ → Asked
  -- of a function's file and a certificate's file: the certificate is judged
  Check : List ℕ → List ℕ → Asked
  -- of a function's file and a case's file: the operations are integrated
  Integrate : List ℕ → List ℕ → Asked
  -- of a function's file and a session's file: the events are run
  Replay : List ℕ → List ℕ → Asked
  -- of a function's file and a hub's file: the events are run
  Hub : List ℕ → List ℕ → Asked
  -- of a function's file and another one, which holds a case, a session or a hub: what happens is told step by step
  Trace : TraceKind → List ℕ → List ℕ → Asked
  -- of a function's file: what its guards reach is looked for
  Audit : List ℕ → Asked
  -- of two functions' files: the functions are compared
  Same : List ℕ → List ℕ → Asked
  -- of two functions' files: whether the second one takes back what the first one makes
  Reverse : List ℕ → List ℕ → Asked
  -- of a function's file: the shortest document is looked for on which it breaks a property, and a certificate that
  -- none is shorter is asked for, or not
  Least : Bool → List ℕ → Asked
  -- of a function's file and a certificate's file: the certificate is judged, as one that no shorter document breaks a
  -- property
  Bound : List ℕ → List ℕ → Asked
  -- of a function's file and a proof's file: the proof with lemmas is judged
  Confirm : List ℕ → List ℕ → Asked
  -- a function of a head that has a level is printed
  Template : Level → Head → Asked
  -- the workload of a number is gone through
  Drill : ℕ → Asked

abbrev pub asked_of : Command → Asked
asked_of (rust.Prove level budget function) = Prove level budget function.now
asked_of (rust.Settle level budget function) = Settle level budget function.now
asked_of (rust.Mend level edits budget function) = Mend level edits budget function.now
asked_of (rust.Explain level function) = Explain level function.now
asked_of (rust.Check function certificate) = Check function.now certificate.now
asked_of (rust.Integrate function case) = Integrate function.now case.now
asked_of (rust.Replay function session) = Replay function.now session.now
asked_of (rust.Hub function hub) = Hub function.now hub.now
asked_of (rust.Trace events function file) = Trace events function.now file.now
asked_of (rust.Audit function) = Audit function.now
asked_of (rust.Same function other) = Same function.now other.now
asked_of (rust.Reverse function other) = Reverse function.now other.now
asked_of (rust.Least cert function) = Least cert function.now
asked_of (rust.Bound function certificate) = Bound function.now certificate.now
asked_of (rust.Confirm function proof) = Confirm function.now proof.now
asked_of (rust.Template level head) = Template level head
asked_of (rust.Drill number) = Drill number
