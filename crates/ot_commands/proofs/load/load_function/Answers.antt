-- What is read of the bytes is read of a file that holds them.
use Rattle.std.proofs.Common.{◌≡◌, ℕ, List, Option, Some, Result, Ok, IfOk, IfErr, sym, ◌∙◌}
use Rattle.std.specs.Option.{ForSome}
use Rattle.std.proofs.lemmas.Result.{IfErr-weaker, IfOk-at_ok, IfOk-weaker}
use Rattle.fn_rules.specs.declared.rules.Rules.{Rules}
use Rattle.fn_rules.specs.Rules.{function_of}
use Rattle.ot_replies.specs.declared.reply.FileKind.TheVariants as files
use Rattle.ot_replies.specs.declared.reply.Reply.{Reply}
use Rattle.ot_replies.specs.declared.reply.Subject.{Subject}
use Rattle.ot_commands.specs.Load.{Holds, IsFunctionRefusal, IsReadAs}
use Rattle.ot_commands.proofs.Given.{read_told, refusal_told}
use Rattle.ot_commands.proofs.load.load_function.Goals as goal

held : (told : Option (List ℕ)) (items bytes : List ℕ) → Holds files.Function items told → bytes ≡ items
    → ForSome told (λ b. b ≡ bytes)
held told items bytes holds is b known = sym (holds.1 b known) ∙ sym is

module _ {E : Type 0} (told : Option (List ℕ)) (items bytes : List ℕ)
    (holds : Holds files.Function items told) (is : bytes ≡ items)
    (called : Result (Result Rules Reply) E) where
  all_read :
      IfOk called (λ answer. IfOk answer (λ rules. IsReadAs (Ok (function_of rules)) (Some bytes)))
      → IfOk called (λ answer. IfOk answer (λ rules. IsReadAs (Ok (function_of rules)) told))
  all_read =
      IfOk-weaker called _ _
      (λ answer. IfOk-weaker answer _ _
      (λ rules. read_told told bytes (held told items bytes holds is) (Ok (function_of rules))))

  all_refused :
      (subject : Subject) → IfOk called (λ answer. IfErr answer (IsFunctionRefusal subject (Some bytes)))
      → IfOk called (λ answer. IfErr answer (IsFunctionRefusal subject told))
  all_refused subject =
      IfOk-weaker called _ _
      (λ answer. IfErr-weaker answer _ _ (λ r. refusal_told told bytes (held told items bytes holds is) subject r))

pub returns-in-Ok-clause-ok : goal.returns-in-Ok-clause-ok
returns-in-Ok-clause-ok g c =
    all_read (g.H.Shelf.holds c.args.shelf.now c.args.name.now) c.in-Ok.bytes.items c.deref.result.now (IfOk-at_ok _
    c.in-Ok.is c.in_ok-bytes.ensures.ok) c.deref.ensures.value c.function_in.result c.function_in.ensures.ok

pub returns-in-Ok-clause-given : goal.returns-in-Ok-clause-given
returns-in-Ok-clause-given g c =
    all_read (Some (g.H.Shelf.reads c.read_file.new.shelf).bytes) c.in-Ok.bytes.items c.deref.result.now (IfOk-at_ok _
    c.in-Ok.is c.in_ok-bytes.ensures.given) c.deref.ensures.value c.function_in.result c.function_in.ensures.ok

pub returns-in-Ok-clause-replied : goal.returns-in-Ok-clause-replied
returns-in-Ok-clause-replied g c =
    all_refused (g.H.Shelf.holds c.args.shelf.now c.args.name.now) c.in-Ok.bytes.items c.deref.result.now
    (IfOk-at_ok _ c.in-Ok.is c.in_ok-bytes.ensures.ok) c.deref.ensures.value
    c.function_in.result c.args.subject c.function_in.ensures.replied

pub returns-in-Ok-clause-given_replied : goal.returns-in-Ok-clause-given_replied
returns-in-Ok-clause-given_replied g c =
    all_refused (Some (g.H.Shelf.reads c.read_file.new.shelf).bytes) c.in-Ok.bytes.items c.deref.result.now
    (IfOk-at_ok _ c.in-Ok.is c.in_ok-bytes.ensures.given) c.deref.ensures.value
    c.function_in.result c.args.subject c.function_in.ensures.replied
