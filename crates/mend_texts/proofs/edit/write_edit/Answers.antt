-- What is assumed more has its own text.
use Rattle.std.proofs.Common.{◌≡◌, ◌++◌, OnOk, subst, sym}
use Rattle.fn_rules.specs.Rules.{function_of}
use Rattle.ot_mend.specs.declared.edit.Edit.{Edit}
use Rattle.mend_texts.specs.Texts.{edit_text}
use Rattle.mend_texts.proofs.edit.write_edit.Goals as goal

pub returns-in-AssumeSites : goal.returns-in-AssumeSites
returns-in-AssumeSites c =
    subst (λ (e : Edit). OnOk c.write_bytes.result
    (c.write_bytes.new.out.items ≡ c.args.out.now.items ++ edit_text (function_of c.args.rules.now) e))
    (sym c.in-AssumeSites.is) c.write_bytes.ensures

pub returns-in-AssumeChars : goal.returns-in-AssumeChars
returns-in-AssumeChars c =
    subst (λ (e : Edit). OnOk c.write_bytes-in-AssumeChars.result
    (c.write_bytes-in-AssumeChars.new.out.items ≡ c.args.out.now.items ++ edit_text (function_of c.args.rules.now) e))
    (sym c.in-AssumeChars.is) c.write_bytes-in-AssumeChars.ensures
