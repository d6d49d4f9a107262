use Rattle.std.proofs.Common.{◌≡◌, ℕ, Result, Ok, Err, refl, rules}
use Rattle.std.specs.Prelude.{OnOk}
use Rattle.ot_session.specs.declared.answer.Make.{Make}
use Rattle.ot_session.specs.Views.{View, view_of}
use Rattle.ot_session.proofs.Answered.{Answers, refused-answers, executed-answers}
use Rattle.ot_session.proofs.session.Session.make.Goals as goal

-- a fact that needs no answer
on_ok : (P : Type 0) (answer : Result ℕ Make) → P → OnOk answer P
on_ok P (Ok number) fact = fact
on_ok P (Err e) fact = tt

-- the operation does not pass a test
pub returns-in_err-test_make : goal.returns-in_err-test_make
returns-in_err-test_make c =
    let v : View = view_of c.args.self.now in
    let e : Make = c.in_err-test_make.field-0.0 in
    let same : c.from_residual.result ≡ Err e = search rules in
    let k : Answers v v c.args.site c.args.op c.from_residual.result =
    rw same (refused-answers v v c.args.site c.args.op e c.in_err-test_make.ensures.err refl) in
    record {
      made = rw same tt;
      passed = rw same tt;
      no_site = k.no_site;
      wrong_site = k.wrong_site;
      wrong_kind = k.wrong_kind;
      not_enabled = k.not_enabled;
      full = k.full;
      no_memory = k.no_memory;
      unchanged = k.unchanged;
      closed = k.closed;
    }

pub execute-requires-clause-may : goal.execute-requires-clause-may
execute-requires-clause-may c = c.in_ok-test_make.ensures.ok.0

pub execute-requires-clause-few : goal.execute-requires-clause-few
execute-requires-clause-few c = c.in_ok-test_make.ensures.ok.1

-- it passes them all
pub returns : goal.returns
returns c =
    let k = executed-answers (view_of c.args.self.now) (view_of c.execute.new.self) c.args.site c.args.op
    c.execute.result c.in_ok-test_make.ensures.ok.0 c.in_ok-test_make.ensures.ok.1 c.execute.ensures.lacked in
    record {
      made = c.execute.ensures.made;
      passed = on_ok _ c.execute.result c.in_ok-test_make.ensures.ok;
      no_site = k.no_site;
      wrong_site = k.wrong_site;
      wrong_kind = k.wrong_kind;
      not_enabled = k.not_enabled;
      full = k.full;
      no_memory = k.no_memory;
      unchanged = k.unchanged;
      closed = k.closed;
    }
