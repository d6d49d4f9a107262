use Rattle.std.proofs.Common.{refl, arith}
use Rattle.std.proofs.lemmas.Bool.{false≢true}
use Rattle.fn_rules.specs.Rules.{function_of}
use Rattle.ot_causal.specs.Sessions.{MayMake}
use Rattle.ot_session.specs.Views.{data_in, view_of}
use Rattle.ot_session.proofs.session.Session.test_make.Goals.{After-len}
use Rattle.ot_session.proofs.session.Session.test_make.Goals as goal

-- the operation passes the tests before the last one
may : (c : After-len)
    → MayMake (function_of c.args.self.now.rules) (data_in (view_of c.args.self.now)) c.args.site c.args.op.now
may c = record {
  site = c.if-not-has_site.ensures.0 refl;
  own = c.if-not-is_made_at.ensures.0 refl;
  declared = c.if-not-has_declared_kind.ensures.0 refl;
  enabled = c.if-not-can_execute.ensures.0 refl;
}

pub returns-then-not-has_site-clause-err : goal.returns-then-not-has_site-clause-err
returns-then-not-has_site-clause-err c = λ is. false≢true (c.if-not-has_site.ensures.1 is)

pub returns-then-not-is_made_at-clause-err : goal.returns-then-not-is_made_at-clause-err
returns-then-not-is_made_at-clause-err c =
    (c.if-not-has_site.ensures.0 refl, λ is. false≢true (c.if-not-is_made_at.ensures.1 is))

pub returns-then-not-has_declared_kind-clause-err : goal.returns-then-not-has_declared_kind-clause-err
returns-then-not-has_declared_kind-clause-err c = (
  c.if-not-has_site.ensures.0 refl,
  c.if-not-is_made_at.ensures.0 refl,
  λ is. false≢true (c.if-not-has_declared_kind.ensures.1 is),
)

pub returns-then-not-can_execute-clause-err : goal.returns-then-not-can_execute-clause-err
returns-then-not-can_execute-clause-err c = (
  c.if-not-has_site.ensures.0 refl,
  c.if-not-is_made_at.ensures.0 refl,
  c.if-not-has_declared_kind.ensures.0 refl,
  λ is. false≢true (c.if-not-can_execute.ensures.1 is),
)

pub returns-then-len-eq-MAX_MADE-clause-err : goal.returns-then-len-eq-MAX_MADE-clause-err
returns-then-len-eq-MAX_MADE-clause-err c = (
  may (goal.at.returns-then-len-eq-MAX_MADE-clause-err c).After-len,
  omega (arith, c.if-len-eq-MAX_MADE.true, c.len.ensures, c.args.self.now.made.ok.0),
)

pub returns-clause-ok : goal.returns-clause-ok
returns-clause-ok c = (
  may (goal.at.returns-clause-ok c).After-len,
  omega (arith, c.args.self.now.few, c.if-len-eq-MAX_MADE.false, c.len.ensures, c.args.self.now.made.ok.0),
)
