-- What the clauses of making say of an answer, by the tests that the operation passed.
use Rattle.std.proofs.Common.{◌≡◌, ◌≢◌, ◌<◌, ℕ, length, Result, Ok, Err, Some, refl, sym, ap, subst}
use Rattle.std.specs.Prelude.{◌↔◌, IfErr}
use Rattle.ot_model.specs.declared.op.Op.{Op}
use Rattle.ot_model.specs.Operations.{kind_of, site_of}
use Rattle.ot_model.specs.Effect.{IsEnabled}
use Rattle.fn_rules.specs.Functions.{HasDeclaredKind}
use Rattle.ot_causal.specs.Sessions.{IsSite, MayMake}
use Rattle.ot_session.specs.declared.answer.Make.{Make}
use Rattle.ot_session.specs.declared.answer.Make.TheVariants.{NoSite, WrongSite, WrongKind, NotEnabled, Full, NoMemory}
use Rattle.ot_session.specs.declared.limits.TheConstants.{MAX_MADE}
use Rattle.ot_session.specs.Making.{HasRefused}
use Rattle.ot_session.specs.Views.{View, data_in, closed_session}

module _ (old new : View) (t : ℕ) (o : Op) where
  abbrev IsThere : Type 0
  IsThere = IsSite (data_in old).sites t

  abbrev IsDeclared : Type 0
  IsDeclared = HasDeclaredKind old.function.head (kind_of o)

  abbrev IsEnabledThere : Type 0
  IsEnabledThere = IsEnabled o (length ((data_in old).document t))

  abbrev May : Type 0
  May = MayMake old.function (data_in old) t o

  -- the clauses that speak of refusals
  pub record Answers (answer : Result ℕ Make) : Type 0 where
    pub no_site : (answer ≡ Err NoSite) ↔ (¬ IsThere)
    pub wrong_site : answer ≡ Err WrongSite → IsThere × (site_of o ≢ Some t)
    pub wrong_kind : answer ≡ Err WrongKind → IsThere × (site_of o ≡ Some t) × (¬ IsDeclared)
    pub not_enabled : answer ≡ Err NotEnabled → IsThere × (site_of o ≡ Some t) × IsDeclared × (¬ IsEnabledThere)
    pub full : answer ≡ Err Full → May × (length old.made ≡ MAX_MADE)
    pub no_memory : answer ≡ Err NoMemory → May × (length old.made < MAX_MADE)
    pub unchanged : IfErr answer (λ e. e ≢ NoMemory → new ≡ old)
    pub closed : answer ≡ Err NoMemory → new ≡ closed_session old

  -- the test that refused the operation is the one that is answered
  refused_as : (e x : Make) → HasRefused old t o e → ◌≡◌ {A = Result ℕ Make} (Err e) (Err x) → HasRefused old t o x
  refused_as e x refused is = let same : e ≡ x = cc in subst (λ (r : Make). HasRefused old t o r) same refused

  -- the first one, where there is no such site
  refused_nowhere : (e : Make) → HasRefused old t o e → ¬ IsThere → e ≡ NoSite
  refused_nowhere NoSite refused none = refl
  refused_nowhere WrongSite refused none = absurd (none refused.0)
  refused_nowhere WrongKind refused none = absurd (none refused.0)
  refused_nowhere NotEnabled refused none = absurd (none refused.0)
  refused_nowhere Full refused none = absurd (none refused.0.site)
  refused_nowhere NoMemory refused none = absurd refused

  pub refused-answers : (e : Make) → HasRefused old t o e → new ≡ old → Answers (Err e)
  refused-answers e refused same = record {
    no_site = (refused_as e NoSite refused, λ none. ap Err (refused_nowhere e refused none));
    wrong_site = refused_as e WrongSite refused;
    wrong_kind = refused_as e WrongKind refused;
    not_enabled = refused_as e NotEnabled refused;
    full = refused_as e Full refused;
    no_memory = λ is. absurd (refused_as e NoMemory refused is);
    unchanged = λ _. same;
    closed = λ is. absurd (refused_as e NoMemory refused is);
  }

  no_memory-answers : May → length old.made < MAX_MADE → new ≡ closed_session old → Answers (Err NoMemory)
  no_memory-answers may few same = record {
    no_site = (λ is. cc, λ none. absurd (none may.site));
    wrong_site = λ is. cc;
    wrong_kind = λ is. cc;
    not_enabled = λ is. cc;
    full = λ is. cc;
    no_memory = λ _. (may, few);
    unchanged = λ other. absurd (other refl);
    closed = λ _. same;
  }

  made-answers : (number : ℕ) → May → Answers (Ok number)
  made-answers number may = record {
    no_site = (λ is. cc, λ none. absurd (none may.site));
    wrong_site = λ is. cc;
    wrong_kind = λ is. cc;
    not_enabled = λ is. cc;
    full = λ is. cc;
    no_memory = λ is. cc;
    unchanged = tt;
    closed = λ is. cc;
  }

  -- what passed every test is made, or wanted memory
  pub executed-answers :
      (answer : Result ℕ Make) → May → length old.made < MAX_MADE
      → IfErr answer (λ e. (e ≡ NoMemory) × (new ≡ closed_session old))
      → Answers answer
  executed-answers (Ok number) may few lacked = made-answers number may
  executed-answers (Err e) may few lacked =
      subst (λ (x : Make). Answers (Err x)) (sym lacked.0) (no_memory-answers may few lacked.1)
