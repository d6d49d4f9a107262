-- Why an operation is not made at a site.
use Rattle.std.specs.Prelude.{◌≡◌, ◌≢◌, ℕ, length, Some}
use Rattle.ot_model.specs.declared.op.Op.{Op}
use Rattle.ot_model.specs.Operations.{kind_of, site_of}
use Rattle.ot_model.specs.Effect.{IsEnabled}
use Rattle.fn_rules.specs.Functions.{HasDeclaredKind}
use Rattle.ot_causal.specs.Sessions.{IsSite, MayMake}
use Rattle.ot_session.specs.declared.answer.Make.{Make}
use Rattle.ot_session.specs.declared.answer.Make.TheVariants.{NoSite, WrongSite, WrongKind, NotEnabled, Full, NoMemory}
use Rattle.ot_session.specs.declared.limits.TheConstants.{MAX_MADE}
use Rattle.ot_session.specs.Views.{View, data_in}

-- the operation passes the tests before this one, and not this one; want of memory is no test
abbrev pub HasRefused : View → ℕ → Op → Make → Type 0
HasRefused v t o NoSite = ¬ (IsSite (data_in v).sites t)
HasRefused v t o WrongSite = IsSite (data_in v).sites t × (site_of o ≢ Some t)
HasRefused v t o WrongKind =
    IsSite (data_in v).sites t × (site_of o ≡ Some t) × (¬ (HasDeclaredKind v.function.head (kind_of o)))
HasRefused v t o NotEnabled =
    IsSite (data_in v).sites t × (site_of o ≡ Some t) × HasDeclaredKind v.function.head (kind_of o)
    × (¬ (IsEnabled o (length ((data_in v).document t))))
HasRefused v t o Full = MayMake v.function (data_in v) t o × (length v.made ≡ MAX_MADE)
HasRefused v t o NoMemory = ⊥
