-- What phrases may be made into: formulas, which they mean, or anything else that has such parts.
use Rattle.std.specs.Prelude.{ℕ, ℤ, pos, neg_ℤ, int_le, Bool, true, false, List}
use Rattle.ot_model.specs.declared.op.Kind.{Kind}
use Rattle.fn_rules.specs.declared.guard.Sort.{Sort}
use Rattle.fn_rules.specs.declared.guard.Sort.TheVariants.{Pos, Site, Char}
use Rattle.fn_rules.specs.declared.guard.Side.{Side}
use Rattle.fn_rules.specs.declared.guard.Side.TheVariants.{First, Second}
use Rattle.fn_rules.specs.declared.guard.Cmp.{Cmp}
use Rattle.fn_rules.specs.declared.guard.Tightness.{Tightness}
use Rattle.fn_rules.specs.declared.guard.Tightness.TheVariants.{Loose, Joined, Tight}
use Rattle.fn_rules.specs.declared.function.Res.{Res}
use Rattle.fn_rules.specs.declared.function.Res.TheVariants as results
use Rattle.fn_rules.specs.declared.limits.TheConstants.{MAX_OFFSET}
use Rattle.fn_rules.specs.Formulas.{Formula}
use Rattle.fn_rules.specs.Formulas as formulas
use Rattle.fn_rules.specs.Functions.{GuardedCase}
use Rattle.fn_rules.specs.Building.{PairCases}
use Rattle.fn_tokens.specs.declared.token.Sign.{Sign}
use Rattle.fn_tokens.specs.declared.token.Sign.TheVariants as signs
use Rattle.fn_tokens.specs.declared.control.Written.{Written}
use Rattle.fn_tokens.specs.declared.control.Written.TheVariants as written

-- the number may stand behind `+` or `-`
abbrev pub is_offset_number : ℕ → Bool
is_offset_number n = int_le (pos n) MAX_OFFSET

-- the sort may be compared, in a block that may compare characters or may not
abbrev pub may_compare : Bool → Sort → Bool
may_compare chars Pos = true
may_compare chars Site = true
may_compare chars Char = chars

abbrev pub is_same_sort : Sort → Sort → Bool
is_same_sort Pos Pos = true
is_same_sort Site Site = true
is_same_sort Char Char = true
is_same_sort _ _ = false

abbrev pub is_same_side : Side → Side → Bool
is_same_side First First = true
is_same_side Second Second = true
is_same_side _ _ = false

-- how phrases, cases and blocks are made from their parts
pub record Maker (V : Tightness → Type 0) (K B : Type 0) : Type 0 where
  pub always : V Tight
  pub compared : Sort → Side → Cmp → V Tight
  pub shifted : Side → Cmp → Sign → ℕ → V Tight
  pub negated : V Tight → V Tight
  pub round : V Loose → V Tight
  pub one : V Tight → V Joined
  pub both : V Joined → V Tight → V Joined
  pub single : V Joined → V Loose
  pub either : V Loose → V Joined → V Loose
  pub cased : V Loose → Written → K
  pub blocked : Kind → Kind → List K → B

-- the offset that a sign and a number write
abbrev pub signed : Sign → ℕ → ℤ
signed signs.Plus n = pos n
signed signs.Minus n = neg_ℤ (pos n)

-- the result that is written so
abbrev pub res_of : Written → Res
res_of written.Nop = results.Nop
res_of (written.At side) = results.Keep side (pos 0)
res_of (written.Moved side sign n) = results.Keep side (signed sign n)

-- phrases of every kind are made into formulas
abbrev pub Formulas : Tightness → Type 0
Formulas _ = Formula

abbrev pub to_formulas : Maker Formulas GuardedCase PairCases
to_formulas = record {
  always = formulas.Always;
  compared = λ sort left cmp. formulas.Compare record { sort = sort; left = left; cmp = cmp; k = pos 0 };
  shifted = λ left cmp sign n. formulas.Compare record { sort = Pos; left = left; cmp = cmp; k = signed sign n };
  negated = λ g. formulas.Not g;
  round = λ g. g;
  one = λ g. g;
  both = λ g h. formulas.And g h;
  single = λ g. g;
  either = λ g h. formulas.Or g h;
  cased = λ g result. record { guard = g; res = res_of result };
  blocked = λ k l cases. record { first = k; second = l; cases = cases };
}
