-- What an operation becomes when another one, made on the same document, was executed before it.
use Rattle.std.specs.Prelude.{◌≡◌, ◌≢◌, ℕ, ◌+ℤ◌, Bool, true, not, ◌&&◌, ◌||◌, nat_eq, if◌then◌else◌, List, [], ◌∷◌}
use Rattle.std.specs.Prelude.{Option, Some, None}
use Rattle.ot_model.specs.declared.op.Op.{Op}
use Rattle.ot_model.specs.declared.op.Op.TheVariants.{Nop}
use Rattle.ot_model.specs.declared.op.Kind.{Kind}
use Rattle.ot_model.specs.Operations.{kind_of, at_of, site_of, char_of, placed}
use Rattle.fn_rules.specs.declared.function.Res.{Res}
use Rattle.fn_rules.specs.declared.function.Res.TheVariants as results
use Rattle.fn_rules.specs.Formulas.{of_side, holds_of}
use Rattle.fn_rules.specs.Functions.{Function, GuardedCase, cases_of}

-- what a result makes of the first operation
abbrev pub result_of : Res → Op → Op → Op
result_of (results.Keep base k) a b = placed a (at_of (of_side base a b) +ℤ k)
result_of results.Nop a b = Nop

-- the result of the first case whose guard is true, or none where no guard is
abbrev pub first_result : List GuardedCase → Op → Op → Option Op
first_result [] a b = None
first_result (c ∷ cs) a b = if holds_of c.guard a b then Some (result_of c.res a b) else first_result cs a b

-- by the kinds of the two operations, which nop has not: nop stays nop, and nop changes no other
abbrev pub transform_by_kinds : Function → Op → Op → Option Kind → Option Kind → Option Op
transform_by_kinds f a b None other = Some Nop
transform_by_kinds f a b (Some k) None = Some a
transform_by_kinds f a b (Some k) (Some l) = first_result (cases_of f k l) a b

-- the first operation, transformed against the second; none where no guard is true
abbrev pub transform_of : Function → Op → Op → Option Op
transform_of f a b = transform_by_kinds f a b (kind_of a) (kind_of b)

-- the two are not both there, or differ
abbrev pub differ : Option ℕ → Option ℕ → Bool
differ None other = true
differ (Some x) None = true
differ (Some x) (Some y) = not (nat_eq x y)

-- the same as a fact
abbrev pub Differ : Option ℕ → Option ℕ → Type 0
Differ None other = Unit {0}
Differ (Some x) None = Unit {0}
Differ (Some x) (Some y) = x ≢ y

-- the two operations differ in what the function assumes to differ
abbrev pub is_allowed : Function → Op → Op → Bool
is_allowed f a b =
    (not f.head.sites_differ || differ (site_of a) (site_of b))
    && (not f.head.chars_differ || differ (char_of a) (char_of b))

-- the same as a fact
pub record IsAllowed (f : Function) (a b : Op) : Type 0 where
  pub sites : f.head.sites_differ ≡ true → Differ (site_of a) (site_of b)
  pub chars : f.head.chars_differ ≡ true → Differ (char_of a) (char_of b)
