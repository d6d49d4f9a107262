-- Operations that are carried through executed ones, and what comes behind them.
use Rattle.std.proofs.Common.{◌≡◌, ℕ, ◌+◌, List, [], ◌∷◌, ◌++◌, length, Option, Some, None, refl, sym, ap, ◌∙◌}
use Rattle.std.specs.Prelude.{if◌then◌else◌}
use Rattle.std.specs.List.{AllByRecursion}
use Rattle.std.specs.Option.{option_and_then}
use Rattle.ot_model.specs.declared.cell.Cell.{Cell}
use Rattle.ot_model.specs.declared.op.Op.{Op}
use Rattle.ot_model.specs.Effect.{is_enabled, document_after}
use Rattle.fn_rules.specs.Functions.{Function}
use Rattle.fn_rules.specs.Transformation.{transform_of}
use Rattle.fn_rules.specs.Orders.{Outcome, StuckAt, through, with_form, outcome_from}

-- going on with a form as it is
option_and_then-some : (form : Option Op) → option_and_then (λ p. Some p) form ≡ form
option_and_then-some None = refl
option_and_then-some (Some p) = refl

-- what is carried through one operation more is transformed once more
pub through-push : (f : Function) (o : Op) (executed : List Op) (last : Op)
    → through f o (executed ++ last ∷ []) ≡ option_and_then (λ p. transform_of f p last) (through f o executed)
through-push f o [] last = option_and_then-some (transform_of f o last)
through-push f o (e ∷ executed) last = behind (transform_of f o e) (λ p. through-push f p executed last)
  where
    behind : (form : Option Op)
        → ((p : Op) → through f p (executed ++ last ∷ [])
        ≡ option_and_then (λ q. transform_of f q last) (through f p executed))
        → option_and_then (λ p. through f p (executed ++ last ∷ [])) form
        ≡ option_and_then (λ q. transform_of f q last) (option_and_then (λ p. through f p executed) form)
    behind None carried = refl
    behind (Some p) carried = carried p

-- carried through two operations more
pub through-push_two : (f : Function) (executed : List Op) (o form one behind_one two behind_both : Op)
    → through f o executed ≡ Some form
    → transform_of f form one ≡ Some behind_one → transform_of f behind_one two ≡ Some behind_both
    → through f o ((executed ++ one ∷ []) ++ two ∷ []) ≡ Some behind_both
through-push_two f executed o form one behind_one two behind_both is by_one by_two =
    rw (through-push f o (executed ++ one ∷ []) two, through-push f o executed one, is, by_one) by_two

-- a transformation has one result
pub one_form : (f : Function) (a b form other : Op) → transform_of f a b ≡ Some form
    → transform_of f a b ≡ Some other → form ≡ other
one_form f a b form other is is_other = cc

-- going on in the same way with each form is going on in the same way
with_form-same : (form : Option Op) (d : List Cell) (go other : Op → Outcome) (stuck : Outcome)
    → ((p : Op) → go p ≡ other p)
    → with_form form d go stuck ≡ with_form form d other stuck
with_form-same None d go other stuck same = refl
with_form-same (Some p) d go other stuck same = ap (λ next. if is_enabled p (length d) then next else stuck) (same p)

-- what comes depends on the executed operations only by what they make of those that come
pub outcome_from-same : (f : Function) (d : List Cell) (one two : List Op) (place : ℕ) (os : List Op)
    → AllByRecursion (λ o. through f o one ≡ through f o two) os
    → outcome_from f d one place os ≡ outcome_from f d two place os
outcome_from-same f d one two place [] same = refl
outcome_from-same f d one two place (o ∷ os) same =
    ap (λ form. with_form form d (goes_on one) (StuckAt place)) same.0
    ∙ with_form-same (through f o two) d (goes_on one) (goes_on two) (StuckAt place)
    (λ p. outcome_from-same f (document_after f.head.mode p d) (one ++ p ∷ []) (two ++ p ∷ [])
    (place + 1) os (pushed os p same.1))
  where
    goes_on : List Op → Op → Outcome
    goes_on executed p = outcome_from f (document_after f.head.mode p d) (executed ++ p ∷ []) (place + 1) os

    pushed : (rest : List Op) (p : Op) → AllByRecursion (λ o. through f o one ≡ through f o two) rest
        → AllByRecursion (λ o. through f o (one ++ p ∷ []) ≡ through f o (two ++ p ∷ [])) rest
    pushed [] p all = tt
    pushed (x ∷ rest) p all = (
      through-push f x one p ∙ ap (option_and_then (λ q. transform_of f q p)) all.0
          ∙ sym (through-push f x two p),
      pushed rest p all.1,
    )
