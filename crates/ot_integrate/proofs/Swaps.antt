-- Integrating in another order: with both properties the outcome is the same.
use Rattle.std.proofs.Common.{◌≡◌, ℕ, ◌+◌, List, [], ◌∷◌, ◌++◌, length, Some, refl, sym, ap, ◌∙◌}
use Rattle.std.specs.List.{AllByRecursion}
use Rattle.ot_model.specs.declared.cell.Cell.{Cell}
use Rattle.ot_model.specs.declared.op.Op.{Op}
use Rattle.ot_model.specs.Effect.{document_after}
use Rattle.fn_rules.specs.Functions.{Function}
use Rattle.fn_rules.specs.Transformation.{IsAllowed}
use Rattle.fn_rules.specs.Properties.{AreConcurrent, ConvergesAt, CommutesAt, converges_exchanged, commutes_exchanged}
use Rattle.fn_rules.specs.Orders.{Document, through, outcome_from}
use Rattle.fn_rules.specs.Conditions.{IsIntegrable}
use Rattle.fn_rules.specs.Forms.{KeepsForms, CarriesForms}
use Rattle.ot_integrate.proofs.Carried.{through-push, through-push_two, one_form, outcome_from-same}
use Rattle.ot_integrate.proofs.Permutations.{IsReordered, none, more, flip, chain, AllByRecursion-reordered}

-- an operation has a form behind the executed ones, which may be integrated on the document as it is,
-- and is allowed with whatever the operation is allowed with
pub record HasForm (f : Function) (d : List Cell) (executed : List Op) (o : Op) : Type 0 where
  pub form : Op
  pub is : through f o executed ≡ Some form
  pub integrable : IsIntegrable f (length d) form
  pub allowed : (other : Op) → IsAllowed f o other → IsAllowed f form other

-- operations that are concurrent on a document have their forms there: they are as they are
pub HasForm-concurrent : (f : Function) → KeepsForms f → (d : List Cell) (os : List Op) → AreConcurrent f d os
    → AllByRecursion (HasForm f d []) os
HasForm-concurrent f keeps d [] all = tt
HasForm-concurrent f keeps d (o ∷ os) all = (
  record {
    form = o;
    is = refl;
    integrable = record { declared = keeps.made o all.0; enabled = all.1 };
    allowed = λ other allowed. allowed;
  },
  HasForm-concurrent f keeps d os all.3,
)

-- the document after an executed form
abbrev after : Function → Op → List Cell → List Cell
after f p d = document_after f.head.mode p d

-- forms on one document, behind the same executed operations
module _ (f : Function) (has : CarriesForms f) (d : List Cell) (executed : List Op) where
  -- an operation with a form is executed
  outcome_from-executed : {o : Op} (as_o : HasForm f d executed o) (place : ℕ) (os : List Op)
      → outcome_from f d executed place (o ∷ os)
      ≡ outcome_from f (after f as_o.form d) (executed ++ as_o.form ∷ []) (place + 1) os
  outcome_from-executed as_o place os =
      rw (as_o.is, has.keeps.enabled_is_tested (length d) as_o.form as_o.integrable.enabled) refl

  -- where operations are allowed, so are their forms
  IsAllowed-forms : {a b : Op} (as_a : HasForm f d executed a) (as_b : HasForm f d executed b) → IsAllowed f a b
      → IsAllowed f as_a.form as_b.form
  IsAllowed-forms {a} {b} as_a as_b allowed =
      has.keeps.allowed_back as_b.form as_a.form
      (as_b.allowed as_a.form (has.keeps.allowed_back as_a.form b (as_a.allowed b allowed)))

  -- both ways of executing the forms of two operations
  ConvergesAt-forms : {a b : Op} (as_a : HasForm f d executed a) (as_b : HasForm f d executed b) → IsAllowed f a b
      → ConvergesAt f d as_a.form as_b.form
  ConvergesAt-forms as_a as_b allowed =
      has.converging d as_a.form as_b.form as_a.integrable as_b.integrable (IsAllowed-forms as_a as_b allowed)

  -- the form of a second operation behind the first one, too
  abbrev HasForm-next : {a b : Op} (as_a : HasForm f d executed a) (as_b : HasForm f d executed b)
      → ConvergesAt f d as_a.form as_b.form → HasForm f (after f as_a.form d) (executed ++ as_a.form ∷ []) b
  HasForm-next {a} {b} as_a as_b converges = record {
    form = converges.b_after_a;
    is = rw (through-push f b executed as_a.form, as_b.is) converges.b_transformed;
    integrable = record {
      declared =
          has.keeps.declared as_b.form as_a.form converges.b_after_a converges.b_transformed as_b.integrable.declared;
      enabled = converges.b_enabled;
    };
    allowed = λ other with_b.
        has.keeps.allowed as_b.form as_a.form converges.b_after_a other converges.b_transformed
        (as_b.allowed other with_b);
  }

  -- the forms of all others behind the first one
  HasForm-all_next : {a : Op} (as_a : HasForm f d executed a) (os : List Op) → AllByRecursion (IsAllowed f a) os
      → AllByRecursion (HasForm f d executed) os
      → AllByRecursion (HasForm f (after f as_a.form d) (executed ++ as_a.form ∷ [])) os
  HasForm-all_next as_a [] allowed have = tt
  HasForm-all_next as_a (b ∷ os) allowed have =
      (HasForm-next as_a have.0 (ConvergesAt-forms as_a have.0 allowed.0), HasForm-all_next as_a os allowed.1 have.1)

-- two neighbours with forms
module _ (f : Function) (has : CarriesForms f) (d : List Cell) (executed : List Op) {a b : Op}
    (as_a : HasForm f d executed a) (as_b : HasForm f d executed b)
    (converges : ConvergesAt f d as_a.form as_b.form) where
  -- the forms executed, when both were
  abbrev both_executed : List Op
  both_executed = (executed ++ as_a.form ∷ []) ++ converges.b_after_a ∷ []

  -- the document, when both were
  abbrev after_both : List Cell
  after_both = after f converges.b_after_a (after f as_a.form d)

  -- both are executed
  outcome_from-both : (place : ℕ) (os : List Op)
      → outcome_from f d executed place (a ∷ b ∷ os) ≡ outcome_from f after_both both_executed (place + 1 + 1) os
  outcome_from-both place os =
      outcome_from-executed f has d executed as_a place (b ∷ os)
      ∙ outcome_from-executed f has (after f as_a.form d) (executed ++ as_a.form ∷ [])
      (HasForm-next f has d executed as_a as_b converges) (place + 1) os

  -- the form of a third one behind both is that of the second property
  through-both : {o : Op} (as_o : HasForm f d executed o) (commutes : CommutesAt f as_a.form as_b.form as_o.form)
      → through f o both_executed ≡ Some commutes.c_after_both
  through-both {o} as_o commutes =
      let same : converges.b_after_a ≡ commutes.b_after_a =
      one_form f as_b.form as_a.form converges.b_after_a commutes.b_after_a converges.b_transformed
      commutes.b_transformed in
      through-push_two f executed o as_o.form as_a.form commutes.c_after_a converges.b_after_a commutes.c_after_both
      as_o.is commutes.c_by_a (rw same commutes.c_by_a_then_b)

-- exchanging two neighbours
module _ (f : Function) (has : CarriesForms f) (d : List Cell) (executed : List Op) {a b : Op}
    (as_a : HasForm f d executed a) (as_b : HasForm f d executed b) (a_with_b : IsAllowed f a b) where
  abbrev a_first : ConvergesAt f d as_a.form as_b.form
  a_first = ConvergesAt-forms f has d executed as_a as_b a_with_b

  abbrev b_first : ConvergesAt f d as_b.form as_a.form
  b_first = converges_exchanged f d as_a.form as_b.form a_first

  -- carried through both in either order, every further operation is the same
  through-either_way : (os : List Op) → AllByRecursion (IsAllowed f a) os → AllByRecursion (IsAllowed f b) os
      → AllByRecursion (HasForm f d executed) os
      → AllByRecursion (λ o. through f o (both_executed f has d executed as_a as_b a_first)
      ≡ through f o (both_executed f has d executed as_b as_a b_first)) os
  through-either_way [] with_a with_b have = tt
  through-either_way (o ∷ os) with_a with_b have = (
    through-both f has d executed as_a as_b a_first have.0 commutes
        ∙ sym (through-both f has d executed as_b as_a b_first have.0
        (commutes_exchanged f as_a.form as_b.form have.0.form commutes)),
    through-either_way os with_a.1 with_b.1 have.1,
  )
    where
      commutes : CommutesAt f as_a.form as_b.form have.0.form
      commutes = has.commuting d as_a.form as_b.form have.0.form as_a.integrable as_b.integrable have.0.integrable
          (IsAllowed-forms f has d executed as_a as_b a_with_b)
          (IsAllowed-forms f has d executed as_a have.0 with_a.0)
          (IsAllowed-forms f has d executed as_b have.0 with_b.0)

  -- the outcome is the same: the first property gives one document behind both, the second one the same
  -- forms of all that come
  outcome_from-flip : (place : ℕ) (os : List Op) → AllByRecursion (IsAllowed f a) os → AllByRecursion (IsAllowed f b) os
      → AllByRecursion (HasForm f d executed) os
      → outcome_from f d executed place (a ∷ b ∷ os) ≡ outcome_from f d executed place (b ∷ a ∷ os)
  outcome_from-flip place os with_a with_b have =
      outcome_from-both f has d executed as_a as_b a_first place os
      ∙ ap (λ end. outcome_from f end (both_executed f has d executed as_a as_b a_first) (place + 1 + 1) os)
      a_first.one_document
      ∙ outcome_from-same f (after_both f has d executed as_b as_a b_first)
      (both_executed f has d executed as_a as_b a_first) (both_executed f has d executed as_b as_a b_first)
      (place + 1 + 1) os (through-either_way os with_a with_b have)
      ∙ sym (outcome_from-both f has d executed as_b as_a b_first place os)

-- whole orders of operations that are concurrent on a document
module _ (f : Function) (has : CarriesForms f) (made_on : List Cell) where
  -- concurrent operations in another order are concurrent
  AreConcurrent-reordered : {xs ys : List Op} → IsReordered xs ys → AreConcurrent f made_on xs
      → AreConcurrent f made_on ys
  AreConcurrent-reordered none all = tt
  AreConcurrent-reordered (more x xs ys tail) all =
      (all.0, all.1, AllByRecursion-reordered (IsAllowed f x) tail all.2, AreConcurrent-reordered tail all.3)
  AreConcurrent-reordered (flip x y xs) all =
      (all.3.0, all.3.1, (has.keeps.allowed_back x y all.2.0, all.3.2), (all.0, all.1, all.2.1, all.3.3))
  AreConcurrent-reordered (chain xs ys zs first second) all =
      AreConcurrent-reordered second (AreConcurrent-reordered first all)

  -- integrating them in another order has the same outcome
  pub outcome_from-reordered : {xs ys : List Op} → IsReordered xs ys → (d : List Cell) (executed : List Op) (place : ℕ)
      → AreConcurrent f made_on xs → AllByRecursion (HasForm f d executed) xs
      → outcome_from f d executed place xs ≡ outcome_from f d executed place ys
  outcome_from-reordered none d executed place all have = refl
  outcome_from-reordered (more x xs ys tail) d executed place all have =
      outcome_from-executed f has d executed have.0 place xs
      ∙ outcome_from-reordered tail (after f have.0.form d) (executed ++ have.0.form ∷ []) (place + 1) all.3
      (HasForm-all_next f has d executed have.0 xs all.2 have.1)
      ∙ sym (outcome_from-executed f has d executed have.0 place ys)
  outcome_from-reordered (flip x y xs) d executed place all have =
      outcome_from-flip f has d executed have.0 have.1.0 all.2.0 place xs all.2.1 all.3.2 have.1.1
  outcome_from-reordered (chain xs ys zs first second) d executed place all have =
      outcome_from-reordered first d executed place all have
      ∙ outcome_from-reordered second d executed place (AreConcurrent-reordered first all)
      (AllByRecursion-reordered (HasForm f d executed) first have)

  -- integrating them is never stuck
  pub outcome_from-document : (os : List Op) (d : List Cell) (executed : List Op) (place : ℕ)
      → AreConcurrent f made_on os → AllByRecursion (HasForm f d executed) os
      → (end : List Cell) × (outcome_from f d executed place os ≡ Document end)
  outcome_from-document [] d executed place all have = (d, refl)
  outcome_from-document (o ∷ os) d executed place all have =
      let rest : (end : List Cell)
      × (outcome_from f (after f have.0.form d) (executed ++ have.0.form ∷ []) (place + 1) os ≡ Document end) =
      outcome_from-document os (after f have.0.form d) (executed ++ have.0.form ∷ []) (place + 1) all.3
      (HasForm-all_next f has d executed have.0 os all.2 have.1) in
      (rest.0, outcome_from-executed f has d executed have.0 place os ∙ rest.1)
