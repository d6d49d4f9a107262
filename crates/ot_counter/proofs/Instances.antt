-- Operations of an obligation's kinds are of the kinds that the function is for, and what breaks the property
-- is what was built.
use Rattle.std.proofs.Common.{◌≡◌, ◌<◌, ℤ, lit<, length, ◌&&◌, true, List, [], ◌∷◌, Some, IsTrue, ap, sym, ◌∙◌, subst}
use Rattle.std.proofs.lemmas.Bool.{and_parts}
use Rattle.ot_model.specs.declared.cell.Cell.{Cell}
use Rattle.ot_model.specs.declared.op.Kind.{Kind}
use Rattle.ot_model.specs.declared.op.Op.{Op}
use Rattle.ot_model.specs.Operations.{kind_of}
use Rattle.fn_rules.specs.declared.function.Head.{Head}
use Rattle.fn_rules.specs.declared.function.Level.{Level}
use Rattle.fn_rules.specs.declared.function.ObName.{ObName}
use Rattle.fn_rules.specs.declared.function.ObName.TheVariants.{Pair, Triple}
use Rattle.ot_questions.specs.declared.name.Who.{Who}
use Rattle.ot_questions.specs.declared.name.Who.TheVariants.{A, B, C}
use Rattle.ot_questions.specs.Names.{char_name}
use Rattle.ot_values.specs.Values.{floors_of, IsSmallAt}
use Rattle.fn_rules.specs.Functions.{Function, is_declared, IsForKind}
use Rattle.fn_rules.specs.Obligations.{is_obligation}
use Rattle.ot_questions.specs.declared.why.Why.{Why}
use Rattle.ot_questions.specs.Instances.{form_behind}
use Rattle.ot_counter.specs.Ways.{document_way, operation_result}
use Rattle.fn_rules.specs.Properties.{AreConcurrent}
use Rattle.ot_model.specs.Effect.{IsEnabled}
use Rattle.fn_rules.specs.declared.function.Level.TheVariants.{Tp1, Tp2}
use Rattle.ot_counter.specs.Counters.{Breaks, BreaksBy}

pub for_kind : (head : Head) (k : Kind) (o : Op) → is_declared head k ≡ true → kind_of o ≡ Some k
    → IsForKind head (kind_of o)
for_kind head k o h e = subst (λ x. IsForKind head x) (sym e) h

pub pair_kinds : (head : Head) (k l : Kind) → IsTrue (is_obligation head (Pair k l))
    → (is_declared head k ≡ true) × (is_declared head l ≡ true)
pair_kinds head k l h = and_parts (is_declared head k) (is_declared head l) h

pub triple_kinds :
    (head : Head) (k l m : Kind) → IsTrue (is_obligation head (Triple k l m))
    → (is_declared head k ≡ true) × (is_declared head l ≡ true) × (is_declared head m ≡ true)
triple_kinds head k l m h =
    let both = and_parts (is_declared head k && is_declared head l) (is_declared head m) h in
    let first = and_parts (is_declared head k) (is_declared head l) both.0 in
    (first.0, first.1, both.1)

pub breaks_there :
    (f : Function) (level at : Level) (d e : List Cell) (ops os : List Op) → level ≡ at → d ≡ e
    → ops ≡ os → Breaks f at e os
    → Breaks f level d ops
breaks_there f level at d e ops os p q r h =
    subst (λ x. Breaks f x d ops) (sym p)
    (subst (λ x. Breaks f at x ops) (sym q) (subst (λ x. Breaks f at e x) (sym r) h))

-- what breaks a property is concurrent
pub concurrent_where_broken : (f : Function) (level : Level) (d : List Cell) (ops : List Op)
    → Breaks f level d ops → AreConcurrent f d ops
concurrent_where_broken f Tp1 d ops h = h.3
concurrent_where_broken f Tp2 d ops h = h.4

-- and each of two concurrent operations is enabled
pub two_enabled :
    (f : Function) (d e : List Cell) (a b x y : Op) → d ≡ e → a ≡ x → b ≡ y → AreConcurrent f e (x ∷ y ∷ [])
    → IsEnabled a (length d) × IsEnabled b (length d)
two_enabled f d e a b x y p q r h =
    let at = λ (o z : Op) (here : o ≡ z) (enabled : IsEnabled z (length e)).
    subst (λ o. IsEnabled o (length d)) (sym here) (subst (λ c. IsEnabled z (length c)) (sym p) enabled) in
    (at a x q h.1, at b y r h.3.1)

pub breaks_by_there :
    (f : Function) (why : Why) (level at : Level) (d e : List Cell) (ops os : List Op) → level ≡ at → d ≡ e → ops ≡ os
    → BreaksBy f at e os why → BreaksBy f level d ops why
breaks_by_there f why level at d e ops os p q r h =
    subst (λ x. BreaksBy f x d ops why) (sym p)
    (subst (λ x. BreaksBy f at x ops why) (sym q) (subst (λ x. BreaksBy f at e x why) (sym r) h))

-- the ways of equal operations on equal documents
pub document_way-there :
    (f : Function) (d e : List Cell) (a b x y : Op) → d ≡ e → a ≡ x → b ≡ y
    → document_way f d a b ≡ document_way f e x y
document_way-there f d e a b x y p q r =
    ap (λ z. document_way f z a b) p ∙ (ap (λ z. document_way f e z b) q ∙ ap (λ z. document_way f e x z) r)

pub form_behind-there :
    (f : Function) (a b c x y z : Op) → a ≡ x → b ≡ y → c ≡ z
    → operation_result (form_behind f a b c) ≡ operation_result (form_behind f x y z)
form_behind-there f a b c x y z p q r =
    ap (λ o. operation_result (form_behind f o b c)) p
    ∙ (ap (λ o. operation_result (form_behind f x o c)) q ∙ ap (λ o. operation_result (form_behind f x y o)) r)

pub two_there : (a b x y : Op) → a ≡ x → b ≡ y → (a ∷ b ∷ []) ≡ (x ∷ y ∷ [])
two_there a b x y p q = ap (λ o. o ∷ b ∷ []) p ∙ ap (λ o. x ∷ o ∷ []) q

pub three_there : (a b c x y z : Op) → a ≡ x → b ≡ y → c ≡ z → (a ∷ b ∷ c ∷ []) ≡ (x ∷ y ∷ z ∷ [])
three_there a b c x y z p q r = ap (λ o. o ∷ b ∷ c ∷ []) p ∙ (ap (λ o. x ∷ o ∷ c ∷ []) q ∙ ap (λ o. x ∷ y ∷ o ∷ []) r)

-- the parts of each operation of an obligation
module _ (values : List ℤ) (ob : ObName) (parts : (who : Who) → char_name who < length (floors_of ob)
    → IsSmallAt values who) where
  pub parts_of_pair : (k l : Kind) → ob ≡ Pair k l → IsSmallAt values A × IsSmallAt values B
  parts_of_pair k l e = (
    parts A (subst (λ o. 5 < length (floors_of o)) (sym e) (lit< tt)),
    parts B (subst (λ o. 8 < length (floors_of o)) (sym e) (lit< tt)),
  )

  pub parts_of_triple : (k l m : Kind) → ob ≡ Triple k l m
      → IsSmallAt values A × IsSmallAt values B × IsSmallAt values C
  parts_of_triple k l m e = (
    parts A (subst (λ o. 5 < length (floors_of o)) (sym e) (lit< tt)),
    parts B (subst (λ o. 8 < length (floors_of o)) (sym e) (lit< tt)),
    parts C (subst (λ o. 11 < length (floors_of o)) (sym e) (lit< tt)),
  )
