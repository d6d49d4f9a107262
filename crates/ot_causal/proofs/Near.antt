-- What forms keep of their operations, and how far they move.
use Rattle.std.proofs.Common.{◌≡◌, ℕ, zero, suc, ◌+◌, ◌*◌, ◌<◌, ◌≤◌, List, length, Option, Some, None, refl, sym, ◌∙◌}
use Rattle.std.proofs.Common.{subst, inl, inr, arith}
use Rattle.ot_model.specs.declared.op.Op.{Op}
use Rattle.ot_model.specs.declared.op.Op.TheVariants.{Nop}
use Rattle.fn_rules.specs.Functions.{Function}
use Rattle.fn_rules.specs.Transformation.{transform_of}
use Rattle.fn_rules.specs.Conditions.{IsWithin, IsFormOf}
use Rattle.ot_causal.specs.Members.{without}
use Rattle.ot_causal.specs.Past.{Past, AreMade}
use Rattle.ot_causal.specs.Forms.{newest_open, transformed, form}
use Rattle.ot_causal.proofs.Members.{length-without}
use Rattle.ot_causal.proofs.Closed.{AreMade-without, has-newest_open}
use Rattle.ot_causal.proofs.Forms.{form-none_open, form-newest_open}

-- the forms that a form was made from
pub record IsMadeFrom (f : Function) (a b : Option Op) (result : Op) : Type 0 where
  pub own : Op
  pub by : Op
  pub own_is : a ≡ Some own
  pub by_is : b ≡ Some by
  pub is : transform_of f own by ≡ Some result

IsMadeFrom-transformed : (f : Function) (a b : Option Op) (result : Op) → transformed f a b ≡ Some result
    → IsMadeFrom f a b result
IsMadeFrom-transformed f None b result is = cc
IsMadeFrom-transformed f (Some p) None result is = cc
IsMadeFrom-transformed f (Some p) (Some q) result is = record { own = p; by = q; own_is = refl; by_is = refl; is = is }

module _ (f : Function) (keeps : (a b form : Op) → transform_of f a b ≡ Some form → IsFormOf a form) where
  -- a form's transform is a form
  IsFormOf-transformed : (a p q r : Op) → IsFormOf a p → transform_of f p q ≡ Some r → IsFormOf a r
  IsFormOf-transformed a p q r (inl nop) is =
      let still : Some Nop ≡ Some r = subst (λ (o : Op). transform_of f o q ≡ Some r) nop is in
      inl cc
  IsFormOf-transformed a p q r (inr moved) is = elim (keeps p q r is) [
    | inl nop ↦ inl nop
    | inr again ↦
        inr (record { kind = again.kind ∙ moved.kind; site = again.site ∙ moved.site; char = again.char ∙ moved.char })
  ]

  -- a form is a form of its operation, by the length of its list
  IsFormOf-within : (past : Past) (n o : ℕ) (l : List ℕ) (p : Op) → length l < n → form f past o l ≡ Some p
      → IsFormOf (past.operation o) p
  IsFormOf-within past zero o l p short is = absurd (omega (arith, short))
  IsFormOf-within past (suc n) o l p short is = by (newest_open past o l) refl (λ m own. IsFormOf-within past n o m own)
    where
      by : (found : Option ℕ) → newest_open past o l ≡ found
          → ((m : List ℕ) (own : Op) → length m < n → form f past o m ≡ Some own → IsFormOf (past.operation o) own)
          → IsFormOf (past.operation o) p
      by None none below =
          let itself : Some (past.operation o) ≡ Some p = sym (form-none_open f past o l none) ∙ is in
          let same : past.operation o ≡ p = cc in
          subst (λ (q : Op). IsFormOf (past.operation o) q) same
          (inr (record { kind = refl; site = refl; char = refl }))
      by (Some x) found below =
          let from : IsMadeFrom f (form f past o (without x l)) (form f past x (without x l)) p =
          IsMadeFrom-transformed f (form f past o (without x l)) (form f past x (without x l)) p
          (sym (form-newest_open f past o l x found) ∙ is) in
          IsFormOf-transformed (past.operation o) from.own from.by p
          (below (without x l) from.own (omega (arith, short, length-without x l (has-newest_open past o l x found)))
          from.own_is) from.is

  -- a form is nop, or its operation at some position
  pub IsFormOf-form : (past : Past) (o : ℕ) (l : List ℕ) (p : Op) → form f past o l ≡ Some p
      → IsFormOf (past.operation o) p
  IsFormOf-form past o l p = IsFormOf-within past (suc (length l)) o l p (omega arith)

module _ (f : Function) (near : (a b form : Op) (m : ℕ) → IsWithin m a → IsWithin m b → transform_of f a b ≡ Some form
    → IsWithin (m + 99) form)
    (wider : (m n : ℕ) (o : Op) → m ≤ n → IsWithin m o → IsWithin n o)
    (past : Past) (m : ℕ) (all_near : (o : ℕ) → o < past.count → IsWithin m (past.operation o)) where
  -- a form is at most 99 further on for each operation of its list
  IsWithin-within : (n o : ℕ) (l : List ℕ) (p : Op) → length l < n → o < past.count → AreMade past l
      → form f past o l ≡ Some p
      → IsWithin (m + 99 * length l) p
  IsWithin-within zero o l p short made all is = absurd (omega (arith, short))
  IsWithin-within (suc n) o l p short made all is = by (newest_open past o l) refl (λ x k q. IsWithin-within n x k q)
    where
      by : (found : Option ℕ) → newest_open past o l ≡ found
          → ((x : ℕ) (k : List ℕ) (q : Op) → length k < n → x < past.count → AreMade past k → form f past x k ≡ Some q
          → IsWithin (m + 99 * length k) q)
          → IsWithin (m + 99 * length l) p
      by None none below =
          let itself : Some (past.operation o) ≡ Some p = sym (form-none_open f past o l none) ∙ is in
          let same : past.operation o ≡ p = cc in
          subst (λ (q : Op). IsWithin (m + 99 * length l) q) same
          (wider m (m + 99 * length l) (past.operation o) (omega arith) (all_near o made))
      by (Some x) found below =
          let from : IsMadeFrom f (form f past o (without x l)) (form f past x (without x l)) p =
          IsMadeFrom-transformed f (form f past o (without x l)) (form f past x (without x l)) p
          (sym (form-newest_open f past o l x found) ∙ is) in
          let shorter : length l ≡ suc (length (without x l)) = length-without x l (has-newest_open past o l x found) in
          let rest : AreMade past (without x l) = AreMade-without past x l all in
          wider (m + 99 * length (without x l) + 99) (m + 99 * length l) p (omega (arith, shorter))
          (near from.own from.by p (m + 99 * length (without x l))
          (below o (without x l) from.own (omega (arith, short, shorter)) made rest from.own_is)
          (below x (without x l) from.by (omega (arith, short, shorter)) (all.at x (has-newest_open past o l x found))
          rest from.by_is) from.is)

  -- each member moves the form by at most 99
  pub IsWithin-form : (o : ℕ) (l : List ℕ) (p : Op) → o < past.count → AreMade past l → form f past o l ≡ Some p
      → IsWithin (m + 99 * length l) p
  IsWithin-form o l p = IsWithin-within (suc (length l)) o l p (omega arith)
