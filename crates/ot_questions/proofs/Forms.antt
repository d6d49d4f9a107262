-- What may come out of a transformation: nop, or the first operation at another place.
use Rattle.std.proofs.Common.{◌≡◌, ℕ, ℤ, Bool, true, false, if◌then◌else◌, Option, Some, None, List, [], ◌∷◌, refl, ap}
use Rattle.std.proofs.Common.{sym, ◌∙◌, subst, inl, inr, ◌⊎◌}
use Rattle.ot_model.specs.declared.op.Kind.{Kind}
use Rattle.fn_rules.specs.declared.function.Res.{Res}
use Rattle.fn_rules.specs.declared.function.Res.TheVariants as results
use Rattle.fn_rules.specs.Formulas.{of_side}
use Rattle.fn_rules.specs.Functions.{Function, GuardedCase, cases_of}
use Rattle.fn_rules.specs.Conditions as conditions
use Rattle.ot_questions.specs.declared.place.Place.{Place}
use Rattle.ot_questions.specs.declared.place.SymOp.{SymOp}
use Rattle.ot_questions.specs.declared.place.SymOp.TheVariants.{Ins, Del, Upd, Nop}
use Rattle.ot_questions.specs.Places.{plus, sym_at, sym_kind, sym_site, sym_char, sym_placed, sym_result}
use Rattle.ot_questions.specs.Meaning.{op_at}
use Rattle.ot_questions.proofs.Values.{sym_holds, sym_first, sym_by_kinds, sym_transformed}
use Rattle.ot_questions.proofs.Operations.{IsCounted, IsCountedName, named, kind_of-op_at, site_of-op_at, char_of-op_at}

-- the same operation at some place
pub record IsMovedFrom (a form : SymOp) : Type 0 where
  pub kind : sym_kind form ≡ sym_kind a
  pub site : sym_site form ≡ sym_site a
  pub ch : sym_char form ≡ sym_char a

abbrev pub IsFormOf : SymOp → SymOp → Type 0
IsFormOf a form = (form ≡ Nop) ⊎ IsMovedFrom a form

nop_by_kind : (a : SymOp) → sym_kind a ≡ None → a ≡ Nop
nop_by_kind Nop e = refl
nop_by_kind a e = absurd (cc)

IsFormOf-trans : (a b c : SymOp) → IsFormOf a b → IsFormOf b c → IsFormOf a c
IsFormOf-trans a b c h (inl nop) = inl nop
IsFormOf-trans a b c (inl nop) (inr moved) = inl (nop_by_kind c (moved.kind ∙ ap sym_kind nop))
IsFormOf-trans a b c (inr first) (inr second) =
    inr (record { kind = second.kind ∙ first.kind; site = second.site ∙ first.site; ch = second.ch ∙ first.ch })

moved : (a : SymOp) (to : Place) → IsMovedFrom a (sym_placed a to)
moved (Ins p c s) to = record { kind = refl; site = refl; ch = refl }
moved (Del p s) to = record { kind = refl; site = refl; ch = refl }
moved (Upd p c s) to = record { kind = refl; site = refl; ch = refl }
moved Nop to = record { kind = refl; site = refl; ch = refl }

result_is_form : (res : Res) (a b : SymOp) → IsFormOf a (sym_result res a b)
result_is_form (results.Keep base k) a b = inr (moved a (plus (sym_at (of_side base a b)) k))
result_is_form results.Nop a b = inl refl

form_choice :
    (t : Bool) (a x r : SymOp) (o : Option SymOp) → IsFormOf a x → (o ≡ Some r → IsFormOf a r)
    → (if t then Some x else o) ≡ Some r
    → IsFormOf a r
form_choice true a x r o h other e = let same : x ≡ r = cc in subst (λ y. IsFormOf a y) same h
form_choice false a x r o h other e = other e

first_is_form : (v : ℕ → ℤ) (cs : List GuardedCase) (a b r : SymOp) → sym_first v cs a b ≡ Some r → IsFormOf a r
first_is_form v [] a b r e = absurd (cc)
first_is_form v (c ∷ cs) a b r e =
    form_choice (sym_holds v c.guard a b) a (sym_result c.res a b) r (sym_first v cs a b) (result_is_form c.res a b)
    (first_is_form v cs a b r) e

by_kinds_is_form : (v : ℕ → ℤ) (f : Function) (a b r : SymOp) (j k : Option Kind)
    → sym_by_kinds v f a b j k ≡ Some r → IsFormOf a r
by_kinds_is_form v f a b r None other e = inl (cc)
by_kinds_is_form v f a b r (Some k) None e = let same : a ≡ r = cc in subst (λ y. IsFormOf a y) same
    (inr (record { kind = refl; site = refl; ch = refl }))
by_kinds_is_form v f a b r (Some k) (Some l) e = first_is_form v (cases_of f k l) a b r e

pub transformed_is_form : (v : ℕ → ℤ) (f : Function) (a b r : SymOp) → sym_transformed v f a b ≡ Some r → IsFormOf a r
transformed_is_form v f a b r e = by_kinds_is_form v f a b r (sym_kind a) (sym_kind b) e

pub form_of_form :
    (v : ℕ → ℤ) (f : Function) (a b c q r : SymOp) → sym_transformed v f a b ≡ Some q
    → sym_transformed v f q c ≡ Some r → IsFormOf a r
form_of_form v f a b c q r e h =
    IsFormOf-trans a q r (transformed_is_form v f a b q e) (transformed_is_form v f q c r h)

-- a form keeps site and character
pub IsCounted-form : (v : ℕ → ℤ) (a r : SymOp) → IsFormOf a r → IsCounted v a → IsCounted v r
IsCounted-form v a r (inl nop) h = subst (λ x. IsCounted v x) (sym nop) (record { site = tt; ch = tt })
IsCounted-form v a r (inr m) h = record {
  site = subst (λ n. IsCountedName v n) (sym m.site) h.site;
  ch = subst (λ n. IsCountedName v n) (sym m.ch) h.ch;
}

pub counted_form : (v : ℕ → ℤ) (f : Function) (a b r : SymOp) → IsCounted v a
    → sym_transformed v f a b ≡ Some r → IsCounted v r
counted_form v f a b r h e = IsCounted-form v a r (transformed_is_form v f a b r e) h

char_of_form : (a r : SymOp) (c : ℕ) → IsFormOf a r → sym_char r ≡ Some c → sym_char a ≡ Some c
char_of_form a r c (inl nop) e = absurd (no_char (sym (ap sym_char nop) ∙ e))
  where
    no_char : None ≡ Some c → ⊥
    no_char e = cc
char_of_form a r c (inr m) e = sym m.ch ∙ e

pub form_char :
    (v : ℕ → ℤ) (f : Function) (a b r : SymOp) (c : ℕ) → sym_transformed v f a b ≡ Some r
    → sym_char r ≡ Some c → sym_char a ≡ Some c
form_char v f a b r c e h = char_of_form a r c (transformed_is_form v f a b r e) h

-- and so of the operations that the names stand for
pub form-op_at : (v : ℕ → ℤ) (a r : SymOp) → IsFormOf a r → conditions.IsFormOf (op_at v a) (op_at v r)
form-op_at v a r (inl nop) = inl (ap (op_at v) nop)
form-op_at v a r (inr m) = inr (record {
  kind = kind_of-op_at v r ∙ (m.kind ∙ sym (kind_of-op_at v a));
  site = site_of-op_at v r ∙ (ap (named v) m.site ∙ sym (site_of-op_at v a));
  char = char_of-op_at v r ∙ (ap (named v) m.ch ∙ sym (char_of-op_at v a));
})
