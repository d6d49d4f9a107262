-- A valuation that meets the conditions between two starts gives both one end.
use Rattle.std.proofs.Common.{◌≡◌, ◌⊎◌, ℕ, zero, suc, ℤ, ◌+ℤ◌, ◌-ℤ◌, ◌≤ℤ◌, Bool, true, false, ◌&&◌, if◌then◌else◌}
use Rattle.std.proofs.Common.{nat_eq, Option, Some, None, List, [], ◌∷◌, ◌++◌, length, refl, ap, sym, ◌∙◌, subst, inl}
use Rattle.std.proofs.Common.{inr, arith}
use Rattle.std.specs.Prelude.{is_none}
use Rattle.std.specs.Option.{option_eq}
use Rattle.std.specs.Ordering.{int_eq}
use Rattle.std.specs.Cmp.Lexicographic.{pointwise}
use Rattle.std.proofs.lemmas.Bool.{and_parts, eqb-true, false≢true}
use Rattle.std.proofs.lemmas.Bool.Decides.{Decides-int_eq}
use Rattle.std.proofs.lemmas.Int.{ints}
use Rattle.diff_graph.specs.declared.lit.Lit.{Lit}
use Rattle.diff_graph.specs.Literals.{Meets, AreMet}
use Rattle.ot_model.specs.declared.op.Kind.{Kind}
use Rattle.ot_model.specs.declared.op.Kind.TheVariants as kinds
use Rattle.ot_model.specs.Kinds.{kind_rank, is_same_kind}
use Rattle.fn_rules.specs.declared.function.ObName.{ObName}
use Rattle.fn_rules.specs.declared.function.ObName.TheVariants.{Pair, Triple}
use Rattle.fn_rules.specs.Functions.{Function}
use Rattle.ask_core.specs.Plans.{end_of}
use Rattle.proof_trees.specs.Starts.{IsLawful}
use Rattle.ot_questions.specs.declared.place.Place.{Place}
use Rattle.ot_questions.specs.declared.place.SymOp.{SymOp}
use Rattle.ot_questions.specs.declared.place.SymOp.TheVariants.{Ins, Del, Upd, Nop}
use Rattle.ot_questions.specs.Places.{integer_at, sym_kind, sym_at, sym_site, sym_char, sym_placed}
use Rattle.ot_questions.proofs.Listed.{each_of_both}
use Rattle.ot_terms.specs.Standing.{ask_after}
use Rattle.start_laws.specs.Starts.{Start, meaning, still_read, is_same_ob, is_same_place, is_same_but_position}
use Rattle.start_laws.specs.Starts.{is_same_op, conditions_at, conditions_of, all_conditions, conditions_of_each}
use Rattle.start_laws.specs.Starts.{compare_starts}
use Rattle.start_laws.proofs.Agreement.{Agree, placed_is}
use Rattle.start_laws.proofs.After.{AllAgree, after_alike}

-- what tests of equality tell
abbrev kind_at : ℕ → Kind
kind_at zero = kinds.Ins
kind_at (suc zero) = kinds.Del
kind_at (suc (suc n)) = kinds.Upd

kind_at-rank : (k : Kind) → kind_at (kind_rank k) ≡ k
kind_at-rank kinds.Ins = refl
kind_at-rank kinds.Del = refl
kind_at-rank kinds.Upd = refl

one_kind : (k l : Kind) → is_same_kind k l ≡ true → k ≡ l
one_kind k l e = sym (kind_at-rank k) ∙ (ap kind_at (eqb-true (kind_rank k) (kind_rank l) e) ∙ kind_at-rank l)

one_option : {X : Type 0} (E : X → X → Bool) → ((x y : X) → E x y ≡ true → x ≡ y) → (o p : Option X)
    → option_eq E o p ≡ true → o ≡ p
one_option E tells None None e = refl
one_option E tells None (Some y) e = absurd (false≢true e)
one_option E tells (Some x) None e = absurd (false≢true e)
one_option E tells (Some x) (Some y) e = ap Some (tells x y e)

one_list :
    {X : Type 0} (E : X → X → Bool) → ((x y : X) → E x y ≡ true → x ≡ y) → (xs ys : List X)
    → pointwise E xs ys ≡ true → xs ≡ ys
one_list E tells [] [] e = refl
one_list E tells [] (y ∷ ys) e = absurd (false≢true e)
one_list E tells (x ∷ xs) [] e = absurd (false≢true e)
one_list E tells (x ∷ xs) (y ∷ ys) e =
    let both = and_parts (E x y) (pointwise E xs ys) e in
    ap (λ z. z ∷ xs) (tells x y both.0) ∙ ap (λ zs. y ∷ zs) (one_list E tells xs ys both.1)

-- obligations that are found the same are one
one_ob : (x y : ObName) → is_same_ob x y ≡ true → x ≡ y
one_ob (Pair j k) (Pair l m) e =
    let both = and_parts (is_same_kind j l) (is_same_kind k m) e in
    ap (λ i. Pair i k) (one_kind j l both.0) ∙ ap (λ i. Pair l i) (one_kind k m both.1)
one_ob (Pair j k) (Triple l m n) e = absurd (false≢true e)
one_ob (Triple i j k) (Pair l m) e = absurd (false≢true e)
one_ob (Triple i j k) (Triple l m n) e =
    let most = and_parts (is_same_kind i l && is_same_kind j m) (is_same_kind k n) e in
    let both = and_parts (is_same_kind i l) (is_same_kind j m) most.0 in
    ap (λ x. Triple x j k) (one_kind i l both.0)
    ∙ (ap (λ x. Triple l x k) (one_kind j m both.1) ∙ ap (λ x. Triple l m x) (one_kind k n most.1))

-- the parts of two operations that differ in their positions alone
parts_alike :
    (a b : SymOp) → is_same_but_position a b ≡ true
    → (sym_kind a ≡ sym_kind b) × (sym_site a ≡ sym_site b) × (sym_char a ≡ sym_char b)
parts_alike a b e =
    let most = and_parts (option_eq is_same_kind (sym_kind a) (sym_kind b)
    && option_eq nat_eq (sym_site a) (sym_site b)) (option_eq nat_eq (sym_char a) (sym_char b)) e in
    let both = and_parts (option_eq is_same_kind (sym_kind a) (sym_kind b))
    (option_eq nat_eq (sym_site a) (sym_site b)) most.0 in (
      one_option is_same_kind one_kind (sym_kind a) (sym_kind b) both.0,
      one_option nat_eq eqb-true (sym_site a) (sym_site b) both.1,
      one_option nat_eq eqb-true (sym_char a) (sym_char b) most.1,
    )

one_place : (p q : Place) → is_same_place p q ≡ true → p ≡ q
one_place p q e =
    let both = and_parts (nat_eq p.var q.var) (int_eq p.off q.off) e in
    let names = eqb-true p.var q.var both.0 in
    let offsets = (Decides-int_eq p.off q.off).0 both.1 in
    ap (λ x. record { var = x; off = p.off }) names ∙ ap (λ k. record { var = q.var; off = k }) offsets

placed_there : (a : SymOp) → sym_placed a (sym_at a) ≡ a
placed_there (Ins p c s) = refl
placed_there (Del p s) = refl
placed_there (Upd p c s) = refl
placed_there Nop = refl

one_op : (a b : SymOp) → is_same_op a b ≡ true → a ≡ b
one_op a b e =
    let both = and_parts (is_same_but_position a b) (is_same_place (sym_at a) (sym_at b)) e in
    let parts = parts_alike a b both.0 in
    sym (placed_there a)
    ∙ (ap (sym_placed a) (one_place (sym_at a) (sym_at b) both.1) ∙ sym (placed_is a b parts.0 parts.1 parts.2))

none_some : (es : List Lit) → None ≡ Some es → ⊥
none_some es e = absurd (cc)

one_list_of : (es fs : List Lit) → Some es ≡ Some fs → es ≡ fs
one_list_of es fs e = cc

-- each place is at most the other one
both_bounds : (x y i j : ℤ) → x ≤ℤ (y +ℤ (j -ℤ i)) → y ≤ℤ (x +ℤ (i -ℤ j)) → y +ℤ j ≡ x +ℤ i
both_bounds x y i j h g = omega (arith, ints)

-- a choice by a test, where its value is known
chosen : (t : Bool) (o p : Option (List Lit)) (es : List Lit) → (if t then o else p) ≡ Some es
    → ((t ≡ true) × (o ≡ Some es)) ⊎ ((t ≡ false) × (p ≡ Some es))
chosen true o p es e = inl (refl, e)
chosen false o p es e = inr (refl, e)

module _ (v : ℕ → ℤ) where
  met_before : (es fs : List Lit) → Some es ≡ Some fs → AreMet v fs → AreMet v es
  met_before es fs e met = subst (AreMet v) (sym (one_list_of es fs e)) met

  -- two places have one integer
  one_integer :
      (there here : Place) (es : List Lit) → conditions_at there here ≡ Some es → AreMet v es
      → integer_at v there ≡ integer_at v here
  one_integer there here es e met =
      elim (chosen (nat_eq there.var here.var) _ _ es e) [
        | inl same ↦
            elim (chosen (int_eq there.off here.off) _ _ es same.1) [
              | inl equal ↦
                  ap (λ x. v x +ℤ there.off) (eqb-true there.var here.var same.0)
                  ∙ ap (λ k. v here.var +ℤ k) ((Decides-int_eq there.off here.off).0 equal.0)
              | inr differ ↦ absurd (none_some es differ.1)
            ]
        | inr other ↦
            (let bounds = met_before _ es other.1 met in
            both_bounds (v here.var) (v there.var) here.off there.off bounds.0 bounds.1.0)
      ]

  -- two results are one operation
  one_result : (there here : SymOp) (es : List Lit) → conditions_of there here ≡ Some es
      → AreMet v es → Agree v there here
  one_result there here es e met =
      elim (chosen (is_same_but_position there here) _ _ es e) [
        | inl same ↦
            (let parts = parts_alike there here same.0 in record {
              kind = parts.0;
              site = parts.1;
              ch = parts.2;
              at = one_integer (sym_at there) (sym_at here) es same.1 met;
            })
        | inr other ↦ absurd (none_some es other.1)
      ]

  met_of_both :
      (o p : Option (List Lit)) (es : List Lit) (P Q : Type 0) → all_conditions o p ≡ Some es → AreMet v es
      → ((fs : List Lit) → o ≡ Some fs → AreMet v fs → P) → ((fs : List Lit) → p ≡ Some fs → AreMet v fs → Q) → P × Q
  met_of_both None p es P Q e met first second = absurd (none_some es e)
  met_of_both (Some fs) None es P Q e met first second = absurd (none_some es e)
  met_of_both (Some fs) (Some gs) es P Q e met first second =
      let both = each_of_both (Meets v) fs gs (met_before (fs ++ gs) es e met) in
      (first fs refl both.0, second gs refl both.1)

  -- so is each with the one beside it
  all_results :
      (os rs : List SymOp) (es : List Lit) → conditions_of_each os rs ≡ Some es → AreMet v es → AllAgree v os rs
  all_results [] [] es e met = tt
  all_results [] (r ∷ rs) es e met = absurd (none_some es e)
  all_results (o ∷ os) [] es e met = absurd (none_some es e)
  all_results (o ∷ os) (r ∷ rs) es e met =
      met_of_both (conditions_of o r) (conditions_of_each os rs) es (Agree v o r) (AllAgree v os rs) e met
      (one_result o r) (all_results os rs)

-- what two starts that compare have in common
pub record AreComparable (s here : Start) (es : List Lit) : Type 0 where
  pub count : length s.got ≡ length here.got
  pub ob : s.ob ≡ here.ob
  pub ops : s.ops ≡ here.ops
  pub conditions : conditions_of_each (still_read s.ob s.got) (still_read here.ob here.got) ≡ Some es

-- starts that compare have one obligation, the same operations and as many results
comparable : (s here : Start) (es : List Lit) → compare_starts s here ≡ Some es → AreComparable s here es
comparable s here es e =
    elim (chosen (nat_eq (length s.got) (length here.got) && is_same_ob s.ob here.ob
    && pointwise is_same_op s.ops here.ops) _ _ es e) [
      | inl same ↦
          (let most = and_parts (nat_eq (length s.got) (length here.got) && is_same_ob s.ob here.ob)
          (pointwise is_same_op s.ops here.ops) same.0 in
          let both = and_parts (nat_eq (length s.got) (length here.got)) (is_same_ob s.ob here.ob) most.0 in
          record {
            count = eqb-true (length s.got) (length here.got) both.0;
            ob = one_ob s.ob here.ob both.1;
            ops = one_list is_same_op one_op s.ops here.ops most.1;
            conditions = same.1;
          })
      | inr other ↦ absurd (none_some es other.1)
    ]

-- the plans of both starts end alike
pub starts_end_alike :
    (f : Function) (s here : Start) (es : List Lit) (v : ℕ → ℤ) → compare_starts s here ≡ Some es → AreMet v es
    → end_of (meaning f s) v ≡ end_of (meaning f here) v
starts_end_alike f s here es v e met =
    let both = comparable s here es e in
    let results =
    all_results v (still_read s.ob s.got) (still_read here.ob here.got) es both.conditions met
    in
    let read = subst (λ ob. AllAgree v (still_read s.ob s.got) (still_read ob here.got)) (sym both.ob) results in
    after_alike v f s.ob s.ops s.got here.got both.count read
    ∙ (ap (λ ob. end_of (ask_after f ob s.ops here.got) v) both.ob
    ∙ ap (λ ops. end_of (ask_after f here.ob ops here.got) v) both.ops)

pub compare_starts_lawful : (f : Function) → IsLawful compare_starts (meaning f)
compare_starts_lawful f s here es v e met = ap is_none (starts_end_alike f s here es v e met)
