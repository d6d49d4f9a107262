-- Finished cells that are found the same have one meaning in every document.
use Rattle.std.proofs.Common.{◌≡◌, ℕ, ℤ, pos, ◌+ℤ◌, Bool, true, Some, None, refl, ap, sym, ◌∙◌, inl, inr}
use Rattle.std.specs.Prelude.{unsigned_abs}
use Rattle.std.specs.Ordering.{int_eq}
use Rattle.std.proofs.lemmas.Bool.{cases_Bool, false≢true}
use Rattle.std.proofs.lemmas.Bool.Decides.{Decides-int_eq}
use Rattle.ot_model.specs.declared.cell.Cell.{Cell}
use Rattle.ask_core.specs.Plans.{Holds, Fails, end_of}
use Rattle.ot_questions.specs.declared.cell.Source.{Source}
use Rattle.ot_questions.specs.declared.cell.Source.TheVariants.{Base, Named}
use Rattle.ot_questions.specs.declared.cell.Flag.{Flag}
use Rattle.ot_questions.specs.declared.cell.Flag.TheVariants.{Live, Dead, From}
use Rattle.ot_questions.specs.declared.cell.Finished.{Finished}
use Rattle.ot_questions.specs.declared.why.Why.{Why}
use Rattle.ot_questions.specs.Places.{place}
use Rattle.ot_questions.specs.Reading.{is_same_flag, ask_same_source, ask_same, cells_cause}
use Rattle.ot_questions.proofs.Tests.{plus-zero}
use Rattle.ot_questions.proofs.Values.{end-eq}
use Rattle.ot_questions.proofs.Seen.{source_meant, flag_meant, meant}

abbrev cell_of : ℕ → Bool → Cell
cell_of ch live = record { ch = ch; live = live }

-- characters that are found the same
source_means :
    (v : ℕ → ℤ) (g : ℤ → Cell) (s t : Source) (why : Why) → end_of (ask_same_source s t (Fails why)) v ≡ None
    → source_meant v g s ≡ source_meant v g t
unfolding ask_same_source
source_means v g (Base j) (Base k) why e =
    elim (cases_Bool (int_eq j k)) [
      | inl same ↦ ap (λ i. (g (v 2 +ℤ i)).ch) ((Decides-int_eq j k).0 same)
      | inr other ↦ (let wrong : Some why ≡ None = rw other at e in absurd (cc))
    ]
source_means v g (Base j) (Named d) why e = absurd (cc)
source_means v g (Named c) (Base k) why e = absurd (cc)
source_means v g (Named c) (Named d) why e =
    elim (cases_Bool (int_eq (v c +ℤ pos 0) (v d +ℤ pos 0))) [
      | inl same ↦ ap unsigned_abs (sym (plus-zero (v c))
          ∙ ((Decides-int_eq (v c +ℤ pos 0) (v d +ℤ pos 0)).0 same ∙ plus-zero (v d)))
      | inr other ↦
          (let tested = sym (end-eq (place c (pos 0)) (place d (pos 0)) Holds (Fails why) v) ∙ e in
          let wrong : Some why ≡ None = rw other at tested in absurd (cc))
    ]

flag_means : (v : ℕ → ℤ) (g : ℤ → Cell) (l m : Flag) → is_same_flag l m ≡ true → flag_meant v g l ≡ flag_meant v g m
flag_means v g Live Live e = refl
flag_means v g Live Dead e = absurd (false≢true e)
flag_means v g Live (From k) e = absurd (false≢true e)
flag_means v g Dead Live e = absurd (false≢true e)
flag_means v g Dead Dead e = refl
flag_means v g Dead (From k) e = absurd (false≢true e)
flag_means v g (From j) Live e = absurd (false≢true e)
flag_means v g (From j) Dead e = absurd (false≢true e)
flag_means v g (From j) (From k) e = ap (λ i. (g (v 2 +ℤ i)).live) ((Decides-int_eq j k).0 e)

cells_equal : (c d : ℕ) (l m : Bool) → c ≡ d → l ≡ m → cell_of c l ≡ cell_of d m
cells_equal c d l m e h = ap (λ x. cell_of x l) e ∙ ap (λ y. cell_of d y) h

pub found_same : (v : ℕ → ℤ) (g : ℤ → Cell) (x y : Finished) → end_of (ask_same x y) v ≡ None
    → meant v g x ≡ meant v g y
unfolding ask_same
found_same v g x y e =
    elim (cases_Bool (is_same_flag x.flag y.flag)) [
      | inl flags ↦
          (let sources = rw flags at e in
          cells_equal _ _ _ _ (source_means v g x.source y.source (cells_cause x y) sources)
          (flag_means v g x.flag y.flag flags))
      | inr other ↦ (let wrong : Some (cells_cause x y) ≡ None = rw other at e in absurd (cc))
    ]
