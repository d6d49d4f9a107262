-- Fronts that spell values behind which anything may stand are found exactly.
use Rattle.std.proofs.Common.{◌≡◌, ℕ, ◌<◌, List, [], ◌∷◌, ◌++◌, length, refl, sym, ap, ◌∙◌, arith, length-append}
use Rattle.std.proofs.lemmas.List.{append-nil}
use Rattle.proof_text.specs.declared.unread.Unread.TheVariants.{Misspelt, Cut}
use Rattle.proof_text.specs.Fronts.{Parsed, Found, Missing}
use Rattle.proof_text.specs.Exact.{BeginNone, EndWithin, FindsExactly}
use Rattle.proof_text.proofs.Spells.{Spells, IsAnything, found_is_not_missing, found_stays, same_found}

-- a front that spells values, behind which anything may stand, finds them exactly where they stand
pub finds_exactly :
    {A : Type 0} {front : List ℕ → Parsed A} {text : A → List ℕ} {Spelled : A → Type 0}
    → Spells front text Spelled IsAnything → FindsExactly front text Spelled
finds_exactly {A} {front} {text} {Spelled} s =
    record {
      found = λ a bytes rest. (
        λ is. let r = s.read a bytes rest is in (r.0, r.2),
        λ h. ap front h.1 ∙ s.written a rest h.0 tt,
      );
      cut = λ bytes. (λ is. end_within bytes is, λ h. is_cut bytes (front bytes) refl h);
      misspelt = λ bytes. (λ is. begin_none bytes is, λ h. is_misspelt bytes (front bytes) refl h);
      found_longer = λ a bytes rest more is. found_stays s a bytes rest more is;
      misspelt_longer = λ bytes more is. s.misspelt bytes more is;
    }
  where
    whole : (a : A) → Spelled a → front (text a) ≡ Found a []
    whole a spelled = ap front (sym (append-nil (text a))) ∙ s.written a [] spelled tt

    end_within : (bytes : List ℕ) → front bytes ≡ Missing Cut → EndWithin text Spelled bytes
    end_within bytes is =
        let c = s.cut bytes is in (c.0, c.1, c.2, some bytes c.0 c.1 c.2 c.3 is, c.3)
      where
        some :
            (bytes : List ℕ) (a : A) (more : List ℕ) → Spelled a → text a ≡ bytes ++ more → front bytes ≡ Missing Cut
            → 0 < length more
        some bytes a [] spelled is cut =
            absurd (found_is_not_missing a [] Cut (sym (whole a spelled) ∙ ap front (is ∙ append-nil bytes) ∙ cut))
        some bytes a (b ∷ more) spelled is cut = omega arith

    -- what goes on as a spelling is found in it with nothing behind
    no_found :
        (bytes more rest : List ℕ) (a b : A) → front bytes ≡ Found b rest → Spelled a → text a ≡ bytes ++ more
        → 0 < length more → ⊥
    no_found bytes more rest a b is spelled text_is some =
        let same = same_found b a (rest ++ more) []
        (sym (found_stays s b bytes rest more is) ∙ ap front (sym text_is) ∙ whole a spelled) in
        omega (arith, ap length same.1, length-append rest more)

    is_cut : (bytes : List ℕ) (x : Parsed A) → front bytes ≡ x → EndWithin text Spelled bytes
        → front bytes ≡ Missing Cut
    is_cut bytes (Found b rest) is h = absurd (no_found bytes h.1 rest h.0 b is h.2 h.4 h.3)
    is_cut bytes (Missing Cut) is h = is
    is_cut bytes (Missing Misspelt) is h =
        absurd (found_is_not_missing h.0 [] Misspelt (sym (whole h.0 h.2) ∙ ap front h.4 ∙ s.misspelt bytes h.1 is))

    begin_none : (bytes : List ℕ) → front bytes ≡ Missing Misspelt → BeginNone text Spelled bytes
    begin_none bytes is a more spelled = (
      λ e. found_is_not_missing a [] Misspelt (sym (whole a spelled) ∙ ap front e ∙ s.misspelt bytes more is),
      λ e. found_is_not_missing a more Misspelt (sym (s.written a more spelled tt) ∙ ap front (sym e) ∙ is),
    )

    is_misspelt : (bytes : List ℕ) (x : Parsed A) → front bytes ≡ x → BeginNone text Spelled bytes
        → front bytes ≡ Missing Misspelt
    is_misspelt bytes (Found b rest) is h = let r = s.read b bytes rest is in absurd ((h b rest r.0).1 r.2)
    is_misspelt bytes (Missing Cut) is h = let c = s.cut bytes is in absurd ((h c.0 c.1 c.2).0 c.3)
    is_misspelt bytes (Missing Misspelt) is h = is
