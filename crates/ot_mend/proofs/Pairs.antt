-- What is said of the pairs of kinds, first kind by first kind.
use Rattle.std.proofs.Common.{◌≡◌, List, ◌++◌, ap, sym, ◌∙◌, append_assoc}
use Rattle.std.specs.List.{flat_map}
use Rattle.std.proofs.lemmas.Grind.{flat_map-append}

-- three lists, one behind the other
pub behind_each_other :
    {X Y : Type 0} (g : X → List Y) (old first second third : List Y) (xs ys zs : List X)
    → first ≡ old ++ flat_map g xs → second ≡ first ++ flat_map g ys → third ≡ second ++ flat_map g zs
    → third ≡ old ++ flat_map g (xs ++ (ys ++ zs))
behind_each_other g old first second third xs ys zs one two three =
    three
    ∙ (ap (λ l. l ++ flat_map g zs) (two ∙ ap (λ l. l ++ flat_map g ys) one)
    ∙ (append_assoc (old ++ flat_map g xs) (flat_map g ys) (flat_map g zs)
    ∙ (append_assoc old (flat_map g xs) (flat_map g ys ++ flat_map g zs)
    ∙ ap (λ l. old ++ l)
    (ap (λ l. flat_map g xs ++ l) (sym (flat_map-append g ys zs)) ∙ sym (flat_map-append g xs (ys ++ zs))))))
