use Rattle.std.proofs.Common.{◌≡◌, ◌+◌, ◌∷◌, IfOk, List, Result, Ok, Err, Option, String, Global, subst, sym, length}
use Rattle.std.specs.Prelude.{vec_len, Vec, MatchOption}
use Rattle.std.specs.declared.vec.IntoIter.{IntoIter}
use Rattle.std.specs.Iterator.{Drains, DrainsIf}
use Rattle.otp.proofs.words_of.Goals as goal

abbrev Word : Type 0
Word = String Global

abbrev Words : Type 0
Words = IntoIter Word Global

abbrev steps : Words → Option Word → Words → Type 0
steps s r t =
    MatchOption r ((s.rest.len ≡ 0) × (t.rest.len ≡ 0))
    (λ word. (s.rest.items ≡ word ∷ t.rest.items) × (t.rest.len + 1 ≡ s.rest.len))

-- what was collected to the end is all that came
drained : {E : Type 0} (s : Words) (r : Result (Vec Word Global) E)
    → IfOk r (λ v. (xs : List Word) × DrainsIf steps (Unit {0}) s xs × ((v.items ≡ xs) × (vec_len v ≡ length xs)))
    → IfOk r (λ v. Drains steps s v.items)
drained s (Ok v) (xs, (t, yields, ends), given) =
    subst (λ (l : List Word). Drains steps s l) (sym given.0) ((ends tt).0, (t, yields, (ends tt).1))
drained s (Err e) h = tt

pub returns : goal.returns
returns c = drained c.args.args c.collect.result c.collect.ensures.ran
