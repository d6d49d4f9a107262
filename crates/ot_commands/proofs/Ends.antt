-- How the orders of a case end, one after another.
use Rattle.std.proofs.Common.{◌≡◌, suc, All, List, [], ◌∷◌, map, Some, sym, ap, ◌∙◌, subst, ◌↔◌, arith}
use Rattle.std.specs.Prelude.{slice_get}
use Rattle.std.specs.List.{AllByRecursion}
use Rattle.std.proofs.lemmas.List.Elements.{All-cons, All-nil}
use Rattle.ot_model.specs.declared.cell.Cell.{Cell}
use Rattle.fn_rules.specs.Orders.{Document}
use Rattle.ot_integrate.specs.declared.end.End.{End}
use Rattle.ot_integrate.specs.Ends.{outcome_of}
use Rattle.ot_commands.specs.Integrate.{HaveOneEnd}

-- the end is this document
abbrev Is : List Cell → End → Type 0
Is d e = outcome_of e ≡ Document d

tail_of : (d : List Cell) (e : End) (ends : List End) → All (Is d) (e ∷ ends) → All (Is d) ends
tail_of d e ends all k other below = all (suc k) other (omega (arith, below))

outcomes_are : (d : List Cell) (ends : List End) → All (Is d) ends
    → AllByRecursion (λ o. o ≡ Document d) (map outcome_of ends)
outcomes_are d [] all = tt
outcomes_are d (e ∷ ends) all = (all 0 e (omega arith), outcomes_are d ends (tail_of d e ends all))

ends_are : (d : List Cell) (ends : List End)
    → AllByRecursion (λ o. o ≡ Document d) (map outcome_of ends) → All (Is d) ends
ends_are d [] all = All-nil (Is d)
ends_are d (e ∷ ends) all = All-cons (Is d) e ends all.0 (ends_are d ends all.1)

same_document : (d other : List Cell) → Document other ≡ Document d → d ≡ other
same_document d other e = cc

-- an end is a document, so all ends are one document exactly where all are this one
pub one_end :
    (ends : List End) (d : List Cell)
    → ((other : List Cell) → AllByRecursion (λ o. o ≡ Document other) (map outcome_of ends) → d ≡ other)
    → All (Is d) ends ↔ HaveOneEnd (map outcome_of ends)
one_end ends d same = (
  λ all. (d, outcomes_are d ends all),
  λ one. ends_are d ends
      (subst (λ x. AllByRecursion (λ o. o ≡ Document x) (map outcome_of ends)) (sym (same one.0 one.1)) one.1),
)

-- the first end is a document
pub first_end :
    (ends : List End) (first : End) (d : List Cell) → slice_get ends 0 ≡ Some first → outcome_of first ≡ Document d
    → (other : List Cell) → AllByRecursion (λ o. o ≡ Document other) (map outcome_of ends) → d ≡ other
first_end [] first d is told other all = absurd (cc)
first_end (e ∷ ends) first d is told other all =
    let same : e ≡ first = cc in
    same_document d other (sym all.0 ∙ (ap (λ x. outcome_of x) same ∙ told))
