-- The first obligation of a list, and those behind it.
use Rattle.std.specs.List.{list_all}
use Rattle.std.proofs.Common.{◌≡◌, true, List, [], ◌∷◌, refl, arith, subst}
use Rattle.std.proofs.lemmas.Bool.{and_parts}
use Rattle.std.proofs.lemmas.List.Elements.{Contains-append_left, Contains-append_right}
use Rattle.fn_rules.specs.declared.function.ObName.{ObName}
use Rattle.fn_rules.specs.Functions.{Function}
use Rattle.fn_rules.specs.Obligations.{is_obligation}
use Rattle.ot_questions.specs.Obligation.{plan_of}
use Rattle.plan_proofs.specs.declared.ended.Ended.{Ended}
use Rattle.plan_proofs.specs.declared.ended.Ended.TheVariants.{Shown, Fails, Spent}
use Rattle.ot_settle.specs.declared.ended.FailingOb.{FailingOb}
use Rattle.ot_settle.specs.declared.ending.FailingEnd.{FailingEnd}
use Rattle.ot_settle.specs.Searching.{FailsAmong}
use Rattle.plan_proofs.specs.Searching.{FailsOnlySo}
use Rattle.ot_settle.specs.Endings.{IsFailingEnd}
use Rattle.ot_questions.specs.declared.why.Why.{Why}

module _ (f : Function) (names : List ObName) (ob : ObName) (others : List ObName) (are : names ≡ ob ∷ others)
    (listed : list_all (is_obligation f.head) names ≡ true) where
  all_listed : (is_obligation f.head ob ≡ true) × (list_all (is_obligation f.head) others ≡ true)
  all_listed =
      and_parts (is_obligation f.head ob) (list_all (is_obligation f.head) others)
      (subst (λ (n : List ObName). list_all (is_obligation f.head) n ≡ true) are listed)

  pub first_listed : is_obligation f.head ob ≡ true
  first_listed = all_listed.0

  pub others_listed : list_all (is_obligation f.head) others ≡ true
  others_listed = all_listed.1

  -- the first one fails
  pub first_fails : (end : FailingEnd Why) → IsFailingEnd (plan_of f ob) end
      → FailsAmong f names (record { ob = ob; end = end })
  first_fails end leads =
      rw are (record {
        asked = Contains-append_left (ob ∷ []) others ob (0, omega arith, refl);
        listed = first_listed;
        leads = leads;
      })

  -- where one of the others fails, one of all does
  pub others_fail : (e : Ended FailingOb) → FailsOnlySo (FailsAmong f others) e → FailsOnlySo (FailsAmong f names) e
  others_fail Shown fails = tt
  others_fail (Fails e) fails =
      rw are (record {
        asked = Contains-append_right (ob ∷ []) others e.ob fails.asked;
        listed = fails.listed;
        leads = fails.leads;
      })
  others_fail (Spent cause) fails = tt
