-- Answers, as the literals that they stand for, that lead from the beginning of a plan to an end that fails.
use Rattle.std.specs.Prelude.{◌≡◌, ◌⊎◌, List, [], ◌∷◌}
use Rattle.diff_graph.specs.declared.lit.Lit.{Lit}
use Rattle.diff_graph.specs.Literals.{negated}
use Rattle.ask_core.specs.Plans.{Plan, Ask, Holds, Fails}

-- the literals are, in order, what is asked on the way to an end with this cause, each as it is asked or
-- negated, by the way that is taken after it
abbrev pub LeadTo : {W : Type 0} → W → Plan W → List Lit → Type 0
LeadTo why (Ask l on_yes on_no) [] = ⊥
LeadTo why (Ask l on_yes on_no) (m ∷ w) = ((m ≡ l) × LeadTo why on_yes w) ⊎ ((m ≡ negated l) × LeadTo why on_no w)
LeadTo why Holds w = ⊥
LeadTo why (Fails cause) [] = cause ≡ why
LeadTo why (Fails cause) (m ∷ w) = ⊥
