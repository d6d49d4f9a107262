-- Answers, and the literals that they stand for.
use Rattle.std.proofs.Common.{◌≡◌, Bool, true, false, List, [], ◌∷◌, ◌⊎◌, inl, inr, ap}
use Rattle.diff_graph.specs.declared.lit.Lit.{Lit}
use Rattle.diff_graph.specs.Literals.{answered_of, negated}
use Rattle.ask_core.specs.Plans.{Plan, Ask, Holds, Fails, after_answer}
use Rattle.ot_prove.specs.declared.outcome.Answer.{Answer}
use Rattle.ot_prove.specs.Outcomes.{answered_by, AreAnswersTo}
use Rattle.ask_core.specs.Leading.{LeadTo}

-- an answer to a literal stands for it or for its negation, by the way that it leads to
by_answer :
    {A B : Type 0} (asked lit : Lit) (yes : Bool) (P : Bool → Type 0) → lit ≡ asked → P yes
    → (P true → A) → (P false → B)
    → ((answered_of lit yes ≡ asked) × A) ⊎ ((answered_of lit yes ≡ negated asked) × B)
by_answer asked lit true P is h on_yes on_no = inl (is, on_yes h)
by_answer asked lit false P is h on_yes on_no = inr (ap (λ l. negated l) is, on_no h)

-- answers that lead to a failing end stand for literals that do
pub literals_lead :
    {W : Type 0} (why : W) (p : Plan W) (answers : List Answer) → AreAnswersTo p answers (Fails why)
    → LeadTo why p (answered_by answers)
literals_lead why (Ask l on_yes on_no) [] is = cc
literals_lead why (Ask l on_yes on_no) (a ∷ answers) h =
    by_answer l a.lit a.yes (λ yes. AreAnswersTo (after_answer (Ask l on_yes on_no) yes) answers (Fails why)) h.0 h.1
    (literals_lead why on_yes answers) (literals_lead why on_no answers)
literals_lead why Holds [] is = cc
literals_lead why Holds (a ∷ answers) h = absurd h.0
literals_lead why (Fails cause) [] is = cc
literals_lead why (Fails cause) (a ∷ answers) h = absurd h.0
