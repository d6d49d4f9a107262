-- Answers that a valuation gives on its way.
use Rattle.std.specs.List.{AllByRecursion}
use Rattle.std.proofs.Common.{◌≡◌, ◌↔◌, ℕ, ◌+◌, ◌<◌, ℤ, pos, Bool, List, [], ◌∷◌, ◌++◌, length, take, subst, sym}
use Rattle.std.proofs.lemmas.List.{map-append, take_more}
use Rattle.diff_graph.specs.declared.lit.Lit.{Lit}
use Rattle.diff_graph.specs.Cycles.{literal_at}
use Rattle.diff_graph.specs.Literals.{answered_of, is_met, AreMet}
use Rattle.diff_tables.proofs.AddingSteps.{All-append}
use Rattle.ask_core.specs.Trees.{with_answer}
use Rattle.ot_prove.specs.declared.outcome.Answer.{Answer}
use Rattle.ot_prove.specs.Outcomes.{answered_by}

-- a valuation meets answers with one more exactly where it meets those before and gives this one
abbrev pub AnswersQuestions : (ℕ → ℤ) → Type 0
AnswersQuestions v =
    (w : List Lit) (l : Lit) (said : Bool) → (AreMet v (with_answer w l said) ↔ (AreMet v w × (is_met v l ≡ said)))

-- one more answer that the valuation gives
pub met_on :
    (v : ℕ → ℤ) (answers : List Answer) (l : Lit) (said : Bool) → AnswersQuestions v → is_met v l ≡ said
    → AreMet v (answered_by answers) → AreMet v (answered_by (answers ++ record { lit = l; yes = said } ∷ []))
met_on v answers l said law gives met =
    subst (λ (w : List Lit). AreMet v w)
    (sym (map-append (λ (a : Answer). answered_of a.lit a.yes) answers (record { lit = l; yes = said } ∷ [])))
    ((law (answered_by answers) l said).1 (met, gives))

-- one more literal of a list, of which the same holds
pub all_more :
    (P : Lit → Type 0) (ls : List Lit) (place : ℕ) → place < length ls → AllByRecursion P (take place ls)
    → P (literal_at ls place) → AllByRecursion P (take (place + 1) ls)
all_more P ls place inside all last =
    subst (λ (xs : List Lit). AllByRecursion P xs) (sym (take_more ls place (record { x = 0; y = 0; k = pos 0 })
    inside)) (All-append P (take place ls) (literal_at ls place ∷ []) all (last, tt))
