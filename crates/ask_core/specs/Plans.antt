-- Plans of questions over literals, and where a valuation leads through them.
use Rattle.std.specs.Prelude.{ℕ, ℤ, Bool, true, false, List, [], ◌∷◌, Option, Some, None, is_none, if◌then◌else◌}
use Rattle.diff_graph.specs.declared.lit.Lit.{Lit}
use Rattle.diff_graph.specs.Literals.{is_met}

-- a finite tree of questions, whose ends hold or fail with a cause
pub data Plan (W : Type 0) : Type 0 where
  Ask : Lit → Plan W → Plan W → Plan W
  Holds : Plan W
  Fails : W → Plan W

-- the cause in which a valuation ends, or none where it ends in `Holds`
abbrev pub end_of : {W : Type 0} → Plan W → (ℕ → ℤ) → Option W
end_of (Ask l on_yes on_no) v = if is_met v l then end_of on_yes v else end_of on_no v
end_of Holds v = None
end_of (Fails why) v = Some why

-- whether a valuation ends in `Holds`
abbrev pub value : {W : Type 0} → Plan W → (ℕ → ℤ) → Bool
value p v = is_none (end_of p v)

-- the plan behind a premise: it asks the literal, goes on with the plan at yes, and holds at no
abbrev pub premised : {W : Type 0} → Lit → Plan W → Plan W
premised l p = Ask l p Holds

-- the plan that is left after an answer
abbrev pub after_answer : {W : Type 0} → Plan W → Bool → Plan W
after_answer (Ask l on_yes on_no) true = on_yes
after_answer (Ask l on_yes on_no) false = on_no
after_answer Holds yes_said = Holds
after_answer (Fails why) yes_said = Fails why

-- the plan that is left after a list of answers, the first one first
abbrev pub after_answers : {W : Type 0} → Plan W → List Bool → Plan W
after_answers p [] = p
after_answers p (b ∷ bs) = after_answers (after_answer p b) bs
