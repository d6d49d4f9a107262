-- A goal is built from its end to its beginning.
use Rattle.std.proofs.Common.{◌≡◌, ℤ, List, [], ◌∷◌, ap, ◌∙◌, arith}
use Rattle.std.proofs.lemmas.Int.{ints}
use Rattle.ot_model.specs.declared.op.Kind.{Kind}
use Rattle.fn_rules.specs.declared.function.Head.{Head}
use Rattle.fn_rules.specs.Functions.{Function, GuardedCase, cases_of}
use Rattle.ot_questions.specs.declared.name.Who.TheVariants.{A, B}
use Rattle.ot_questions.specs.declared.place.SymOp.{SymOp}
use Rattle.ot_questions.specs.Nears.{IsNear}
use Rattle.ot_questions.specs.Places.{sym_op}
use Rattle.ot_terms.specs.Goals.{GoalTree}
use Rattle.ot_terms.specs.Starting.{if_all_enabled, if_allowed, if_length}
use Rattle.ot_reverse.specs.Goals.{reversal_goal, unless_taken_back}

abbrev Whole : Head → SymOp → SymOp → List GuardedCase → List GuardedCase → GoalTree
Whole head a b cs ds = if_length (if_all_enabled (a ∷ b ∷ []) (if_allowed head a b (unless_taken_back cs ds a b)))

-- a goal that was built from its parts, as a reversal has them, is the goal of the reversal
pub built :
    (f e : Function) (k l : Kind) (head : Head) (a b : SymOp) (cs ds : List GuardedCase)
    (taken allowed whole : GoalTree)
    → a ≡ sym_op k A → b ≡ sym_op l B → head ≡ f.head → cs ≡ cases_of f k l → ds ≡ cases_of e k l
    → taken ≡ unless_taken_back cs ds a b → allowed ≡ if_allowed head a b taken
    → whole ≡ if_length (if_all_enabled (a ∷ b ∷ []) allowed) → whole ≡ reversal_goal f e k l
built f e k l head a b cs ds taken allowed whole first second heads cases others last behind tests =
    tests
    ∙ ap (λ (g : GoalTree). if_length (if_all_enabled (a ∷ b ∷ []) g))
    (behind ∙ ap (λ (g : GoalTree). if_allowed head a b g) last)
    ∙ ap (λ (x : SymOp). Whole head x b cs ds) first
    ∙ ap (λ (x : SymOp). Whole head (sym_op k A) x cs ds) second
    ∙ ap (λ (h : Head). Whole h (sym_op k A) (sym_op l B) cs ds) heads
    ∙ ap (λ (x : List GuardedCase). Whole f.head (sym_op k A) (sym_op l B) x ds) cases
    ∙ ap (λ (x : List GuardedCase). Whole f.head (sym_op k A) (sym_op l B) (cases_of f k l) x) others

-- an offset that lets a result come back lets a guard be placed
pub near_enough : {off : ℤ} → IsNear 101 off → IsNear 200 off
near_enough near = record { low = omega (arith, ints, near.low); high = omega (arith, ints, near.high) }
