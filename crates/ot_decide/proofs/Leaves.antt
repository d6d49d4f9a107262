-- The trees of a certificate have one leaf more than questions each, and their leaves are short.
use Rattle.std.specs.List.{AllByRecursion}
use Rattle.std.specs.declared.alloc.Global.{Global}
use Rattle.std.proofs.Common.{◌≡◌, ℕ, ◌+◌, ◌≤◌, true, false, List, [], ◌∷◌, length, Option, Some, None, Vec, arith}
use Rattle.std.proofs.Common.{refl, sym, ap, subst, length-append}
use Rattle.diff_graph.specs.declared.lit.Lit.{Lit}
use Rattle.fn_rules.specs.declared.function.Level.{Level}
use Rattle.fn_rules.specs.declared.function.ObName.{ObName}
use Rattle.fn_rules.specs.Functions.{Function}
use Rattle.fn_rules.specs.Obligations.{obligations_of}
use Rattle.ask_core.specs.Plans.{Plan, Ask, Holds, Fails}
use Rattle.ask_core.specs.Trees.{AnswerTree, Question, End, Impossible, Fits, tokens_of, with_answer}
use Rattle.ask_core.specs.Questions.{Questions, FailingEnd}
use Rattle.cert_text.specs.Spelling.{AreSpellable}
use Rattle.ot_prove.specs.Outcomes.{asked_along}
use Rattle.ot_questions.specs.Obligation.{plan_of}
use Rattle.ot_decide.specs.declared.verdict.Verdict.TheVariants.{Yes}
use Rattle.ot_sections.specs.Certificates.{AreAnswers}
use Rattle.ot_decide.specs.Sizes.{HasShortLeaves, HaveFewLeaves, leaf_count, leaves_in}
use Rattle.ot_decide.specs.Verdicts.{ObQuestions, AreAsked, AskTheQuestions, IsDecidedAs, count_in, failing_in}
use Rattle.ot_decide.proofs.Lists.{Joins, asked_of, first_failing}
use Rattle.ot_decide.proofs.Lines.{obligations_few}
use Rattle.ot_decide.proofs.Spelled.{cycle_few, left_spellable, right_spellable}

-- the leaves of a tree that can be spelled
short_leaves : (t : AnswerTree) → AreSpellable (tokens_of t) → HasShortLeaves 73 t
short_leaves (Question t u) spellable = (
  short_leaves t (left_spellable (tokens_of t) (tokens_of u) spellable.1),
  short_leaves u (right_spellable (tokens_of t) (tokens_of u) spellable.1),
)
short_leaves End spellable = omega arith
short_leaves (Impossible picks) spellable = cycle_few picks spellable.0

module _ {W : Type 0} where
  -- a tree that fits has one leaf more than questions
  leaves_of_tree :
      (t : AnswerTree) (p : Plan W) (w : List Lit) → Fits t p w → leaf_count t ≡ length (asked_along t p w) + 1
  leaves_of_tree (Question t u) (Ask l on_yes on_no) w fits =
      let yes = leaves_of_tree t on_yes (with_answer w l true) fits.0 in
      let no = leaves_of_tree u on_no (with_answer w l false) fits.1 in
      let both = length-append (asked_along t on_yes (with_answer w l true))
      (asked_along u on_no (with_answer w l false)) in
      omega (arith, yes, no, both)
  leaves_of_tree (Question t u) Holds w fits = absurd fits
  leaves_of_tree (Question t u) (Fails why) w fits = absurd fits
  leaves_of_tree End p w fits = omega arith
  leaves_of_tree (Impossible picks) p w fits = omega arith

  module _ (plan : ObName → Plan W) where
    all_short : (obs : List ObName) (trees : List AnswerTree) → AreAnswers plan obs trees
        → AllByRecursion (HasShortLeaves 73) trees
    all_short [] [] answers = tt
    all_short [] (t ∷ trees) answers = absurd answers
    all_short (ob ∷ obs) [] answers = absurd answers
    all_short (ob ∷ obs) (t ∷ trees) answers = (short_leaves t answers.1, all_short obs trees answers.2)

    -- the trees of obligations of which none fails
    abbrev AreCounted : List ObName → List AnswerTree → List (ObQuestions W) → Type 0
    AreCounted obs trees lists = leaves_in trees ≡ count_in lists + length obs

    -- one more tree in front of trees that are counted
    counted_behind :
        (ob : ObName) (obs : List ObName) (t : AnswerTree) (trees : List AnswerTree) (q : Questions W)
        (failing : Option (FailingEnd W)) (lists : List (ObQuestions W)) → q.failing ≡ failing → Fits t (plan ob) []
        → ((later : List (ObQuestions W)) → AskTheQuestions plan trees later → AreAsked plan obs later
        → failing_in later ≡ None
        → AreCounted obs trees later)
        → AskTheQuestions plan (t ∷ trees) lists → Joins plan ob obs q failing lists → failing_in lists ≡ None
        → AreCounted (ob ∷ obs) (t ∷ trees) lists
    counted_behind ob obs t trees q None lists holds fits counted ask (later, asked, is) none =
        let asks : AskTheQuestions plan (t ∷ trees) (asked_of ob q ∷ later) =
        subst (AskTheQuestions plan (t ∷ trees)) is ask in
        let none_first : failing_in (asked_of ob q ∷ later) ≡ None =
        subst (λ (l : List (ObQuestions W)). failing_in l ≡ None) is none in
        let none_later : failing_in later ≡ None =
        subst (λ (o : Option (FailingEnd W)). first_failing ob o (failing_in later) ≡ None) holds none_first in
        let first : leaf_count t ≡ length q.asked + 1 =
        subst (λ (l : List (List Lit)). leaf_count t ≡ length l + 1) (sym asks.0)
        (leaves_of_tree t (plan ob) [] fits) in
        let others : leaves_in trees ≡ count_in later + length obs = counted later asks.1 asked none_later in
        subst (AreCounted (ob ∷ obs) (t ∷ trees)) (sym is) (omega (arith, first, others))
    counted_behind ob obs t trees q (Some end) lists fails fits counted ask is none =
        let none_first : failing_in (asked_of ob q ∷ []) ≡ None =
        subst (λ (l : List (ObQuestions W)). failing_in l ≡ None) is none in
        let some : first_failing ob (Some end) None ≡ None =
        subst (λ (o : Option (FailingEnd W)). first_failing ob o None ≡ None) fails none_first in
        absurd (cc)

    -- as many leaves as questions, and one for each obligation
    all_counted :
        (obs : List ObName) (trees : List AnswerTree) (lists : List (ObQuestions W)) → AreAnswers plan obs trees
        → AskTheQuestions plan trees lists → AreAsked plan obs lists → failing_in lists ≡ None
        → AreCounted obs trees lists
    all_counted [] [] lists answers ask is none = omega (arith, ap (λ (l : List (ObQuestions W)). count_in l) is)
    all_counted [] (t ∷ trees) lists answers ask is none = absurd answers
    all_counted (ob ∷ obs) [] lists answers ask is none = absurd answers
    all_counted (ob ∷ obs) (t ∷ trees) lists answers ask (q, listed, joins) none =
        counted_behind ob obs t trees q q.failing lists refl answers.0
        (λ later asks asked none_later. all_counted obs trees later answers.2 asks asked none_later) ask joins none

-- 1,000,000 questions and 24 obligations
pub few_leaves :
    (f : Function) (level : Level) (budget asked : ℕ) (bytes : Vec ℕ Global)
    (decided : IsDecidedAs f level budget (Yes bytes asked))
    → budget ≤ 1000000 → HaveFewLeaves 1000024 73 decided.2.2.trees
few_leaves f level budget count bytes (lists, asked, (within, none, proof)) few =
    let obs = obligations_of f.head level in
    let counted : leaves_in proof.trees ≡ count_in lists + length obs =
    all_counted (plan_of f) obs proof.trees lists proof.fit proof.ask asked none in
    let count = obligations_few f.head level in
    (omega (arith, counted, within, few, count), all_short (plan_of f) obs proof.trees proof.fit)
