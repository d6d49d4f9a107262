-- The tokens and questions of a search, step by step, and what its ends decide.
use Rattle.std.proofs.Common.{◌≡◌, ℕ, ◌≤◌, List, [], ◌∷◌, ◌++◌, length, Option, Some, None, MatchOption, arith, refl}
use Rattle.std.proofs.Common.{sym, ap, ◌∙◌, subst}
use Rattle.std.proofs.lemmas.List.{append_assoc, append-nil, length-append}
use Rattle.diff_graph.specs.declared.lit.Lit.{Lit}
use Rattle.diff_graph.specs.Literals.{IsPossible}
use Rattle.ask_core.specs.declared.tree.Tok.{Tok}
use Rattle.ask_core.specs.declared.tree.Tok.TheVariants as token
use Rattle.cert_text.specs.TreeTexts.{Written}
use Rattle.ask_core.specs.Plans.{Plan, Ask, Holds, Fails}
use Rattle.ask_core.specs.Trees.{Branch, IsCycleAmong, tokens_of}
use Rattle.ask_core.specs.Questions.{Questions, FailingEnd, QuestionList, no_questions, failing_at}
use Rattle.ot_prove.specs.declared.outcome.Outcome.TheVariants.{Yes, Spent}
use Rattle.ot_prove.specs.Outcomes.{IsProofOfPlan, asked_along}
use Rattle.ot_prove.specs.Searching.{joined_questions, Listed, Answered, whole, HasCome, AgreesWithLists}
use Rattle.ot_prove.proofs.Listing.{ListedBehind, Listed-impossible, Listed-holds, Listed-fails, Listed-question}
use Rattle.ot_prove.proofs.Listing.{parts_of}
use Rattle.ot_prove.proofs.Answering.{Answered-question, Answered-holds, Answered-cycle}

module _ {W : Type 0} where
  -- a list alone, by its failing end
  listed_alone : (p : Plan W) (q : Questions W) (failing : Option (FailingEnd W)) → q.failing ≡ failing
      → QuestionList p [] q
      → MatchOption failing ((n : Questions W) × Listed [] n × (q ≡ joined_questions q n)) (λ _. q ≡ q)
  listed_alone p q None ends list = (
    no_questions,
    refl,
    ap (λ (x : List (List Lit)). record { asked = x; failing = q.failing }) (sym (append-nil q.asked))
        ∙ ap (λ (x : Option (FailingEnd W)). record { asked = q.asked ++ []; failing = x }) ends,
  )
  listed_alone p q (Some end) ends list = refl

  pub HasCome-begun : (root : Plan W) → HasCome root [] [] (whole root)
  HasCome-begun root = record {
    trees = λ rest later answered. answered;
    lists = λ q list. (q, (q, list, listed_alone root q q.failing refl list), refl);
  }

  -- tokens and questions that take the open branches to others
  HasCome-step :
      (root : Plan W) (tokens more : List Tok) (asked new : List (List Lit)) (before after : List (Branch W))
      → ((rest : List Tok) (later : List (List Lit)) → Answered rest later after
      → Answered (more ++ rest) (new ++ later) before)
      → ((q : Questions W) → Listed before q → ListedBehind new after q)
      → HasCome root tokens asked before → HasCome root (tokens ++ more) (asked ++ new) after
  HasCome-step root tokens more asked new before after trees lists come = record {
    trees = λ rest later answered.
        subst (λ (x : List Tok). Answered x ((asked ++ new) ++ later) (whole root)) (sym (append_assoc tokens more
        rest)) (subst (λ (x : List (List Lit)). Answered (tokens ++ (more ++ rest)) x (whole root))
        (sym (append_assoc asked new later)) (come.trees (more ++ rest) (new ++ later) (trees rest later answered)));
    lists = λ q list.
        let found = come.lists q list in
        let behind = lists found.0 found.1 in
        let shown : asked ++ (new ++ behind.0.asked) ≡ (asked ++ new) ++ behind.0.asked =
        sym (append_assoc asked new behind.0.asked) in (
          behind.0,
          behind.1,
          found.2
              ∙ ap (λ (x : Questions W). record { asked = asked ++ x.asked; failing = x.failing }) behind.2
              ∙ ap (λ (x : List (List Lit)). record { asked = x; failing = behind.0.failing }) shown,
        );
  }

  module _ (root : Plan W) (tokens : List Tok) (asked : List (List Lit)) (b : Branch W) (branches : List (Branch W))
      (come : HasCome root tokens asked (b ∷ branches)) where
    pub HasCome-question :
        (l : Lit) (on_yes on_no : Plan W) → b.plan ≡ Ask l on_yes on_no → IsPossible b.answers
        → HasCome root (tokens ++ token.Ask ∷ []) (asked ++ b.answers ∷ []) (parts_of l on_yes on_no b.answers branches)
    HasCome-question l on_yes on_no asks possible =
        HasCome-step root tokens (token.Ask ∷ []) asked (b.answers ∷ []) (b ∷ branches)
        (parts_of l on_yes on_no b.answers branches)
        (λ rest later answered. Answered-question b branches l on_yes on_no rest later asks answered)
        (λ q listed. Listed-question b branches q l on_yes on_no asks possible listed) come

    pub HasCome-holds : b.plan ≡ Holds → HasCome root (tokens ++ token.Holds ∷ []) (asked ++ []) branches
    HasCome-holds holds =
        HasCome-step root tokens (token.Holds ∷ []) asked [] (b ∷ branches) branches
        (λ rest later answered. Answered-holds b branches rest later holds answered)
        (λ q listed. (q, Listed-holds b branches q holds listed, refl)) come

    pub HasCome-cycle :
        (picks : List ℕ) → IsCycleAmong b.answers picks → ¬ IsPossible b.answers
        → HasCome root (tokens ++ token.Cycle picks ∷ []) (asked ++ []) branches
    HasCome-cycle picks cycle never =
        HasCome-step root tokens (token.Cycle picks ∷ []) asked [] (b ∷ branches) branches
        (λ rest later answered. Answered-cycle b branches picks rest later cycle answered)
        (λ q listed. (q, Listed-impossible b branches q never listed, refl)) come

    -- a question that the budget does not allow
    pub AgreesWithLists-spent :
        (l : Lit) (on_yes on_no : Plan W) (budget : ℕ) → b.plan ≡ Ask l on_yes on_no
        → IsPossible b.answers → length asked ≡ budget
        → AgreesWithLists root budget Spent
    AgreesWithLists-spent l on_yes on_no budget asks possible count q list =
        let found = come.lists q list in
        let behind = Listed-question b branches found.0 l on_yes on_no asks possible found.1 in
        let asked_is : q.asked ≡ asked ++ (b.answers ∷ behind.0.asked) =
        ap (λ (x : Questions W). x.asked) found.2 ∙ ap (λ (x : Questions W). asked ++ x.asked) behind.2 in
        omega (arith, ap length asked_is, length-append asked (b.answers ∷ behind.0.asked))

    -- a failing end that some integers meet
    pub fails_here :
        (why : W) (budget : ℕ) (q : Questions W) → b.plan ≡ Fails why → IsPossible b.answers → length asked ≤ budget
        → QuestionList root [] q
        → (length q.asked ≤ budget) × (q.failing ≡ Some (record { answers = b.answers; why = why }))
    fails_here why budget q fails possible within list =
        let found = come.lists q list in
        let end : found.0 ≡ failing_at b.answers why = Listed-fails b branches found.0 why fails possible found.1 in
        let is : q ≡ record { asked = asked ++ []; failing = Some (record { answers = b.answers; why = why }) } =
        found.2 ∙ ap (λ (x : Questions W). record { asked = asked ++ x.asked; failing = x.failing }) end in
        let long : length q.asked ≡ length asked =
        ap (λ (x : Questions W). length x.asked) is ∙ ap length (append-nil asked) in
        (omega arith, ap (λ (x : Questions W). x.failing) is)

  -- nothing is open any more
  answered_whole :
      (root : Plan W) (tokens : List Tok) (asked : List (List Lit)) → Answered (tokens ++ []) (asked ++ []) (whole root)
      → IsProofOfPlan root tokens asked
  answered_whole root tokens asked (t, rest, later, fits, spelled, questions, (no_rest, no_later)) = record {
    tree = t;
    fits = fits;
    spelled =
        sym (append-nil tokens) ∙ spelled ∙ ap (λ (x : List Tok). tokens_of t ++ x) no_rest ∙ append-nil (tokens_of t);
    questions =
        sym (append-nil asked) ∙ questions ∙ ap (λ (x : List (List Lit)). asked_along t root [] ++ x) no_later
        ∙ append-nil (asked_along t root []);
  }

  -- where nothing is open any more and the budget was kept, the tokens are a proof by each question list
  pub AgreesWithLists-yes :
      (root : Plan W) (tree : Written) (asked : List (List Lit)) (count budget : ℕ) → HasCome root tree.tokens asked []
      → count ≡ length asked → count ≤ budget → AgreesWithLists root budget (Yes tree count)
  AgreesWithLists-yes root tree asked count budget come is_count within q list =
      let found = come.lists q list in
      let is : q ≡ record { asked = asked ++ []; failing = None } =
      found.2 ∙ ap (λ (x : Questions W). record { asked = asked ++ x.asked; failing = x.failing }) found.1 in
      let asked_is : q.asked ≡ asked = ap (λ (x : Questions W). x.asked) is ∙ append-nil asked in
      let long : length q.asked ≡ length asked = ap length asked_is in (
        omega arith,
        ap (λ (x : Questions W). x.failing) is,
        omega arith,
        subst (λ (x : List (List Lit)). IsProofOfPlan root tree.tokens x) (sym asked_is)
            (answered_whole root tree.tokens asked (come.trees [] [] (refl, refl))),
      )
