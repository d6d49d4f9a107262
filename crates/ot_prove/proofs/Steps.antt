-- What each step keeps of a search.
use Rattle.std.proofs.Common.{◌≡◌, ◌≢◌, ◌↔◌, ℕ, ◌+◌, ◌-◌, ◌<◌, ◌≤◌, max, Bool, true, false, List, [], ◌∷◌, ◌++◌, length}
use Rattle.std.proofs.Common.{take, drop, get_or, reverse, Option, Some, None, IsTrue, arith, refl, sym, ap, ◌∙◌, subst}
use Rattle.std.proofs.lemmas.List.{append-nil, length-append, length_push, get_or_push, take_at}
use Rattle.diff_graph.specs.declared.lit.Lit.{Lit}
use Rattle.diff_graph.specs.Literals.{IsPossible, negated}
use Rattle.diff_graph.specs.Limits.{IsNamed}
use Rattle.diff_tables.specs.Tables.{kept_of, numbered_from}
use Rattle.ask_core.specs.declared.asker.TheConstants.{MAX_QUESTIONS}
use Rattle.ask_core.specs.declared.tree.Tok.{Tok}
use Rattle.ask_core.specs.declared.tree.Tok.TheVariants as token
use Rattle.ask_core.specs.Plans.{Plan, Ask, Holds, Fails}
use Rattle.ask_core.specs.Askers.{AsksFirst, IsFine, SamePlans, has_fine_literals, longest_path}
use Rattle.ask_core.specs.Trees.{Branch, with_answer}
use Rattle.ask_core.specs.Questions.{Questions, QuestionList}
use Rattle.ask_core.specs.Paths.{OpenPlace, AreOwn, branch_at, branches_at, after_question, first_answers, first_plan}
use Rattle.ask_core.specs.declared.asker.TheConstants.{MAX_NAMES}
use Rattle.ot_prove.specs.declared.outcome.Outcome.{Outcome}
use Rattle.ot_prove.specs.declared.outcome.Outcome.TheVariants.{Yes, Spent}
use Rattle.ot_prove.specs.Outcomes.{AreAllPossible, IsDecided}
use Rattle.search_places.specs.declared.split.Room.{Room}
use Rattle.search_places.specs.declared.split.Room.TheVariants.{Both, OnlyYes, OnlyNo}
use Rattle.diff_bounds.specs.Kept.{Rows}
use Rattle.search_places.specs.Sides.{IsTableOf, IsAsked, StandsForSome, AddsAnswer, AreJudged, ClosesCycle}
use Rattle.search_places.specs.Sides.{HasRoomForSides, JudgesSides, cycle_along, cycles_of, last_rows}
use Rattle.ot_prove.specs.Searching.{plan_weight, weight_of, HasCome, answers_at, AgreesWithLists, AreShortBranches}
use Rattle.ot_prove.specs.Searching.{LeadsTo, AreReached, IsSearching, IsAsBefore, IsUnderWayOr, HasEnded}
use Rattle.ot_prove.specs.declared.search.Stepped.{Stepped}
use Rattle.ot_prove.specs.declared.search.Stepped.TheVariants as step
use Rattle.search_places.specs.declared.search.PlanSearch.{PlanSearch}
use Rattle.search_places.specs.Changes.{known_by}
use Rattle.search_places.specs.Changes.{GoesOnAfterQuestion}
use Rattle.cert_text.specs.TreeTexts.{Written, with_token}
use Rattle.ot_prove.proofs.Literals.{fine_question}
use Rattle.ot_prove.proofs.Coming.{HasCome-begun, HasCome-question, HasCome-holds, HasCome-cycle, AgreesWithLists-spent}
use Rattle.ot_prove.proofs.Coming.{fails_here, AgreesWithLists-yes}
use Rattle.search_places.proofs.Possible.{AreNeverMet, IsPossible-by_table, impossible_by_cycle}
use Rattle.ot_prove.proofs.Ways.{LeadsTo-yes, LeadsTo-no}
use Rattle.search_places.proofs.Judged.{JudgesSides-only_no, last_at, last_of, reverse-push}

-- ---- the table of the first place
-- a vector's length is that of its items
pub without_last :
    (tables new : List Rows) (len : ℕ) → len ≡ length tables → new ≡ take (len - 1) tables
    → new ≡ take (length tables - 1) tables
without_last tables new len same less = less ∙ ap (λ (n : ℕ). take (n - 1) tables) same

-- the last table is that of the first place, and those before it are of the others
pub table_at_last :
    (w : List Lit) (ws : List (List Lit)) (cycles : List (Option (List ℕ))) (tables : List Rows)
    → AreJudged (w ∷ ws) (None ∷ cycles) (reverse tables)
    → (0 < length tables) × IsTableOf w (get_or tables (length tables - 1) [])
    × AreJudged ws cycles (reverse (take (length tables - 1) tables))
table_at_last w ws cycles [] judged = absurd judged
table_at_last w ws cycles (rows ∷ tables) judged =
    let some : 0 < length (rows ∷ tables) = omega arith in
    let found = last_of (rows ∷ tables) some in
    let front : List Rows = found.0 in
    let last : Rows = found.1.0 in
    let is : rows ∷ tables ≡ front ++ last ∷ [] = found.1.1 in
    let count : length (rows ∷ tables) - 1 ≡ length front =
    omega (arith, ap length is, length-append front (last ∷ [])) in
    let behind : reverse (rows ∷ tables) ≡ last ∷ reverse front = ap reverse is ∙ reverse-push front last in
    let known = subst (λ (xs : List Rows). AreJudged (w ∷ ws) (None ∷ cycles) xs) behind judged in
    let at_last : get_or (rows ∷ tables) (length (rows ∷ tables) - 1) [] ≡ last =
    ap (λ (xs : List Rows). get_or xs (length (rows ∷ tables) - 1) []) is
    ∙ get_or_push front last [] (length (rows ∷ tables) - 1) (sym count) in
    let before : take (length (rows ∷ tables) - 1) (rows ∷ tables) ≡ front =
    ap (λ (xs : List Rows). take (length (rows ∷ tables) - 1) xs) is
    ∙ take_at front (last ∷ []) (length (rows ∷ tables) - 1) (sym count) in (
      some,
      subst (λ (x : Rows). IsTableOf w x) (sym at_last) known.0,
      subst (λ (xs : List Rows). AreJudged ws cycles (reverse xs)) (sym before) known.1,
    )

module _ {W : Type 0} where
  -- ---- weights
  pub plan_weight-some : (p : Plan W) → 1 ≤ plan_weight p
  plan_weight-some (Ask l on_yes on_no) = omega arith
  plan_weight-some Holds = omega arith
  plan_weight-some (Fails why) = omega arith

  -- ---- the literal of a question
  pub asked_literal :
      (count : ℕ) (p : Plan W) (l : Lit) (on_yes on_no : Plan W) → IsFine count p
      → p ≡ Ask l on_yes on_no → count ≤ MAX_NAMES
      → IsNamed MAX_NAMES l × IsAsked l
  asked_literal count p l on_yes on_no fine asks few =
      let literal =
      (fine_question count l on_yes on_no
      (subst (λ (x : Plan W). IsTrue (has_fine_literals count x)) asks fine.literals)).0 in
      let x_below : l.x < count = literal.named.0 in
      let y_below : l.y < count = literal.named.1 in
      ((omega arith, omega arith), literal.asked)

-- a question leaves a first place
pub after_question-some :
    {N : Type 0} (places : List (OpenPlace N)) (l : Lit) (on_yes on_no : N) → 0 < length places
    → 0 < length (after_question l on_yes on_no places)
after_question-some [] l on_yes on_no some = absurd (omega arith)
after_question-some (p ∷ places) l on_yes on_no some = omega arith

module _ {N W : Type 0} where
  -- ---- what stays when own nodes keep their plans
  pub SamePlans-refl : (a : N → Type 0) (p : N → Plan W) → SamePlans a a p p
  SamePlans-refl a p = record { own = λ n. (λ x. x, λ x. x); plans = λ n own. refl }

  pub SamePlans-trans :
      {a b c : N → Type 0} {p q r : N → Plan W} → SamePlans a b p q → SamePlans b c q r → SamePlans a c p r
  SamePlans-trans first second = record {
    own = λ n. (λ x. (second.own n).0 ((first.own n).0 x), λ x. (first.own n).1 ((second.own n).1 x));
    plans = λ n own. second.plans n ((first.own n).0 own) ∙ first.plans n own;
  }

  -- the same of the whole asker
  pub IsAsBefore-refl : (a : N → Type 0) (p : N → Plan W) (root : Plan W) (count : ℕ)
      → IsAsBefore a a p p root root count count
  IsAsBefore-refl a p root count = record { same = SamePlans-refl a p; root_kept = refl; count_kept = refl }

  pub IsAsBefore-trans :
      {a b c : N → Type 0} {p q r : N → Plan W} {x y z : Plan W} {k m n : ℕ} → IsAsBefore a b p q x y k m
      → IsAsBefore b c q r y z m n → IsAsBefore a c p r x z k n
  IsAsBefore-trans first second = record {
    same = SamePlans-trans first.same second.same;
    root_kept = second.root_kept ∙ first.root_kept;
    count_kept = second.count_kept ∙ first.count_kept;
  }

  -- a search of the same branches
  pub IsSearching-same :
      {was_own is_own : N → Type 0} {old new : N → Plan W} {was_root root : Plan W} {budget : ℕ}
      {places : List (OpenPlace N)} {cycles : List (Option (List ℕ))} {tables : List Rows} {tree : List Tok} {asked : ℕ}
      → IsSearching was_own old was_root budget places cycles tables tree asked
      → AreOwn is_own places → branches_at new places ≡ branches_at old places → root ≡ was_root
      → IsSearching is_own new root budget places cycles tables tree asked
  IsSearching-same {old = old} {root = root} {places = places} {tree = tree} s own branches same_root = record {
    own = own;
    short = subst (λ (x : List (Branch W)). AreShortBranches x) (sym branches) s.short;
    reached =
        subst (λ (x : List (Branch W)). AreReached root x) (sym branches)
        (subst (λ (x : Plan W). AreReached x (branches_at old places)) (sym same_root) s.reached);
    judged = s.judged;
    so_far = s.so_far;
    come =
        subst (λ (x : List (Branch W)). HasCome root tree s.so_far x) (sym branches)
        (subst (λ (x : Plan W). HasCome x tree s.so_far (branches_at old places)) (sym same_root) s.come);
    count = s.count;
    within = s.within;
  }

  module _ (is_own : N → Type 0) (plan : N → Plan W) (root : Plan W) (budget : ℕ) where
    -- a search begins with the first node open, after no answers
    pub IsSearching-begun :
        (count : ℕ) (first : N) (possible : Bool) (cycles : List (Option (List ℕ))) (tables : List Rows)
        → is_own first × (plan first ≡ root) → IsFine count (plan first) → (possible ≡ true) × (cycles ≡ [])
        → (length tables ≡ 1) × IsTableOf [] (get_or tables 0 [])
        → IsSearching is_own plan root budget (record { node = first; answers = [] } ∷ []) (known_by possible cycles)
        (reverse tables) [] 0
    IsSearching-begun count first possible cycles [] begins fine cycles_are tables_are =
        absurd (omega (arith, tables_are.0))
    IsSearching-begun count first possible cycles (rows ∷ other ∷ tables) begins fine cycles_are tables_are =
        absurd (omega (arith, tables_are.0))
    IsSearching-begun count first possible cycles (rows ∷ []) begins fine cycles_are tables_are = record {
      own = (begins.0, tt);
      short = (omega (arith, fine.paths), tt);
      reached = (sym begins.1, tt);
      judged =
          subst (λ (b : Bool). AreJudged ([] ∷ []) (known_by b cycles) (reverse (rows ∷ []))) (sym cycles_are.0)
          (tables_are.1, tt);
      so_far = [];
      come = subst (λ (p : Plan W). HasCome root [] [] (record { plan = p; answers = [] } ∷ []))
          (sym begins.1) (HasCome-begun root);
      count = refl;
      within = omega arith;
    }

    -- a first place that some integers meet
    module _ (p : OpenPlace N) (places : List (OpenPlace N)) (cycles : List (Option (List ℕ)))
        (tables : List Rows) (tree : List Tok)
        (asked : ℕ)
        (s : IsSearching is_own plan root budget (p ∷ places) (None ∷ cycles) (reverse tables) tree asked) where
      possible_here : IsPossible p.answers
      possible_here =
          IsPossible-by_table p.answers
          (table_at_last p.answers (answers_at places) cycles tables s.judged).1

      -- a question puts the places of its two parts first, and is counted
      question_here :
          (l : Lit) (on_yes on_no : N) (new_cycles : List (Option (List ℕ))) (new_tables : List Rows)
          → is_own on_yes × is_own on_no × (plan p.node ≡ Ask l (plan on_yes) (plan on_no)) → asked ≢ budget
          → JudgesSides l (length p.answers) cycles (reverse tables) new_cycles new_tables
          → IsSearching is_own plan root budget (after_question l on_yes on_no (p ∷ places)) new_cycles new_tables
          (tree ++ token.Ask ∷ []) (asked + 1)
      question_here l on_yes on_no new_cycles new_tables begins fits judges =
          let long_yes : length (with_answer p.answers l true) ≡ length p.answers + 1 = length_push p.answers l in
          let long_no : length (with_answer p.answers l false) ≡ length p.answers + 1 =
          length_push p.answers (negated l) in
          let short : length p.answers + (1 + max (longest_path (plan on_yes)) (longest_path (plan on_no)))
          ≤ MAX_QUESTIONS =
          subst (λ (x : Plan W). length p.answers + longest_path x ≤ MAX_QUESTIONS) begins.2 s.short.0 in
          record {
            own = (begins.0, (begins.1, s.own.1));
            short = (omega arith, (omega arith, s.short.1));
            reached = (
              LeadsTo-yes root p.answers l (plan on_yes) (plan on_no)
                  (subst (λ (x : Plan W). LeadsTo root p.answers x) begins.2 s.reached.0),
              (
                LeadsTo-no root p.answers l (plan on_yes) (plan on_no)
                    (subst (λ (x : Plan W). LeadsTo root p.answers x) begins.2 s.reached.0),
                s.reached.1,
              ),
            );
            judged = judges p.answers (answers_at places) refl s.judged;
            so_far = s.so_far ++ p.answers ∷ [];
            come =
                HasCome-question root tree s.so_far (branch_at plan p) (branches_at plan places) s.come l (plan on_yes)
                (plan on_no) begins.2 possible_here;
            count = omega (arith, s.count, length_push s.so_far p.answers);
            within = omega (arith, s.within);
          }

      -- an end that holds closes the first place
      holds_here :
          plan p.node ≡ Holds
          → IsSearching is_own plan root budget places cycles (reverse (take (length tables - 1) tables))
          (tree ++ token.Holds ∷ []) asked
      holds_here holds = record {
        own = s.own.1;
        short = s.short.1;
        reached = s.reached.1;
        judged = (table_at_last p.answers (answers_at places) cycles tables s.judged).2;
        so_far = s.so_far ++ [];
        come = HasCome-holds root tree s.so_far (branch_at plan p) (branches_at plan places) s.come holds;
        count = s.count ∙ sym (ap length (append-nil s.so_far));
        within = s.within;
      }

      spent_here :
          (l : Lit) (on_yes on_no : Plan W) → plan p.node ≡ Ask l on_yes on_no → asked ≡ budget
          → AgreesWithLists root budget Spent
      spent_here l on_yes on_no asks spent =
          AgreesWithLists-spent root tree s.so_far (branch_at plan p) (branches_at plan places) s.come l on_yes on_no
          budget asks possible_here (sym s.count ∙ spent)

      failing_here :
          (why : W) (q : Questions W) → plan p.node ≡ Fails why → QuestionList root [] q
          → (length q.asked ≤ budget) × (q.failing ≡ Some (record { answers = p.answers; why = why }))
      failing_here why q fails list =
          fails_here root tree s.so_far (branch_at plan p) (branches_at plan places) s.come why budget q fails
          possible_here (omega (arith, s.count, s.within)) list

    -- a first place that no integers meet
    cycle_here :
        (p : OpenPlace N) (places : List (OpenPlace N)) (picks : List ℕ) (cycles : List (Option (List ℕ)))
        (tables : List Rows) (tree : List Tok) (asked : ℕ) → AreNeverMet
        → IsSearching is_own plan root budget (p ∷ places) (Some picks ∷ cycles) tables tree asked
        → IsSearching is_own plan root budget places cycles tables (tree ++ token.Cycle picks ∷ []) asked
    cycle_here p places picks cycles tables tree asked never s = record {
      own = s.own.1;
      short = s.short.1;
      reached = s.reached.1;
      judged = s.judged.1;
      so_far = s.so_far ++ [];
      come =
          HasCome-cycle root tree s.so_far (branch_at plan p) (branches_at plan places) s.come picks s.judged.0
          (impossible_by_cycle never p.answers picks s.judged.0);
      count = s.count ∙ sym (ap length (append-nil s.so_far));
      within = s.within;
    }

  -- ---- the same by the plan at the first place
  module _ (is_own : N → Type 0) (plan : N → Plan W) (root : Plan W) (budget : ℕ) where
    -- a question
    pub IsSearching-question :
        (places : List (OpenPlace N)) (cycles : List (Option (List ℕ))) (tables : List Rows) (tree : List Tok)
        (asked : ℕ) (l : Lit) (on_yes on_no : N) (new_cycles : List (Option (List ℕ))) (new_tables : List Rows)
        → IsSearching is_own plan root budget places (None ∷ cycles) (reverse tables) tree asked
        → is_own on_yes × is_own on_no × (first_plan plan places ≡ Ask l (plan on_yes) (plan on_no)) → asked ≢ budget
        → JudgesSides l (length (first_answers places)) cycles (reverse tables) new_cycles new_tables
        → IsSearching is_own plan root budget (after_question l on_yes on_no places) new_cycles new_tables
        (tree ++ token.Ask ∷ []) (asked + 1)
    IsSearching-question [] cycles tables tree asked l on_yes on_no new_cycles new_tables s begins fits judges =
        let asks : Holds ≡ Ask l (plan on_yes) (plan on_no) = begins.2 in absurd (cc)
    IsSearching-question (p ∷ places) cycles tables tree asked l on_yes on_no new_cycles
        new_tables s begins fits judges =
        question_here is_own plan root budget p places cycles tables tree asked s l on_yes on_no new_cycles
        new_tables begins fits judges

    -- an end that holds
    pub IsSearching-holds :
        (places : List (OpenPlace N)) (cycles : List (Option (List ℕ))) (tables new_tables : List Rows)
        (tree : List Tok) (asked : ℕ)
        → 0 < length places
        → IsSearching is_own plan root budget places (None ∷ cycles) (reverse tables) tree asked
        → first_plan plan places ≡ Holds → new_tables ≡ take (length tables - 1) tables
        → IsSearching is_own plan root budget (drop 1 places) cycles (reverse new_tables)
        (tree ++ token.Holds ∷ []) asked
    IsSearching-holds [] cycles tables new_tables tree asked some s holds less = absurd (omega arith)
    IsSearching-holds (p ∷ places) cycles tables new_tables tree asked some s holds less =
        subst (λ (xs : List Rows). IsSearching is_own plan root budget places cycles (reverse xs)
        (tree ++ token.Holds ∷ []) asked) (sym less)
        (holds_here is_own plan root budget p places cycles tables tree asked s holds)

    pub spent_at_first :
        (places : List (OpenPlace N)) (cycles : List (Option (List ℕ))) (tables : List Rows) (tree : List Tok)
        (asked : ℕ) (l : Lit) (on_yes on_no : Plan W)
        → IsSearching is_own plan root budget places (None ∷ cycles) (reverse tables) tree asked
        → first_plan plan places ≡ Ask l on_yes on_no → asked ≡ budget → AgreesWithLists root budget Spent
    spent_at_first [] cycles tables tree asked l on_yes on_no s asks spent = absurd (cc)
    spent_at_first (p ∷ places) cycles tables tree asked l on_yes on_no s asks spent =
        spent_here is_own plan root budget p places cycles tables tree asked s l on_yes on_no asks spent

    pub failing_at_first :
        (places : List (OpenPlace N)) (cycles : List (Option (List ℕ))) (tables : List Rows) (tree : List Tok)
        (asked : ℕ) (why : W) (q : Questions W)
        → IsSearching is_own plan root budget places (None ∷ cycles) (reverse tables) tree asked
        → first_plan plan places ≡ Fails why → QuestionList root [] q
        → (length q.asked ≤ budget) × (q.failing ≡ Some (record { answers = first_answers places; why = why }))
    failing_at_first [] cycles tables tree asked why q s fails list = absurd (cc)
    failing_at_first (p ∷ places) cycles tables tree asked why q s fails list =
        failing_here is_own plan root budget p places cycles tables tree asked s why q fails list

    -- ---- what a step needs to know of the first place
    pub first_is_reached :
        (places : List (OpenPlace N)) (cycles : List (Option (List ℕ))) (tables : List Rows)
        (tree : List Tok) (asked : ℕ)
        → 0 < length places → IsSearching is_own plan root budget places cycles tables tree asked
        → LeadsTo root (first_answers places) (first_plan plan places)
    first_is_reached [] cycles tables tree asked some s = absurd (omega arith)
    first_is_reached (p ∷ places) cycles tables tree asked some s = s.reached.0

    pub first_is_short :
        (places : List (OpenPlace N)) (cycles : List (Option (List ℕ))) (tables : List Rows)
        (tree : List Tok) (asked : ℕ)
        → IsSearching is_own plan root budget places cycles tables tree asked
        → length (first_answers places) ≤ MAX_QUESTIONS
    first_is_short [] cycles tables tree asked s = omega arith
    first_is_short (p ∷ places) cycles tables tree asked s = omega (arith, s.short.0)

    pub first_has_table :
        (places : List (OpenPlace N)) (cycles : List (Option (List ℕ))) (tables : List Rows)
        (tree : List Tok) (asked : ℕ)
        → 0 < length places → IsSearching is_own plan root budget places (None ∷ cycles) (reverse tables) tree asked
        → (0 < length tables) × StandsForSome MAX_NAMES (get_or tables (length tables - 1) [])
    first_has_table [] cycles tables tree asked some s = absurd (omega arith)
    first_has_table (p ∷ places) cycles tables tree asked some s =
        let found = table_at_last p.answers (answers_at places) cycles tables s.judged in
        (found.0, (numbered_from 0 p.answers, found.1))

    -- it is the one that is read at the last place
    pub first_table_is_read :
        (places : List (OpenPlace N)) (cycles : List (Option (List ℕ))) (tables : List Rows) (tree : List Tok)
        (asked : ℕ) (rows : Rows) (len place : ℕ) → 0 < length places
        → IsSearching is_own plan root budget places (None ∷ cycles) (reverse tables) tree asked
        → len ≡ length tables → place ≡ len → rows ≡ get_or tables (place - 1) rows
        → (last_rows tables ≡ rows) × StandsForSome MAX_NAMES rows
    first_table_is_read places cycles tables tree asked rows len place some s known is read =
        let table = first_has_table places cycles tables tree asked some s in
        let at : place - 1 ≡ length tables - 1 = omega arith in
        let same : last_rows tables ≡ rows = last_at tables rows (place - 1) table.0 at (sym read) in
        (same, subst (λ (x : Rows). StandsForSome MAX_NAMES x) same table.1)

    pub IsSearching-cycle :
        (places : List (OpenPlace N)) (picks : List ℕ) (cycles : List (Option (List ℕ))) (tables : List Rows)
        (tree : List Tok) (asked : ℕ) → 0 < length places → AreNeverMet
        → IsSearching is_own plan root budget places (Some picks ∷ cycles) tables tree asked
        → IsSearching is_own plan root budget (drop 1 places) cycles tables (tree ++ token.Cycle picks ∷ []) asked
    IsSearching-cycle [] picks cycles tables tree asked some never s = absurd (omega arith)
    IsSearching-cycle (p ∷ places) picks cycles tables tree asked some never s =
        cycle_here is_own plan root budget p places picks cycles tables tree asked never s

    pub first_is_judged :
        (places : List (OpenPlace N)) (cycles : List (Option (List ℕ))) (tables : List Rows)
        (tree : List Tok) (asked : ℕ)
        → 0 < length places → IsSearching is_own plan root budget places cycles tables tree asked → 0 < length cycles
    first_is_judged [] cycles tables tree asked some s = absurd (omega arith)
    first_is_judged (p ∷ places) [] tables tree asked some s = absurd s.judged
    first_is_judged (p ∷ places) (x ∷ cycles) tables tree asked some s = omega arith

  -- ---- a question, whose side for yes is perhaps closed at once
  module _ (is_own : N → Type 0) (plan : N → Plan W) (root : Plan W) (budget : ℕ) where
    -- the search goes on by the room of the two sides, and where only no has room, a cycle closes the side for yes
    pub IsSearching-on :
        (room : Room) (numbers : List ℕ) (places new_places : List (OpenPlace N)) (cycles new_cycles : List
        (Option (List ℕ))) (tables : List Rows) (tree new_tree : Written) (asked : ℕ) → 0 < length places → AreNeverMet
        → GoesOnAfterQuestion room numbers places cycles tree new_places new_cycles new_tree
        → IsSearching is_own plan root budget places (cycles_of room numbers cycles) tables tree.tokens asked
        → IsSearching is_own plan root budget new_places (None ∷ new_cycles) tables new_tree.tokens asked
    IsSearching-on Both numbers places new_places cycles new_cycles tables tree new_tree asked some never on s =
        rw (on.0, on.1, on.2) s
    IsSearching-on OnlyYes numbers places new_places cycles new_cycles tables tree new_tree asked some never on s =
        rw (on.0, on.1, on.2) s
    IsSearching-on OnlyNo numbers places new_places cycles new_cycles tables tree new_tree asked some never on s =
        rw (on.0, on.1, on.2)
        (IsSearching-cycle is_own plan root budget places numbers (None ∷ cycles) tables tree.tokens asked some never s)

    -- a question, and then the sides that have room
    pub IsSearching-asked :
        (places new_places : List (OpenPlace N)) (cycles new_cycles : List (Option (List ℕ))) (tables new_tables : List
        Rows) (tree new_tree : Written) (asked : ℕ) (l : Lit) (on_yes on_no : N) (room : Room) (numbers : List ℕ)
        → 0 < length places → AreNeverMet
        → IsSearching is_own plan root budget places (None ∷ cycles) (reverse tables) tree.tokens asked
        → is_own on_yes × is_own on_no × (first_plan plan places ≡ Ask l (plan on_yes) (plan on_no)) → asked ≢ budget
        → JudgesSides l (length (first_answers places)) cycles (reverse tables)
        (cycles_of room numbers cycles) new_tables
        → GoesOnAfterQuestion room numbers (after_question l on_yes on_no places) cycles (with_token tree token.Ask)
        new_places new_cycles new_tree
        → IsSearching is_own plan root budget new_places (None ∷ new_cycles) new_tables new_tree.tokens (asked + 1)
    IsSearching-asked places new_places cycles new_cycles tables new_tables tree new_tree asked l on_yes on_no room
        numbers some never s begins fits judges on =
        IsSearching-on room numbers (after_question l on_yes on_no places) new_places cycles new_cycles new_tables
        (with_token tree token.Ask) new_tree (asked + 1) (after_question-some places l on_yes on_no some) never on
        (IsSearching-question is_own plan root budget places cycles tables tree.tokens asked l on_yes on_no
        (cycles_of room numbers cycles) new_tables s begins fits judges)

    -- a question at hand whose side for yes has no room in the last table, and is closed with the cycle along it
    pub IsSearching-passed :
        (places new_places : List (OpenPlace N)) (cycles : List (Option (List ℕ))) (tables : List Rows) (rows : Rows)
        (tree new_tree : Written) (asked : ℕ) (l : Lit) (on_no : N) → 0 < length places → AreNeverMet
        → last_rows tables ≡ rows
        → IsSearching is_own plan root budget places (None ∷ cycles) (reverse tables) tree.tokens asked
        → AsksFirst is_own plan l on_no (first_plan plan places) → asked ≢ budget
        → HasRoomForSides rows (length (first_answers places)) l OnlyNo
        → ((on_yes : N) → new_places ≡ drop 1 (after_question l on_yes on_no places))
        → new_tree ≡ with_token (with_token tree token.Ask)
        (token.Cycle (cycle_along rows (length (first_answers places)) l))
        → IsSearching is_own plan root budget new_places (None ∷ cycles) (reverse tables) new_tree.tokens (asked + 1)
    IsSearching-passed places new_places cycles tables rows tree new_tree asked l on_no some never read s
        asks fits room on written =
        let number = length (first_answers places) in
        let numbers = cycle_along rows number l in
        let table = first_has_table is_own plan root budget places cycles tables tree.tokens asked some s in
        let here = subst (λ (x : Rows). AddsAnswer number l false x x
        × ClosesCycle (kept_of x) number l numbers) (sym read) room in
        IsSearching-asked places new_places cycles cycles tables (reverse tables) tree new_tree asked l
        asks.0 on_no OnlyNo numbers some never s asks.1 fits
        (JudgesSides-only_no l number numbers tables table.0 cycles here.0 here.1) (on asks.0, refl, written)

  -- ---- weights
  module _ (plan : N → Plan W) where
    pub weight_of-question :
        (places : List (OpenPlace N)) (l : Lit) (on_yes on_no : N)
        → first_plan plan places ≡ Ask l (plan on_yes) (plan on_no)
        → weight_of (branches_at plan (after_question l on_yes on_no places)) < weight_of (branches_at plan places)
    weight_of-question [] l on_yes on_no asks = absurd (cc)
    weight_of-question (p ∷ places) l on_yes on_no asks =
        let here : plan_weight (plan p.node) ≡ 1 + (plan_weight (plan on_yes) + plan_weight (plan on_no)) =
        ap plan_weight asks in
        omega (arith, here)

    pub weight_of-close :
        (places : List (OpenPlace N)) → 0 < length places
        → weight_of (branches_at plan (drop 1 places)) < weight_of (branches_at plan places)
    weight_of-close [] some = absurd (omega arith)
    weight_of-close (p ∷ places) some = omega (arith, plan_weight-some (plan p.node))

    weight_of-on :
        (room : Room) (numbers : List ℕ) (places new_places : List (OpenPlace N))
        (cycles new_cycles : List (Option (List ℕ)))
        (tree new_tree : Written) → 0 < length places
        → GoesOnAfterQuestion room numbers places cycles tree new_places new_cycles new_tree
        → weight_of (branches_at plan new_places) ≤ weight_of (branches_at plan places)
    weight_of-on Both numbers places new_places cycles new_cycles tree new_tree some on = rw on.0 (omega arith)
    weight_of-on OnlyYes numbers places new_places cycles new_cycles tree new_tree some on = rw on.0 (omega arith)
    weight_of-on OnlyNo numbers places new_places cycles new_cycles tree new_tree some on =
        let less = weight_of-close places some in rw on.0 (omega (arith, less))

    -- a question, and then the sides that have room, leave plans that weigh less
    pub weight_of-asked :
        (room : Room) (numbers : List ℕ) (places new_places : List (OpenPlace N)) (cycles new_cycles : List
        (Option (List ℕ))) (tree new_tree : Written) (l : Lit) (on_yes on_no : N) → 0 < length places
        → first_plan plan places ≡ Ask l (plan on_yes) (plan on_no)
        → GoesOnAfterQuestion room numbers (after_question l on_yes on_no places) cycles tree
        new_places new_cycles new_tree
        → weight_of (branches_at plan new_places) < weight_of (branches_at plan places)
    weight_of-asked room numbers places new_places cycles new_cycles tree new_tree l on_yes on_no some asks on =
        let less = weight_of-question places l on_yes on_no asks in
        let more =
        weight_of-on room numbers (after_question l on_yes on_no places) new_places cycles new_cycles tree new_tree
        (after_question-some places l on_yes on_no some) on in
        omega (arith, less, more)

    -- so does a question whose side for yes is closed at once, and a place is open behind it
    pub weight_of-passed :
        (places new_places : List (OpenPlace N)) (l : Lit) (on_yes on_no : N) → 0 < length places
        → first_plan plan places ≡ Ask l (plan on_yes) (plan on_no)
        → new_places ≡ drop 1 (after_question l on_yes on_no places)
        → (0 < length new_places) × (weight_of (branches_at plan new_places) < weight_of (branches_at plan places))
    weight_of-passed [] new_places l on_yes on_no some asks on = absurd (omega arith)
    weight_of-passed (p ∷ places) new_places l on_yes on_no some asks on =
        let less = weight_of-question (p ∷ places) l on_yes on_no asks in
        let more = weight_of-close (after_question l on_yes on_no (p ∷ places))
        (after_question-some (p ∷ places) l on_yes on_no some) in
        rw on (omega arith, omega (arith, less, more))

  -- ---- the end of a search
  module _ (is_own : N → Type 0) (plan : N → Plan W) (root : Plan W) (budget : ℕ) where
    pub AgreesWithLists-done :
        (places : List (OpenPlace N)) (cycles : List (Option (List ℕ))) (tables : List Rows) (tree : Written)
        (asked : ℕ) (is_open : Bool) → is_open ≡ false → (IsTrue is_open ↔ (0 < length places))
        → IsSearching is_own plan root budget places cycles tables tree.tokens asked
        → AgreesWithLists root budget (Yes tree asked)
    AgreesWithLists-done [] cycles tables tree asked is_open closed opened s =
        AgreesWithLists-yes root tree s.so_far asked budget s.come s.count s.within
    AgreesWithLists-done (p ∷ places) cycles tables tree asked is_open closed opened s =
        let some : 0 < length (p ∷ places) = omega arith in
        let e : is_open ≡ true = opened.1 some in absurd (cc)

    -- a step that does not go on ended the search
    pub HasEnded-stopped :
        (s : PlanSearch N) (ended : Stepped W) → ended ≢ step.GoesOn → IsUnderWayOr is_own plan root budget s ended
        → HasEnded root budget s ended
    HasEnded-stopped s step.GoesOn stopped under_way = absurd (stopped refl)
    HasEnded-stopped s step.Spent stopped under_way = under_way
    HasEnded-stopped s (step.Fails why) stopped under_way = under_way

module _ {W : Type 0} where
  -- an outcome that agrees with every list is that of the one there is
  pub IsDecided-by_list :
      (root : Plan W) (budget : ℕ) (o : Outcome W)
      → ((p : Plan W) (w : List Lit) (q : Questions W) → QuestionList p w q → AreAllPossible q)
      → (q : Questions W) × QuestionList root [] q → AgreesWithLists root budget o → IsDecided root budget o
  IsDecided-by_list root budget o possible (q, list) agrees =
      record { questions = q; listed = list; possible = possible root [] q list; decided = agrees q list }
