-- What is known of the open places after a question.
use Rattle.std.proofs.Common.{◌≡◌, ℕ, ◌-◌, ◌<◌, true, false, List, [], ◌∷◌, ◌++◌, length, set, get_or, reverse, Option}
use Rattle.std.proofs.Common.{Some, None, arith, refl, sym, ap, ◌∙◌, subst}
use Rattle.std.proofs.lemmas.List.{reverse-append, get_or_push, get_or_default, length-append}
use Rattle.diff_graph.specs.declared.lit.Lit.{Lit}
use Rattle.diff_graph.specs.Literals.{answered_of}
use Rattle.ask_core.specs.Trees.{with_answer}
use Rattle.diff_tables.specs.Tables.{kept_of}
use Rattle.diff_bounds.specs.Kept.{Rows}
use Rattle.search_places.specs.Sides.{IsTableOf, AreJudged, JudgesSides, AddsAnswer, ClosesCycle, last_rows}
use Rattle.search_places.proofs.Possible.{IsCycleAmong-closed}

-- a last element is the first from behind
pub reverse-push : {X : Type 0} (xs : List X) (x : X) → reverse (xs ++ x ∷ []) ≡ x ∷ reverse xs
reverse-push xs x = reverse-append xs (x ∷ [])

-- a list with elements has a last one
pub last_of : {X : Type 0} (xs : List X) → 0 < length xs → (front : List X) × ((x : X) × (xs ≡ front ++ x ∷ []))
last_of [] some = absurd (omega arith)
last_of (x ∷ []) some = ([], (x, refl))
last_of (x ∷ y ∷ xs) some =
    let more : 0 < length (y ∷ xs) = omega arith in
    let found = last_of (y ∷ xs) more in
    (x ∷ found.0, (found.1.0, ap (λ rest. x ∷ rest) found.1.1))

set-last : {X : Type 0} (front : List X) (x y : X) → set (front ++ x ∷ []) (length front) y ≡ front ++ y ∷ []
set-last [] x y = refl
set-last (z ∷ front) x y = ap (λ rest. z ∷ rest) (set-last front x y)

-- the element that is read at the last place
pub last_at :
    (tables : List Rows) (rows : Rows) (place : ℕ) → 0 < length tables → place ≡ length tables - 1
    → get_or tables place rows ≡ rows
    → get_or tables (length tables - 1) [] ≡ rows
last_at tables rows place some is read =
    let inside : length tables - 1 < length tables = omega arith in
    let same : get_or tables (length tables - 1) [] ≡ get_or tables (length tables - 1) rows =
    get_or_default tables (length tables - 1) [] rows inside in
    same ∙ ap (λ (i : ℕ). get_or tables i rows) (sym is) ∙ read

module _ (l : Lit) (number : ℕ) (numbers : List ℕ) (tables : List Rows) (some : 0 < length tables) where
  -- the tables are some and then the last one
  abbrev front : List Rows
  front = (last_of tables some).0

  whole : tables ≡ front ++ last_rows tables ∷ []
  whole =
      let found = last_of tables some in
      let last : Rows = found.1.0 in
      let is : tables ≡ found.0 ++ last ∷ [] = found.1.1 in
      let count : length tables - 1 ≡ length found.0 = omega (arith, ap length is, length-append found.0 (last ∷ [])) in
      let at_last : last_rows tables ≡ last =
      ap (λ (xs : List Rows). get_or xs (length tables - 1) []) is
      ∙ get_or_push found.0 last [] (length tables - 1) (sym count) in
      is ∙ ap (λ (rows : Rows). found.0 ++ rows ∷ []) (sym at_last)

  -- written to, they are the same and then the new one
  written : (rows : Rows) → set tables (length tables - 1) rows ≡ front ++ rows ∷ []
  written rows =
      let last : Rows = last_rows tables in
      let count : length tables - 1 ≡ length front = omega (arith, ap length whole, length-append front (last ∷ [])) in
      ap (λ (xs : List Rows). set xs (length tables - 1) rows) whole
      ∙ ap (λ (i : ℕ). set (front ++ last ∷ []) i rows) count ∙ set-last front last rows

  -- what is known of the first place and of the others
  known_at :
      (w : List Lit) (ws : List (List Lit)) (cycles : List (Option (List ℕ)))
      → AreJudged (w ∷ ws) (None ∷ cycles) (reverse tables)
      → IsTableOf w (last_rows tables) × AreJudged ws cycles (reverse front)
  known_at w ws cycles judged =
      subst (λ (xs : List Rows). AreJudged (w ∷ ws) (None ∷ cycles) xs)
      (ap reverse whole ∙ reverse-push front (last_rows tables)) judged

  -- both parts of a question stay open, each with its own table
  pub JudgesSides-both :
      (of_yes of_no : Rows) (new_tables : List Rows) (cycles : List (Option (List ℕ)))
      → AddsAnswer number l true (last_rows tables) of_yes → AddsAnswer number l false (last_rows tables) of_no
      → new_tables ≡ set tables (length tables - 1) of_no ++ of_yes ∷ []
      → JudgesSides l number cycles (reverse tables) (None ∷ None ∷ cycles) (reverse new_tables)
  JudgesSides-both of_yes of_no new_tables cycles adds_yes adds_no are w ws long judged =
      let known = known_at w ws cycles judged in
      let shown : reverse new_tables ≡ of_yes ∷ of_no ∷ reverse front =
      ap reverse (are ∙ ap (λ (xs : List Rows). xs ++ of_yes ∷ []) (written of_no))
      ∙ reverse-push (front ++ of_no ∷ []) of_yes ∙ ap (λ (xs : List Rows). of_yes ∷ xs) (reverse-push front of_no) in
      rw shown (adds_yes w long known.0, (adds_no w long known.0, known.1))

  -- one side alone, for which the table stands already, and a cycle of the other one
  shown_same : reverse tables ≡ last_rows tables ∷ reverse front
  shown_same = ap reverse whole ∙ reverse-push front (last_rows tables)

  pub JudgesSides-only_yes :
      (cycles : List (Option (List ℕ))) → AddsAnswer number l true (last_rows tables) (last_rows tables)
      → ClosesCycle (kept_of (last_rows tables)) number (answered_of l false) numbers
      → JudgesSides l number cycles (reverse tables) (None ∷ Some numbers ∷ cycles) (reverse tables)
  JudgesSides-only_yes cycles adds closes w ws long judged =
      let known = known_at w ws cycles judged in
      subst (λ (xs : List Rows).
      AreJudged (with_answer w l true ∷ with_answer w l false ∷ ws) (None ∷ Some numbers ∷ cycles) xs)
      (sym shown_same) (
        adds w long known.0,
        (IsCycleAmong-closed w l false number (last_rows tables) numbers long closes known.0, known.1),
      )

  pub JudgesSides-only_no :
      (cycles : List (Option (List ℕ))) → AddsAnswer number l false (last_rows tables) (last_rows tables)
      → ClosesCycle (kept_of (last_rows tables)) number (answered_of l true) numbers
      → JudgesSides l number cycles (reverse tables) (Some numbers ∷ None ∷ cycles) (reverse tables)
  JudgesSides-only_no cycles adds closes w ws long judged =
      let known = known_at w ws cycles judged in
      subst (λ (xs : List Rows).
      AreJudged (with_answer w l true ∷ with_answer w l false ∷ ws) (Some numbers ∷ None ∷ cycles) xs)
      (sym shown_same) (
        IsCycleAmong-closed w l true number (last_rows tables) numbers long closes known.0,
        (adds w long known.0, known.1),
      )
